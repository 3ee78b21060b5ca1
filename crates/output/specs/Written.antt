-- What the writers of trace and snapshot write.
use Rattle.std.specs.Prelude.{ℕ, ◌<◌, List, ◌++◌}
use Rattle.model.specs.State.{State, position_at}
use Rattle.model.specs.Turn.{Entry, entry}
use Rattle.model.specs.Output.{nodes_bytes, variables_bytes}
use Rattle.output.specs.declared.numbers.Kind.{Kind}
use Rattle.output.specs.declared.numbers.Kind.TheVariants as k
use Rattle.output.specs.declared.numbers.Numbers.{Numbers}

-- 01's number of each kind of entry
abbrev pub kind_number : Kind → ℕ
kind_number k.Other = 0
kind_number k.Begin = 1
kind_number k.Finish = 2
kind_number k.Read = 3
kind_number k.Write = 4
kind_number k.Call = 5
kind_number k.Send = 6

-- the entry with these numbers
abbrev pub entry_with : Numbers → Entry
entry_with x = entry x.node x.kind x.number x.value

-- node, kind and number of an entry are bytes
abbrev pub Narrow : Entry → Type 0
Narrow e = (e.node < 256) × (e.kind < 256) × (e.number < 256)

-- positions are bytes
abbrev pub NarrowPositions : State → Type 0
NarrowPositions s = (n : ℕ) → position_at s n < 256

-- the first nodes of a state, then the first variables
abbrev pub shown_bytes : State → ℕ → ℕ → List ℕ
shown_bytes s nodes variables = nodes_bytes s nodes ++ variables_bytes s variables

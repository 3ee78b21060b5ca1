-- A snapshot ("end picture") read part by part (S-3), and a trace entry by entry.
use Rattle.std.specs.Prelude.{ℕ, zero, suc, ◌+◌, ◌*◌, ◌≤◌, ◌≡◌, List, ◌++◌}
use Rattle.model.specs.Program.{Program}
use Rattle.model.specs.State.{State}
use Rattle.model.specs.Turn.{Entry, entry}
use Rattle.model.specs.Command.{number_at}
use Rattle.model.specs.Output.{part_start, snapshot_bytes}

-- entry k of a trace, 7 bytes an entry: node, kind, number, value
abbrev pub entry_from : List ℕ → ℕ → Entry
entry_from trace k =
    entry (number_at trace (7 * k) 1) (number_at trace (7 * k + 1) 1) (number_at trace (7 * k + 2) 1) (number_at trace (7 * k + 3) 4)

-- how many messages wait at the node whose part begins at a place of the snapshot
abbrev pub waiting_in : List ℕ → ℕ → ℕ
waiting_in snapshot place = number_at snapshot (place + 9) 1

-- where the part behind that one begins
abbrev pub next_part : List ℕ → ℕ → ℕ
next_part snapshot place = place + 10 + 5 * waiting_in snapshot place

-- where a reader finds the part of node n, by the bytes before it: the first at 0, each next one behind the one before
unfoldable pub part_at : List ℕ → ℕ → ℕ
part_at snapshot zero = 0
part_at snapshot (suc n) = next_part snapshot (part_at snapshot n)

-- in the snapshot of a state, whatever bytes follow it, that is the length of all parts before it; for n the number of nodes, it is where
-- the variables begin
abbrev pub PartsFound : Type 0
PartsFound = (P : Program) (s : State) (rest : List ℕ) (n : ℕ) → n ≤ P.nodes → part_at (snapshot_bytes P s ++ rest) n ≡ part_start s n

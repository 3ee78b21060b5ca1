-- Request S-9: "no handler command and no offset of one outside that buffer", of the tables.
use Rattle.std.specs.Prelude.{ℕ, ◌≡◌, cond, List, map}
use Rattle.model.specs.Command.{Command, ternary}
use Rattle.model.specs.Declared.{is_handler}
use Rattle.tables.specs.Writes.{tables_of}
use Rattle.tables.specs.Stands.{Stands}

-- a command without its place, and without its operand if it is a handler command
abbrev pub stripped : Command → Command
stripped c = record { place = 0; byte = c.byte; operands = cond (is_handler c) (ternary 0 0 0) c.operands }

-- the claim: tables that stand for commands are those of the stripped commands
abbrev pub HandlersForgotten : Type 0
HandlersForgotten = (t : List ℕ) (past : List Command) → Stands t past → t ≡ tables_of (map stripped past)

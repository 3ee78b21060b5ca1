-- What noting a command does to the tables.
use Rattle.std.specs.Prelude.{ℕ, ◌<◌, ◌≡◌, List, ◌∷◌, length}
use Rattle.model.specs.Table.{group_of}
use Rattle.model.specs.Command.{Command as Past}
use Rattle.model.specs.Valid.{Valid}
use Rattle.command.specs.declared.read.Command.{Command}
use Rattle.command.specs.Reading.{command_of}
use Rattle.tables.specs.Stands.{Stands}

-- tables that stood for fewer than 65,536 commands stand for one more, if that one passes the tests after them and has its byte's group
abbrev pub Notes : List ℕ → Command → List ℕ → Type 0
Notes before c after = (past : List Past) → c.group ≡ group_of c.byte → Stands before past → Valid (command_of c ∷ past)
    → length past < 65536 → Stands after (command_of c ∷ past)

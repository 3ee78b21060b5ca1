-- What the code reads at a place of a job, in the model's words.
use Rattle.std.specs.Prelude.{ℕ, ◌+◌, ◌≤◌, ◌≡◌, List, ◌⊎◌, length, get_or, Option, None, Some, Result, Ok, Err}
use Rattle.model.specs.Table.{operands_of, list_of, group_of}
use Rattle.model.specs.Command.{Command as Past, Parsed as ParsedAs, whole, unknown, cut_short, quaternary, number_at, end_at, read_command}
use Rattle.model.specs.Refusal.{Refusal as RefusedFor, refuse}
use Rattle.command.specs.declared.read.Command.{Command}
use Rattle.command.specs.declared.refusal.Refusal.{Refusal}
use Rattle.command.specs.declared.read.Parsed.{Parsed}
use Rattle.command.specs.declared.read.Extent.{Extent}
use Rattle.command.specs.declared.table.Row.{Row as Shape}
use Rattle.command.specs.declared.read.Others.{Others}
use Rattle.command.specs.declared.read.Head.{Head}
use Rattle.command.specs.Refusals.{refusal_of}
use Rattle.command.specs.Rows.{unpacked, Says}

-- the model's command that a command of the code stands for
abbrev pub command_of : Command → Past
command_of c = record { place = c.place; byte = c.byte; operands = quaternary c.first c.second c.third c.fourth }

-- the refusal that what is read at a place leads to: 2 or 3
abbrev pub refusal_at : ℕ → ParsedAs → Option RefusedFor
refusal_at place unknown = Some (refuse 2 place)
refusal_at place cut_short = Some (refuse 3 place)
refusal_at place (whole c next) = None

-- what the row and the group of a command of the code say is what the model says of its byte
pub record Known (c : Command) : Type 0 where
  pub row : Says c.byte (unpacked c.row)
  pub group : c.group ≡ group_of c.byte

-- what the code answers is what the model reads: a whole command, with its row and group, or a refusal
abbrev pub ParsesAs : List ℕ → ℕ → Result Parsed Refusal → Type 0
ParsesAs job place (Ok x) = (read_command job place ≡ whole (command_of x.command) x.next) × Known x.command
ParsesAs job place (Err r) = refusal_at place (read_command job place) ≡ Some (refusal_of r)

-- a command that is whole: its row, and the place after it
pub record Reaches (job : List ℕ) (place row next : ℕ) : Type 0 where
  pub says : Says (get_or job place 0) (unpacked row)
  pub ends : next ≡ end_at place (list_of (operands_of (get_or job place 0)))
  pub inside : next ≤ length job

-- the operands after the first, by the widths of a row
abbrev pub others_at : List ℕ → ℕ → Shape → Others
others_at job place s =
    record {
      second = number_at job (place + 1 + s.first_width) s.second_width;
      third = number_at job (place + 1 + s.first_width + s.second_width) s.third_width;
      fourth = number_at job (place + 1 + s.first_width + s.second_width + s.third_width) s.fourth_width;
    }

-- what is known before the operands are read: that the command is whole, or a refusal
abbrev pub Extends : List ℕ → ℕ → Result Extent Refusal → Type 0
Extends job place (Ok x) = Reaches job place x.row x.next
Extends job place (Err r) = refusal_at place (read_command job place) ≡ Some (refusal_of r)

-- the head of what the model reads; none if it is no whole command
abbrev pub head_in : ParsedAs → Option Head
head_in (whole c next) = Some (record { byte = c.byte; group = group_of c.byte; first = c.operands.first; next = next })
head_in unknown = None
head_in cut_short = None

-- the widths of operands
abbrev pub IsWidth : ℕ → Type 0
IsWidth w = (w ≡ 4) ⊎ ((w ≡ 1) ⊎ (w ≡ 0))

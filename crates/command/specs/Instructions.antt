-- Handler commands of the code, in the model's words.
use Rattle.std.specs.Prelude.{ℕ, cond, ◌&&◌, List, leb, ltb, eqb, length, get_or, Option, None, Some}
use Rattle.model.specs.Table.{SET, TAKE, GET, PUT, ADD, PLUS, JUMPZ, JUMP, SEND, CALL, SKIP}
use Rattle.model.specs.Command.{Parsed, whole, unknown, cut_short, read_command}
use Rattle.model.specs.Declared.{Instruction as Meant, instruction}
use Rattle.command.specs.declared.instruction.Instruction.{Instruction}
use Rattle.command.specs.declared.instruction.Instruction.TheVariants as i

-- the model's handler command that a handler command of the code stands for
abbrev pub instruction_of : Instruction → Meant
instruction_of (i.Set v) = instruction SET v
instruction_of i.Take = instruction TAKE 0
instruction_of (i.Get x) = instruction GET x.0
instruction_of (i.Put x) = instruction PUT x.0
instruction_of (i.Add v) = instruction ADD v
instruction_of (i.Plus x) = instruction PLUS x.0
instruction_of (i.JumpZero target) = instruction JUMPZ target
instruction_of (i.Jump target) = instruction JUMP target
instruction_of (i.Send port) = instruction SEND port
instruction_of (i.Call f) = instruction CALL f.0
instruction_of i.Skip = instruction SKIP 0

-- the handler command of a byte and an operand: TAKE and SKIP have none, and a byte that is no handler command is taken for SKIP
abbrev pub recognised : ℕ → ℕ → Meant
recognised b x = cond (eqb b TAKE) (instruction TAKE 0) (cond (leb SET b && leb b CALL) (instruction b x) (instruction SKIP 0))

-- the handler command in what is read; SKIP if that is none
abbrev pub instruction_in : Parsed → Meant
instruction_in (whole c next) = recognised c.byte c.operands.first
instruction_in unknown = instruction SKIP 0
instruction_in cut_short = instruction SKIP 0

-- the handler command at a place of a job; SKIP if there is none
abbrev pub instruction_from : List ℕ → ℕ → Meant
instruction_from job place = instruction_in (read_command job place)

-- the command of a handler at a position, if there is one
abbrev pub command_in : List Meant → ℕ → Option Meant
command_in handler position = cond (ltb position (length handler)) (Some (get_or handler position (instruction 0 0))) None

-- what is fetched stands for: a command, or none
abbrev pub fetched_of : Option Instruction → Option Meant
fetched_of (Some i) = Some (instruction_of i)
fetched_of None = None

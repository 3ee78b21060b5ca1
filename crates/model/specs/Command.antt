-- One command, and how it is read from the bytes of a job ("The job").
use Rattle.std.specs.Prelude.{ℕ, zero, suc, ◌+◌, ◌*◌, Bool, cond, ◌&&◌, List, leb, eqb, length, get_or, Option, None, Some}
use Rattle.model.specs.Table.{OperandKind, width, operands_of, operand_at}

-- the operands of a command, 0 where it has none
pub record Operands : Type 0 where
  pub first : ℕ
  pub second : ℕ
  pub third : ℕ
  pub fourth : ℕ

-- four operands, three, and two
abbrev pub quaternary : ℕ → ℕ → ℕ → ℕ → Operands
quaternary x y z w = record { first = x; second = y; third = z; fourth = w }

abbrev pub ternary : ℕ → ℕ → ℕ → Operands
ternary x y z = quaternary x y z 0

abbrev pub binary : ℕ → ℕ → Operands
binary x y = ternary x y 0

-- the operands are the same
abbrev pub same_operands : Operands → Operands → Bool
same_operands x y =
    eqb x.first y.first
    && (eqb x.second y.second
    && (eqb x.third y.third
    && eqb x.fourth y.fourth))

-- a command: the offset of its byte in the job, its byte, and its operands
pub record Command : Type 0 where
  pub place : ℕ
  pub byte : ℕ
  pub operands : Operands

-- the command has this byte
abbrev pub is : ℕ → Command → Bool
is b c = eqb c.byte b

-- the number that `w` bytes of a job spell from a place on, lowest byte first
unfoldable pub number_at : List ℕ → ℕ → ℕ → ℕ
number_at job place zero = 0
number_at job place (suc w) = get_or job place 0 + 256 * number_at job (place + 1) w

-- where each operand of a command begins, and where the next command does
abbrev pub first_at : ℕ → ℕ
first_at place = place + 1

abbrev pub second_at : ℕ → List OperandKind → ℕ
second_at place kinds = first_at place + width (operand_at kinds 0)

abbrev pub third_at : ℕ → List OperandKind → ℕ
third_at place kinds = second_at place kinds + width (operand_at kinds 1)

abbrev pub fourth_at : ℕ → List OperandKind → ℕ
fourth_at place kinds = third_at place kinds + width (operand_at kinds 2)

abbrev pub end_at : ℕ → List OperandKind → ℕ
end_at place kinds = fourth_at place kinds + width (operand_at kinds 3)

-- the operands of these kinds after a command byte
abbrev pub operands_at : List ℕ → ℕ → List OperandKind → Operands
operands_at job place kinds =
    quaternary (number_at job (first_at place) (width (operand_at kinds 0)))
    (number_at job (second_at place kinds) (width (operand_at kinds 1)))
    (number_at job (third_at place kinds) (width (operand_at kinds 2)))
    (number_at job (fourth_at place kinds) (width (operand_at kinds 3)))

-- the command with operands of these kinds at a place of a job
abbrev pub command_at : List ℕ → ℕ → List OperandKind → Command
command_at job place kinds = record { place = place; byte = get_or job place 0; operands = operands_at job place kinds }

-- what is read at a place: a command with the place after it, no command byte, or a command whose operands run past the end
pub data Parsed : Type 0 where
  whole : Command → ℕ → Parsed
  unknown : Parsed
  cut_short : Parsed

-- what is read at a place of a job, by the operands of the byte there
abbrev pub read_as : List ℕ → ℕ → Option (List OperandKind) → Parsed
read_as job place None = unknown
read_as job place (Some kinds) = cond (leb (end_at place kinds) (length job)) (whole (command_at job place kinds) (end_at place kinds)) cut_short

-- what is read at a place of a job
unfoldable pub read_command : List ℕ → ℕ → Parsed
read_command job place = read_as job place (operands_of (get_or job place 0))

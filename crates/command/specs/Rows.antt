-- The rows of the code's table, and what they say in the model's words.
use Rattle.std.specs.Prelude.{ℕ, zero, suc, ◌+◌, ◌/◌, ◌%◌, ◌≡◌, Bool, cond, ◌&&◌, List, [], ◌∷◌, leb, eqb, get_or, Option, None, Some}
use Rattle.model.specs.Table.{ARG, SPAN, SET, SKIP, OperandKind as Meant, scope, owner, start, answer, node, port, target, function, argument, value}
use Rattle.model.specs.Table.{low, high, variable, jump, absent, is_range_byte, width, operands_of, list_of, kind_at, group_of, Limit, limit}
use Rattle.model.specs.Table.{largest_of}
use Rattle.command.specs.declared.table.Row.{Row as Shape}
use Rattle.command.specs.declared.table.OperandKind.{OperandKind}
use Rattle.command.specs.declared.table.OperandKind.TheVariants as k

-- the kind that each digit stands for
abbrev pub kind_of : ℕ → OperandKind
kind_of i =
    get_or
    (k.Absent ∷ k.Scope ∷ k.Owner ∷ k.Node ∷ k.Port ∷ k.Target ∷ k.Function ∷ k.Variable ∷ k.Start ∷ k.Answer ∷ k.Value ∷ k.Jump ∷ k.Low ∷ k.High ∷ k.Argument ∷ [])
    i k.Absent

-- the model's kind that each kind of the code stands for
abbrev pub kind_meant : OperandKind → Meant
kind_meant k.Absent = absent
kind_meant k.Scope = scope
kind_meant k.Owner = owner
kind_meant k.Node = node
kind_meant k.Port = port
kind_meant k.Target = target
kind_meant k.Function = function
kind_meant k.Variable = variable
kind_meant k.Start = start
kind_meant k.Answer = answer
kind_meant k.Value = value
kind_meant k.Jump = jump
kind_meant k.Low = low
kind_meant k.High = high
kind_meant k.Argument = argument

-- the columns of a packed row, in hexadecimal digits: largest count (4), kinds (4), widths (4), length (1), group (1), byte (2)
abbrev pub unpacked : ℕ → Shape
unpacked p =
    record {
      byte = p % 0x100;
      group = p / 0x100 % 0x10;
      length = p / 0x1000 % 0x10;
      first_width = p / 0x1000_0000 % 0x10;
      second_width = p / 0x100_0000 % 0x10;
      third_width = p / 0x10_0000 % 0x10;
      fourth_width = p / 0x1_0000 % 0x10;
      first_kind = p / 0x1000_0000_0000 % 0x10;
      second_kind = p / 0x100_0000_0000 % 0x10;
      third_kind = p / 0x10_0000_0000 % 0x10;
      fourth_kind = p / 0x1_0000_0000 % 0x10;
      most = p / 0x1_0000_0000_0000 % 0x1_0000;
    }

-- the bytes that share a largest count with this one: ARG and SPAN do, every other has its own
abbrev pub sharing : ℕ → List ℕ
sharing b = cond (is_range_byte b) (ARG ∷ SPAN ∷ []) (b ∷ [])

-- the largest count that the code's number stands for, 0 for none
abbrev pub limit_of : ℕ → ℕ → Option Limit
limit_of b zero = None
limit_of b (suc k) = Some (limit (sharing b) (suc k))

-- the byte is a command, and the row says what the model says of it
pub record Says (b : ℕ) (s : Shape) : Type 0 where
  pub known : operands_of b ≡ Some (list_of (operands_of b))
  pub byte : s.byte ≡ b
  pub group : s.group ≡ group_of b
  pub length : s.length ≡ width (kind_at b 0) + width (kind_at b 1) + width (kind_at b 2) + width (kind_at b 3)
  pub width₁ : s.first_width ≡ width (kind_at b 0)
  pub width₂ : s.second_width ≡ width (kind_at b 1)
  pub width₃ : s.third_width ≡ width (kind_at b 2)
  pub width₄ : s.fourth_width ≡ width (kind_at b 3)
  pub kind₁ : kind_meant (kind_of s.first_kind) ≡ kind_at b 0
  pub kind₂ : kind_meant (kind_of s.second_kind) ≡ kind_at b 1
  pub kind₃ : kind_meant (kind_of s.third_kind) ≡ kind_at b 2
  pub kind₄ : kind_meant (kind_of s.fourth_kind) ≡ kind_at b 3
  pub most : limit_of b s.most ≡ largest_of b

-- the first of some packed rows with this byte
unfoldable pub row_in : List ℕ → ℕ → Option ℕ
row_in [] b = None
row_in (p ∷ rows) b = cond (eqb (unpacked p).byte b) (Some p) (row_in rows b)

-- what looking a byte up finds: its packed row, or that the byte is no command
abbrev pub Finds : ℕ → Option ℕ → Type 0
Finds b (Some p) = Says b (unpacked p)
Finds b None = operands_of b ≡ None

-- the byte is that of a handler command: 41 SET to 4B SKIP
abbrev pub is_handler_byte : ℕ → Bool
is_handler_byte b = leb SET b && leb b SKIP

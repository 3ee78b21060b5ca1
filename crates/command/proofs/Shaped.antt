-- Rows that agree with the table of the model say what it says. That those of the code agree is computed where they are searched.
use Prim.Native.Nat.{ℕ, ◌+◌, ◌≤◌, ◌<◌}
use mathlib.Core.Path.{◌≡◌, refl, sym, ap, ◌∙◌}
use mathlib.Core.Bool.{Bool, true, false, cond}
use mathlib.Core.List.{List, [], ◌∷◌, map}
use mathlib.Core.Logic.{inl, inr}
use Rattle.std.proofs.Common.{Option, None, Some}
use native.Mathlib.Omega.{arith}
use native.Mathlib.Numerals.{add-one}
use lib.Dec.{eqb}
use lib.ListN.{length, get_or, drop, drop_of_length-le}
use lib.Seq.{drop-cons}
use borrow.Author.Tests.{eqb-true, eq-eqb, ne_eqb}
use Rattle.model.specs.Table.{OperandKind, scope, owner, start, answer, node, port, target, function, argument, value, low, high, variable}
use Rattle.model.specs.Table.{jump, absent, width, Row, table, operands_in, operands_of, list_of, kind_at, group_of, Limit, largest_of}
use Rattle.model.specs.Command.{number_at}
use Rattle.model.proofs.Reading.{number-none}
use Rattle.command.specs.Rows.{unpacked, kind_of, kind_meant, limit_of, Says, row_in, Finds}
use Rattle.command.specs.Reading.{IsWidth}

-- what a row says, all columns together: byte, group, length and widths; kinds; largest count; that its byte is a command
pub record Said : Type 0 where
  pub numbers : List ℕ
  pub kinds : List OperandKind
  pub most : Option Limit
  pub operands : Option (List OperandKind)

-- a packed row says this
abbrev pub given : ℕ → Said
given p =
    let s = unpacked p in
    record {
      numbers = s.byte ∷ s.group ∷ s.length ∷ s.first_width ∷ s.second_width ∷ s.third_width ∷ s.fourth_width ∷ [];
      kinds = kind_meant (kind_of s.first_kind) ∷ kind_meant (kind_of s.second_kind) ∷ kind_meant (kind_of s.third_kind) ∷ kind_meant (kind_of s.fourth_kind) ∷ [];
      most = limit_of s.byte s.most;
      operands = Some (list_of (operands_of s.byte));
    }

-- the length of a byte's operands
abbrev length_of : ℕ → ℕ
length_of b = width (kind_at b 0) + width (kind_at b 1) + width (kind_at b 2) + width (kind_at b 3)

-- the model says this of a byte
abbrev pub wanted : ℕ → Said
wanted b =
    record {
      numbers = b ∷ group_of b ∷ length_of b ∷ width (kind_at b 0) ∷ width (kind_at b 1) ∷ width (kind_at b 2) ∷ width (kind_at b 3) ∷ [];
      kinds = kind_at b 0 ∷ kind_at b 1 ∷ kind_at b 2 ∷ kind_at b 3 ∷ [];
      most = largest_of b;
      operands = operands_of b;
    }

-- the packed rows say what the model says of the bytes of its rows
pub record Agree (rows : List ℕ) : Type 0 where
  pub same : map given rows ≡ map (λ (r : Row). wanted r.byte) table

says_as : (b p : ℕ) → given p ≡ wanted b → Says b (unpacked p)
says_as b p e =
    let same : (unpacked p).byte ≡ b = ap (λ (x : Said). get_or x.numbers 0 0) e in
    record {
      known = rw same at (sym (ap (λ (x : Said). x.operands) e));
      byte = same;
      group = ap (λ (x : Said). get_or x.numbers 1 0) e;
      length = ap (λ (x : Said). get_or x.numbers 2 0) e;
      width₁ = ap (λ (x : Said). get_or x.numbers 3 0) e;
      width₂ = ap (λ (x : Said). get_or x.numbers 4 0) e;
      width₃ = ap (λ (x : Said). get_or x.numbers 5 0) e;
      width₄ = ap (λ (x : Said). get_or x.numbers 6 0) e;
      kind₁ = ap (λ (x : Said). get_or x.kinds 0 absent) e;
      kind₂ = ap (λ (x : Said). get_or x.kinds 1 absent) e;
      kind₃ = ap (λ (x : Said). get_or x.kinds 2 absent) e;
      kind₄ = ap (λ (x : Said). get_or x.kinds 3 absent) e;
      most = rw same at (ap (λ (x : Said). x.most) e);
    }

-- of rows that agree with those of a table, the first with a byte is the row of that byte; if none has it, the byte is not in the table
Found : ℕ → Option (List OperandKind) → Option ℕ → Type 0
Found b o (Some p) = Says b (unpacked p)
Found b o None = o ≡ None

found_in :
    (b : ℕ) (rows : List ℕ) (of : List Row) → map given rows ≡ map (λ (r : Row). wanted r.byte) of
    → Found b (operands_in of b) (row_in rows b)
unfolding row_in operands_in Found
found_in b [] [] e = refl
found_in b [] (r ∷ of) e = let z = ap length e in absurd (omega arith)
found_in b (p ∷ rows) [] e = let z = ap length e in absurd (omega arith)
found_in b (p ∷ rows) (r ∷ of) e =
    by_byte (eqb (unpacked p).byte b) refl (found_in b rows of (ap (λ (l : List Said). drop 1 l) e))
  where
    said : given p ≡ wanted r.byte
    said = ap (λ (l : List Said). get_or l 0 (given p)) e

    same : (unpacked p).byte ≡ r.byte
    same = ap (λ (x : Said). get_or x.numbers 0 0) said

    by_byte :
        (t : Bool) → eqb (unpacked p).byte b ≡ t → Found b (operands_in of b) (row_in rows b)
        → Found b (cond (eqb r.byte b) (Some r.operands) (operands_in of b)) (cond t (Some p) (row_in rows b))
    by_byte true t ih = says_as b p (rw (sym same ∙ eqb-true (unpacked p).byte b t) at said)
    by_byte false t ih = rw (← same, t) ih

pub row-found : (b : ℕ) (p : Option ℕ) (rows : List ℕ) → p ≡ row_in rows b → Agree rows → Finds b p
unfolding operands_of Found
row-found b p rows e agree = rw e (finds (row_in rows b) (found_in b rows table agree.same))
  where
    finds : (o : Option ℕ) → Found b (operands_in table b) o → Finds b o
    finds (Some p) f = f
    finds None f = f

-- the search for a byte, from row i on: row i has it, or has not; none is left
module _ (rows : List ℕ) (b i : ℕ) where
  pub row_here : i < length rows → (unpacked (get_or rows i 0)).byte ≡ b → row_in (drop i rows) b ≡ Some (get_or rows i 0)
  unfolding row_in
  row_here h e = rw (drop-cons rows i 0 h, eq-eqb (unpacked (get_or rows i 0)).byte b e)

  pub row-passed : i < length rows → ¬ ((unpacked (get_or rows i 0)).byte ≡ b) → row_in (drop i rows) b ≡ row_in (drop (i + 1) rows) b
  unfolding row_in
  row-passed h n = rw (drop-cons rows i 0 h, add-one, ne_eqb (unpacked (get_or rows i 0)).byte b n)

  pub row_missing : length rows ≤ i → row_in (drop i rows) b ≡ None
  unfolding row_in
  row_missing h = ap (λ (l : List ℕ). row_in l b) (drop_of_length-le rows h)

-- the width of each kind
pub width_is : (k : OperandKind) (w : ℕ) → w ≡ width k → IsWidth w
width_is scope w e = inr (inl e)
width_is owner w e = inr (inl e)
width_is start w e = inl e
width_is answer w e = inl e
width_is node w e = inr (inl e)
width_is port w e = inr (inl e)
width_is target w e = inr (inl e)
width_is function w e = inr (inl e)
width_is argument w e = inl e
width_is value w e = inl e
width_is low w e = inl e
width_is high w e = inl e
width_is variable w e = inr (inl e)
width_is jump w e = inr (inl e)
width_is absent w e = inr (inr e)

-- no operand has no width
pub width_zero : (k : OperandKind) → width k ≡ 0 → k ≡ absent
width_zero scope e = absurd (omega arith)
width_zero owner e = absurd (omega arith)
width_zero start e = absurd (omega arith)
width_zero answer e = absurd (omega arith)
width_zero node e = absurd (omega arith)
width_zero port e = absurd (omega arith)
width_zero target e = absurd (omega arith)
width_zero function e = absurd (omega arith)
width_zero argument e = absurd (omega arith)
width_zero value e = absurd (omega arith)
width_zero low e = absurd (omega arith)
width_zero high e = absurd (omega arith)
width_zero variable e = absurd (omega arith)
width_zero jump e = absurd (omega arith)
width_zero absent e = refl

-- an operand of no width
pub width-none : (job : List ℕ) (at w : ℕ) → IsWidth w → ¬ (w ≡ 4) → ¬ (w ≡ 1) → 0 ≡ number_at job at w
width-none job at w (inl e) n m = absurd (n e)
width-none job at w (inr (inl e)) n m = absurd (m e)
width-none job at w (inr (inr e)) n m = rw (e, number-none)

-- What holds of every command byte, by one test of the table's rows.
use Prim.Native.Nat.{ℕ, zero, suc, ◌+◌, ◌/◌, ◌≤◌, ◌<◌}
use mathlib.Core.Path.{◌≡◌, refl, sym, ap, ◌∙◌}
use mathlib.Core.Bool.{Bool, true, false, cond, not, ◌&&◌, ◌||◌}
use mathlib.Core.List.{List, [], ◌∷◌}
use Rattle.std.proofs.Common.{None, Some, is_some}
use native.Mathlib.Omega.{arith}
use lib.Dec.{leb, ltb, eqb}
use borrow.Author.Tests.{ltb-true, leb-true, eqb-true, eqb-false}
use Rattle.model.specs.Table.{SET, SKIP, Row, table, width, kind_at, operands_in, operands_of}
use Rattle.model.proofs.Logic.{true_false, and_left, and_right}
use Rattle.command.specs.Rows.{is_handler_byte}

-- the test passes for the byte of every row
abbrev pub every_row : (ℕ → Bool) → List Row → Bool
every_row test [] = true
every_row test (r ∷ rows) = test r.byte && every_row test rows

found-passes : (test : ℕ → Bool) (rows : List Row) (b : ℕ) → every_row test rows ≡ true → ¬ (operands_in rows b ≡ None) → test b ≡ true
unfolding operands_in
found-passes test [] b l h = absurd (h refl)
found-passes test (r ∷ rows) b l h = by_row (eqb r.byte b) refl h (found-passes test rows b (and_right (test r.byte) _ l))
  where
    by_row : (t : Bool) → eqb r.byte b ≡ t → ¬ (cond t (Some r.operands) (operands_in rows b) ≡ None)
        → (¬ (operands_in rows b ≡ None) → test b ≡ true) → test b ≡ true
    by_row true e n ih = rw (eqb-true r.byte b e) at (and_left (test r.byte) _ l)
    by_row false e n ih = ih n

-- it passes for every command byte
pub known-passes : (test : ℕ → Bool) (b : ℕ) → every_row test table ≡ true → ¬ (operands_of b ≡ None) → test b ≡ true
unfolding operands_of
known-passes test b l h = found-passes test table b l h

-- every command byte is below 128
pub byte_low : (b : ℕ) → ¬ (operands_of b ≡ None) → b < 128
byte_low b h = ltb-true b 128 (known-passes (λ d. ltb d 128) b refl h)

-- the command bytes of group 3
pub permission_byte : (b : ℕ) → ¬ (operands_of b ≡ None) → (not (eqb (b / 16) 3) ||
    (eqb b 0x30 || (eqb b 0x31 || (eqb b 0x32 || (eqb b 0x33 || eqb b 0x34))))) ≡ true
permission_byte b h = known-passes (λ d. not (eqb (d / 16) 3) || (eqb d 0x30 || (eqb d 0x31 || (eqb d 0x32 || (eqb d 0x33 || eqb d 0x34))))) b refl h

-- the test passes for each of n bytes from k on
abbrev every_from : (ℕ → Bool) → ℕ → ℕ → Bool
every_from test k zero = true
every_from test k (suc n) = test k && every_from test (suc k) n

from-passes : (test : ℕ → Bool) (k n b : ℕ) → every_from test k n ≡ true → k ≤ b → b < k + n → test b ≡ true
from-passes test k zero b e l h = absurd (omega arith)
from-passes test k (suc n) b e l h = by_first (eqb b k) refl (from-passes test (suc k) n b (and_right (test k) _ e))
  where
    by_first : (t : Bool) → eqb b k ≡ t → (suc k ≤ b → b < suc k + n → test b ≡ true) → test b ≡ true
    by_first true t ih = rw (eqb-true b k t) (and_left (test k) _ e)
    by_first false t ih = let q = eqb-false b k t in ih (omega arith) (omega arith)

-- a handler command byte is in the table, and has one operand at most
abbrev single : ℕ → Bool
single b = is_some (operands_of b) && eqb (width (kind_at b 1) + width (kind_at b 2) + width (kind_at b 3)) 0

pub record OneOperand (b : ℕ) : Type 0 where
  pub known : ¬ (operands_of b ≡ None)
  pub others : width (kind_at b 1) + width (kind_at b 2) + width (kind_at b 3) ≡ 0

pub handler-single : (b : ℕ) → is_handler_byte b ≡ true → OneOperand b
unfolding operands_of operands_in
handler-single b h =
    let e = from-passes single SET 11 b refl (leb-true SET b (and_left (leb SET b) _ h))
    (omega (arith, leb-true b SKIP (and_right (leb SET b) _ h))) in
    record {
      known = λ n. let q = ap is_some (sym n) ∙ and_left (is_some (operands_of b)) _ e in true_false (sym q);
      others = eqb-true _ 0 (and_right (is_some (operands_of b)) _ e);
    }

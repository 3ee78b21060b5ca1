-- Numbers of 4 bytes, one after the other.
use Prim.Native.Nat.{ℕ, ◌+◌, ◌*◌, ◌≤◌}
use mathlib.Core.Path.{◌≡◌, refl, ap, ◌∙◌}
use mathlib.Core.List.{List, [], ◌∷◌, ◌++◌}
use native.Mathlib.Omega.{arith}
use lib.ListN.{length, get_or}
use Rattle.model.specs.Output.{bytes4}
use Rattle.writing.specs.Writing.{numbers_bytes, joined}
use Rattle.writing.proofs.Putting.{first_shift}

-- numbers one by one
pub numbers-each : (vs : List ℕ) → joined (λ i. bytes4 (get_or vs i 0)) (length vs) ≡ numbers_bytes vs
unfolding joined numbers_bytes
numbers-each [] = refl
numbers-each (v ∷ vs) =
    first_shift (λ i. bytes4 (get_or (v ∷ vs) i 0)) (length vs) ∙ ap (λ (l : List ℕ). bytes4 v ++ l) (numbers-each vs)

-- 4 bytes a number
length-numbers : (vs : List ℕ) → length (numbers_bytes vs) ≡ 4 * length vs
unfolding numbers_bytes
length-numbers [] = refl
length-numbers (v ∷ vs) = omega (arith, length-numbers vs)

-- room for them
pub numbers-room : (vs before : List ℕ) (at : ℕ) → at + 4 * length vs ≤ length before
    → at + length (joined (λ i. bytes4 (get_or vs i 0)) (length vs)) ≤ length before
numbers-room vs before at fits = rw numbers-each (omega (arith, length-numbers vs, fits))

-- one number more at the end
pub numbers_snoc : (vs : List ℕ) (v : ℕ) → numbers_bytes (vs ++ (v ∷ [])) ≡ numbers_bytes vs ++ bytes4 v
unfolding numbers_bytes
numbers_snoc [] v = refl
numbers_snoc (w ∷ vs) v = ap (λ (l : List ℕ). bytes4 w ++ l) (numbers_snoc vs v)

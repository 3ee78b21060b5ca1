-- Four numbers a node, one after the other.
use Prim.Native.Nat.{ℕ, zero, suc, ◌+◌, ◌*◌, ◌<◌}
use mathlib.Core.Path.{◌≡◌, refl, ap, ◌∙◌}
use mathlib.Core.Bool.{Bool, true, false}
use mathlib.Core.List.{List, ◌++◌, append_assoc}
use native.Mathlib.Omega.{arith}
use lib.Dec.{eqb}
use lib.ListN.{length, get_or, length-append, get_or-append}
use lib.Seq.{get_or-append-add}
use borrow.Author.Tests.{eqb-true, eqb-false}
use Rattle.writing.specs.Writing.{joined}

module _ (f : ℕ → List ℕ) (four : (n : ℕ) → length (f n) ≡ 4) where
  pub length_fours : (k : ℕ) → length (joined f k) ≡ 4 * k
  unfolding joined
  length_fours zero = refl
  length_fours (suc k) = omega (arith, length-append (joined f k) (f k), four k, length_fours k)

  -- number i of node n, whatever follows
  pub four-at : (k n i : ℕ) (rest : List ℕ) → n < k → i < 4 → get_or (joined f k ++ rest) (4 * n + i) 0 ≡ get_or (f n) i 0
  unfolding joined
  four-at zero n i rest h l = absurd (omega arith)
  four-at (suc k) n i rest h l =
      ap (λ (xs : List ℕ). get_or xs (4 * n + i) 0) (append_assoc (joined f k) (f k) rest)
      ∙ by_last (eqb n k) refl (λ j. four-at k n i (f k ++ rest) j l)
    where
      by_last : (b : Bool) → eqb n k ≡ b → (n < k → get_or (joined f k ++ (f k ++ rest)) (4 * n + i) 0 ≡ get_or (f n) i 0)
          → get_or (joined f k ++ (f k ++ rest)) (4 * n + i) 0 ≡ get_or (f n) i 0
      by_last true p ih =
          let same : n ≡ k = eqb-true n k p in
          let place : 4 * k + i ≡ length (joined f k) + i = omega (arith, length_fours k) in
          rw (same, place) (get_or-append-add (joined f k) (f k ++ rest) i 0 ∙ get_or-append (f k) rest 0 i (omega (arith, four k)))
      by_last false p ih = ih (omega (arith, eqb-false n k p))

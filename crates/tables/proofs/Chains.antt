-- Chains of items: from one item to the one before it.
use Prim.Native.Nat.{ℕ, zero, suc, ◌-◌, ◌≤◌, ◌<◌}
use mathlib.Core.Path.{◌≡◌, refl}
use mathlib.Core.Bool.{Bool, true, false, cond}
use mathlib.Core.List.{List, [], ◌∷◌}
use native.Mathlib.Omega.{arith}
use lib.Dec.{ltb, eqb}
use borrow.Author.Tests.{ltb-true, ltb-false, eqb-true, eqb-false, eq-eqb, ne_eqb}
use Rattle.tables.specs.Tables.{item_in, before_in, chain_in}

module _ (t : List ℕ) where
  -- the items after the first one of a chain are not sought
  pub chain_below : (k at : ℕ) → at ≤ k → chain_in t k at ≡ chain_in t at at
  unfolding chain_in
  chain_below zero at h = let z : at ≡ 0 = omega arith in rw z
  chain_below (suc k) at h = by_last (eqb at (suc k)) refl (chain_below k at)
    where
      by_last : (b : Bool) → eqb at (suc k) ≡ b → (at ≤ k → chain_in t k at ≡ chain_in t at at)
          → cond b (item_in t k ∷ chain_in t k (before_in t k)) (chain_in t k at) ≡ chain_in t at at
      by_last true e ih = let q : at ≡ suc k = eqb-true at (suc k) e in rw (q, eq-eqb (suc k) (suc k) refl)
      by_last false e ih = let n = eqb-false at (suc k) e in ih (omega arith)

  -- no chain begins past those that are sought
  chain_past : (k at : ℕ) → k < at → chain_in t k at ≡ []
  unfolding chain_in
  chain_past zero at h = refl
  chain_past (suc k) at h = rw (ne_eqb at (suc k) (λ e. omega arith)) (chain_past k at (omega arith))

  -- a chain: its first item, and those before it, as the code goes to the next
  pub chain_first : (at : ℕ) → 0 < at → chain_in t at at ≡ item_in t (at - 1) ∷ chain_in t (at - 1) (before_in t (at - 1))
  unfolding chain_in
  chain_first zero h = absurd (omega arith)
  chain_first (suc i) h = let e : suc i - 1 ≡ i = omega arith in rw (e, eq-eqb (suc i) (suc i) refl)

  pub chain_rest : (at b next : ℕ) → 0 < at → next ≡ cond (ltb b at) b 0 → chain_in t (at - 1) b ≡ chain_in t next next
  unfolding chain_in
  chain_rest at b next h q = rw q (by_test (ltb b at) refl)
    where
      by_test : (d : Bool) → ltb b at ≡ d → chain_in t (at - 1) b ≡ chain_in t (cond d b 0) (cond d b 0)
      by_test true e = let l = ltb-true b at e in chain_below (at - 1) b (omega arith)
      by_test false e = let l = ltb-false b at e in chain_past (at - 1) b (omega arith)

-- cells with the same items have the same chains
pub chain_kept : (t u : List ℕ) (k : ℕ) → ((i : ℕ) → i < k → (item_in u i ≡ item_in t i) × (before_in u i ≡ before_in t i))
    → (at : ℕ) → chain_in u k at ≡ chain_in t k at
unfolding chain_in
chain_kept t u zero h at = refl
chain_kept t u (suc k) h at =
    let e = h k (omega arith) in
    let rest = chain_kept t u k (λ i l. h i (omega arith)) in
    rw (e.0, e.1, rest (before_in t k), rest at)

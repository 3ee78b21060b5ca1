-- What the tests of bytes decide.
use Rattle.std.proofs.Common.{◌≡◌, ℕ, zero, suc, ◌+◌, ◌-◌, ◌<◌, ◌≤◌, Bool, ◌&&◌, nat_eq, List, length, get_or, refl, add-one, below_more, arith}
use Rattle.std.specs.Bool.{Decides}
use Rattle.std.proofs.lemmas.Bool.Decides.{same_from_decides, Decides-and, Decides-like, Decides-eqb}
use Rattle.std.proofs.lemmas.List.{get_or_past}
use Rattle.model.specs.Refusal.{work_size}
use Rattle.conformance.specs.Keeping.{fill_byte, all_below, is_kept, is_cleared}

-- what holds below n, and of n, holds below the next number
one_more : (P : ℕ → Type 0) (n : ℕ) → ((k : ℕ) → k < n → P k) → P n → (k : ℕ) → k < suc n → P k
one_more P n before here = rw add-one at (below_more P n before here)

-- a test of each number below n
below : (test : ℕ → Bool) (P : ℕ → Type 0) → ((k : ℕ) → Decides (test k) (P k)) → (n : ℕ) → Decides (all_below test n) ((k : ℕ) → k < n → P k)
unfolding all_below
below test P each zero = (λ e k h. absurd (omega arith), λ h. refl)
below test P each (suc n) =
    Decides-like (all_below test n && test n)
    (λ h. one_more P n h.0 h.1)
    (λ h. (λ k l. h k (omega arith), h n (omega arith)))
    (Decides-and (all_below test n) (test n) (below test P each n) (each n))

-- whether a buffer is kept, by a test of all of its bytes from a place on
module _ (buffer : List ℕ) (from seed : ℕ) where
  abbrev pub Kept : ℕ → Type 0
  Kept k = get_or buffer k 0 ≡ fill_byte seed k

  abbrev pub AllKept : Type 0
  AllKept = (k : ℕ) → from ≤ k → k < length buffer → Kept k

  -- the test of one byte
  abbrev is_filled : ℕ → Bool
  is_filled k = nat_eq (get_or buffer (from + k) 0) (fill_byte seed (from + k))

  pub kept_is : (r : Bool) → Decides r AllKept → r ≡ is_kept buffer from seed
  kept_is r h =
      let each : (k : ℕ) → Decides (is_filled k) (Kept (from + k)) =
      λ k. Decides-eqb (get_or buffer (from + k) 0) (fill_byte seed (from + k)) in
      same_from_decides r (is_kept buffer from seed) h
      (Decides-like (is_kept buffer from seed)
      (λ all k m l. let e : from + (k - from) ≡ k = omega arith in rw e at (all (k - from) (omega arith)))
      (λ all k l. all (from + k) (omega arith) (omega arith))
      (below is_filled (λ k. Kept (from + k)) each (length buffer - from)))

-- whether the front of the work buffer is cleared, by a test of all of its bytes
module _ (work : List ℕ) where
  abbrev pub Cleared : ℕ → Type 0
  Cleared k = get_or work k 0 ≡ 0

  abbrev pub AllCleared : Type 0
  AllCleared = (k : ℕ) → k < work_size → k < length work → Cleared k

  inside : (k : ℕ) → (k < length work → Cleared k) → Cleared k
  inside k h = grind (arith, get_or_past work k 0)

  pub cleared_is : (r : Bool) → Decides r AllCleared → r ≡ is_cleared work
  cleared_is r h =
      same_from_decides r (is_cleared work) h
      (Decides-like (is_cleared work)
      (λ all k m l. all k m)
      (λ all k m. inside k (all k m))
      (below (λ k. nat_eq (get_or work k 0) 0) Cleared (λ k. Decides-eqb (get_or work k 0) 0) work_size))

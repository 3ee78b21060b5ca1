-- The places of the bits of a number that are 1: the lowest comes first, and the number less one has no bit there, and those above.
use Prim.Native.Nat.{ℕ, zero, suc, ◌+◌, ◌-◌, ◌/◌, ◌^◌, ◌≤◌, ◌<◌}
use mathlib.Core.Path.{◌≡◌, refl, sym, ap, ◌∙◌}
use mathlib.Core.Bool.{Bool, true, false, cond}
use mathlib.Core.List.{List, [], ◌∷◌}
use native.Mathlib.Omega.{arith}
use lib.Dec.{eqb}
use lib.ListN.{length, get_or}
use borrow.Author.Tests.{eqb-true, eqb-false, ne_eqb}
use Rattle.std.specs.Int.{w32, bit_at, trailing_zeros}
use Rattle.std.specs.Int.Bits.{bit_and}
use Rattle.std.specs.List.{filter, range_with_len}
use Rattle.std.proofs.lemmas.Nat.Bits.{bit_at-suc, bit_at_lowest, bit_at_and, bit_at-trailing_zeros}
use Rattle.tables.specs.Bits.{bit_of, places}
use Rattle.tables.proofs.Setting.{bit_zero}

-- tests that agree from a on pick the same, and one that nothing passes picks nothing
picks-agree : (p q : ℕ → Bool) (a n : ℕ) → ((i : ℕ) → a ≤ i → i < a + n → p i ≡ q i) → filter p (range_with_len a n) ≡ filter q (range_with_len a n)
picks-agree p q a zero same = refl
picks-agree p q a (suc n) same =
    rw (same a (omega arith) (omega arith), picks-agree p q (a + 1) n (λ i h l. same i (omega arith) (omega arith)))

picks-none : (p : ℕ → Bool) (a n : ℕ) → ((i : ℕ) → p i ≡ false) → filter p (range_with_len a n) ≡ []
picks-none p a zero none = refl
picks-none p a (suc n) none = rw (none a) (picks-none p (a + 1) n none)

-- what is picked is picked from these, and is no more than they are
picks-most : (p : ℕ → Bool) (a n : ℕ) → length (filter p (range_with_len a n)) ≤ n
picks-most p a zero = omega arith
picks-most p a (suc n) = by_test (p a) (picks-most p (a + 1) n)
  where
    by_test : (b : Bool) → length (filter p (range_with_len (a + 1) n)) ≤ n
        → length (cond b (a ∷ filter p (range_with_len (a + 1) n)) (filter p (range_with_len (a + 1) n))) ≤ suc n
    by_test true few = omega (arith, few)
    by_test false few = omega (arith, few)

picks-below : (p : ℕ → Bool) (a n k d : ℕ) → k < length (filter p (range_with_len a n)) → get_or (filter p (range_with_len a n)) k d < a + n
picks-below p a zero k d h = absurd (omega (arith, h))
picks-below p a (suc n) k d h = by_test (p a) (λ j l. picks-below p (a + 1) n j d l) k h
  where
    by_test : (b : Bool)
        → ((j : ℕ) → j < length (filter p (range_with_len (a + 1) n)) → get_or (filter p (range_with_len (a + 1) n)) j d < a + 1 + n) → (j : ℕ)
        → j < length (cond b (a ∷ filter p (range_with_len (a + 1) n)) (filter p (range_with_len (a + 1) n)))
        → get_or (cond b (a ∷ filter p (range_with_len (a + 1) n)) (filter p (range_with_len (a + 1) n))) j d < a + suc n
    by_test true ih zero l = omega arith
    by_test true ih (suc j) l = omega (arith, ih j (omega (arith, l)))
    by_test false ih j l = omega (arith, ih j l)

-- where k is the first that passes one test, and the other picks what is above k, the one picks k and these
picks-first : (p q : ℕ → Bool) (k : ℕ) → ((i : ℕ) → i < k → p i ≡ false) → p k ≡ true → ((i : ℕ) → i ≤ k → q i ≡ false)
    → ((i : ℕ) → k < i → p i ≡ q i) → (a n : ℕ) → a ≤ k → k < a + n
    → filter p (range_with_len a n) ≡ k ∷ filter q (range_with_len a n)
picks-first p q k below here low high a zero h l = absurd (omega arith)
picks-first p q k below here low high a (suc n) h l = by_place (eqb a k) refl
    (λ g. picks-first p q k below here low high (a + 1) n (omega arith) (omega arith))
  where
    by_place : (b : Bool) → eqb a k ≡ b
        → (a < k → filter p (range_with_len (a + 1) n) ≡ k ∷ filter q (range_with_len (a + 1) n))
        → filter p (range_with_len a (suc n)) ≡ k ∷ filter q (range_with_len a (suc n))
    by_place true e ih =
        let same : a ≡ k = eqb-true a k e in
        rw (same, here, low k (omega arith)) (ap (λ (l : List ℕ). k ∷ l) (picks-agree p q (k + 1) n (λ i g _. high i (omega arith))))
    by_place false e ih =
        let less : a < k = omega (arith, eqb-false a k e) in
        rw (below a less, low a (omega arith)) (ih less)

-- the number less one: no bit at the lowest place, and above it the same bits
less-one : (t n : ℕ) → 0 < n → bit_at n t ≡ 1 → ((i : ℕ) → i < t → bit_at n i ≡ 0)
    → (bit_at (n - 1) t ≡ 0) × ((i : ℕ) → t < i → bit_at (n - 1) i ≡ bit_at n i)
less-one zero n some one below =
    let odd = bit_at_lowest n in
    let same : (n - 1) / 2 ≡ n / 2 = omega arith in (
      omega (arith, bit_at_lowest (n - 1)),
      λ i h. above i h same,
    )
  where
    above : (i : ℕ) → 0 < i → (n - 1) / 2 ≡ n / 2 → bit_at (n - 1) i ≡ bit_at n i
    above zero h same = absurd (omega arith)
    above (suc i) h same = bit_at-suc (n - 1) i ∙ ap (λ (x : ℕ). bit_at x i) same ∙ sym (bit_at-suc n i)
less-one (suc t) n some one below =
    let even = bit_at_lowest n in
    let none = below 0 (omega arith) in
    let half : (n - 1) / 2 ≡ n / 2 - 1 = omega arith in
    let ih = less-one t (n / 2) (omega arith) (sym (bit_at-suc n t) ∙ one) (λ i h. sym (bit_at-suc n i) ∙ below (suc i) (omega arith)) in (
      bit_at-suc (n - 1) t ∙ ap (λ (x : ℕ). bit_at x t) half ∙ ih.0,
      λ i h. above i h half ih.1,
    )
  where
    above : (i : ℕ) → suc t < i → (n - 1) / 2 ≡ n / 2 - 1 → ((j : ℕ) → t < j → bit_at (n / 2 - 1) j ≡ bit_at (n / 2) j)
        → bit_at (n - 1) i ≡ bit_at n i
    above zero h half ih = absurd (omega arith)
    above (suc i) h half ih =
        bit_at-suc (n - 1) i ∙ ap (λ (x : ℕ). bit_at x i) half ∙ ih i (omega arith) ∙ sym (bit_at-suc n i)

-- a bit as a number
bit-at : (x i : ℕ) → bit_of x i ≡ eqb (bit_at x i) 1
unfolding bit_of
bit-at x i = refl

-- a test that agrees with the bits picks the same
pub places-agree : (x : ℕ) (test : ℕ → Bool) → ((i : ℕ) → i < 32 → bit_of x i ≡ test i) → places x ≡ filter test (range_with_len 0 32)
unfolding places
places-agree x test agree = picks-agree (bit_of x) test 0 32 (λ i _. agree i)

-- there are at most 32, each below 32
pub places-few : (x : ℕ) → length (places x) ≤ 32
unfolding places
places-few x = picks-most (bit_of x) 0 32

pub places-below : (x k d : ℕ) → k < length (places x) → get_or (places x) k d < 32
unfolding places
places-below x k d = picks-below (bit_of x) 0 32 k d

-- of 0 there are none
pub places-zero : places 0 ≡ []
unfolding places
places-zero = picks-none (bit_of 0) 0 32 bit_zero

-- the lowest, and those of the number without it
pub places-next : (x : ℕ) → 0 < x → x < 2 ^ 32 → places x ≡ trailing_zeros w32 x ∷ places (bit_and x (x - 1))
unfolding places
places-next x some small =
    let lowest = bit_at-trailing_zeros w32 x some small in
    let less = less-one (trailing_zeros w32 x) x some lowest.1 lowest.2 in
    picks-first (bit_of x) (bit_of (bit_and x (x - 1))) (trailing_zeros w32 x)
    (λ i h. bit-at x i ∙ rw (lowest.2 i h) refl)
    (bit-at x (trailing_zeros w32 x) ∙ rw lowest.1 refl)
    (λ i h. low i (lowest.2 i) less.0 h)
    (λ i h. high i (less.1 i h)) 0 32 (omega arith) (omega (arith, lowest.0))
  where
    low : (i : ℕ) → (i < trailing_zeros w32 x → bit_at x i ≡ 0) → bit_at (x - 1) (trailing_zeros w32 x) ≡ 0 → i ≤ trailing_zeros w32 x
        → bit_of (bit_and x (x - 1)) i ≡ false
    low i below here h = bit-at (bit_and x (x - 1)) i ∙ ne_eqb _ 1 (λ e. by_place (eqb i (trailing_zeros w32 x)) refl e)
      where
        by_place : (b : Bool) → eqb i (trailing_zeros w32 x) ≡ b → ¬ (bit_at (bit_and x (x - 1)) i ≡ 1)
        by_place true q e = let at = eqb-true i (trailing_zeros w32 x) q in
            let none : bit_at (x - 1) i ≡ 0 = rw at here in
            omega (arith, bit_at_and x (x - 1) i)
        by_place false q e = let none = below (omega (arith, eqb-false i (trailing_zeros w32 x) q)) in omega (arith, bit_at_and x (x - 1) i)

    high : (i : ℕ) → bit_at (x - 1) i ≡ bit_at x i → bit_of x i ≡ bit_of (bit_and x (x - 1)) i
    high i same =
        let both : bit_at (bit_and x (x - 1)) i ≡ bit_at x i = omega (arith, bit_at_and x (x - 1) i) in
        bit-at x i ∙ sym (bit-at (bit_and x (x - 1)) i ∙ rw both refl)

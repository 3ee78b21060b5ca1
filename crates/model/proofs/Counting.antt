-- How many numbers pass a test; and the ready count, which tells whether anybody is chosen.
use Prim.Native.Nat.{ℕ, zero, suc, ◌+◌, ◌≤◌, ◌<◌}
use mathlib.Core.Path.{◌≡◌, refl, sym}
use mathlib.Core.Bool.{Bool, true, false, cond}
use native.Mathlib.Omega.{arith}
use native.Mathlib.Numerals.{add-one}
use lib.Dec.{eqb, ltb}
use borrow.Author.Tests.{eqb-true, eqb-false, ltb-true, ltb-false, lt-ltb, le-ltb}
use Rattle.model.specs.Dispatch.{ready, count_below, ready_count, going_round, first_from, chosen, nobody, choice_at, choose}
use Rattle.model.specs.Dispatching.{ReadyCountHolds}
use Rattle.model.proofs.Logic.{not-both}
use Rattle.model.proofs.Choosing.{first_passes, first-earlier, round_below, reached}

-- a test as a number
abbrev pub bit : Bool → ℕ
bit b = cond b 1 0

-- one number more
pub count-suc : (test : ℕ → Bool) (k : ℕ) → count_below test (suc k) ≡ count_below test k + bit (test k)
unfolding count_below
count-suc test k = by_test (test k)
  where
    by_test : (t : Bool) → cond t (count_below test k + 1) (count_below test k) ≡ count_below test k + bit t
    by_test true = refl
    by_test false = omega arith

pub count_next : (test : ℕ → Bool) (k : ℕ) → count_below test (k + 1) ≡ count_below test k + bit (test k)
count_next test k = rw (add-one k) (count-suc test k)

pub count-passes : (test : ℕ → Bool) (k count : ℕ) → count ≡ count_below test k → test k ≡ true → count + 1 ≡ count_below test (k + 1)
count-passes test k count e p = let one : bit (test k) ≡ 1 = rw p in omega (arith, count_next test k)

pub count-fails : (test : ℕ → Bool) (k count : ℕ) → count ≡ count_below test k → test k ≡ false → count ≡ count_below test (k + 1)
count-fails test k count e p = let none : bit (test k) ≡ 0 = rw p in omega (arith, count_next test k)

pub count_nothing : (test : ℕ → Bool) → count_below test 0 ≡ 0
unfolding count_below
count_nothing test = refl

bit-most : (b : Bool) → bit b ≤ 1
bit-most true = omega arith
bit-most false = omega arith

-- at most all pass
pub count_most : (test : ℕ → Bool) (k : ℕ) → count_below test k ≤ k
count_most test zero = omega (arith, count_nothing test)
count_most test (suc k) = omega (arith, count-suc test k, bit-most (test k), count_most test k)

-- one that passes counts
count-some : (test : ℕ → Bool) (k n : ℕ) → n < k → test n ≡ true → 0 < count_below test k
count-some test zero n l r = absurd (omega arith)
count-some test (suc k) n l r = by_last (eqb n k) refl (count-some test k n)
  where
    by_last : (b : Bool) → eqb n k ≡ b → (n < k → test n ≡ true → 0 < count_below test k) → 0 < count_below test (suc k)
    by_last true p ih = let here : test k ≡ true = rw (eqb-true n k p) at r in
        let one : bit (test k) ≡ 1 = rw here in
        omega (arith, count-suc test k)
    by_last false p ih = omega (arith, count-suc test k, ih (omega (arith, eqb-false n k p)) r)

-- two tests that agree count the same
pub count-agree : (f g : ℕ → Bool) (k : ℕ) → ((j : ℕ) → j < k → f j ≡ g j) → count_below f k ≡ count_below g k
unfolding count_below
count-agree f g zero same = refl
count-agree f g (suc k) same = rw (same k (omega arith), count-agree f g k (λ j l. same j (omega arith)))

-- where none passes, none counts; and nothing is counted only there
pub count_none : (test : ℕ → Bool) (k : ℕ) → ((j : ℕ) → j < k → test j ≡ false) → count_below test k ≡ 0
unfolding count_below
count_none test zero all = refl
count_none test (suc k) all = rw (all k (omega arith)) (count_none test k (λ j l. all j (omega arith)))

pub none-counted : (test : ℕ → Bool) (k : ℕ) → count_below test k ≡ 0 → (n : ℕ) → n < k → test n ≡ false
none-counted test k e n l = by_test (test n) refl
  where
    by_test : (b : Bool) → test n ≡ b → b ≡ false
    by_test true p = absurd (omega (arith, count-some test k n l p))
    by_test false p = refl

-- none passes from a number on
pub count-beyond : (test : ℕ → Bool) (k m : ℕ) → k ≤ m → ((j : ℕ) → k ≤ j → j < m → test j ≡ false) → count_below test m ≡ count_below test k
count-beyond test k zero l all = let e : k ≡ 0 = omega arith in rw e
count-beyond test k (suc m) l all = by_end (ltb m k) refl (λ h. count-beyond test k m h (λ j a b. all j a (omega arith)))
  where
    by_end : (b : Bool) → ltb m k ≡ b → (k ≤ m → count_below test m ≡ count_below test k) → count_below test (suc m) ≡ count_below test k
    by_end true p ih = let e : k ≡ suc m = omega (arith, ltb-true m k p) in rw e
    by_end false p ih =
        let h : k ≤ m = ltb-false m k p in
        let none : bit (test m) ≡ 0 = rw (all m h (omega arith)) in
        omega (arith, count-suc test m, ih h)

-- two tests that agree but at one number
pub count-one : (f g : ℕ → Bool) (n k : ℕ) → n < k → ((j : ℕ) → ¬ (j ≡ n) → f j ≡ g j)
    → count_below f k + bit (g n) ≡ count_below g k + bit (f n)
count-one f g n zero l same = absurd (omega arith)
count-one f g n (suc k) l same = by_last (eqb n k) refl (λ h. count-one f g n k h same)
  where
    by_last : (b : Bool) → eqb n k ≡ b → (n < k → count_below f k + bit (g n) ≡ count_below g k + bit (f n))
        → count_below f (suc k) + bit (g n) ≡ count_below g (suc k) + bit (f n)
    by_last true p ih =
        let here : n ≡ k = eqb-true n k p in
        let before = count-agree f g k (λ j h. same j (λ e. omega arith)) in
        rw here (omega (arith, count-suc f k, count-suc g k, before))
    by_last false p ih =
        let other : f k ≡ g k = same k (λ e. eqb-false n k p (sym e)) in
        let equal : bit (f k) ≡ bit (g k) = rw other in
        omega (arith, count-suc f k, count-suc g k, ih (omega (arith, eqb-false n k p)))

-- a test that passes where another does, and where a third does and not the other
pub count-more : (f g h : ℕ → Bool) (k : ℕ) → ((j : ℕ) → j < k → bit (g j) ≡ bit (f j) + bit (h j))
    → count_below g k ≡ count_below f k + count_below h k
count-more f g h zero both = omega (arith, count_nothing f, count_nothing g, count_nothing h)
count-more f g h (suc k) both =
    omega (
      arith,
      count-suc f k,
      count-suc g k,
      count-suc h k,
      both k (omega arith),
      count-more f g h k (λ j l. both j (omega arith)),
    )

-- a search that goes round finds one exactly if one is counted
module _ (test : ℕ → Bool) (nodes from : ℕ) (low : from ≤ nodes) where
  abbrev first : ℕ
  first = first_from (λ i. test (going_round nodes from i)) 0 nodes

  pub search_fails : count_below test nodes ≡ 0 → nodes ≤ first
  search_fails none = by_place (ltb first nodes) refl
    where
      by_place : (b : Bool) → ltb first nodes ≡ b → nodes ≤ first
      by_place true p =
          let l : first < nodes = ltb-true first nodes p in
          not-both (first_passes (λ i. test (going_round nodes from i)) 0 nodes (omega arith))
          (none-counted test nodes none (going_round nodes from first) (round_below nodes from first low l))
      by_place false p = ltb-false first nodes p

  pub search_finds : 0 < count_below test nodes → first < nodes
  search_finds some = by_place (ltb first nodes) refl
    where
      by_place : (b : Bool) → ltb first nodes ≡ b → first < nodes
      by_place true p = ltb-true first nodes p
      by_place false p =
          let l : nodes ≤ first = ltb-false first nodes p in
          absurd (omega (
            arith,
            count_none test nodes
                (λ n h. let a = reached nodes from n low h in
                rw a.arrives at (first-earlier (λ i. test (going_round nodes from i)) 0 nodes a.distance (omega arith) (omega (arith, a.near)))),
          ))

-- nobody is chosen exactly if nobody is counted
pub ready-count : ReadyCountHolds
unfolding choose
ready-count nodes from s low = record { tells = (counted (ready_count nodes s) refl, uncounted); most = count_most (ready s) nodes }
  where
    place : ℕ
    place = first (ready s) nodes from low

    counted : (k : ℕ) → ready_count nodes s ≡ k → choice_at nodes from place ≡ nobody 0 → k ≡ 0
    counted zero e q = refl
    counted (suc k) e q =
        let some = lt-ltb place nodes (search_finds (ready s) nodes from low (omega arith)) in
        let never : chosen (going_round nodes from place) (place + 1) ≡ nobody 0 = rw some at q in
        let z : ◌≡◌ {A = ℕ} 0 1 = cc in
        absurd (omega arith)

    uncounted : ready_count nodes s ≡ 0 → choice_at nodes from place ≡ nobody 0
    uncounted none = rw (le-ltb place nodes (search_fails (ready s) nodes from low none))

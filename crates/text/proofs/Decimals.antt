-- The digits that `io::decimal` puts are those of a number in decimal.
use Prim.Native.Nat.{ℕ, zero, suc, ◌+◌, ◌-◌, ◌/◌, ◌%◌, ◌^◌, ◌≤◌, ◌<◌}
use mathlib.Core.Path.{◌≡◌, ap, ◌∙◌}
use mathlib.Core.Bool.{Bool, true, false, cond}
use mathlib.Core.List.{List, [], ◌∷◌, ◌++◌}
use native.Mathlib.Nat.{le_trans, le_of_suc-le-suc, lt_of_not-le, not-le_of_lt, pow-suc, one-le-pow, pow-le-pow_right}
use native.Mathlib.Omega.{arith}
use lib.Dec.{ltb, lit<, lit≤}
use lib.ListN.{length, take, length-append}
use borrow.Author.Tests.{lt-ltb, le-ltb}
use Rattle.io.specs.Digits.{hex_digit_ascii, last_digits, IsDigitCount}
use Rattle.text.specs.Text.{digits_within, decimal}

last_digit : (d : ℕ) → d < 10 → hex_digit_ascii d ≡ 48 + d
last_digit d h = simp (lt-ltb _ _ h)

-- a number of two digits or more: what its digits but the last say
rest_fewest : (k n : ℕ) → IsDigitCount 10 1 n (suc (suc k)) → (10 ≤ n) × IsDigitCount 10 1 (n / 10) (suc k)
rest_fewest k n f =
    let same : suc (suc k) - 1 ≡ suc k = omega arith in
    let less : suc k - 1 ≡ k = omega arith in
    let low : 10 ^ suc k ≤ n = rw same at (f.2 (omega arith)) in
    let more = pow-suc 10 (suc k) in
    let once = pow-suc 10 k in
    let some : 1 ≤ 10 ^ k = one-le-pow k 10 (omega arith) in
    (omega (arith, once, some), (omega arith, omega (arith, more, f.1), λ _. rw less (omega (arith, once))))

pub same_digits : (most r n : ℕ) → r ≤ most → IsDigitCount 10 1 n r → last_digits 10 r n ≡ digits_within most n
unfolding digits_within
same_digits zero r n h f = absurd (omega (arith, f.0))
same_digits (suc m) zero n h f = absurd (omega (arith, f.0))
same_digits (suc m) (suc zero) n h f =
    let small : n < 10 = f.1 in
    let same : n % 10 ≡ n = omega arith in
    rw (lt-ltb n 10 small) (ap (λ (d : ℕ). d ∷ []) (last_digit (n % 10) (omega arith) ∙ ap (λ (d : ℕ). 48 + d) same))
same_digits (suc m) (suc (suc k)) n h f =
    let rest = rest_fewest k n f in
    rw (le-ltb n 10 rest.0)
    (ap (λ (l : List ℕ). l ++ (hex_digit_ascii (n % 10) ∷ [])) (same_digits m (suc k) (n / 10) (omega arith) rest.1)
    ∙ ap (λ (d : ℕ). digits_within m (n / 10) ++ (d ∷ [])) (last_digit (n % 10) (omega arith)))

-- 10 ^ 20 is above 2 ^ 64
at_most_20 : (n r : ℕ) → n < 2 ^ 64 → IsDigitCount 10 1 n r → r ≤ 20
at_most_20 n r small fewest =
    le_of_suc-le-suc
    (lt_of_not-le
    (λ (more : 21 ≤ r).
    not-le_of_lt small
    (le_trans (le_trans (lit≤ tt) (pow-le-pow_right (lit< tt) {i = 20} {j = r - 1} (omega (arith, more))))
    (fewest.2 (omega (arith, more))))))

pub decimal-taken : (n r : ℕ) (out : List ℕ) → n < 2 ^ 64 → IsDigitCount 10 1 n r → take r out ≡ last_digits 10 r n → take r out ≡ decimal n
unfolding decimal
decimal-taken n r out small f e = e ∙ same_digits 20 r n (at_most_20 n r small f) f

-- a number below 10 ^ k has at most k digits
short-within : (most k n : ℕ) → 1 ≤ k → n < 10 ^ k → length (digits_within most n) ≤ k
unfolding digits_within
short-within zero k n h l = omega arith
short-within (suc m) zero n h l = absurd (omega arith)
short-within (suc m) (suc zero) n h l = let small : n < 10 = l in rw (lt-ltb n 10 small) (omega arith)
short-within (suc m) (suc (suc k)) n h l = by_test (ltb n 10)
    (short-within m (suc k) (n / 10) (omega arith) (omega (arith, pow-suc 10 (suc k))))
  where
    by_test :
        (b : Bool) → length (digits_within m (n / 10)) ≤ suc k
        → length (cond b ((48 + n) ∷ []) (digits_within m (n / 10) ++ ((48 + n % 10) ∷ []))) ≤ suc (suc k)
    by_test true rest = omega arith
    by_test false rest = omega (arith, length-append (digits_within m (n / 10)) ((48 + n % 10) ∷ []))

pub decimal-short : (k n : ℕ) → 1 ≤ k → n < 10 ^ k → length (decimal n) ≤ k
unfolding decimal
decimal-short k n h l = short-within 20 k n h l

-- no number has more than 20
within : (most n : ℕ) → length (digits_within most n) ≤ most
unfolding digits_within
within zero n = omega arith
within (suc m) n = by_test (ltb n 10) (within m (n / 10))
  where
    by_test :
        (b : Bool) → length (digits_within m (n / 10)) ≤ m
        → length (cond b ((48 + n) ∷ []) (digits_within m (n / 10) ++ ((48 + n % 10) ∷ []))) ≤ suc m
    by_test true rest = omega arith
    by_test false rest = omega (arith, length-append (digits_within m (n / 10)) ((48 + n % 10) ∷ []))

pub decimal_20 : (n : ℕ) → length (decimal n) ≤ 20
unfolding decimal
decimal_20 n = within 20 n

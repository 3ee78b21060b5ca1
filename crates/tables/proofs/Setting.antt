-- Getting and setting a bit of a number.
use Prim.Native.Nat.{ℕ, zero, suc, ◌+◌, ◌*◌, ◌/◌, ◌%◌, ◌^◌, ◌<◌, max}
use Rattle.std.specs.Int.Bits.{bit_or, or_step, or_zero_r}
use mathlib.Core.Path.{◌≡◌, refl, ap, ◌∙◌}
use mathlib.Core.Bool.{Bool, true, false, cond, ◌||◌}
use native.Mathlib.Omega.{arith}
use native.Mathlib.Nat.{pow-suc, one-mul}
use native.Mathlib.Numerals.{one-add}
use lib.Dec.{eqb, eqb-zero-suc, eqb-suc-zero, eqb-suc-suc}
use lib.Pow.{shr-shr, shl_exact}
use borrow.Author.Tests.{eqb-true, eqb-false}
use Rattle.tables.specs.Bits.{bit_of, with_bit}

-- the bits above the lowest are those of the half
pub half_bit : (x i : ℕ) → bit_of x (suc i) ≡ bit_of (x / 2) i
unfolding bit_of
half_bit x i =
    let e : x / 2 / 2 ^ i ≡ x / 2 ^ (1 + i) = shr-shr x 1 i in
    let f : x / 2 ^ (1 + i) ≡ x / 2 ^ suc i = ap (λ (k : ℕ). x / 2 ^ k) (one-add i) in
    rw (e, f)

-- setting one of them sets it in the half, and leaves the lowest
half_set : (x i : ℕ) → (with_bit x (suc i) / 2 ≡ with_bit (x / 2) i) × (with_bit x (suc i) % 2 ≡ x % 2)
unfolding with_bit
half_set x i = rw (half_bit x i) (by_bit (bit_of (x / 2) i))
  where
    by_bit : (b : Bool) → (cond b x (x + 2 ^ suc i) / 2 ≡ cond b (x / 2) (x / 2 + 2 ^ i)) × (cond b x (x + 2 ^ suc i) % 2 ≡ x % 2)
    by_bit true = (refl, refl)
    by_bit false = let e = pow-suc 2 i in (omega arith, omega arith)

-- the lowest bit
pub low_bit : (x : ℕ) → bit_of x 0 ≡ eqb (x % 2) 1
unfolding bit_of
low_bit x = let e : x / 1 ≡ x = omega arith in rw e

-- setting it leaves the half
low-set : (x : ℕ) → (with_bit x 0 / 2 ≡ x / 2) × (with_bit x 0 % 2 ≡ 1)
unfolding with_bit
low-set x = rw (low_bit x) (by_bit (eqb (x % 2) 1) refl)
  where
    by_bit : (b : Bool) → eqb (x % 2) 1 ≡ b → (cond b x (x + 1) / 2 ≡ x / 2) × (cond b x (x + 1) % 2 ≡ 1)
    by_bit true e = (refl, eqb-true (x % 2) 1 e)
    by_bit false e = let n = eqb-false (x % 2) 1 e in (omega arith, omega arith)

-- 0 has no bit that is 1
pub bit_zero : (i : ℕ) → bit_of 0 i ≡ false
bit_zero zero = low_bit 0
bit_zero (suc i) = half_bit 0 i ∙ bit_zero i

-- after a bit is set, it is 1, and every other bit is what it was
pub bit-set : (i j x : ℕ) → bit_of (with_bit x i) j ≡ (eqb i j || bit_of x j)
bit-set zero zero x = rw (low_bit (with_bit x 0), (low-set x).1)
bit-set zero (suc j) x =
    rw (half_bit (with_bit x 0) j, (low-set x).0, half_bit x j, eqb-zero-suc j)
bit-set (suc i) zero x =
    rw (low_bit (with_bit x (suc i)), (half_set x i).1, low_bit x, eqb-suc-zero i)
bit-set (suc i) (suc j) x =
    rw (half_bit (with_bit x (suc i)) j, (half_set x i).0, half_bit x j, eqb-suc-suc i j) (bit-set i j (x / 2))

-- it is set by the bitwise or with the number whose only bit it is
or_bit : (x i : ℕ) → bit_or x (2 ^ i) ≡ with_bit x i
or_bit x zero =
    let s : bit_or x 1 ≡ bit_or (x / 2) 0 * 2 + max (x % 2) 1 = or_step x 1 in
    let z : bit_or (x / 2) 0 ≡ x / 2 = or_zero_r (x / 2) in
    let a = low-set x in
    omega (arith, s, z, a.0, a.1)
or_bit x (suc i) =
    let e = pow-suc 2 i in
    let d : 2 ^ suc i / 2 ≡ 2 ^ i = omega (arith, e) in
    let s : bit_or x (2 ^ suc i) ≡ bit_or (x / 2) (2 ^ i) * 2 + max (x % 2) (2 ^ suc i % 2) =
    or_step x (2 ^ suc i) ∙ ap (λ (k : ℕ). bit_or (x / 2) k * 2 + max (x % 2) (2 ^ suc i % 2)) d in
    let m = or_bit (x / 2) i in
    let a = half_set x i in
    omega (arith, s, e, m, a.0, a.1)

-- as the code shifts that number there
pub or-sets : (x i : ℕ) → i < 32 → bit_or x ((1 * 2 ^ i) % 2 ^ 32) ≡ with_bit x i
or-sets x i h =
    let shifted : (1 * 2 ^ i) % 2 ^ 32 ≡ 2 ^ i = shl_exact 1 i 32 (omega arith) (omega arith) ∙ one-mul (2 ^ i) in
    rw shifted (or_bit x i)

-- Small laws of tests.
use Prim.Native.Nat.{ℕ, zero, suc}
use mathlib.Core.Path.{◌≡◌, refl, sym, ap, ◌∙◌}
use mathlib.Core.Bool.{Bool, true, false, not, not-not, ◌&&◌, ◌||◌, or-false}
use mathlib.Core.List.{List, [], ◌∷◌}
use native.Mathlib.Omega.{arith}
use lib.ListN.{get_or}
use Rattle.model.specs.Refusal.{any_of}

-- true and false differ
pub true_false : true ≡ false → {A : Type 0} → A
true_false e = let w : ◌≡◌ {A = ℕ} 0 1 = cc in absurd (omega arith)

pub not-both : {b : Bool} {A : Type 0} → b ≡ true → b ≡ false → A
not-both p q = true_false (sym p ∙ q)

-- a negation to the other side
pub not_turned : (b c : Bool) → not b ≡ c → b ≡ not c
not_turned b c e = sym (not-not b) ∙ ap not e

pub or_left : (a b : Bool) → (a || b) ≡ false → a ≡ false
or_left true b e = true_false e
or_left false b e = refl

pub or_right : (a b : Bool) → (a || b) ≡ false → b ≡ false
or_right true b e = true_false e
or_right false b e = e

pub or_first : (a b : Bool) → a ≡ true → (a || b) ≡ true
or_first true b e = refl
or_first false b e = true_false (sym e)

pub or_second : (a b : Bool) → b ≡ true → (a || b) ≡ true
or_second true b e = refl
or_second false b e = e

pub and-rest : (a b : Bool) → a ≡ true → (a && b) ≡ false → b ≡ false
and-rest true b p e = e
and-rest false b p e = true_false (sym p)

pub and_left : (a b : Bool) → (a && b) ≡ true → a ≡ true
and_left true b e = refl
and_left false b e = true_false (sym e)

pub and_right : (a b : Bool) → (a && b) ≡ true → b ≡ true
and_right true b e = e
and_right false b e = true_false (sym e)

-- each of the tests fails
pub none_of : (k : ℕ) (tests : List Bool) → any_of tests ≡ false → get_or tests k false ≡ false
unfolding any_of
none_of k [] e = refl
none_of zero (b ∷ tests) e = or_left b (any_of tests) e
none_of (suc k) (b ∷ tests) e = none_of k tests (or_right b (any_of tests) e)

-- a program's test of several parts: one part and the rest, and the last part
pub any_next : (b : Bool) (tests : List Bool) → any_of (b ∷ tests) ≡ (b || any_of tests)
unfolding any_of
any_next b tests = refl

pub any_last : (b : Bool) → any_of (b ∷ []) ≡ b
unfolding any_of
any_last b = or-false b

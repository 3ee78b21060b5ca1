-- The arms that `_` stands for, by a computed test.
use Prim.Native.Nat.{ℕ}
use mathlib.Core.Path.{◌≡◌, subst}
use mathlib.Core.Bool.{Bool, true, false, ◌||◌}
use mathlib.Core.List.{List, [], ◌∷◌}
use mathlib.Core.Logic.{inl, inr}
use types.Run.{OneOf}
use lib.Dec.{T, eqb, eqb_refl}

-- the number is in the list
abbrev pub member : List ℕ → ℕ → Bool
member [] x = false
member (k ∷ ks) x = eqb x k || member ks x

left : (a b : Bool) → T a → T (a || b)
left true b t = t
left false b t = elim t [ ]

right : (a b : Bool) → T b → T (a || b)
right true b t = tt
right false b t = t

is : (k x : ℕ) → x ≡ k → T (eqb x k)
is k x e = subst (λ (y : ℕ). T (eqb x y)) e (eqb_refl x)

-- one of these numbers passes the test, so that a number that does not is none of them
pub one_of : (ks : List ℕ) (x : ℕ) → OneOf ks x → T (member ks x)
one_of [] x e = elim e [ ]
one_of (k ∷ []) x e = left (eqb x k) false (is k x e)
one_of (k ∷ k' ∷ ks) x (inl e) = left (eqb x k) (member (k' ∷ ks) x) (is k x e)
one_of (k ∷ k' ∷ ks) x (inr h) = right (eqb x k) (member (k' ∷ ks) x) (one_of (k' ∷ ks) x h)

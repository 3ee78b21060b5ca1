-- Laws of lists that the definitions make: lists that grow by `only`, tables, one element set.
use Prim.Native.Nat.{ℕ, zero, suc, ◌+◌, ◌-◌, ◌≤◌, ◌<◌}
use mathlib.Core.Path.{◌≡◌, refl, sym, ap, ◌∙◌}
use mathlib.Core.Bool.{Bool, true, false, cond}
use mathlib.Core.List.{List, [], ◌∷◌, ◌++◌, append-nil}
use native.Mathlib.Omega.{arith}
use lib.Dec.{ltb, eqb}
use lib.ListN.{length, get_or, set, replicate, length-append, length-set, get_or-append, get_or-eq_default, length-replicate}
use lib.ListN.{get_or-replicate}
use lib.Seq.{get_or-append-add, get_or-set_same, get_or-set_other, ext_get_or, get_or_at}
use borrow.Author.Tests.{ltb-true, ltb-false, eqb-true, eqb-false}
use Rattle.model.specs.Declared.{only}
use Rattle.model.specs.State.{tabulate}

-- a list with one more element, or none
pub length-only : {A : Type 0} (l : List A) (t : Bool) (a : A) → length (l ++ only t a) ≡ cond t (length l + 1) (length l)
length-only l true a = length-append l (a ∷ [])
length-only l false a = ap length (append-nil l)

-- a property of each of its elements, by its place
pub only-each :
    {A : Type 0} (Q : ℕ → A → Type 0) (d : A) (l : List A) (t : Bool) (a : A)
    → ((i : ℕ) → i < length l → Q i (get_or l i d)) → (t ≡ true → Q (length l) a)
    → (i : ℕ) → i < length (l ++ only t a) → Q i (get_or (l ++ only t a) i d)
only-each Q d l false a older new i h = rw (append-nil l) (older i (rw (append-nil l) at h))
only-each {A} Q d l true a older new i h = by_place (ltb i (length l)) refl
  where
    by_place : (b : Bool) → ltb i (length l) ≡ b → Q i (get_or (l ++ (a ∷ [])) i d)
    by_place true q = rw (get_or-append l (a ∷ []) d i (ltb-true i (length l) q)) (older i (ltb-true i (length l) q))
    by_place false q =
        let last : length l ≡ i = omega (arith, ltb-false i (length l) q, length-append l (a ∷ [])) in
        rw (get_or_at l a [] d i last) (rw last at (new refl))

-- every number of a list is below k
abbrev pub AllBelow : ℕ → List ℕ → Type 0
AllBelow k [] = Unit {0}
AllBelow k (n ∷ ns) = (n < k) × AllBelow k ns

-- another default changes nothing inside a list
pub get_or-default : {A : Type 0} (l : List A) (i : ℕ) (d e : A) → i < length l → get_or l i d ≡ get_or l i e
get_or-default [] i d e h = absurd (omega arith)
get_or-default (a ∷ l) zero d e h = refl
get_or-default (a ∷ l) (suc i) d e h = get_or-default l i d e (omega arith)

-- a table has as many elements as it says
pub length-tabulate : {A : Type 0} (k : ℕ) (f : ℕ → A) → length (tabulate k f) ≡ k
unfolding tabulate
length-tabulate zero f = refl
length-tabulate (suc k) f = omega (arith, length-append (tabulate k f) (f k ∷ []), length-tabulate k f)

-- the elements of a table
pub get_or-tabulate_out : {A : Type 0} (k t : ℕ) (f : ℕ → A) (d : A) → k ≤ t → get_or (tabulate k f) t d ≡ d
get_or-tabulate_out k t f d h = get_or-eq_default (tabulate k f) d (omega (arith, length-tabulate k f))

pub get_or-tabulate : {A : Type 0} (k t : ℕ) (f : ℕ → A) (d : A) → t < k → get_or (tabulate k f) t d ≡ f t
unfolding tabulate
get_or-tabulate zero t f d h = absurd (omega arith)
get_or-tabulate {A} (suc k) t f d h = by_last (get_or-tabulate k t f d) (eqb t k) refl
  where
    by_last : (t < k → get_or (tabulate k f) t d ≡ f t) → (b : Bool) → eqb t k ≡ b → get_or (tabulate k f ++ (f k ∷ [])) t d ≡ f t
    by_last ih true e =
        let same : t ≡ k = eqb-true t k e in
        get_or_at (tabulate k f) (f k) [] d t (length-tabulate k f ∙ sym same) ∙ ap f (sym same)
    by_last ih false e =
        let below : t < k = omega (arith, eqb-false t k e) in
        get_or-append (tabulate k f) (f k ∷ []) d t (omega (arith, length-tabulate k f)) ∙ ih below

-- one element set, where the others keep a property
pub set-each : {A : Type 0} (Q : ℕ → A → Type 0) (d : A) (l : List A) (n : ℕ) (p : A) → Q n p → ((m : ℕ) → Q m (get_or l m d)) → (m : ℕ)
    → Q m (get_or (set l n p) m d)
set-each Q d [] n p q h m = h m
set-each Q d (a ∷ l) zero p q h zero = q
set-each Q d (a ∷ l) zero p q h (suc m) = h (suc m)
set-each Q d (a ∷ l) (suc n) p q h zero = h zero
set-each Q d (a ∷ l) (suc n) p q h (suc m) = set-each (λ k. Q (suc k)) d l n p q (λ k. h (suc k)) m

-- a property of the elements of a list, and of the default outside
pub get_or-each : {A : Type 0} (Q : ℕ → A → Type 0) (d : A) (l : List A) → ((i : ℕ) → i < length l → Q i (get_or l i d)) → ((i : ℕ) → Q i d)
    → (i : ℕ) → Q i (get_or l i d)
get_or-each {A} Q d l h z i = by_range (ltb i (length l)) refl
  where
    by_range : (t : Bool) → ltb i (length l) ≡ t → Q i (get_or l i d)
    by_range true e = h i (ltb-true i (length l) e)
    by_range false e = rw (get_or-eq_default l d (ltb-false i (length l) e)) (z i)

-- the same of a table, and of a list of one value
pub tabulate-each : {A : Type 0} (Q : ℕ → A → Type 0) (d : A) (k : ℕ) (f : ℕ → A) → ((m : ℕ) → Q m (f m)) → ((m : ℕ) → Q m d) → (m : ℕ)
    → Q m (get_or (tabulate k f) m d)
tabulate-each Q d k f h z = get_or-each Q d (tabulate k f) (λ i l. rw (get_or-tabulate k i f d (omega (arith, length-tabulate k f))) (h i)) z

pub replicate-each : {A : Type 0} (Q : ℕ → A → Type 0) (d : A) (k : ℕ) (a : A) → ((m : ℕ) → Q m a) → ((m : ℕ) → Q m d) → (m : ℕ)
    → Q m (get_or (replicate k a) m d)
replicate-each Q d k a q z = get_or-each Q d (replicate k a) (λ i l. rw (get_or-replicate k i a d (omega (arith, length-replicate k a))) (q i))
    z

-- two tables of functions that agree but at one number
pub tabulate-set : (k x : ℕ) (f g : ℕ → ℕ) → ((y : ℕ) → ¬ (y ≡ x) → f y ≡ g y) → tabulate k f ≡ set (tabulate k g) x (f x)
tabulate-set k x f g agrees =
    ext_get_or 0 (tabulate k f) (set (tabulate k g) x (f x))
    (length-tabulate k f ∙ sym (length-tabulate k g) ∙ sym (length-set (tabulate k g) x (f x)))
    (λ i h. by_number i (rw (length-tabulate k f) at h) (eqb i x) refl)
  where
    by_number : (i : ℕ) → i < k → (b : Bool) → eqb i x ≡ b → get_or (tabulate k f) i 0 ≡ get_or (set (tabulate k g) x (f x)) i 0
    by_number i h true p =
        let same : i ≡ x = eqb-true i x p in
        let inside : x < length (tabulate k g) = omega (arith, length-tabulate k g) in
        rw (same, get_or-set_same (tabulate k g) x (f x) 0 inside) (get_or-tabulate k x f 0 (omega arith))
    by_number i h false p =
        rw (get_or-set_other (tabulate k g) x i (f x) 0 (eqb-false i x p))
        (get_or-tabulate k i f 0 h ∙ agrees i (eqb-false i x p) ∙ sym (get_or-tabulate k i g 0 h))

-- an element of two lists, each of two parts
pub append_at :
    (l l' m m' : List ℕ) (i : ℕ) → length l ≡ length l' → (i < length l → get_or l i 0 ≡ get_or l' i 0)
    → (length l ≤ i → get_or m (i - length l) 0 ≡ get_or m' (i - length l) 0) → get_or (l ++ m) i 0 ≡ get_or (l' ++ m') i 0
append_at l l' m m' i same first second = by_range (ltb i (length l)) refl
  where
    by_range : (b : Bool) → ltb i (length l) ≡ b → get_or (l ++ m) i 0 ≡ get_or (l' ++ m') i 0
    by_range true p =
        let h : i < length l = ltb-true i (length l) p in
        get_or-append l m 0 i h ∙ first h ∙ sym (get_or-append l' m' 0 i (omega arith))
    by_range false p =
        let h : length l ≤ i = ltb-false i (length l) p in
        let e : i ≡ length l + (i - length l) = omega arith in
        let e' : i ≡ length l' + (i - length l) = omega arith in
        ap (λ (k : ℕ). get_or (l ++ m) k 0) e ∙ get_or-append-add l m (i - length l) 0 ∙ second h
        ∙ sym (get_or-append-add l' m' (i - length l) 0) ∙ sym (ap (λ (k : ℕ). get_or (l' ++ m') k 0) e')

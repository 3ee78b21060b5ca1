-- Laws of bytes that are placed in a buffer: one part after the other, and all from the front.
use Prim.Native.Nat.{ℕ, zero, suc, ◌+◌, ◌-◌, ◌≤◌, ◌<◌}
use mathlib.Core.Path.{◌≡◌, refl, sym, ap, subst, ◌∙◌}
use mathlib.Core.Logic.{◌⊎◌, inl, inr}
use mathlib.Core.List.{List, [], ◌∷◌, ◌++◌, append_assoc}
use native.Mathlib.Omega.{arith}
use lib.ListN.{length, get_or, take, drop, set, length-append, length-drop}
use lib.ListN.{get_or-append}
use lib.Seq.{get_or-append-add, get_or-drop}
use borrow.Rule.Slice.PartMut.{put_mid}
use Rattle.model.specs.Result.{written}
use Rattle.writing.specs.Writing.{placed, Writes}

-- one byte
pub set-placed : {A : Type 0} (buffer : List A) (at : ℕ) (x : A) → at < length buffer → set buffer at x ≡ placed buffer at (x ∷ [])
unfolding placed
set-placed [] at x h = absurd (omega arith)
set-placed (y ∷ buffer) zero x h = refl
set-placed (y ∷ buffer) (suc at) x h = ap (λ (l : List _). y ∷ l) (set-placed buffer at x (omega arith))

-- placing keeps the length
pub length-placed : {A : Type 0} (buffer : List A) (at : ℕ) (bytes : List A) → at + length bytes ≤ length buffer
    → length (placed buffer at bytes) ≡ length buffer
unfolding placed
length-placed buffer zero bytes h = length-append bytes (drop (length bytes) buffer) ∙ omega (arith, length-drop (length bytes) buffer)
length-placed [] (suc at) bytes h = absurd (omega arith)
length-placed (y ∷ buffer) (suc at) bytes h = ap suc (length-placed buffer at bytes (omega arith))

-- a byte of those placed, and a byte elsewhere
pub placed-inside :
    (buffer : List ℕ) (at : ℕ) (bytes : List ℕ) (j : ℕ) → at ≤ length buffer → j < length bytes
    → get_or (placed buffer at bytes) (at + j) 0 ≡ get_or bytes j 0
unfolding placed
placed-inside buffer zero bytes j l h = let e : 0 + j ≡ j = omega arith in rw e (get_or-append bytes (drop (length bytes) buffer) 0 j h)
placed-inside [] (suc at) bytes j l h = absurd (omega arith)
placed-inside (y ∷ buffer) (suc at) bytes j l h = let e : suc at + j ≡ suc (at + j) = omega arith in
    rw e (placed-inside buffer at bytes j (omega arith) h)

pub placed_outside :
    (buffer : List ℕ) (at : ℕ) (bytes : List ℕ) (k : ℕ) → at ≤ length buffer → (k < at) ⊎ (at + length bytes ≤ k)
    → get_or (placed buffer at bytes) k 0 ≡ get_or buffer k 0
unfolding placed
placed_outside buffer zero bytes k l (inl h) = absurd (omega arith)
placed_outside buffer zero bytes k l (inr h) =
    let e : length bytes + (k - length bytes) ≡ k = omega arith in
    subst (λ (i : ℕ). get_or (bytes ++ drop (length bytes) buffer) i 0 ≡ get_or buffer i 0) e
    (get_or-append-add bytes (drop (length bytes) buffer) (k - length bytes) 0 ∙ get_or-drop (length bytes) buffer (k - length bytes) 0)
placed_outside [] (suc at) bytes k l h = absurd (omega arith)
placed_outside (y ∷ buffer) (suc at) bytes zero l h = refl
placed_outside (y ∷ buffer) (suc at) bytes (suc k) l (inl h) = placed_outside buffer at bytes k (omega arith) (inl (omega arith))
placed_outside (y ∷ buffer) (suc at) bytes (suc k) l (inr h) = placed_outside buffer at bytes k (omega arith) (inr (omega arith))

-- bytes after bytes, from the front and from any place on
behind-front : {A : Type 0} (buffer xs ys : List A) → length xs + length ys ≤ length buffer
    → placed (placed buffer zero xs) (length xs) ys ≡ placed buffer zero (xs ++ ys)
unfolding placed
behind-front buffer [] ys h = refl
behind-front [] (x ∷ xs) ys h = absurd (omega arith)
behind-front (y ∷ buffer) (x ∷ xs) ys h = ap (λ (l : List _). x ∷ l) (behind-front buffer xs ys (omega arith))

pub placed-placed :
    {A : Type 0} (buffer : List A) (at : ℕ) (xs ys : List A) (next : ℕ) → next ≡ at + length xs → at + length xs + length ys ≤ length buffer
    → placed (placed buffer at xs) next ys ≡ placed buffer at (xs ++ ys)
unfolding placed
placed-placed buffer zero xs ys next e h = let f : next ≡ length xs = omega arith in rw f (behind-front buffer xs ys (omega arith))
placed-placed [] (suc at) xs ys next e h = absurd (omega arith)
placed-placed (y ∷ buffer) (suc at) xs ys zero e h = absurd (omega arith)
placed-placed (y ∷ buffer) (suc at) xs ys (suc next) e h = ap (λ (l : List _). y ∷ l)
    (placed-placed buffer at xs ys next (omega arith) (omega arith))

-- from the front
pub placed-front : (buffer bytes : List ℕ) → placed buffer 0 bytes ≡ written bytes buffer
unfolding placed
placed-front buffer bytes = refl

-- one write after another is one write
pub writes-on :
    {A : Type 0} (xs ys before : List A) (at : ℕ) (between : List A) (next : ℕ) (after : List A) (last : ℕ) → at + length xs + length ys ≤ length before
    → Writes xs before at between next → Writes ys between next after last → Writes (xs ++ ys) before at after last
writes-on xs ys before at between next after last h p q =
    record {
      place = omega (arith, p.place, q.place, length-append xs ys);
      buffer = q.buffer ∙ ap (λ (l : List _). placed l next ys) p.buffer ∙ placed-placed before at xs ys next p.place h;
    }

-- writing keeps the length
pub length-writes : {A : Type 0} (bytes before : List A) (at : ℕ) (after : List A) (next : ℕ) → at + length bytes ≤ length before
    → Writes bytes before at after next → length after ≡ length before
length-writes bytes before at after next h w = ap length w.buffer ∙ length-placed before at bytes h

-- nothing is written
placed_nothing : {A : Type 0} (buffer : List A) (at : ℕ) → placed buffer at [] ≡ buffer
unfolding placed
placed_nothing buffer zero = refl
placed_nothing [] (suc at) = refl
placed_nothing (y ∷ buffer) (suc at) = ap (λ (l : List _). y ∷ l) (placed_nothing buffer at)

pub writes_nothing : {A : Type 0} (buffer : List A) (at : ℕ) → Writes [] buffer at buffer at
writes_nothing buffer at = record { place = omega arith; buffer = sym (placed_nothing buffer at) }

-- values written over a part as long as they are
pub placed_over : {A : Type 0} (buffer values copied : List A) (at long : ℕ) → copied ≡ values → long ≡ length values
    → put_mid at long buffer copied ≡ placed buffer at values
unfolding placed
placed_over buffer values copied at long same e =
    rw (e, same) (sym (append_assoc (take at buffer) values (drop (length values) (drop at buffer))))

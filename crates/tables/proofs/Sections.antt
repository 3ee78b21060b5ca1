-- Many writes, one after the other: a section holds what the writes to it leave there, and those to other sections change nothing.
use Prim.Native.Nat.{ℕ, ◌+◌, ◌≤◌, ◌<◌}
use mathlib.Core.Path.{◌≡◌, refl, sym, ap, ◌∙◌}
use mathlib.Core.Bool.{Bool, true, false, cond, ◌&&◌, ◌||◌}
use mathlib.Core.List.{List, [], ◌∷◌}
use native.Mathlib.Omega.{arith}
use lib.Dec.{ltb, leb, eqb}
use lib.ListN.{length, set, length-set}
use lib.Seq.{get_or-set_same, get_or-set_other}
use borrow.Author.Tests.{ltb-true, ltb-false, leb-true, eqb-true, eqb-false}
use Rattle.model.proofs.Logic.{and_left, and_right}
use Rattle.tables.specs.declared.cells.Section.{Section}
use Rattle.tables.specs.Cells.{entry_in, put_in}
use Rattle.tables.specs.Writes.{Write, made, written}
use Rattle.tables.proofs.Writing.{entry-inside, entry_outside, put-inside, put_outside}

-- the length stays
pub length-put : (t : List ℕ) (s : Section) (i x : ℕ) → length (put_in t s i x) ≡ length t
unfolding put_in
length-put t s i x = by_test (ltb i s.1)
  where
    by_test : (b : Bool) → length (cond b (set t (s.0 + i) x) t) ≡ length t
    by_test true = length-set t (s.0 + i) x
    by_test false = refl

pub length-made : (t : List ℕ) (w : Write) → length (made t w) ≡ length t
unfolding made
length-made t w = by_test w.on
  where
    by_test : (b : Bool) → length (cond b (put_in t w.section w.cell w.value) t) ≡ length t
    by_test true = length-put t w.section w.cell w.value
    by_test false = refl

-- two sections are the same; they have no cell in common
abbrev pub is_section : Section → Section → Bool
is_section s r = eqb s.0 r.0 && eqb s.1 r.1

abbrev pub is_apart : Section → Section → Bool
is_apart s r = leb (s.0 + s.1) r.0 || leb (r.0 + r.1) s.0

-- cell i of section s after a write
abbrev pub changed : Section → Write → ℕ → ℕ → ℕ
changed s w i old = cond (is_section s w.section) (cond (w.on && (eqb w.cell i && ltb i s.1)) w.value old) old

either : (a b : Bool) → (a || b) ≡ true → (a ≡ false → b ≡ true)
either true b e f = let w : ◌≡◌ {A = ℕ} 0 1 = cc in absurd (omega arith)
either false b e f = e

pub apart-differ : (s r : Section) (i j : ℕ) → is_apart s r ≡ true → i < s.1 → j < r.1 → s.0 + i ≡ r.0 + j → ⊥
apart-differ s r i j e h k q = by_side (leb (s.0 + s.1) r.0) refl
  where
    by_side : (b : Bool) → leb (s.0 + s.1) r.0 ≡ b → ⊥
    by_side true p = omega (arith, leb-true (s.0 + s.1) r.0 p)
    by_side false p = omega (arith, leb-true (r.0 + r.1) s.0 (either (leb (s.0 + s.1) r.0) (leb (r.0 + r.1) s.0) e p))

module _ (t : List ℕ) (s r : Section) (j x i : ℕ) (fits : s.0 + s.1 ≤ length t) where
  -- a cell that a write does not reach
  kept : i < s.1 → j < r.1 → (s.0 + i ≡ r.0 + j → ⊥) → entry_in (put_in t r j x) s i ≡ entry_in t s i
  kept h k n =
      rw (put-inside t r j x k, entry-inside (set t (r.0 + j) x) s i h, entry-inside t s i h)
      (get_or-set_other t (r.0 + j) (s.0 + i) x 0 n)

  -- the same section
  module _ (same : is_section s r ≡ true) where
    base : s.0 ≡ r.0
    base = eqb-true s.0 r.0 (and_left (eqb s.0 r.0) _ same)

    size : s.1 ≡ r.1
    size = eqb-true s.1 r.1 (and_right (eqb s.0 r.0) _ same)

    at_same : i < s.1 → entry_in (put_in t r j x) s i ≡ cond (eqb j i) x (entry_in t s i)
    at_same h = by_index (eqb j i) refl
      where
        by_index : (b : Bool) → eqb j i ≡ b → entry_in (put_in t r j x) s i ≡ cond b x (entry_in t s i)
        by_index true e =
            let q : j ≡ i = eqb-true j i e in
            let k : j < r.1 = omega (arith, size) in
            let g : s.0 + i ≡ r.0 + j = omega (arith, base) in
            rw (put-inside t r j x k, entry-inside (set t (r.0 + j) x) s i h, g)
            (get_or-set_same t (r.0 + j) x 0 (omega (arith, size, base)))
        by_index false e = by_range (ltb j r.1) refl
          where
            by_range : (b : Bool) → ltb j r.1 ≡ b → entry_in (put_in t r j x) s i ≡ entry_in t s i
            by_range true p = kept h (ltb-true j r.1 p) (λ q. eqb-false j i e (omega (arith, base)))
            by_range false p = rw (put_outside t r j x (ltb-false j r.1 p))

  -- a section apart
  at-apart : is_apart s r ≡ true → i < s.1 → entry_in (put_in t r j x) s i ≡ entry_in t s i
  at-apart a h = by_range (ltb j r.1) refl
    where
      by_range : (b : Bool) → ltb j r.1 ≡ b → entry_in (put_in t r j x) s i ≡ entry_in t s i
      by_range true p = kept h (ltb-true j r.1 p) (apart-differ s r i j a h (ltb-true j r.1 p))
      by_range false p = rw (put_outside t r j x (ltb-false j r.1 p))

  -- one write that is made
  entry-put : (is_section s r || is_apart s r) ≡ true
      → entry_in (put_in t r j x) s i ≡ cond (is_section s r) (cond (eqb j i && ltb i s.1) x (entry_in t s i)) (entry_in t s i)
  entry-put o = by_range (ltb i s.1) refl
    where
      none : (b d : Bool) (old : ℕ) → cond b (cond (d && false) x old) old ≡ old
      none true true old = refl
      none true false old = refl
      none false d old = refl

      inside : (d : Bool) (old : ℕ) → cond (d && true) x old ≡ cond d x old
      inside true old = refl
      inside false old = refl

      by_section : i < s.1 → (b : Bool) → is_section s r ≡ b → entry_in (put_in t r j x) s i ≡ cond b
          (cond (eqb j i && true) x (entry_in t s i)) (entry_in t s i)
      by_section h true e = at_same e h ∙ sym (inside (eqb j i) (entry_in t s i))
      by_section h false e = at-apart (either (is_section s r) (is_apart s r) o e) h

      by_range : (b : Bool) → ltb i s.1 ≡ b → entry_in (put_in t r j x) s i ≡ cond (is_section s r)
          (cond (eqb j i && b) x (entry_in t s i)) (entry_in t s i)
      by_range true p = by_section (ltb-true i s.1 p) (is_section s r) refl
      by_range false p =
          rw (
            none (is_section s r) (eqb j i) (entry_in t s i),
            entry_outside (put_in t r j x) s i (ltb-false i s.1 p),
            entry_outside t s i (ltb-false i s.1 p),
          )

-- a write is to this section or apart from it
abbrev pub is_sorted : Section → Write → Bool
is_sorted s w = is_section s w.section || is_apart s w.section

-- one write
entry-made : (t : List ℕ) (w : Write) (s : Section) → s.0 + s.1 ≤ length t → is_sorted s w ≡ true → (i : ℕ)
    → entry_in (made t w) s i ≡ changed s w i (entry_in t s i)
unfolding made
entry-made t w s fits o i = by_test w.on
  where
    both : (b : Bool) → entry_in t s i ≡ cond b (entry_in t s i) (entry_in t s i)
    both true = refl
    both false = refl

    by_test : (b : Bool) → entry_in (cond b (put_in t w.section w.cell w.value) t) s i ≡ cond (is_section s w.section)
        (cond (b && (eqb w.cell i && ltb i s.1)) w.value (entry_in t s i)) (entry_in t s i)
    by_test true = entry-put t s w.section w.cell w.value i fits o
    by_test false = both (is_section s w.section)

-- each write is to this section or apart from it
abbrev pub sorted : Section → List Write → Bool
sorted s [] = true
sorted s (w ∷ ws) = is_sorted s w && sorted s ws

-- cell i of a section after writes
abbrev pub left : Section → List Write → ℕ → ℕ → ℕ
left s [] i old = old
left s (w ∷ ws) i old = left s ws i (changed s w i old)

pub length-written : (t : List ℕ) (ws : List Write) → length (written t ws) ≡ length t
length-written t [] = refl
length-written t (w ∷ ws) = length-written (made t w) ws ∙ length-made t w

pub entry-written : (t : List ℕ) (ws : List Write) (s : Section) → s.0 + s.1 ≤ length t → sorted s ws ≡ true → (i : ℕ)
    → entry_in (written t ws) s i ≡ left s ws i (entry_in t s i)
entry-written t [] s fits o i = refl
entry-written t (w ∷ ws) s fits o i =
    entry-written (made t w) ws s (rw (length-made t w) fits) (and_right (is_sorted s w) _ o) i
    ∙ ap (left s ws i) (entry-made t w s fits (and_left (is_sorted s w) _ o) i)

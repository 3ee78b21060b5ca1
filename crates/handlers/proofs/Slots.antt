-- A place that is stored in a slot is read back, and the other slots keep theirs.
use Prim.Native.Nat.{ℕ, ◌+◌, ◌*◌, ◌≤◌, ◌<◌}
use mathlib.Core.Path.{◌≡◌, refl, sym, ap, ◌∙◌}
use mathlib.Core.Bool.{Bool, true, false, cond}
use mathlib.Core.List.{List, [], ◌∷◌}
use native.Mathlib.Omega.{arith}
use mathlib.Core.Logic.{◌⊎◌, inl, inr, ⊎_elim}
use lib.Dec.{leb, ltb}
use lib.ListN.{length, get_or}
use borrow.Author.Tests.{eqb-true, eq-eqb, leb-true, le-leb, ltb-true, ltb-false}
use Rattle.model.specs.Command.{Command, number_at}
use Rattle.model.specs.Declared.{is_handler, open_body, belongs, body_length}
use Rattle.model.specs.Conclusion.{Reads, begin, further}
use Rattle.model.specs.Valid.{Valid}
use Rattle.model.proofs.Logic.{and_left, and_right}
use Rattle.model.proofs.Lists.{length-only, only-each}
use Rattle.model.proofs.Growth.{body_next}
use Rattle.model.proofs.Naming.{open_inside}
use Rattle.model.proofs.Reading.{read_at}
use Rattle.model.proofs.Valid.{limits, reads-valid}
use Rattle.writing.specs.Writing.{placed, Writes}
use Rattle.writing.proofs.Placing.{length-placed, placed-inside, placed_outside}
use Rattle.handlers.specs.Loading.{slot_of, bytes2, stored, loaded, places_of, place_in}

-- the length stays
length-stored : (w : List ℕ) (at place : ℕ) → length (stored w at place) ≡ length w
length-stored w at place = by_room (leb (at + 2) (length w)) refl
  where
    by_room : (t : Bool) → leb (at + 2) (length w) ≡ t → length (cond t (placed w at (bytes2 place)) w) ≡ length w
    by_room true e = length-placed w at (bytes2 place) (leb-true (at + 2) (length w) e)
    by_room false e = refl

-- a place is stored by writing its two bytes, or not at all
module _ (w : List ℕ) (n i place at : ℕ) (slot : at ≡ slot_of n i) where
  pub store_writes :
      (after : List ℕ) (next : ℕ) → at + 2 ≤ length w → Writes (bytes2 place) w at after next → after ≡ stored w (slot_of n i) place
  store_writes after next h p = rw (← slot, le-leb (at + 2) (length w) h) p.buffer

pub length-loaded : (w : List ℕ) (past : List Command) → length (loaded w past) ≡ length w
unfolding loaded
length-loaded w [] = refl
length-loaded w (c ∷ past) = by_handler (is_handler c) (length-loaded w past)
  where
    by_handler :
        (t : Bool) → length (loaded w past) ≡ length w
        → length (cond t (stored (loaded w past) (slot_of (open_body past) (body_length past (open_body past))) c.place) (loaded w past))
        ≡ length w
    by_handler true h = length-stored (loaded w past) (slot_of (open_body past) (body_length past (open_body past))) c.place ∙ h
    by_handler false h = h

-- a byte that is none of the two
other_byte : (w : List ℕ) (at place k : ℕ) → (k < at) ⊎ (at + 2 ≤ k) → get_or (stored w at place) k 0 ≡ get_or w k 0
other_byte w at place k h = by_room (leb (at + 2) (length w)) refl
  where
    by_room : (t : Bool) → leb (at + 2) (length w) ≡ t → get_or (cond t (placed w at (bytes2 place)) w) k 0 ≡ get_or w k 0
    by_room true e = placed_outside w at (bytes2 place) k (omega (arith, leb-true (at + 2) (length w) e)) h
    by_room false e = refl

-- a number of two bytes
pub number_two : (w : List ℕ) (at : ℕ) → number_at w at 2 ≡ get_or w at 0 + get_or w (at + 1) 0 * 256
unfolding number_at
number_two w at = omega arith

-- a place of two bytes is read back from its slot
place_same : (w : List ℕ) (n i place : ℕ) → slot_of n i + 2 ≤ length w → place < 65536 → place_in (stored w (slot_of n i) place) n i ≡ place
place_same w n i place fits small =
    let e : slot_of n i + 0 ≡ slot_of n i = omega arith in
    number_two (stored w (slot_of n i) place) (slot_of n i) ∙ rw (rw e at (own 0 (omega arith)), own 1 (omega arith)) (omega arith)
  where
    own : (j : ℕ) → j < 2 → get_or (stored w (slot_of n i) place) (slot_of n i + j) 0 ≡ get_or (bytes2 place) j 0
    own j h = rw (le-leb (slot_of n i + 2) (length w) fits) (placed-inside w (slot_of n i) (bytes2 place) j (omega arith) h)

-- another slot keeps its place
place_other : (w : List ℕ) (n i m j place : ℕ) → i < 64 → j < 64 → (n ≡ m → i ≡ j → ⊥) → place_in (stored w (slot_of n i) place) m j ≡ place_in w m j
place_other w n i m j place h l differ =
    let e : slot_of m j + 0 ≡ slot_of m j = omega arith in
    number_two (stored w (slot_of n i) place) (slot_of m j)
    ∙ rw (rw e at (kept 0 (omega arith)), kept 1 (omega arith)) (sym (number_two w (slot_of m j)))
  where
    side : (slot_of m j + 2 ≤ slot_of n i) ⊎ (slot_of n i + 2 ≤ slot_of m j)
    side = by_slot (ltb (m * 64 + j) (n * 64 + i)) refl
      where
        apart : m * 64 + j ≡ n * 64 + i → ⊥
        apart e = differ (omega arith) (omega arith)

        by_slot : (s : Bool) → ltb (m * 64 + j) (n * 64 + i) ≡ s → (slot_of m j + 2 ≤ slot_of n i) ⊎ (slot_of n i + 2 ≤ slot_of m j)
        by_slot true e = inl (omega (arith, ltb-true (m * 64 + j) (n * 64 + i) e))
        by_slot false e = inr (omega (arith, ltb-false (m * 64 + j) (n * 64 + i) e, apart))

    kept : (k : ℕ) → k < 2 → get_or (stored w (slot_of n i) place) (slot_of m j + k) 0 ≡ get_or w (slot_of m j + k) 0
    kept k z = other_byte w (slot_of n i) place (slot_of m j + k) (⊎_elim (λ s. inl (omega arith)) (λ s. inr (omega arith)) side)

-- as many places as commands
pub length-places : (past : List Command) (n : ℕ) → length (places_of past n) ≡ body_length past n
unfolding places_of body_length
length-places [] n = refl
length-places (c ∷ past) n = length-only (places_of past n) (belongs past c n) c.place ∙ rw (length-places past n)

-- a handler command has a slot
room : (past : List Command) (c : Command) → Valid (c ∷ past) → is_handler c ≡ true → body_length past (open_body past) < 64
room past c v handler =
    let e : body_length (c ∷ past) (open_body past) ≡ body_length past (open_body past) + 1 = body_next c past (open_body past)
    ∙ rw (handler, eq-eqb (open_body past) (open_body past) refl) in
    omega (arith, (limits (c ∷ past) v).handlers (open_body past))

-- one more command: the places before it stay, and its own is read back
module _ (u : List ℕ) (past : List Command) (c : Command) (size : 4096 ≤ length u) (v : Valid (c ∷ past)) (small : c.place < 65536)
    (n : ℕ) (ih : (i : ℕ) → i < length (places_of past n) → place_in u n i ≡ get_or (places_of past n) i 0) where
  more : List ℕ
  more = cond (is_handler c) (stored u (slot_of (open_body past) (body_length past (open_body past))) c.place) u

  older : (i : ℕ) → i < length (places_of past n) → place_in more n i ≡ get_or (places_of past n) i 0
  unfolding more
  older i h = by_handler (is_handler c) refl
    where
      by_handler :
          (t : Bool) → is_handler c ≡ t
          → place_in (cond t (stored u (slot_of (open_body past) (body_length past (open_body past))) c.place) u) n i
          ≡ get_or (places_of past n) i 0
      by_handler false e = ih i h
      by_handler true e =
          let short : i < body_length past n = omega (arith, length-places past n) in
          place_other u (open_body past) (body_length past (open_body past)) n i c.place (room past c v e)
          (omega (arith, (limits past v.0).handlers n)) (λ p q. let s = ap (body_length past) p in omega arith)
          ∙ ih i h

  newest : belongs past c n ≡ true → place_in more n (length (places_of past n)) ≡ c.place
  unfolding more
  newest e =
      let handler = and_left (is_handler c) _ e in
      let here : open_body past ≡ n = eqb-true (open_body past) n (and_right (is_handler c) _ e) in
      rw (handler, length-places past n, ← here)
      (place_same u (open_body past) (body_length past (open_body past)) c.place
      (omega (arith, room past c v handler, open_inside past v.0)) small)

-- the places of a job's handlers, read back from the slots
pub place-loaded :
    {job : List ℕ} {at : ℕ} {past : List Command} (w : List ℕ) → 4096 ≤ length w → length job ≤ 65536 → Reads job at past
    → (n i : ℕ) → i < length (places_of past n) → place_in (loaded w past) n i ≡ get_or (places_of past n) i 0
unfolding loaded places_of more
place-loaded w size long begin n = λ i h. absurd (omega arith)
place-loaded {job} w size long (further place past c next reads inside e v) n =
    let r = read_at job place c next e in
    let u = loaded w past in
    let valid : Valid (c ∷ past) = (reads-valid reads, r.plain, v) in
    let long-enough : 4096 ≤ length u = omega (arith, length-loaded w past) in
    let small : c.place < 65536 = omega (arith, r.here) in
    let ih = place-loaded w size long reads n in
    only-each (λ i p. place_in (more u past c long-enough valid small n ih) n i ≡ p) 0 (places_of past n) (belongs past c n) c.place
    (older u past c long-enough valid small n ih) (newest u past c long-enough valid small n ih)

-- the bytes after the slots stay
pub beyond-loaded : (w : List ℕ) (past : List Command) → Valid past → (k : ℕ) → 4096 ≤ k → get_or (loaded w past) k 0 ≡ get_or w k 0
unfolding loaded
beyond-loaded w [] v k h = refl
beyond-loaded w (c ∷ past) v k h = by_handler (is_handler c) refl (beyond-loaded w past v.0 k h)
  where
    by_handler :
        (t : Bool) → is_handler c ≡ t → get_or (loaded w past) k 0 ≡ get_or w k 0
        → get_or (cond t (stored (loaded w past) (slot_of (open_body past) (body_length past (open_body past))) c.place) (loaded w past)) k 0
        ≡ get_or w k 0
    by_handler true e ih =
        let r = room past c v e in
        other_byte (loaded w past) (slot_of (open_body past) (body_length past (open_body past))) c.place k
        (inr (omega (arith, open_inside past v.0))) ∙ ih
    by_handler false e ih = ih

-- A send: its targets one by one, and what it leaves in counts and slots is what the model delivers.
use Prim.Native.Nat.{ℕ, zero, suc, ◌+◌, ◌*◌, ◌≤◌, ◌<◌}
use mathlib.Core.Path.{◌≡◌, refl, sym, ap, subst, ◌∙◌}
use mathlib.Core.Bool.{Bool, true, false, cond, ◌&&◌, or-false}
use mathlib.Core.List.{List, [], ◌∷◌, ◌++◌}
use native.Mathlib.Omega.{arith}
use native.Mathlib.Numerals.{add-one}
use lib.Dec.{leb}
use lib.ListN.{length, get_or, set, length-set}
use lib.Seq.{get_or-set_other}
use borrow.Author.Tests.{leb-false}
use Rattle.std.specs.List.{list_any, filter, range_with_len}
use Rattle.std.proofs.lemmas.List.Folds.{list_any-append}
use Rattle.model.specs.Table.{max_waiting}
use Rattle.model.specs.State.{Message, message_from}
use Rattle.model.specs.Turn.{some_below, delivered}
use Rattle.model.proofs.Turns.{some-none, delivered_target, delivered-other}
use Rattle.tables.specs.Bits.{bit_of, places}
use Rattle.tables.proofs.Places.{places-agree}
use Rattle.memory.specs.Queues.{paired, queues, count_at, BoundedCounts, Holds, BringsOnly, full, stored, counted}
use Rattle.memory.proofs.Pairing.{paired-set, length-paired}
use Rattle.memory.proofs.Waiting.{bounded-set, queues_pushed, brings-set}

-- at this target 16 messages wait
abbrev pub held : (ℕ → Bool) → List ℕ → ℕ → Bool
held target ws k = target k && leb max_waiting (get_or ws k 0)

-- one number more at the end
pub range-more : (a n : ℕ) → range_with_len a n ++ ((a + n) ∷ []) ≡ range_with_len a (suc n)
range-more a zero = let e : a + 0 ≡ a = omega arith in rw e
range-more a (suc n) = let e : a + suc n ≡ a + 1 + n = omega arith in rw e (ap (λ (l : List ℕ). a ∷ l) (range-more (a + 1) n))

-- a search through the numbers below n asks each of them
pub any-below : (test : ℕ → Bool) (n : ℕ) → list_any test (range_with_len 0 n) ≡ some_below test n
unfolding some_below
any-below test zero = refl
any-below test (suc n) =
    let e : 0 + n ≡ n = omega arith in
    ap (list_any test) (sym (range-more 0 n)) ∙ list_any-append test (range_with_len 0 n) ((0 + n) ∷ []) ∙ rw (any-below test n, or-false, e)

-- where no target is full, each has room
full-none : (target : ℕ → Bool) (ws : List ℕ) (k : ℕ) → full target (count_at ws) ≡ false → k < 32 → target k ≡ true → get_or ws k 0 < 16
full-none target ws k f h e = leb-false 16 (get_or ws k 0) (rw e at (some-none (held target ws) 32 f k h))

-- one node more, a target or not
module _ (target : ℕ → Bool) (ws : List ℕ) where
  pub counted_target : (k : ℕ) → target k ≡ true → set (counted target ws k) k (get_or ws k 0 + 1) ≡ counted target ws (k + 1)
  unfolding counted
  counted_target k e = rw (add-one k, e)

  pub counted-other : (k : ℕ) → target k ≡ false → counted target ws k ≡ counted target ws (k + 1)
  unfolding counted
  counted-other k e = rw (add-one k, e)

  module _ (x : ℕ) (slots : List ℕ) (k : ℕ) where
    stored_target : target k ≡ true → set (stored target ws x slots k) (k * 16 + get_or ws k 0) x ≡ stored target ws x slots (k + 1)
    unfolding stored
    stored_target e = rw (add-one k, e)

    stored_other : target k ≡ false → stored target ws x slots k ≡ stored target ws x slots (k + 1)
    unfolding stored
    stored_other e = rw (add-one k, e)

  -- the counts from k on are those before
  pub counted-later : (k i : ℕ) → k ≤ i → get_or (counted target ws k) i 0 ≡ get_or ws i 0
  unfolding counted
  counted-later zero i h = refl
  counted-later (suc k) i h = by_target (target k) (counted-later k i (omega arith))
    where
      by_target : (b : Bool) → get_or (counted target ws k) i 0 ≡ get_or ws i 0
          → get_or (cond b (set (counted target ws k) k (get_or ws k 0 + 1)) (counted target ws k)) i 0 ≡ get_or ws i 0
      by_target true ih = get_or-set_other (counted target ws k) k i (get_or ws k 0 + 1) 0 (λ q. omega arith) ∙ ih
      by_target false ih = ih

-- a send: what it leaves in counts, values and senders
module _ (value from : ℕ) (ws' values' senders' : List ℕ) where
  -- a message more for each of these places, each of which has room, leads from counts, values and senders there
  abbrev pub Sends : List ℕ → List ℕ → List ℕ → List ℕ → Type 0
  Sends [] ws values senders = (ws ≡ ws') × (values ≡ values') × (senders ≡ senders')
  Sends (k ∷ ks) ws values senders =
      (k < 32) × (get_or ws k 0 < 16)
      × Sends ks (set ws k (get_or ws k 0 + 1)) (set values (k * 16 + get_or ws k 0) value) (set senders (k * 16 + get_or ws k 0) from)

-- the targets from node a on lead from what stands after those below a to what stands after all
module _ (target : ℕ → Bool) (value from : ℕ) (ws values senders : List ℕ) (free : full target (count_at ws) ≡ false) where
  abbrev pub SendsAll : List ℕ → List ℕ → List ℕ → List ℕ → Type 0
  SendsAll = Sends value from (counted target ws 32) (stored target ws value values 32) (stored target ws from senders 32)

  sends-later : (n a : ℕ) → a + n ≡ 32
      → SendsAll (filter target (range_with_len a n)) (counted target ws a) (stored target ws value values a) (stored target ws from senders a)
  sends-later zero a e = let whole : a ≡ 32 = omega arith in rw whole (refl, refl, refl)
  sends-later (suc n) a e = by_target (target a) refl (sends-later n (a + 1) (omega arith))
    where
      by_target :
          (b : Bool) → target a ≡ b
          → SendsAll (filter target (range_with_len (a + 1) n)) (counted target ws (a + 1)) (stored target ws value values (a + 1))
          (stored target ws from senders (a + 1))
          → SendsAll (cond b (a ∷ filter target (range_with_len (a + 1) n)) (filter target (range_with_len (a + 1) n))) (counted target ws a)
          (stored target ws value values a) (stored target ws from senders a)
      by_target true here ih =
          rw (counted-later target ws a a (omega arith)) (
            omega arith,
            full-none target ws a free (omega arith) here,
            rw (counted_target target ws a here, stored_target target ws value values a here, stored_target target ws from senders a here) ih,
          )
      by_target false here ih =
          rw (counted-other target ws a here, stored_other target ws value values a here, stored_other target ws from senders a here) ih

  pub sends-all : (all : ℕ) → ((i : ℕ) → i < 32 → bit_of all i ≡ target i) → SendsAll (places all) ws values senders
  unfolding counted stored
  sends-all all agree = subst (λ (ks : List ℕ). SendsAll ks ws values senders) (sym (places-agree all target agree)) (sends-later 32 0 refl)

-- after the nodes below k: the queues are those that the model delivers, the others have room, and nothing but the message was brought in
pub record Served (target : ℕ → Bool) (m : Message) (ws₀ : List ℕ) (slots₀ : List Message) (k : ℕ) (ws : List ℕ) (slots : List Message) :
    Type 0 where
  pub counts : length ws ≡ 32
  pub places : length slots ≡ 512
  pub room : (i : ℕ) → k ≤ i → i < 32 → target i ≡ true → get_or ws i 0 < 16
  pub holds : Holds ws slots (delivered target m (queues ws₀ slots₀) k)
  pub brings : BringsOnly (λ i. m) slots₀ slots

module _ {target : ℕ → Bool} {m : Message} {ws₀ : List ℕ} {slots₀ : List Message} {k : ℕ} {ws : List ℕ} {slots : List Message}
    (s : Served target m ws₀ slots₀ k ws slots) where
  served_target : k < 32 → target k ≡ true → Served target m ws₀ slots₀ (k + 1) (set ws k (get_or ws k 0 + 1))
      (set slots (k * 16 + get_or ws k 0) m)
  served_target h e =
      let less = s.room k (omega arith) h e in
      let bounded = s.holds.bounded in
      record {
        counts = length-set ws k (get_or ws k 0 + 1) ∙ s.counts;
        places = length-set slots (k * 16 + get_or ws k 0) m ∙ s.places;
        room = λ i l g y. rw (get_or-set_other ws k i (get_or ws k 0 + 1) 0 (λ q. omega arith)) (s.room i (omega arith) g y);
        holds = record {
          bounded = bounded-set ws k (get_or ws k 0 + 1) bounded (omega (arith, s.counts)) (omega (arith, less));
          same = queues_pushed ws slots k bounded (omega (arith, s.places)) m less
              ∙ rw (s.holds.same, add-one k, delivered_target target m (queues ws₀ slots₀) k e);
        };
        brings = brings-set (λ i. m) slots₀ slots (k * 16 + get_or ws k 0) m 0 refl s.brings;
      }

  served-other : target k ≡ false → Served target m ws₀ slots₀ (k + 1) ws slots
  served-other e = record {
    counts = s.counts;
    places = s.places;
    room = λ i l. s.room i (omega arith);
    holds = rw (add-one k, delivered-other target m (queues ws₀ slots₀) k e) s.holds;
    brings = s.brings;
  }

-- what `counted` and `stored` leave, in both arrays
module _
    (target : ℕ → Bool) (n v : ℕ) (ws values senders : List ℕ) (counts : length ws ≡ 32) (places : length values ≡ 512)
    (beside : length senders ≡ 512) (bounded : BoundedCounts ws) (free : full target (count_at ws) ≡ false)
  where
    abbrev slots : ℕ → List Message
    slots k = paired (stored target ws v values k) (stored target ws n senders k)

    pub served : (k : ℕ) → k ≤ 32 → Served target (message_from n v) ws (paired values senders) k (counted target ws k) (slots k)
    unfolding delivered counted stored
    served zero h = record {
      counts = counts;
      places = length-paired values senders (places ∙ sym beside) ∙ places;
      room = λ i _. full-none target ws i free;
      holds = record { bounded = bounded; same = refl };
      brings = λ test own all. all;
    }
    served (suc k) h = by_target (target k) refl (served k (omega arith))
      where
        by_target :
            (b : Bool) → target k ≡ b → Served target (message_from n v) ws (paired values senders) k (counted target ws k) (slots k)
            → Served target (message_from n v) ws (paired values senders) (suc k)
            (cond b (set (counted target ws k) k (get_or ws k 0 + 1)) (counted target ws k))
            (paired (cond b (set (stored target ws v values k) (k * 16 + get_or ws k 0) v) (stored target ws v values k))
            (cond b (set (stored target ws n senders k) (k * 16 + get_or ws k 0) n) (stored target ws n senders k)))
        by_target false e s = rw (← add-one k) (served-other s e)
        by_target true e s =
            let one = served_target s (omega arith) e in
            rw (← add-one k, paired-set (stored target ws v values k) (stored target ws n senders k) (k * 16 + get_or ws k 0) v n)
            (rw (counted-later target ws k k (omega arith)) at one)

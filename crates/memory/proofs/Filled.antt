-- Tables and queues that are filled place by place.
use Prim.Native.Nat.{ℕ, ◌+◌, ◌*◌, ◌≤◌, ◌<◌}
use mathlib.Core.Path.{◌≡◌, refl, sym, ◌∙◌}
use mathlib.Core.List.{List, [], ◌∷◌}
use mathlib.Core.Logic.{◌⊎◌, inl, inr, ⊎_elim}
use native.Mathlib.Omega.{arith}
use lib.ListN.{length, get_or, take, drop, set, length-set, length-drop}
use lib.Seq.{ext_get_or, get_or-set_same, get_or-set_other, drop-set-add, take-suc-set}
use borrow.Author.Count.{below_more}
use Rattle.model.specs.State.{Message, tabulate}
use Rattle.model.proofs.Lists.{length-tabulate, get_or-tabulate, get_or-each}
use Rattle.memory.specs.Queues.{queues, Holds}
use Rattle.memory.proofs.Waiting.{length-queues, queues_change, part-set}

-- a list of k elements, the first n of which are a function's values
pub record Filled {A : Type 0} (f : ℕ → A) (d : A) (k n : ℕ) (l : List A) : Type 0 where
  pub size : length l ≡ k
  pub each : (i : ℕ) → i < n → get_or l i d ≡ f i

pub filled_none : {A : Type 0} (f : ℕ → A) (d : A) (k : ℕ) (l : List A) → length l ≡ k → Filled f d k 0 l
filled_none f d k l e = record { size = e; each = λ i h. absurd (omega arith) }

-- one element more
pub filled_more : {A : Type 0} {f : ℕ → A} {d : A} {k n : ℕ} {l : List A} → Filled f d k n l → n < k → (a : A) → a ≡ f n
    → Filled f d k (n + 1) (set l n a)
filled_more {A} {f} {d} {k} {n} {l} s h a e =
    record {
      size = length-set l n a ∙ s.size;
      each = below_more (λ i. get_or (set l n a) i d ≡ f i) n (λ i b. get_or-set_other l n i a d (λ q. omega arith) ∙ s.each i b)
          (get_or-set_same l n a d (omega (arith, s.size)) ∙ e);
    }

-- a full one is the table
pub filled-all : {A : Type 0} {f : ℕ → A} {d : A} {k n : ℕ} {l : List A} → Filled f d k n l → k ≤ n → l ≡ tabulate k f
filled-all {A} {f} {d} {k} {n} {l} s h =
    ext_get_or d l (tabulate k f) (s.size ∙ sym (length-tabulate k f))
    (λ i b. let below : i < k = omega (arith, s.size) in s.each i (omega arith) ∙ sym (get_or-tabulate k i f d below))

-- slots whose first n queues are a function's values; of the counts after them nothing is known
pub record Queued (f : ℕ → List Message) (n : ℕ) (ws : List ℕ) (slots : List Message) : Type 0 where
  pub places : length slots ≡ 512
  pub bounded : (i : ℕ) → i < n → get_or ws i 0 ≤ 16
  pub filled : Filled f [] 32 n (queues ws slots)

pub queued_none : (f : ℕ → List Message) (ws : List ℕ) (slots : List Message) → length slots ≡ 512 → length ws ≡ 32 → Queued f 0 ws slots
queued_none f ws slots e c = record {
  places = e;
  bounded = λ i h. absurd (omega arith);
  filled = filled_none f [] 32 (queues ws slots)
      (length-queues ws slots ∙ c);
}

module _ {f : ℕ → List Message} {n : ℕ} {ws : List ℕ} {slots : List Message} (s : Queued f n ws slots) where
  -- one count a queue
  counts : length ws ≡ 32
  counts = sym (length-queues ws slots) ∙ s.filled.size

  -- one queue more, where the others stay
  queued_more :
      (w : ℕ) (slots' : List Message) → n < 32 → w ≤ 16 → length slots' ≡ 512
      → ((i : ℕ) → (i < n) ⊎ (n < i) → take (get_or ws i 0) (drop (16 * i) slots') ≡ take (get_or ws i 0) (drop (16 * i) slots))
      → take w (drop (16 * n) slots') ≡ f n → Queued f (n + 1) (set ws n w) slots'
  queued_more w slots' h small e same mine =
      let now : get_or (set ws n w) n 0 ≡ w = get_or-set_same ws n w 0 (omega (arith, counts)) in
      record {
        places = e;
        bounded = below_more (λ i. get_or (set ws n w) i 0 ≤ 16) n (λ i b. rw (get_or-set_other ws n i w 0 (λ q. omega arith)) (s.bounded i b))
            (rw now small);
        filled = rw (queues_change ws slots slots' n w same) (filled_more s.filled h (take w (drop (16 * n) slots')) mine);
      }

  -- no message, or one, in the next queue
  pub queued_empty : n < 32 → [] ≡ f n → Queued f (n + 1) (set ws n 0) slots
  queued_empty h e = queued_more 0 slots h (omega arith) s.places (λ i o. refl) e

  pub queued_one : (m : Message) → n < 32 → m ∷ [] ≡ f n → Queued f (n + 1) (set ws n 1) (set slots (n * 16) m)
  queued_one m h e = queued_more 1 (set slots (n * 16) m) h (omega arith) (length-set slots (n * 16) m ∙ s.places) same mine
    where
      same : (i : ℕ) → (i < n) ⊎ (n < i) → take (get_or ws i 0) (drop (16 * i) (set slots (n * 16) m)) ≡ take (get_or ws i 0)
          (drop (16 * i) slots)
      same i o = part-set slots (16 * i) (get_or ws i 0) (n * 16) m
          (⊎_elim (λ b. inr (omega (arith, s.bounded i b))) (λ b. inl (omega arith)) o)

      mine : take 1 (drop (16 * n) (set slots (n * 16) m)) ≡ f n
      mine =
          let q : n * 16 ≡ 16 * n + 0 = omega arith in
          let long : 0 < length (drop (16 * n) slots) = simp length-drop (omega (arith, s.places)) in
          rw (q, drop-set-add (16 * n) slots 0 m, take-suc-set (drop (16 * n) slots) 0 m long) e

  -- all queues are filled: the counts are bounded, the queues are the table
  pub queued_all : 32 ≤ n → Holds ws slots (tabulate 32 f)
  queued_all h = record {
    bounded = get_or-each (λ i w. w ≤ 16) 0 ws (λ i b. s.bounded i (omega (arith, counts))) (λ i. omega arith);
    same = filled-all s.filled h;
  }

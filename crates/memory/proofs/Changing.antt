-- What a change leaves in the arrays is what it leaves of the queues.
use Prim.Native.Nat.{ℕ, ◌-◌, ◌*◌, ◌<◌}
use mathlib.Core.Path.{◌≡◌, refl, sym, ◌∙◌}
use mathlib.Core.Bool.{Bool, true}
use mathlib.Core.List.{List}
use native.Mathlib.Omega.{arith}
use lib.ListN.{length, get_or, length-set}
use Rattle.model.specs.State.{message_from}
use Rattle.model.proofs.Logic.{true_false}
use Rattle.memory.specs.declared.Change.{Change}
use Rattle.memory.specs.declared.Change.TheVariants as c
use Rattle.memory.specs.Queues.{paired, queues, count_at, BoundedCounts, Holds, BringsOnly}
use Rattle.memory.specs.Changes.{queues_after, slots_after, counts_after, Possible, is_nothing}
use Rattle.memory.proofs.Pairing.{length-paired, paired-shifted}
use Rattle.memory.proofs.Waiting.{bounded-set, queues_popped, length-shifted, brings-shifted}
use Rattle.memory.proofs.Sending.{served}

-- the arrays afterwards (`ws'`, `values'`, `senders'`) have as many places, and hold the queues after the change of node n, and nothing but
-- the value, sent by n, is brought in; where nothing is changed they are the arrays before, free slots included
pub record Changes (wired : ℕ → ℕ → Bool) (n v : ℕ) (change : Change) (ws values senders ws' values' senders' : List ℕ) : Type 0 where
  pub counts : length ws' ≡ 32
  pub places : length (paired values' senders') ≡ 512
  pub holds : Holds ws' (paired values' senders') (queues_after wired n v (queues ws (paired values senders)) change)
  pub brings : BringsOnly (λ k. message_from n v) (paired values senders) (paired values' senders')
  pub kept : is_nothing change ≡ true → (ws' ≡ ws) × (values' ≡ values) × (senders' ≡ senders)

module _
    (wired : ℕ → ℕ → Bool) (n v : ℕ) (ws values senders : List ℕ) (counts : length ws ≡ 32) (places : length values ≡ 512)
    (beside : length senders ≡ 512) (bounded : BoundedCounts ws) (inside : n < 32)
  where
    same_length : length values ≡ length senders
    same_length = places ∙ sym beside

    long : length (paired values senders) ≡ 512
    long = length-paired values senders same_length ∙ places

    left : (change : Change) → Holds ws (paired values senders) (queues ws (paired values senders))
    left change = record { bounded = bounded; same = refl }

    pub changed :
        (change : Change) → Possible wired n (count_at ws) change
        → Changes wired n v change ws values senders (counts_after wired n ws change) (slots_after wired n v ws values change)
        (slots_after wired n n ws senders change)
    changed c.Nothing h = record {
      counts = counts;
      places = long;
      holds = left c.Nothing;
      brings = λ test own all. all;
      kept = λ _.
          (refl, refl, refl);
    }
    changed (c.Store x) h = record {
      counts = counts;
      places = long;
      holds = left (c.Store x);
      brings = λ test own all. all;
      kept = λ
          e. true_false (sym e);
    }
    changed c.Take h =
        record {
          counts = length-set ws n (get_or ws n 0 - 1) ∙ counts;
          places = rw (paired-shifted values senders same_length (n * 16) 15) (length-shifted (paired values senders) (n * 16) 15 (omega
              (arith, long)) ∙ long);
          holds = record {
            bounded = bounded-set ws n (get_or ws n 0 - 1) bounded (omega (arith, counts)) (omega (arith, bounded n));
            same = rw (paired-shifted values senders same_length (n * 16) 15)
                (queues_popped ws (paired values senders) n bounded (omega (arith, long)) (omega (arith, h)));
          };
          brings = rw (paired-shifted values senders same_length (n * 16) 15)
              (brings-shifted (paired values senders) (n * 16) 15 (omega (arith, long)) (λ k. message_from n v));
          kept = λ e. true_false (sym e);
        }
    changed (c.Send port) h =
        let s = served (wired port) n v ws values senders counts places beside bounded h 32 (omega arith) in
        record { counts = s.counts; places = s.places; holds = s.holds; brings = s.brings; kept = λ e. true_false (sym e) }

-- The plan of a turn, carried out on the state's arrays, is the turn.
use Rattle.std.proofs.Common.{Option}
use Rattle.command.specs.declared.instruction.Instruction.{Instruction}
use Prim.Native.Nat.{ℕ, ◌*◌, ◌≤◌, ◌<◌}
use mathlib.Core.Path.{◌≡◌, refl, sym, ◌∙◌, ap, ap₂, subst, fun_ext}
use mathlib.Core.Bool.{Bool}
use mathlib.Core.List.{List}
use mathlib.Core.Logic.{inl}
use native.Mathlib.Omega.{arith}
use lib.ListN.{length, get_or, set}
use lib.Seq.{set-get_or, get_or-set_same}
use Rattle.model.specs.Table.{NODE}
use Rattle.model.specs.State.{Message, message_from, State as Meant, position_at, accumulator_at, waiting_at}
use Rattle.model.specs.Turn.{oldest}
use Rattle.command.specs.declared.numbers.NodeNum.{NodeNum}
use Rattle.command.specs.Instructions.{fetched_of, command_in}
use Rattle.command.proofs.Fetching.{standing, standing-there}
use Rattle.tables.specs.Tables.{count_in, wired_in}
use Rattle.tables.specs.Programs.{Handlers, program_in}
use Rattle.entries.specs.Entries.{Comes, rule_of}
use Rattle.memory.specs.Queues.{paired, count_at, BoundedCounts}
use Rattle.memory.specs.Ready.{ready_count_in, Among, ReadyCounted}
use Rattle.memory.proofs.Readying.{count-shown}
use Rattle.memory.proofs.Pairing.{length-paired, get_or-paired}
use Rattle.memory.proofs.Waiting.{count_at_lem, oldest-is}
use Rattle.memory.proofs.Changing.{Changes, changed}
use Rattle.memory.specs.declared.Registers.{Registers}
use Rattle.memory.specs.declared.Change.{Change}
use Rattle.memory.specs.Changes.{registers_at, slots_after, counts_after, variables_after, Possible, is_nothing}
use Rattle.plans.specs.declared.Plan.{Plan}
use Rattle.plans.specs.Plans.{Plans, PlansTurn, IdlesAtEnd, PlansReady}
use Rattle.engine.specs.declared.State.{State}
use Rattle.engine.specs.Engine.{view, CountsReady, Turns}

-- the lengths of a state's arrays that a turn of it asks for
pub record Lengths (s : State) : Type 0 where
  pub positions : length s.position ≡ 32
  pub counts : length s.waiting ≡ 32
  pub places : length s.queue ≡ 512
  pub beside : length s.sender ≡ 512

module _ (t : List ℕ) (fetched : Option Instruction) (s : State) (n : NodeNum) (monitored : Bool) (bounded : BoundedCounts s.waiting)
    (lengths : Lengths s) where
  -- as many values as senders
  alike : length s.queue ≡ length s.sender
  alike = lengths.places ∙ sym lengths.beside

  -- as many messages wait in the model's state as the counts say
  waiting-at : (k : ℕ) → waiting_at (view s) k ≡ get_or s.waiting k 0
  waiting-at k = count_at_lem s.waiting (paired s.queue s.sender) bounded
      (omega (arith, lengths.counts, lengths.places, length-paired s.queue s.sender alike)) k

  -- the message in a node's first slot, if one waits, is its oldest
  oldest-at : (k : ℕ) → 1 ≤ waiting_at (view s) k → oldest (view s) k ≡ message_from (get_or s.sender (k * 16) 0) (get_or s.queue (k *
      16) 0)
  oldest-at k h = sym (oldest-is s.waiting (paired s.queue s.sender) k (omega (arith, h, waiting-at k)))
      ∙ get_or-paired s.queue s.sender alike (k * 16)

  -- the ready count is that of the arrays
  pub ready-counted : Among t n.0 → CountsReady t s → ReadyCounted t n.0 s.position s.waiting s.ready
  ready-counted among ready = record {
    among = among;
    positions = lengths.positions;
    counts = lengths.counts;
    count = ready ∙ sym (count-shown s.position s.waiting (view s) (λ k. refl) waiting-at (count_in t NODE));
  }

  module _ (p : Plan) (plan : PlansTurn t fetched n monitored (registers_at (view s) n.0)
      (message_from (get_or s.sender (n.0 * 16) 0) (get_or s.queue (n.0 * 16) 0)) s.waiting s.variable p) (inside : n.0 < 32)
    where
      -- the plan is one for the model's state
      planned :
          (hs : Handlers) → fetched_of fetched ≡ command_in (hs n.0) (position_at (view s) n.0)
          → Plans (program_in t hs) (view s) n.0 (rule_of monitored (program_in t hs) (view s) n.0) p
      planned hs =
          plan hs (view s) (record { own = refl; variables = refl }) waiting-at (oldest-at n.0)

      -- handlers in which this stands at the node's position
      abbrev some-handlers : Handlers
      some-handlers k = standing fetched (position_at (view s) n.0)

      some-planned : Plans (program_in t some-handlers) (view s) n.0 (rule_of monitored (program_in t some-handlers) (view s) n.0) p
      some-planned = planned some-handlers (standing-there fetched (position_at (view s) n.0))

      -- its change can be carried out on the arrays
      pub can_change : Possible (wired_in t n.0) n.0 (count_at s.waiting) p.change
      unfolding program_in
      can_change = subst (λ (f : ℕ → ℕ). Possible (wired_in t n.0) n.0 f p.change) (fun_ext waiting-at) some-planned.possible

      -- the arrays with the plan carried out
      abbrev pub after : List ℕ → List ℕ → List ℕ → List ℕ → State
      after ws slots senders xs =
          record {
            position = set s.position n.0 p.registers.position;
            accumulator = set s.accumulator n.0 p.registers.accumulator;
            message = set s.message n.0 p.registers.message;
            waiting = ws;
            queue = slots;
            sender = senders;
            variable = xs;
            ready = p.ready;
          }

      -- stand for the state after the turn, and are the arrays before if it is a stop
      pub carried_out :
          (ws slots senders xs : List ℕ)
          → senders ≡ slots_after (wired_in t n.0) n.0 n.0 s.waiting s.sender p.change
          → (slots ≡ slots_after (wired_in t n.0) n.0 (accumulator_at (view s) n.0) s.waiting s.queue p.change)
          × (ws ≡ counts_after (wired_in t n.0) n.0 s.waiting p.change)
          → xs ≡ variables_after (accumulator_at (view s) n.0) s.variable p.change
          → ReadyCounted t n.0 s.position s.waiting s.ready
          → (IdlesAtEnd fetched (position_at (view s) n.0) p.registers.position → PlansReady t n.0 s.position s.waiting p)
          → Turns t fetched n.0 monitored s (record { state = after ws slots senders xs; outcome = p.outcome })
      unfolding program_in
      carried_out ws slots senders xs signed moved stored before ready =
          let afterwards : List (List Message) → List ℕ → Meant = λ qs ys. record {
            position = (after ws slots senders xs).position;
            accumulator = (after ws slots senders xs).accumulator;
            message = (after ws slots senders xs).message;
            queue = qs;
            variable = ys;
          } in
          let counting : ℕ → Change → ℕ = λ q x. ready_count_in (set s.position n.0 q) (counts_after (wired_in t n.0) n.0 s.waiting x) (count_in t NODE) in
          let changes : Changes (wired_in t n.0) n.0 (accumulator_at (view s) n.0) p.change s.waiting s.queue s.sender ws
          slots
          senders =
          rw (signed, moved.0, moved.1) (changed (wired_in t n.0) n.0 (accumulator_at (view s) n.0) s.waiting s.queue s.sender
          lengths.counts lengths.places lengths.beside bounded inside p.change can_change) in
          let waits : (k : ℕ) → waiting_at (view (after ws slots senders xs)) k ≡ get_or ws k 0 =
          count_at_lem ws (paired slots senders) changes.holds.bounded (omega (arith, changes.counts, changes.places)) in
          let here : position_at (view (after ws slots senders xs)) n.0 ≡ p.registers.position =
          get_or-set_same s.position n.0 p.registers.position 0 (omega (arith, before.positions)) in
          record {
            bounded = changes.holds.bounded;
            counts = waits;
            ready = λ ends. ready (λ e. ends (here ∙ e))
                ∙ ap (λ (l : List ℕ). ready_count_in (after ws slots senders xs).position l (count_in t NODE)) (sym moved.1)
                ∙ count-shown (after ws slots senders xs).position ws (view (after ws slots senders xs)) (λ k. refl) waits (count_in t NODE);
            slots = changes.brings;
            comes = λ hs f. subst (Comes (view s) (rule_of monitored (program_in t hs) (view s) n.0) p.outcome)
                (sym (ap₂ afterwards changes.holds.same stored)) (planned hs f).comes;
            kept = λ h.
                let own = (some-planned.stays h).0 in
                let none = (some-planned.stays h).1 in
                let same = changes.kept (ap is_nothing none) in
                λ j. record {
                  position = (ap (λ (r : Registers). set s.position n.0 r.position) own ∙ set-get_or s.position n.0 0) j;
                  accumulator = (ap (λ (r : Registers). set s.accumulator n.0 r.accumulator) own
                      ∙ set-get_or s.accumulator n.0 0) j;
                  message = (ap (λ (r : Registers). set s.message n.0 r.message) own ∙ set-get_or s.message n.0 0) j;
                  waiting = same.0 j;
                  queue = same.1 j;
                  sender = same.2 j;
                  ready = (ready (λ e. inl (ap (λ (r : Registers). r.position) (sym own) ∙ e))
                      ∙ ap (λ (r : Registers). counting r.position p.change) own ∙ ap (counting (position_at (view s) n.0)) none
                      ∙ ap (λ (l : List ℕ). ready_count_in l s.waiting (count_in t NODE)) (set-get_or s.position n.0 0)
                      ∙ sym before.count) j;
                  variable = (stored ∙ ap (variables_after (accumulator_at (view s) n.0) s.variable) none) j;
                };
          }

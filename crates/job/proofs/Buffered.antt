-- The verdict on a job with its buffers, its turns given in either way, by the verdict on the job alone.
use Prim.Native.Nat.{ℕ, ◌*◌, ◌-◌, ◌≤◌, ◌<◌}
use mathlib.Core.Path.{◌≡◌, refl, ◌∙◌}
use mathlib.Core.Bool.{Bool, true, false, cond}
use mathlib.Core.List.{List}
use Rattle.std.proofs.Common.{Option, None, Some, Result, Ok, Err}
use native.Mathlib.Omega.{arith}
use lib.Dec.{eqb, ltb}
use lib.ListN.{length}
use borrow.Author.Tests.{lt-ltb, le-ltb, ltb-false, eqb-false}
use Rattle.model.specs.Table.{TURN, max_turns}
use Rattle.model.specs.Command.{Command}
use Rattle.model.specs.Declared.{count_of}
use Rattle.model.specs.Refusal.{Refusal, refuse, Decoded, accepted, rejected, accept_unless, and_then, first_of, decode_job}
use Rattle.model.specs.Refusal.{Sizes, sizes, short_buffer_for, decode_for}
use Rattle.model.specs.DispatchResult.{bad_budget, written_turn, decode_under, decode_dispatch}
use Rattle.model.proofs.Logic.{or_left, or_right}
use Rattle.model.proofs.Valid.{job-accepted}
use Rattle.model.proofs.DispatchDecoding.{no_turn_none}
use Rattle.command.specs.declared.refusal.Refusal.{Refusal as Refused}
use Rattle.command.specs.Refusals.{refusal_of}
use Rattle.tables.specs.Stands.{Stands}
use Rattle.job.specs.declared.schedule.Schedule.{Schedule}
use Rattle.job.specs.declared.schedule.Schedule.TheVariants as s
use Rattle.job.specs.Decoding.{verdict_of, Verdicts}
use Rattle.job.specs.Scheduling.{decode_by, budget_refusal, schedule_refusal}
use Rattle.job.proofs.Judged.{accepts, refuses}
use Rattle.job.proofs.LastTurns.{first-turn}

-- a refusal by 13, and what is left of the tests without one
decode_bad : (schedule : Schedule) (job : List ℕ) (b : Sizes) (r : Refusal) → Some r ≡ budget_refusal schedule → decode_by schedule job
    b ≡ rejected r
unfolding decode_dispatch
decode_bad s.Written job b r e = let w : ◌≡◌ {A = ℕ} 0 1 = cc in absurd (omega arith)
decode_bad (s.Dispatched budget) job b r e = by_budget (bad_budget budget) e
  where
    by_budget : (t : Bool) → Some r ≡ cond t (Some (refuse 13 0)) None → cond t (rejected (refuse 13 0)) (decode_under budget job b) ≡
        rejected r
    by_budget true q = cc
    by_budget false q = let w : ◌≡◌ {A = ℕ} 0 1 = cc in absurd (omega arith)

-- the tests 13, 14 and 10 to 12 after those of every job
decode_by_lem : (schedule : Schedule) (job : List ℕ) (b : Sizes) → budget_refusal schedule ≡ None
    → decode_by schedule job b ≡ and_then (schedule_refusal schedule job b) (decode_job job)
unfolding decode_for decode_dispatch decode_under
decode_by_lem s.Written job b e = refl
decode_by_lem (s.Dispatched budget) job b e = by_budget (bad_budget budget) e ∙ by_decoded (decode_job job)
  where
    by_budget : (t : Bool) → cond t (Some (refuse 13 0)) None ≡ None
        → cond t (rejected (refuse 13 0)) (decode_under budget job b) ≡ decode_under budget job b
    by_budget true q = let w : ◌≡◌ {A = ℕ} 0 1 = cc in absurd (omega arith)
    by_budget false q = refl

    by_turn : (past : List Command) (r : Option Refusal)
        → and_then (λ past. short_buffer_for job b budget) (accept_unless past r) ≡ accept_unless past (first_of r (short_buffer_for job b budget))
    by_turn past None = refl
    by_turn past (Some r) = refl

    by_decoded : (d : Decoded) → and_then (λ past. short_buffer_for job b budget) (and_then written_turn d) ≡ and_then (schedule_refusal
        (s.Dispatched budget) job b) d
    by_decoded (accepted past) = by_turn past (written_turn past)
    by_decoded (rejected r) = refl

module _ (schedule : Schedule) (job : List ℕ) (b : Sizes) (t : List ℕ) where
  -- refused by 13
  pub refused-first : (q : Refused) → Some (refusal_of q) ≡ budget_refusal schedule → Verdicts (decode_by schedule job b) t (Err q)
  refused-first q e = refuses (decode_by schedule job b) t q (decode_bad schedule job b (refusal_of q) e)

  module _ (good : budget_refusal schedule ≡ None) where
    -- refused by the tests of every job
    pub refused-before : (q : Refused) → decode_job job ≡ rejected (refusal_of q) → Verdicts (decode_by schedule job b) t (Err q)
    refused-before q e = refuses (decode_by schedule job b) t q (decode_by_lem schedule job b good ∙ rw e)

    -- the tests 14 and 10 to 12 decide
    pub judged-behind :
        (past : List Command) → decode_job job ≡ accepted past → Stands t past → (r : Result (Unit {0}) Refused)
        → verdict_of r ≡ schedule_refusal schedule job b past → Verdicts (decode_by schedule job b) t r
    judged-behind past decoded stands (Ok x) e =
        accepts (decode_by schedule job b) t past (decode_by_lem schedule job b good ∙ rw (decoded, ← e)) stands
    judged-behind past decoded stands (Err q) e =
        refuses (decode_by schedule job b) t q (decode_by_lem schedule job b good ∙ rw (decoded, ← e))

-- the tests of a schedule that is one of the two
module _ (schedule : Schedule) (budget : ℕ) (is : schedule ≡ s.Dispatched budget) where
  pub budget-good : bad_budget budget ≡ false → None ≡ budget_refusal schedule
  budget-good e = rw (is, e)

  module _ (job : List ℕ) (b : Sizes) (past : List Command) where
    pub turn-found : decode_job job ≡ accepted past → ¬ (count_of TURN past ≡ 0)
        → Some (refuse 14 (length job - 2 * count_of TURN past)) ≡ schedule_refusal schedule job b past
    turn-found e n = rw (is, first-turn job past (job-accepted job past e).read.reads n)

    pub turn-none : count_of TURN past ≡ 0 → (r : Option Refusal) → r ≡ short_buffer_for job b budget → r ≡ schedule_refusal schedule job b past
    turn-none e r f = f ∙ rw (is, no_turn_none past e)

pub turns-written : (schedule : Schedule) → schedule ≡ s.Written → (job : List ℕ) (b : Sizes) (past : List Command)
    → (r : Option Refusal) → r ≡ short_buffer_for job b (count_of TURN past) → r ≡ schedule_refusal schedule job b past
turns-written schedule is job b past r f = f ∙ rw is

-- the budget of a schedule that passed test 13
pub budget-few : (schedule : Schedule) (budget : ℕ) → schedule ≡ s.Dispatched budget → budget_refusal schedule ≡ None
    → (1 ≤ budget) × (budget ≤ max_turns)
budget-few schedule budget is e = by_budget (bad_budget budget) refl (rw is at e)
  where
    by_budget : (t : Bool) → bad_budget budget ≡ t → cond t (Some (refuse 13 0)) None ≡ None → (1 ≤ budget) × (budget ≤ max_turns)
    by_budget true p q = let w : ◌≡◌ {A = ℕ} 0 1 = cc in absurd (omega arith)
    by_budget false p q =
        let z = eqb-false budget 0 (or_left (eqb budget 0) (ltb max_turns budget) p) in
        (omega (arith, z), ltb-false max_turns budget (or_right (eqb budget 0) (ltb max_turns budget) p))

-- the first buffer that is too short, or none
module _ (job : List ℕ) (size turns trace snapshot work : ℕ) (long : length job ≡ size) where
  abbrev decided : Option Refusal
  decided = short_buffer_for job (sizes trace snapshot work) turns

  pub snapshot-short : 7 * turns ≤ trace → snapshot < 3136 → Some (refuse 11 size) ≡ decided
  snapshot-short p q = rw (long, le-ltb trace (7 * turns) p, lt-ltb snapshot 3136 q)

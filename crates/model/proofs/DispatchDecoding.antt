-- What a dispatched job comes to after the test 13, the tests of every job, the test 14 and those of the buffers, and what is handed over.
use Prim.Native.Nat.{ℕ, ◌+◌, ◌≤◌}
use mathlib.Core.Path.{◌≡◌, refl, ◌∙◌}
use mathlib.Core.Bool.{Bool, true, false, cond}
use mathlib.Core.List.{List, [], ◌∷◌}
use Rattle.std.proofs.Common.{None, Some}
use native.Mathlib.Omega.{arith}
use lib.Dec.{ltb, eqb}
use borrow.Author.Tests.{le-ltb, ltb-false, ne_eqb, eqb-false}
use Rattle.model.specs.Table.{TURN, max_turns}
use Rattle.model.specs.Command.{Command, is}
use Rattle.model.specs.Declared.{count_of}
use Rattle.model.specs.Program.{program_of}
use Rattle.model.specs.Refusal.{Refusal, refuse, accepted, rejected, accept_unless, and_then, first_of, refuse_first, decode_job, Sizes}
use Rattle.model.specs.Refusal.{short_buffer_for}
use Rattle.model.specs.Result.{refused}
use Rattle.model.specs.Dispatch.{unmonitored_dispatch, monitored_dispatch}
use Rattle.model.specs.DispatchResult.{bad_budget, written_turn, decode_under, decode_dispatch, handed, dispatch_monitored}
use Rattle.model.specs.DispatchResult.{dispatch_unmonitored}
use Rattle.model.proofs.Logic.{or_left, or_right}
use Rattle.model.proofs.Growth.{count-other}
use Rattle.model.proofs.Scanning.{refuse-on}
use Rattle.model.proofs.Positions.{first-none}
use Rattle.model.proofs.Results.{and_then_accepted}

-- 14: the first TURN of one command more; no TURN is written exactly if none is counted
pub written-turn-next : (c : Command) (past : List Command)
    → written_turn (c ∷ past) ≡ first_of (written_turn past) (cond (is TURN c) (Some (refuse 14 c.place)) None)
unfolding refuse_first
written-turn-next c past = refl

pub no_turn_none : (past : List Command) → count_of TURN past ≡ 0 → written_turn past ≡ None
unfolding refuse_first count_of
no_turn_none [] e = refl
no_turn_none (c ∷ past) e = by_byte (is TURN c) refl e (no_turn_none past)
  where
    by_byte : (t : Bool) → is TURN c ≡ t → cond t (count_of TURN past + 1) (count_of TURN past) ≡ 0
        → (count_of TURN past ≡ 0 → written_turn past ≡ None) → written_turn (c ∷ past) ≡ None
    by_byte true p z ih = absurd (omega arith)
    by_byte false p z ih = refuse-on 14 (λ before c. is TURN c) past c p ∙ ih z

pub none_no_turn : (past : List Command) → written_turn past ≡ None → count_of TURN past ≡ 0
unfolding count_of
none_no_turn [] e = refl
none_no_turn (c ∷ past) e =
    let h = first-none 14 (λ before c. is TURN c) c past e in
    count-other TURN c past h.1 ∙ none_no_turn past h.0

-- a budget that is neither 0 nor above 4,096
pub budget-good : (budget : ℕ) → 1 ≤ budget → budget ≤ max_turns → bad_budget budget ≡ false
budget-good budget l h = rw (ne_eqb budget 0 (λ z. omega arith), le-ltb max_turns budget h)

module _ (budget : ℕ) (job : List ℕ) (b : Sizes) where
  -- 13, before all others
  pub decode_dispatch_bad : bad_budget budget ≡ true → decode_dispatch budget job b ≡ rejected (refuse 13 0)
  unfolding decode_dispatch
  decode_dispatch_bad e = rw e

  pub decode_dispatch_good : bad_budget budget ≡ false → decode_dispatch budget job b ≡ decode_under budget job b
  unfolding decode_dispatch
  decode_dispatch_good e = rw e

  -- the tests of every job, then 14, then 10 to 12
  pub decode_under_rejected : (r : Refusal) → decode_job job ≡ rejected r → decode_under budget job b ≡ rejected r
  unfolding decode_under
  decode_under_rejected r e = rw e

  pub decode_under_turn : (past : List Command) (r : Refusal) → decode_job job ≡ accepted past → written_turn past ≡ Some r
      → decode_under budget job b ≡ rejected r
  unfolding decode_under
  decode_under_turn past r e f = rw (e, f)

  pub decode_under_later : (past : List Command) → decode_job job ≡ accepted past → written_turn past ≡ None
      → decode_under budget job b ≡ accept_unless past (short_buffer_for job b budget)
  unfolding decode_under
  decode_under_later past e f = rw (e, f)

  -- an accepted dispatched job passed them all
  pub under_accepted : (past : List Command) → decode_dispatch budget job b ≡ accepted past
      → (decode_job job ≡ accepted past) × (written_turn past ≡ None) × (short_buffer_for job b budget ≡ None) × (1 ≤ budget)
      × (budget ≤ max_turns)
  unfolding decode_dispatch decode_under
  under_accepted past e = by_budget (bad_budget budget) refl e
    where
      by_budget : (t : Bool) → bad_budget budget ≡ t → cond t (rejected (refuse 13 0)) (decode_under budget job b) ≡ accepted past
          → (decode_job job ≡ accepted past) × (written_turn past ≡ None) × (short_buffer_for job b budget ≡ None) × (1 ≤ budget)
          × (budget ≤ max_turns)
      by_budget true p z = let w : ◌≡◌ {A = ℕ} 0 1 = cc in absurd (omega arith)
      by_budget false p z =
          let later = and_then_accepted (λ past. short_buffer_for job b budget) (and_then written_turn (decode_job job)) past z in
          let early = and_then_accepted written_turn (decode_job job) past later.0 in (
            early.0,
            early.1,
            later.1,
            omega (arith, eqb-false budget 0 (or_left (eqb budget 0) (ltb max_turns budget) p)),
            ltb-false max_turns budget (or_right (eqb budget 0) (ltb max_turns budget) p),
          )

  -- the results
  pub dispatch_monitored_refused : (r : Refusal) → decode_dispatch budget job b ≡ rejected r
      → dispatch_monitored budget job b ≡ record { result = refused r; examined = 0 }
  unfolding dispatch_monitored
  dispatch_monitored_refused r e = rw e

  pub dispatch_unmonitored_refused : (r : Refusal) → decode_dispatch budget job b ≡ rejected r
      → dispatch_unmonitored budget job b ≡ record { result = refused r; examined = 0 }
  unfolding dispatch_unmonitored
  dispatch_unmonitored_refused r e = rw e

  pub dispatch_monitored_ran : (past : List Command) → decode_dispatch budget job b ≡ accepted past
      → dispatch_monitored budget job b ≡ handed (program_of past) (monitored_dispatch (program_of past) budget)
  unfolding dispatch_monitored
  dispatch_monitored_ran past e = rw e

  pub dispatch_unmonitored_ran : (past : List Command) → decode_dispatch budget job b ≡ accepted past
      → dispatch_unmonitored budget job b ≡ handed (program_of past) (unmonitored_dispatch (program_of past) budget)
  unfolding dispatch_unmonitored
  dispatch_unmonitored_ran past e = rw e

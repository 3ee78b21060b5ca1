-- What holds of dispatched runs: the proofs of `DispatchHolds` and `ReadyHolds`.
use Prim.Native.Nat.{ℕ}
use mathlib.Core.Path.{◌≡◌}
use native.Mathlib.Omega.{arith}
use lib.ListN.{get_or}
use Rattle.model.specs.State.{State, initial_state}
use Rattle.model.specs.Turn.{Turned, turn}
use Rattle.model.specs.Permission.{monitored_turn}
use Rattle.model.specs.Run.{state_at}
use Rattle.model.specs.Following.{Follows}
use Rattle.model.specs.Dispatch.{chosen_in, unmonitored_dispatch, monitored_dispatch}
use Rattle.model.specs.Dispatching.{written_out, UnmonitoredStop, is_zero, is_three, is_four, MonitoredStop, is_one, as_unmonitored}
use Rattle.model.specs.Dispatching.{Dispatches, DispatchHolds, ReadyHolds}
use Rattle.model.proofs.Following.{follows}
use Rattle.model.proofs.Serving.{Serving, ready-stops, ready-monitored-stops, turn-stays, monitored-stays, turn_serving}
use Rattle.model.proofs.Serving.{monitored_serving}
use Rattle.model.proofs.DispatchedRuns.{dispatched, examined, dispatch_stops, written_out_lem, budget-made, nobody-ready}
use Rattle.model.proofs.DispatchedRuns.{count-tells, nobody_attempts_lem, nobody-stopped}
use Rattle.model.proofs.DispatchCompared.{choices_along_lem, dispatches-compared}
use Rattle.model.proofs.Fairness.{is-fair}

-- a dispatched run by any rule that serves
dispatches : (rule : State → ℕ → Turned) → Serving rule → (nodes budget : ℕ) (s : State)
    → Dispatches rule nodes budget s (dispatched rule nodes budget s)
dispatches rule serving nodes budget s =
    let d = dispatched rule nodes budget s in
    let written = written_out_lem rule nodes budget s serving in
    let goes : Follows rule (chosen_in d.choices) s (written_out d.run) =
    rw written at (follows rule (serving.stops (λ k. ¬ (k ≡ 0)) (omega arith) (omega arith) (omega arith)) (chosen_in d.choices) s) in
    record {
      chooses_along = choices_along_lem rule nodes budget s;
      written = written;
      follows = goes;
      serves = λ k h. rw (goes.goes_on k h) at (serving.makes (state_at d.run k) (get_or (chosen_in d.choices) k 0));
      budget_made = budget-made rule nodes budget s serving;
      nobody_ready = nobody-ready rule nodes budget s serving;
      none_counted = count-tells rule nodes budget s serving;
      nobody_attempts = nobody_attempts_lem rule nodes budget s serving;
      nobody_stopped = nobody-stopped rule nodes budget s serving;
      examines = examined rule nodes budget s;
      is_fair = is-fair rule serving nodes budget s;
    }

-- an unmonitored stop is not 1
not-one : (k : ℕ) → UnmonitoredStop k → ¬ (k ≡ 1)
not-one _ is_zero h = omega arith
not-one _ is_three h = omega arith
not-one _ is_four h = omega arith

-- both runs of every program, with every budget
pub dispatch_holds : DispatchHolds
unfolding unmonitored_dispatch monitored_dispatch
dispatch_holds P budget =
    let s = initial_state P in
    let stops =
    dispatch_stops (turn P) P.nodes budget s UnmonitoredStop is_zero is_four (λ s n. ready-stops P s n UnmonitoredStop is_three) in
    record {
      unmonitored_dispatches = dispatches (turn P) (turn_serving P) P.nodes budget s;
      monitored_dispatches = dispatches (monitored_turn P) (monitored_serving P) P.nodes budget s;
      unmonitored_stops = stops;
      monitored_stops =
          dispatch_stops (monitored_turn P) P.nodes budget s MonitoredStop (as_unmonitored is_zero) (as_unmonitored is_four)
          (λ s n. ready-monitored-stops P s n MonitoredStop is_one (as_unmonitored is_three));
      comparison = dispatches-compared P P.nodes budget s (not-one _ stops);
    }

-- a ready node stays ready until it is served
pub ready-holds : ReadyHolds
ready-holds P = (turn-stays P, monitored-stays P)

-- The tally of a call is that of its run, and it adds up.
use Prim.Native.Nat.{ℕ, ◌≤◌}
use mathlib.Core.Path.{◌≡◌, refl, sym, subst}
use mathlib.Core.Bool.{Bool, true, false}
use mathlib.Core.List.{List}
use native.Mathlib.Omega.{arith}
use Rattle.model.specs.Table.{max_nodes}
use Rattle.model.specs.Command.{Command}
use Rattle.model.specs.Declared.{turns_of}
use Rattle.model.specs.Program.{program_of}
use Rattle.model.specs.Result.{report, sizes_of}
use Rattle.model.specs.Run.{monitored_run, unmonitored_run}
use Rattle.model.specs.Dispatch.{monitored_dispatch, unmonitored_dispatch}
use Rattle.model.specs.DispatchResult.{Handed}
use Rattle.model.specs.Refusal.{accepted, decode_job}
use Rattle.model.specs.Tally.{RunOf, unmonitored_turns, monitored_turns, unmonitored_budget, monitored_budget}
use Rattle.model.proofs.Tally.{tally-holds}
use Rattle.model.proofs.Valid.{job-valid, limits}
use Rattle.job.specs.declared.schedule.Schedule.{Schedule}
use Rattle.job.specs.declared.schedule.Schedule.TheVariants as s
use Rattle.turns.specs.Runs.{run_of}
use Rattle.run.proofs.Delivering.{handed-ran, decoded_by}
use Rattle.tally.proofs.Filed.{left-holds}
use Rattle.transparency.specs.TallyCalls.{TalliesCall, TallyCallsHold}

-- the run of a call is one of the program's
run_of_lem : (schedule : Schedule) (m : Bool) (past : List Command) → RunOf (program_of past) (run_of schedule m past).run
unfolding monitored_run unmonitored_run monitored_dispatch unmonitored_dispatch
run_of_lem s.Written true past = monitored_turns (turns_of past)
run_of_lem s.Written false past = unmonitored_turns (turns_of past)
run_of_lem (s.Dispatched budget) true past = monitored_budget budget
run_of_lem (s.Dispatched budget) false past = unmonitored_budget budget

few-nodes : (job : List ℕ) (past : List Command) → decode_job job ≡ accepted past → (program_of past).nodes ≤ max_nodes
unfolding program_of
few-nodes job past e = (limits past (job-valid job past e).commands).nodes

pub tally_calls_hold : TallyCallsHold
unfolding report
tally_calls_hold schedule m job b past e =
    let P = program_of past in
    let r = (run_of schedule m past).run in
    let plain = decoded_by schedule job (sizes_of b) past e in
    let few = few-nodes job past plain in
    subst (λ (h : Handed). TalliesCall P r job h.result b) (sym (handed-ran schedule m job (sizes_of b) past e))
    (record {
      told = refl;
      counts = λ before. left-holds job past r b.trace b.snapshot before plain;
      add_up = λ n h. (tally-holds P r (run_of_lem schedule m past)).at_stop n (omega arith);
    })

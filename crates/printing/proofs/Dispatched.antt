-- What is printed of a dispatched run is what the run means.
use Prim.Native.Nat.{ℕ}
use mathlib.Core.Path.{◌≡◌, refl, ap, subst}
use mathlib.Core.List.{List, ◌++◌, append-nil}
use Rattle.lines.specs.Lines.{refused_line, examined_line}
use Rattle.model.specs.Command.{Command}
use Rattle.model.specs.Program.{Program, program_of}
use Rattle.model.specs.State.{State, initial_state}
use Rattle.model.specs.Turn.{Turned}
use Rattle.model.specs.Run.{Run, state_at, run_from, monitored_run, unmonitored_run}
use Rattle.model.specs.Refusal.{Decoded, accepted, rejected, Sizes}
use Rattle.model.specs.Result.{report}
use Rattle.model.specs.Valid.{Fits}
use Rattle.model.specs.Dispatch.{Dispatched, chosen_in, examined_in, monitored_dispatch, unmonitored_dispatch}
use Rattle.model.specs.DispatchResult.{handed_by, decode_dispatch, dispatch_monitored, dispatch_unmonitored}
use Rattle.model.specs.Dispatching.{Dispatches}
use Rattle.model.specs.DispatchConclusion.{DispatchAccepts}
use Rattle.model.proofs.Ways.{Makes}
use Rattle.model.proofs.Words.{unmonitored_words, monitored_words}
use Rattle.model.proofs.DispatchDecoding.{under_accepted}
use Rattle.model.proofs.DispatchWalking.{walked}
use Rattle.model.proofs.Dispatching.{dispatch_holds}
use Rattle.job.specs.declared.schedule.Schedule.TheVariants as s
use Rattle.printing.specs.Printing.{lines_by}
use Rattle.printing.specs.Meaning.{lines_of_dispatch, DispatchLinesHold}
use Rattle.printing.proofs.Meaning.{Readable, ended-read, Small, readable, turn_small, monitored-small}

-- a dispatched run has the states and entries of the run with its choices written out
dispatched-readable :
    (rule : State → ℕ → Turned) (nodes budget : ℕ) (start : State) (d : Dispatched) → Dispatches rule nodes budget start d
    → ((s : State) (n : ℕ) → Fits s → Makes Small (rule s n)) → ((k : ℕ) → Fits (state_at (run_from rule (chosen_in d.choices) start) k))
    → Readable d.run
dispatched-readable rule nodes budget start d goes small fits =
    let r = readable small goes.follows (λ k. subst (λ (x : Run). Fits (state_at x k)) goes.written (fits k)) in
    record { values = r.values; final = r.final }

-- a job, by the way it is dispatched
module _
    (budget : ℕ) (job : List ℕ) (b : Sizes) (dispatch : Program → Dispatched)
    (fits : (past : List Command) → DispatchAccepts budget job b past → Readable (dispatch (program_of past)).run)
  where
    dispatch_read : lines_by (s.Dispatched budget) job (handed_by dispatch (decode_dispatch budget job b))
        ≡ lines_of_dispatch dispatch (decode_dispatch budget job b)
    unfolding report program_of
    dispatch_read = by_decoded (decode_dispatch budget job b) refl
      where
        by_decoded : (d : Decoded) → decode_dispatch budget job b ≡ d → lines_by (s.Dispatched budget) job (handed_by dispatch d) ≡
            lines_of_dispatch dispatch d
        by_decoded (accepted past) e =
            let P = program_of past in
            let a : DispatchAccepts budget job b past = rw e at (walked budget job b) in
            rw (under_accepted budget job b past e).0
            (ap (λ (l : List ℕ). l ++ examined_line (examined_in (dispatch P).choices)) (ended-read P (dispatch P).run (fits past a)))
        by_decoded (rejected r) e = append-nil (refused_line r.number r.place)

pub dispatch_lines_hold : DispatchLinesHold
unfolding dispatch_monitored dispatch_unmonitored monitored_run unmonitored_run
dispatch_lines_hold budget job b bytes =
    record {
      monitored_prints =
          dispatch_read budget job b (λ P. monitored_dispatch P budget)
          (λ past a.
          let P = program_of past in
          dispatched-readable _ _ budget (initial_state P) (monitored_dispatch P budget) (dispatch_holds P budget).monitored_dispatches
          (monitored-small P) (monitored_words job past bytes a.accepts.reads (chosen_in (monitored_dispatch P budget).choices)));
      unmonitored_prints =
          dispatch_read budget job b (λ P. unmonitored_dispatch P budget)
          (λ past a.
          let P = program_of past in
          dispatched-readable _ _ budget (initial_state P) (unmonitored_dispatch P budget) (dispatch_holds P budget).unmonitored_dispatches
          (turn_small P) (unmonitored_words job past bytes a.accepts.reads (chosen_in (unmonitored_dispatch P budget).choices)));
    }

-- The tally of a call (S-12): what is counted from that which any of the four entry points told and left is the tally of the run, and it
-- adds up.
use Rattle.std.specs.Prelude.{ℕ, ◌<◌, ◌≡◌, Bool, List, length}
use Rattle.model.specs.Command.{Command}
use Rattle.model.specs.Program.{Program, program_of}
use Rattle.model.specs.Run.{Run, entry_at}
use Rattle.model.specs.Output.{answer_in}
use Rattle.model.specs.Refusal.{accepted, decode_job}
use Rattle.model.specs.Result.{Result, written, Buffers, sizes_of, trace_after, snapshot_after}
use Rattle.model.specs.Tally.{tally_of, AddUp}
use Rattle.writing.specs.Writing.{joined}
use Rattle.job.specs.declared.schedule.Schedule.{Schedule}
use Rattle.job.specs.Scheduling.{decode_by}
use Rattle.turns.specs.Runs.{run_of}
use Rattle.run.specs.Answers.{answer, told_in, handed_for}
use Rattle.tally.specs.Tallies.{tallies_after}

-- a call of a job with this program that gives this result in these buffers; `r` is its run
pub record TalliesCall (P : Program) (r : Run) (job : List ℕ) (result : Result) (b : Buffers) : Type 0 where
  -- it tells the answer of the run, and so how many turns were completed
  pub told : told_in result ≡ answer (answer_in r)
  -- a tally by this number, the trace and the snapshot ("picture") that it left gives the counts of the run at its stop
  pub counts :
      (before : List ℕ)
      → tallies_after (decode_job job) (length r.steps) (trace_after result b.trace) (snapshot_after result b.snapshot) before
      ≡ written (joined (tally_of P (entry_at r) (length r.steps) r.final) P.nodes) before
  -- and they add up, in all and by sender
  pub add_up : (n : ℕ) → n < P.nodes → AddUp P (entry_at r) (length r.steps) r.final n

-- it is so of every job that is accepted, with its written turns or dispatched with any budget, monitored ("watched") or not ("bare"),
-- whatever the buffers held before
abbrev pub TallyCallsHold : Type 0
TallyCallsHold =
    (schedule : Schedule) (m : Bool) (job : List ℕ) (b : Buffers) (past : List Command) → decode_by schedule job (sizes_of b) ≡ accepted past
    → TalliesCall (program_of past) (run_of schedule m past).run job (handed_for schedule m job (sizes_of b)).result b

-- The run of an accepted job with its buffers.
use Rattle.std.specs.Prelude.{ℕ, ◌≡◌, Bool, List, Ok}
use Rattle.model.specs.Command.{Command}
use Rattle.model.specs.Program.{program_of}
use Rattle.model.specs.Dispatch.{Dispatched, examined_in}
use Rattle.model.specs.Refusal.{accepted, Sizes}
use Rattle.model.specs.Result.{report, Buffers, sizes_of}
use Rattle.tables.specs.Stands.{Stands}
use Rattle.job.specs.declared.schedule.Schedule.{Schedule}
use Rattle.job.specs.Scheduling.{decode_by}
use Rattle.turns.specs.declared.ending.CountedEnding.{CountedEnding}
use Rattle.turns.specs.Runs.{run_of}
use Rattle.run.specs.Answers.{Delivers}

-- the job is accepted, its turns given in this way, with buffers of these lengths, and the tables stand for its commands
pub record AcceptedWith (schedule : Schedule) (job t : List ℕ) (b : Sizes) : Type 0 where
  pub past : List Command
  pub decoded : decode_by schedule job b ≡ accepted past
  pub stands : Stands t past

-- the answer, the examined total and the buffers afterwards are those of the run of the job's commands
pub record DeliversRunOf (d : Dispatched) (past : List Command) (before after : Buffers) (x : CountedEnding) : Type 0 where
  pub delivers : Delivers (report (program_of past) d.run) before after (Ok x.ending)
  pub examined : x.examined ≡ examined_in d.choices

abbrev pub DeliversRun : Schedule → Bool → List ℕ → Buffers → Buffers → CountedEnding → Type 0
DeliversRun schedule monitored job before after x =
    (past : List Command) → decode_by schedule job (sizes_of before) ≡ accepted past
    → DeliversRunOf (run_of schedule monitored past) past before after x

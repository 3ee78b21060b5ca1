-- Request S-13 of the code: two monitored ("watched") calls of jobs that are the same but for the start of a variable that nobody may read,
-- with the same buffers before.
use Rattle.std.specs.Prelude.{ℕ, ◌≡◌, true, List, length}
use Rattle.model.specs.Program.{Program, program_of}
use Rattle.model.specs.Run.{Run}
use Rattle.model.specs.Refusal.{Refusal, rejected, decode_job}
use Rattle.model.specs.Result.{Buffers, sizes_of}
use Rattle.model.specs.DispatchResult.{Handed}
use Rattle.model.specs.Secrecy.{SameBut, Secret, variable_place, Alike}
use Rattle.job.specs.declared.schedule.Schedule.{Schedule}
use Rattle.job.specs.declared.schedule.Schedule.TheVariants as s
use Rattle.job.specs.Scheduling.{decode_by}
use Rattle.turns.specs.Runs.{run_of}
use Rattle.run.specs.Answers.{told_in, handed_for, BuffersAfter}
use Rattle.run.specs.Exported.{numbers_in, numbers_with}
use Rattle.tally.specs.Tallies.{nodes_told, tally_told, tallies_after}
use Rattle.transparency.specs.Dispatched.{DispatchCall, Hands}

-- what the runs r and r' of two accepted jobs, each of its program, left in these buffers is alike but for variable x
pub record RunsLeaveAlike (x : ℕ) (job job' : List ℕ) (P P' : Program) (r r' : Run) (after after' : Buffers) : Type 0 where
  -- the snapshot buffers ("picture buffers") hold the same but for the four bytes of variable x, which stand at the same place of both
  pub place : variable_place P r.final x ≡ variable_place P' r'.final x
  pub snapshot : SameBut (variable_place P r.final x) after.snapshot after'.snapshot
  -- a tally of what each left tells and counts the same: the exported one by its numbers, tally::tally by its answer
  pub tally_tells : tally_told (decode_job job) ≡ tally_told (decode_job job')
  pub tally_answers : nodes_told (decode_job job) ≡ nodes_told (decode_job job')
  pub tally_counts :
      (before : List ℕ)
      → tallies_after (decode_job job) (length r.steps) after.trace after.snapshot before
      ≡ tallies_after (decode_job job') (length r'.steps) after'.trace after'.snapshot before

-- what two calls left that found the same buffers, by what their jobs are decoded to
pub record SecrecyLeaves (schedule : Schedule) (x : ℕ) (job job' : List ℕ) (before after after' : Buffers) : Type 0 where
  -- trace and work buffer hold the same
  pub trace : after.trace ≡ after'.trace
  pub work : after.work ≡ after'.work
  -- both jobs are refused alike, or both are accepted, and their runs left the rest alike
  pub decided :
      Alike
      (λ past past'. RunsLeaveAlike x job job' (program_of past) (program_of past') (run_of schedule true past).run
      (run_of schedule true past').run after after')
      (decode_by schedule job (sizes_of before)) (decode_by schedule job' (sizes_of before))
  -- after a refusal, which leaves nothing to tally, the snapshot buffers ("picture buffers") hold the same
  pub refused : (r : Refusal) → decode_by schedule job (sizes_of before) ≡ rejected r → after.snapshot ≡ after'.snapshot

-- two calls: they tell the same, refusal or answer, and the same examined total, and they leave the same but for the variable
pub record CallsAlike (schedule : Schedule) (x : ℕ) (job job' : List ℕ) (c c' : DispatchCall) : Type 0 where
  pub told : c.call.told ≡ c'.call.told
  pub examined : c.examined ≡ c'.examined
  pub left : SecrecyLeaves schedule x job job' c.call.before c.call.after c'.call.after

-- a monitored call as the entry points promise it: dispatched, or with written turns, for which nothing is examined
abbrev pub MonitoredBy : Schedule → List ℕ → DispatchCall → Type 0
MonitoredBy schedule job c = Hands (handed_for schedule true job (sizes_of c.call.before)) c

-- any two such calls, with the same turns or one budget for both
abbrev pub SecretCallsHold : Type 0
SecretCallsHold =
    (schedule : Schedule) (job job' : List ℕ) (x at : ℕ) → Secret job x at → SameBut at job job'
    → (c c' : DispatchCall) → MonitoredBy schedule job c → MonitoredBy schedule job' c' → c.call.before ≡ c'.call.before
    → CallsAlike schedule x job job' c c'

-- the numbers that an exported entry point writes: eight, and nine if it dispatches
abbrev pub numbers_by : Schedule → Handed → List ℕ
numbers_by s.Written h = numbers_in (told_in h.result)
numbers_by (s.Dispatched budget) h = numbers_with (told_in h.result) h.examined

-- the same of the exported entry points, which write these numbers and leave the three buffers as a result has them
abbrev pub SecretExportsHold : Type 0
SecretExportsHold =
    (schedule : Schedule) (job job' : List ℕ) (x at : ℕ) → Secret job x at → SameBut at job job'
    → (before after after' : Buffers) (numbers numbers' : List ℕ)
    → numbers ≡ numbers_by schedule (handed_for schedule true job (sizes_of before))
    → BuffersAfter (handed_for schedule true job (sizes_of before)).result before after
    → numbers' ≡ numbers_by schedule (handed_for schedule true job' (sizes_of before))
    → BuffersAfter (handed_for schedule true job' (sizes_of before)).result before after'
    → (numbers ≡ numbers') × SecrecyLeaves schedule x job job' before after after'

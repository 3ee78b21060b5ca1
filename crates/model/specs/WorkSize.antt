-- Request S-9: "Refusal 12 aside, all answers, traces and pictures are equal to those before." Only test 12 and the zeros afterwards name
-- the length of the work buffer; what an accepted job hands over does not depend on it.
use Rattle.std.specs.Prelude.{ℕ, ◌≤◌, ◌≡◌, ◌⊎◌, List, length}
use Rattle.model.specs.Table.{TURN}
use Rattle.model.specs.Declared.{count_of}
use Rattle.model.specs.Program.{Program}
use Rattle.model.specs.Run.{Run, monitored_run, unmonitored_run}
use Rattle.model.specs.Refusal.{refuse, decode_job, and_then, Sizes, work_size, short_buffer_asking}
use Rattle.model.specs.Result.{Result, refused, result_of, monitored, unmonitored}

-- the length that the work buffer had to have before the request
abbrev pub former_work_size : ℕ
former_work_size = 16384

-- what is handed over for a job, by the way its turns are run, if test 12 asks for that length and all else is as it is now
abbrev pub formerly : (Program → List ℕ → Run) → List ℕ → Sizes → Result
formerly run job b = result_of run (and_then (λ past. short_buffer_asking former_work_size job b (count_of TURN past)) (decode_job job))

-- what is handed over now is what was handed over before
pub record SameAsFormerly (run : Program → List ℕ → Run) (result : List ℕ → Sizes → Result) : Type 0 where
  -- with trace and snapshot buffers of the same lengths, and work buffers that are long enough, before and now
  pub long_enough :
      (job : List ℕ) (b b' : Sizes) → b.trace ≡ b'.trace → b.snapshot ≡ b'.snapshot → former_work_size ≤ b.work → work_size ≤ b'.work
      → formerly run job b ≡ result job b'
  -- with the same buffers, refusal 12 aside
  pub same_buffers :
      (job : List ℕ) (b : Sizes) → (formerly run job b ≡ refused (refuse 12 (length job))) ⊎ (formerly run job b ≡ result job b)

-- the claim on the monitored ("watched") and on the unmonitored ("bare") run
pub record WorkSizeHolds : Type 0 where
  pub of_monitored : SameAsFormerly monitored_run monitored
  pub of_unmonitored : SameAsFormerly unmonitored_run unmonitored

-- Demand 1 of the definitions: a job is refused at the first test that it fails, by number and place, buffers untouched; every other job
-- runs to one of the stops 0 to 3.
use Rattle.std.specs.Prelude.{ℕ, ◌*◌, ◌≤◌, ◌<◌, ◌≡◌, ◌↔◌, ◌⊎◌, List, [], ◌∷◌, length, take, drop, replicate, None, Some}
use Rattle.model.specs.Table.{max_turns, max_job}
use Rattle.model.specs.Command.{Command, whole, unknown, cut_short, read_command}
use Rattle.model.specs.Declared.{turns_of}
use Rattle.model.specs.Program.{Program, program_of}
use Rattle.model.specs.Run.{Run, monitored_run, unmonitored_run}
use Rattle.model.specs.Output.{Answer, trace_in, snapshot_bytes}
use Rattle.model.specs.Refusal.{violation, Refusal, refuse, far_jump, unused_permission, Sizes, snapshot_size, work_size, short_buffer}
use Rattle.model.specs.Result.{Result, refused, ran, report, monitored, unmonitored, Buffers, sizes_of, trace_after, snapshot_after}
use Rattle.model.specs.Result.{work_after}

-- the job is neither empty nor longer than 16,384 bytes
pub record HasLength (job : List ℕ) : Type 0 where
  pub lowest : 1 ≤ length job
  pub highest : length job ≤ max_job

-- the commands of a job up to a place, the latest first: each is read where the one before it ends, and passes the tests 2 to 8 and 15
pub data Reads (job : List ℕ) : ℕ → List Command → Type 0 where
  begin : Reads job 0 []
  further :
      (place : ℕ) (past : List Command) (c : Command) (next : ℕ)
      → Reads job place past → place < length job → read_command job place ≡ whole c next → violation past c ≡ 0 → Reads job next (c ∷ past)

-- the refusal of a job, and the first test that it fails
pub data Refuses (job : List ℕ) (b : Sizes) : Refusal → Type 0 where
  -- 1
  empty : length job ≡ 0 → Refuses job b (refuse 1 0)
  long : max_job < length job → Refuses job b (refuse 1 0)
  -- 2, 3, and 4 to 8 and 15, at the first offending command
  no_command :
      HasLength job → (place : ℕ) (past : List Command)
      → Reads job place past → place < length job → read_command job place ≡ unknown → Refuses job b (refuse 2 place)
  cut_off :
      HasLength job → (place : ℕ) (past : List Command)
      → Reads job place past → place < length job → read_command job place ≡ cut_short → Refuses job b (refuse 3 place)
  violates :
      HasLength job → (place : ℕ) (past : List Command) (c : Command) (next k : ℕ)
      → Reads job place past → place < length job → read_command job place ≡ whole c next → violation past c ≡ k → ¬ (k ≡ 0)
      → Refuses job b (refuse k place)
  -- 9, after all commands
  jumps_far :
      HasLength job → (past : List Command) (r : Refusal)
      → Reads job (length job) past → far_jump past ≡ Some r → Refuses job b r
  -- 19, after 9
  permits_unused :
      HasLength job → (past : List Command) (r : Refusal)
      → Reads job (length job) past → far_jump past ≡ None → unused_permission past ≡ Some r → Refuses job b r
  -- 10 to 12
  has_short_buffer :
      HasLength job → (past : List Command) (r : Refusal)
      → Reads job (length job) past → far_jump past ≡ None → unused_permission past ≡ None → short_buffer job b past ≡ Some r
      → Refuses job b r

-- a job with these commands fails no test
pub record Accepts (job : List ℕ) (b : Sizes) (past : List Command) : Type 0 where
  pub size : HasLength job
  pub reads : Reads job (length job) past
  pub jumps : far_jump past ≡ None
  pub permissions : unused_permission past ≡ None
  pub buffers : short_buffer job b past ≡ None

-- a run ends with a stop from 0 to 3 after at most 4,096 turns; its trace has 7 bytes a completed turn, its snapshot at most 3,136, and the
-- buffers hold them
pub record Ends (P : Program) (b : Sizes) (r : Run) : Type 0 where
  pub stops : r.stop ≤ 3
  pub turns : length r.steps ≤ max_turns
  pub trace_length : length (trace_in r) ≡ 7 * length r.steps
  pub trace_fits : length (trace_in r) ≤ b.trace
  pub snapshot_length : length (snapshot_bytes P r.final) ≤ snapshot_size
  pub snapshot_fits : snapshot_size ≤ b.snapshot
  pub work_fits : work_size ≤ b.work

-- the monitored ("watched") and the unmonitored ("bare") run of a job's commands, both with the job's turns
abbrev pub monitored_of : List Command → Run
monitored_of past = monitored_run (program_of past) (turns_of past)

abbrev pub unmonitored_of : List Command → Run
unmonitored_of past = unmonitored_run (program_of past) (turns_of past)

-- what an accepted job comes to: both runs are handed over, and the unmonitored one never answers stop 1
pub record BothEnd (job : List ℕ) (b : Sizes) (past : List Command) : Type 0 where
  pub monitored_reports : monitored job b ≡ report (program_of past) (monitored_of past)
  pub unmonitored_reports : unmonitored job b ≡ report (program_of past) (unmonitored_of past)
  pub monitored_ends : Ends (program_of past) b (monitored_of past)
  pub unmonitored_ends : Ends (program_of past) b (unmonitored_of past)
  pub never_one : ¬ ((unmonitored_of past).stop ≡ 1)

-- what a job with buffers of these lengths comes to
pub record Concluded (job : List ℕ) (b : Sizes) : Type 0 where
  -- it is refused or accepted
  pub decided : ((r : Refusal) × Refuses job b r) ⊎ ((past : List Command) × Accepts job b past)
  -- both runs refuse it exactly so
  pub monitored_refuses : (r : Refusal) → (monitored job b ≡ refused r) ↔ Refuses job b r
  pub unmonitored_refuses : (r : Refusal) → (unmonitored job b ≡ refused r) ↔ Refuses job b r
  -- if it is accepted, both runs end
  pub runs : (past : List Command) → Accepts job b past → BothEnd job b past

-- a buffer that holds these bytes at its front; the bytes beyond are those of before, and so is its length
pub record Filled (bytes before after : List ℕ) : Type 0 where
  pub front : take (length bytes) after ≡ bytes
  pub beyond : drop (length bytes) after ≡ drop (length bytes) before
  pub same_length : length after ≡ length before

-- the buffers afterwards
pub record Leaves (result : Result) (b : Buffers) : Type 0 where
  -- a refusal changes none of them
  pub untouched :
      (r : Refusal) → result ≡ refused r
      → (trace_after result b.trace ≡ b.trace) × (snapshot_after result b.snapshot ≡ b.snapshot) ×
      (work_after result b.work ≡ b.work)
  -- a run leaves its trace, its snapshot, and 4,096 zero bytes
  pub filled :
      (a : Answer) (t s : List ℕ) → result ≡ ran a t s
      → Filled t b.trace (trace_after result b.trace) × Filled s b.snapshot (snapshot_after result b.snapshot) × Filled
      (replicate work_size 0) b.work (work_after result b.work)

-- demand 1: every job with any buffers, whatever they hold
pub record Demand1 (job : List ℕ) (b : Buffers) : Type 0 where
  pub concluded : Concluded job (sizes_of b)
  pub monitored_leaves : Leaves (monitored job (sizes_of b)) b
  pub unmonitored_leaves : Leaves (unmonitored job (sizes_of b)) b

-- demand 1 holds of every job and all buffers
abbrev pub Demand1Holds : Type 0
Demand1Holds = (job : List ℕ) (b : Buffers) → Demand1 job b

-- What a dispatched job comes to (S-2): every job, with any budget and any buffers.
use Rattle.std.specs.Prelude.{ℕ, ◌*◌, ◌≤◌, ◌<◌, ◌≡◌, ◌↔◌, ◌⊎◌, List, ◌++◌, length, None, Some}
use Rattle.model.specs.Table.{max_turns, max_job}
use Rattle.model.specs.Command.{Command}
use Rattle.model.specs.Program.{Program, program_of}
use Rattle.model.specs.Run.{Run}
use Rattle.model.specs.Output.{trace_in, snapshot_bytes}
use Rattle.model.specs.Refusal.{Refusal, refuse, Sizes, sizes, snapshot_size, work_size, short_buffer_for}
use Rattle.model.specs.Result.{refused, report, monitored, unmonitored, Buffers, sizes_of}
use Rattle.model.specs.Conclusion.{Refuses, Accepts, Leaves}
use Rattle.model.specs.Dispatch.{Dispatched, chosen_in, unmonitored_dispatch, monitored_dispatch, turn_bytes}
use Rattle.model.specs.DispatchResult.{written_turn, Handed, handed, dispatch_monitored, dispatch_unmonitored}
use Rattle.model.specs.Dispatching.{written_out, DispatchComparison}

-- the budget is neither 0 nor above 4,096
pub record HasBudget (budget : ℕ) : Type 0 where
  pub lowest : 1 ≤ budget
  pub highest : budget ≤ max_turns

-- buffers that are long enough for every job: no job of written turns is refused by 10 to 12 with them
abbrev pub longest : Sizes
longest = sizes (7 * max_turns) snapshot_size work_size

-- the refusal of a dispatched job, and the first test that it fails
pub data DispatchRefuses (budget : ℕ) (job : List ℕ) (b : Sizes) : Refusal → Type 0 where
  -- 13
  no_budget : budget ≡ 0 → DispatchRefuses budget job b (refuse 13 0)
  large_budget : max_turns < budget → DispatchRefuses budget job b (refuse 13 0)
  -- 1 to 9, 15 and 19, as a job of written turns is refused by them
  as_written : HasBudget budget → (r : Refusal) → Refuses job longest r → DispatchRefuses budget job b r
  -- 14, after those
  holds_turn :
      HasBudget budget → (past : List Command) (r : Refusal) → Accepts job longest past → written_turn past ≡ Some r
      → DispatchRefuses budget job b r
  -- 10 to 12
  has_short_buffer :
      HasBudget budget → (past : List Command) (r : Refusal) → Accepts job longest past → written_turn past ≡ None
      → short_buffer_for job b budget ≡ Some r → DispatchRefuses budget job b r

-- a dispatched job with these commands fails no test
pub record DispatchAccepts (budget : ℕ) (job : List ℕ) (b : Sizes) (past : List Command) : Type 0 where
  pub has_budget : HasBudget budget
  pub accepts : Accepts job longest past
  pub without_turns : written_turn past ≡ None
  pub buffers : short_buffer_for job b budget ≡ None

-- a dispatched run makes at most the budgeted turns; its trace has 7 bytes a completed turn, its snapshot at most 3,136, and the buffers
-- hold them
pub record DispatchEnds (P : Program) (budget : ℕ) (b : Sizes) (r : Run) : Type 0 where
  pub turns : length r.steps ≤ budget
  pub trace_length : length (trace_in r) ≡ 7 * length r.steps
  pub trace_fits : length (trace_in r) ≤ b.trace
  pub snapshot_length : length (snapshot_bytes P r.final) ≤ snapshot_size
  pub snapshot_fits : snapshot_size ≤ b.snapshot
  pub work_fits : work_size ≤ b.work

-- a job with the choices of a dispatched run written out after it as TURN commands
abbrev pub with_choices : List ℕ → Dispatched → List ℕ
with_choices job d = job ++ turn_bytes (chosen_in d.choices)

-- buffers that are long enough for so many turns
abbrev pub LongEnough : Sizes → ℕ → Type 0
LongEnough b turns = (7 * turns ≤ b.trace) × (snapshot_size ≤ b.snapshot) × (work_size ≤ b.work)

-- what an accepted job comes to
pub record BothDispatchesEnd (budget : ℕ) (job : List ℕ) (b : Sizes) (past : List Command) : Type 0 where
  -- both runs are handed over, and end
  pub monitored_hands : dispatch_monitored budget job b ≡ handed (program_of past) (monitored_dispatch (program_of past) budget)
  pub unmonitored_hands : dispatch_unmonitored budget job b ≡ handed (program_of past) (unmonitored_dispatch (program_of past) budget)
  pub monitored_ends : DispatchEnds (program_of past) budget b (monitored_dispatch (program_of past) budget).run
  pub unmonitored_ends : DispatchEnds (program_of past) budget b (unmonitored_dispatch (program_of past) budget).run
  -- the choices as TURN commands after the job give the same trace, snapshot and answer, with stop 0 for 4, if the longer job has at most
  -- 16,384 bytes, in any buffers that are long enough for them; those that the job is accepted with are
  pub monitored_long : LongEnough b (length (chosen_in (monitored_dispatch (program_of past) budget).choices))
  pub unmonitored_long : LongEnough b (length (chosen_in (unmonitored_dispatch (program_of past) budget).choices))
  pub monitored_written :
      (b' : Sizes) → LongEnough b' (length (chosen_in (monitored_dispatch (program_of past) budget).choices))
      → length (with_choices job (monitored_dispatch (program_of past) budget)) ≤ max_job
      → monitored (with_choices job (monitored_dispatch (program_of past) budget)) b'
      ≡ report (program_of past) (written_out (monitored_dispatch (program_of past) budget).run)
  pub unmonitored_written :
      (b' : Sizes) → LongEnough b' (length (chosen_in (unmonitored_dispatch (program_of past) budget).choices))
      → length (with_choices job (unmonitored_dispatch (program_of past) budget)) ≤ max_job
      → unmonitored (with_choices job (unmonitored_dispatch (program_of past) budget)) b'
      ≡ report (program_of past) (written_out (unmonitored_dispatch (program_of past) budget).run)

-- a refusal, with nothing examined
abbrev pub refused_with : Refusal → Handed
refused_with r = record { result = refused r; examined = 0 }

-- what a dispatched job with any budget and any buffers comes to, whatever they hold
pub record DispatchConcluded (budget : ℕ) (job : List ℕ) (b : Buffers) : Type 0 where
  -- it is refused or accepted
  pub decided : ((r : Refusal) × DispatchRefuses budget job (sizes_of b) r)
      ⊎ ((past : List Command) × DispatchAccepts budget job (sizes_of b) past)
  -- both runs refuse it exactly so
  pub monitored_refuses : (r : Refusal)
      → (dispatch_monitored budget job (sizes_of b) ≡ refused_with r) ↔ DispatchRefuses budget job (sizes_of b) r
  pub unmonitored_refuses : (r : Refusal)
      → (dispatch_unmonitored budget job (sizes_of b) ≡ refused_with r) ↔ DispatchRefuses budget job (sizes_of b) r
  -- if it is accepted, both runs end, and compare
  pub runs : (past : List Command) → DispatchAccepts budget job (sizes_of b) past → BothDispatchesEnd budget job (sizes_of b) past
  pub compared : (past : List Command) → DispatchAccepts budget job (sizes_of b) past
      → DispatchComparison (program_of past) (unmonitored_dispatch (program_of past) budget) (monitored_dispatch (program_of past) budget)
  -- a refusal leaves the buffers as they were; a run leaves its trace, its snapshot, and 4,096 zero bytes
  pub monitored_leaves : Leaves (dispatch_monitored budget job (sizes_of b)).result b
  pub unmonitored_leaves : Leaves (dispatch_unmonitored budget job (sizes_of b)).result b

-- it is so for every job, every budget and all buffers
abbrev pub DispatchConcludes : Type 0
DispatchConcludes = (budget : ℕ) (job : List ℕ) (b : Buffers) → DispatchConcluded budget job b

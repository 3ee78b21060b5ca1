-- Demand 3: the monitored run beside the unmonitored one ("Watched beside bare"), one claim for every job, and so for every list of turns,
-- and for all buffers.
use Rattle.std.specs.Prelude.{ℕ, ◌<◌, ◌≡◌, ◌↔◌, ◌⊎◌, true, false, List, length, take}
use Rattle.model.specs.Command.{Command}
use Rattle.model.specs.Program.{Program, program_of}
use Rattle.model.specs.Permission.{permitted, redacted}
use Rattle.model.specs.Run.{Run, entries_of, entry_at, state_at}
use Rattle.model.specs.Output.{trace_bytes, snapshot_bytes}
use Rattle.model.specs.Refusal.{Refusal}
use Rattle.model.specs.Result.{Result, refused, ran, report, monitored, unmonitored, Buffers, sizes_of}
use Rattle.model.specs.Conclusion.{Accepts, monitored_of, unmonitored_of, Leaves}

-- every completed turn of a run has a permitted entry
abbrev pub AllPermitted : Program → Run → Type 0
AllPermitted P r = (k : ℕ) → k < length r.steps → permitted P (entry_at r k) ≡ true

-- turn n of a run is forbidden: it is completed, with an entry that is not permitted
pub record Forbidden (P : Program) (r : Run) (n : ℕ) : Type 0 where
  pub is_completed : n < length r.steps
  pub not_permitted : permitted P (entry_at r n) ≡ false

-- turn n of a run is the first forbidden one
pub record FirstForbidden (P : Program) (r : Run) (n : ℕ) : Type 0 where
  pub is_forbidden : Forbidden P r n
  pub earlier : (k : ℕ) → k < n → permitted P (entry_at r k) ≡ true

-- a run stopped at its turn n: stop 1, n turns, that entry with value 0 for a read; the first n entries; the state that turn n was made
-- from
abbrev pub stopped_at : Program → Run → ℕ → Result
stopped_at P r n =
    ran (record { stop = 1; turns = n; attempted = redacted (entry_at r n) })
    (trace_bytes (take n (entries_of r.steps)))
    (snapshot_bytes P (state_at r n))

-- an unmonitored ("bare") run u and a monitored ("watched") run m of a program
pub record Comparison (P : Program) (u m : Run) : Type 0 where
  -- u has a first forbidden turn, or it has none
  pub decided : ((n : ℕ) × FirstForbidden P u n) ⊎ AllPermitted P u
  -- if it has none, what they hand over is identical: every field of the answer, trace and snapshot
  pub identical : AllPermitted P u → report P m ≡ report P u
  -- if it has one, m hands over u stopped there
  pub stops : (n : ℕ) → FirstForbidden P u n → report P m ≡ stopped_at P u n
  -- m answers stop 1 exactly if u completes a forbidden turn
  pub stop_one : (m.stop ≡ 1) ↔ ((n : ℕ) × Forbidden P u n)
  -- every entry of m is permitted
  pub safe : AllPermitted P m

-- both runs of a job with these commands: what is handed over, and how it compares
pub record BothRun (job : List ℕ) (for_monitored for_unmonitored : Buffers) (past : List Command) : Type 0 where
  pub unmonitored_reports : unmonitored job (sizes_of for_unmonitored) ≡ report (program_of past) (unmonitored_of past)
  pub monitored_reports : monitored job (sizes_of for_monitored) ≡ report (program_of past) (monitored_of past)
  pub comparison : Comparison (program_of past) (unmonitored_of past) (monitored_of past)

-- demand 3: the same job for both runs, each with buffers of its own, whatever they held before
pub record Demand3 (job : List ℕ) (for_monitored for_unmonitored : Buffers) : Type 0 where
  -- with equal buffer lengths both refuse alike, by number and place
  pub refuse_alike :
      sizes_of for_monitored ≡ sizes_of for_unmonitored → (r : Refusal)
      → (monitored job (sizes_of for_monitored) ≡ refused r) ↔ (unmonitored job (sizes_of for_unmonitored) ≡ refused r)
  -- if the job is accepted with both buffers, both run
  pub both_run :
      (past : List Command) → Accepts job (sizes_of for_monitored) past → Accepts job (sizes_of for_unmonitored) past
      → BothRun job for_monitored for_unmonitored past
  -- what is handed over stands in the buffers afterwards, and nothing else has changed
  pub monitored_leaves : Leaves (monitored job (sizes_of for_monitored)) for_monitored
  pub unmonitored_leaves : Leaves (unmonitored job (sizes_of for_unmonitored)) for_unmonitored

-- demand 3 holds of every job and all buffers
abbrev pub Demand3Holds : Type 0
Demand3Holds = (job : List ℕ) (for_monitored for_unmonitored : Buffers) → Demand3 job for_monitored for_unmonitored

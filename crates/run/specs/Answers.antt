-- The code's answers in document 01's numbers, and what an entry point leaves. `Result` is the model's here, std's is `CodeResult`.
use Rattle.std.specs.Prelude.{ℕ, ◌≡◌, Bool, true, false, List, length, Result as CodeResult, Ok, Err}
use Rattle.model.specs.Output.{Answer as Meant}
use Rattle.model.specs.Refusal.{Refusal, Sizes, sizes}
use Rattle.model.specs.Result.{Result, refused, ran, monitored, unmonitored, Buffers, sizes_of, trace_after, snapshot_after, work_after}
use Rattle.model.specs.DispatchResult.{Handed, dispatch_monitored, dispatch_unmonitored}
use Rattle.command.specs.declared.refusal.Refusal.{Refusal as Refused}
use Rattle.command.specs.Refusals.{refusal_of}
use Rattle.job.specs.declared.schedule.Schedule.{Schedule}
use Rattle.job.specs.declared.schedule.Schedule.TheVariants as s
use Rattle.turns.specs.declared.ending.Ending.{Ending}
use Rattle.turns.specs.Endings.{answer_of}

-- what is told: number and place of a refusal, or stop, completed turns and attempted entry
pub data Told : Type 0 where
  refusal : Refusal → Told
  answer : Meant → Told

-- the code's answer: how the run of a job ended, or the refusal of the job
abbrev pub Answer : Type 0
Answer = CodeResult Ending Refused

-- what each of the code's answers tells
abbrev pub told_by : Answer → Told
told_by (Err r) = refusal (refusal_of r)
told_by (Ok x) = answer (answer_of x)

-- what the model's result tells
abbrev pub told_in : Result → Told
told_in (refused r) = refusal r
told_in (ran x trace snapshot) = answer x

-- the model's result of a job with buffers of these lengths, monitored ("watched") or not ("bare")
abbrev pub result_for : Bool → List ℕ → Sizes → Result
result_for true job b = monitored job b
result_for false job b = unmonitored job b

-- the same, with these three buffers
abbrev pub result_with : Bool → List ℕ → List ℕ → List ℕ → List ℕ → Result
result_with m job trace snapshot work = result_for m job (sizes (length trace) (length snapshot) (length work))

-- what the model hands over for a job whose turns are given in either way (S-2), with buffers of these lengths: nothing is examined for
-- written turns
abbrev pub handed_for : Schedule → Bool → List ℕ → Sizes → Handed
handed_for s.Written m job b = record { result = result_for m job b; examined = 0 }
handed_for (s.Dispatched budget) true job b = dispatch_monitored budget job b
handed_for (s.Dispatched budget) false job b = dispatch_unmonitored budget job b

-- the same, with these three buffers
abbrev pub handed_with : Schedule → Bool → List ℕ → List ℕ → List ℕ → List ℕ → Handed
handed_with schedule m job trace snapshot work = handed_for schedule m job (sizes (length trace) (length snapshot) (length work))

-- what the model hands over for the monitored ("watched") dispatched run of a job with a budget and these three buffers, and for the
-- unmonitored ("bare") one
abbrev pub monitored_under : ℕ → List ℕ → List ℕ → List ℕ → List ℕ → Handed
monitored_under budget = handed_with (s.Dispatched budget) true

abbrev pub unmonitored_under : ℕ → List ℕ → List ℕ → List ℕ → List ℕ → Handed
unmonitored_under budget = handed_with (s.Dispatched budget) false

-- the model's result of the monitored ("watched") run of a job with these three buffers, and of the unmonitored ("bare") one
abbrev pub monitored_with : List ℕ → List ℕ → List ℕ → List ℕ → Result
monitored_with = result_with true

abbrev pub unmonitored_with : List ℕ → List ℕ → List ℕ → List ℕ → Result
unmonitored_with = result_with false

-- the three buffers with what they hold
abbrev pub buffers : List ℕ → List ℕ → List ℕ → Buffers
buffers trace snapshot work = record { trace = trace; snapshot = snapshot; work = work }

-- the three buffers afterwards are those of a result
pub record BuffersAfter (result : Result) (before after : Buffers) : Type 0 where
  pub trace : after.trace ≡ trace_after result before.trace
  pub snapshot : after.snapshot ≡ snapshot_after result before.snapshot
  pub work : after.work ≡ work_after result before.work

-- a call: the buffers before and after it, and what it tells
pub record Call : Type 0 where
  pub before : Buffers
  pub after : Buffers
  pub told : Told

-- the call with these
abbrev pub call : Buffers → Buffers → Told → Call
call before after x = record { before = before; after = after; told = x }

-- what a call tells and the buffers after it are those of a result
pub record Gives (result : Result) (c : Call) : Type 0 where
  pub told : c.told ≡ told_in result
  pub left : BuffersAfter result c.before c.after

-- the same of an answer of the code
abbrev pub Delivers : Result → Buffers → Buffers → Answer → Type 0
Delivers result before after x = Gives result (call before after (told_by x))

-- the four clauses of an entry point as one record: the monitored ("watched") and the unmonitored ("bare") run of a job
abbrev pub Monitored : List ℕ → Call → Type 0
Monitored job c = Gives (monitored job (sizes_of c.before)) c

abbrev pub Unmonitored : List ℕ → Call → Type 0
Unmonitored job c = Gives (unmonitored job (sizes_of c.before)) c

-- What an entry point hands over: a refusal, or the answer and the bytes of trace and snapshot; and the buffers afterwards.
use Rattle.std.specs.Prelude.{ℕ, List, ◌++◌, length, drop, replicate}
use Rattle.model.specs.Declared.{turns_of}
use Rattle.model.specs.Program.{Program, program_of}
use Rattle.model.specs.Run.{Run, monitored_run, unmonitored_run}
use Rattle.model.specs.Output.{Answer, answer_in, trace_in, snapshot_bytes}
use Rattle.model.specs.Refusal.{Refusal, Decoded, accepted, rejected, Sizes, sizes, decode_for, work_size}

-- a refusal, or an answer with the bytes of trace and snapshot
pub data Result : Type 0 where
  refused : Refusal → Result
  ran : Answer → List ℕ → List ℕ → Result

-- what a run hands over
unfoldable pub report : Program → Run → Result
report P r = ran (answer_in r) (trace_in r) (snapshot_bytes P r.final)

-- what is handed over for a job, by the way its turns are run
abbrev pub result_of : (Program → List ℕ → Run) → Decoded → Result
result_of run (accepted past) = report (program_of past) (run (program_of past) (turns_of past))
result_of run (rejected r) = refused r

-- the monitored ("watched") run of a job, with buffers of these lengths
unfoldable pub monitored : List ℕ → Sizes → Result
monitored job b = result_of monitored_run (decode_for job b)

-- the unmonitored ("bare") run of a job, with buffers of these lengths
unfoldable pub unmonitored : List ℕ → Sizes → Result
unmonitored job b = result_of unmonitored_run (decode_for job b)

-- the trace, snapshot ("picture") and work buffers with what they hold, and their lengths
pub record Buffers : Type 0 where
  pub trace : List ℕ
  pub snapshot : List ℕ
  pub work : List ℕ

abbrev pub sizes_of : Buffers → Sizes
sizes_of b = sizes (length b.trace) (length b.snapshot) (length b.work)

-- a buffer after bytes were written to its front: those beyond stay unchanged
abbrev pub written : List ℕ → List ℕ → List ℕ
written bytes buffer = bytes ++ drop (length bytes) buffer

-- the trace, snapshot and work buffers afterwards: a refusal changes none; a run leaves its trace, its snapshot, and 4,096 zero bytes
abbrev pub trace_after : Result → List ℕ → List ℕ
trace_after (refused r) buffer = buffer
trace_after (ran a trace snapshot) buffer = written trace buffer

abbrev pub snapshot_after : Result → List ℕ → List ℕ
snapshot_after (refused r) buffer = buffer
snapshot_after (ran a trace snapshot) buffer = written snapshot buffer

abbrev pub work_after : Result → List ℕ → List ℕ
work_after (refused r) buffer = buffer
work_after (ran a trace snapshot) buffer = written (replicate work_size 0) buffer

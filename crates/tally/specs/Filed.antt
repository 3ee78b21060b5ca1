-- The tally of a filed run: the counts made from the bytes of its trace and its snapshot ("picture") are those of the run.
use Rattle.std.specs.Prelude.{ℕ, ◌≤◌, ◌<◌, ◌≡◌, List, ◌++◌, length}
use Rattle.model.specs.Command.{Command}
use Rattle.model.specs.Program.{Program, program_of}
use Rattle.model.specs.Run.{Run, entry_at}
use Rattle.model.specs.Output.{trace_in, snapshot_bytes}
use Rattle.model.specs.Refusal.{accepted, decode_job}
use Rattle.model.specs.Result.{written}
use Rattle.model.specs.Tally.{tally_of}
use Rattle.writing.specs.Writing.{joined}
use Rattle.tally.specs.Tallies.{tally_in, tallies_after}

-- the counts of node n by the bytes of a run, with the number of its turns, whatever bytes follow
abbrev pub filed_tally : Program → Run → List ℕ → List ℕ → ℕ → List ℕ
filed_tally P r more rest = tally_in P (length r.steps) (trace_in r ++ more) (snapshot_bytes P r.final ++ rest)

-- they are those of the run
abbrev pub FiledHolds : Type 0
FiledHolds =
    (P : Program) (r : Run) (more rest : List ℕ) (n : ℕ) → n < P.nodes
    → filed_tally P r more rest n ≡ tally_of P (entry_at r) (length r.steps) r.final n

-- and so are those by a filed trace, with any number of turns that is not less
abbrev pub FiledAloneHolds : Type 0
FiledAloneHolds =
    (P : Program) (r : Run) (turns : ℕ) (rest : List ℕ) (n : ℕ) → length r.steps ≤ turns → n < P.nodes
    → tally_in P turns (trace_in r) (snapshot_bytes P r.final ++ rest) n ≡ tally_of P (entry_at r) (length r.steps) r.final n

-- so a tally of the buffers that a run of an accepted job left, whatever they held before, leaves the counts of that run
abbrev pub LeftHolds : Type 0
LeftHolds =
    (job : List ℕ) (past : List Command) (r : Run) (trace snapshot before : List ℕ) → decode_job job ≡ accepted past
    → let P = program_of past in
    tallies_after (decode_job job) (length r.steps) (written (trace_in r) trace) (written (snapshot_bytes P r.final) snapshot) before
    ≡ written (joined (tally_of P (entry_at r) (length r.steps) r.final) P.nodes) before

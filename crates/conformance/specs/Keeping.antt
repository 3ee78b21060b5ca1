-- What the buffers hold before a run, what a run has to keep, and which byte is changed after it.
use Rattle.std.specs.Prelude.{ℕ, zero, suc, ◌+◌, ◌-◌, ◌*◌, ◌%◌, Bool, true, false, cond, ◌&&◌, List, [], ◌∷◌, ◌++◌, length, ◌==◌, nat_eq, slice_index, slice_set}
use Rattle.std.specs.Prelude.{Ok, Err}
use Rattle.model.specs.Refusal.{work_size}
use Rattle.output.specs.Finding.{part_at}
use Rattle.run.specs.Answers.{Answer}
use Rattle.conformance.specs.declared.buffers.ChangedByte.{ChangedByte}
use Rattle.conformance.specs.declared.buffers.ChangedByte.TheVariants.{FirstOfWork, LastOfWork, LastOfTrace, LastOfSnapshot, Nothing}
use Rattle.printing.specs.Printing.{nodes_in, variables_in}

-- byte i of a filling
abbrev pub fill_byte : ℕ → ℕ → ℕ
fill_byte seed i = (seed + 31 * i) % 256

-- the first n bytes of a filling
unfoldable pub filling : ℕ → ℕ → List ℕ
filling seed zero = []
filling seed (suc n) = filling seed n ++ (fill_byte seed n ∷ [])

-- whether a test holds of each number below n
unfoldable pub all_below : (ℕ → Bool) → ℕ → Bool
all_below test zero = true
all_below test (suc n) = all_below test n && test n

-- whether a buffer has the bytes of a filling from a place on
abbrev pub is_kept : List ℕ → ℕ → ℕ → Bool
is_kept buffer from seed = all_below (λ k. nat_eq (slice_index buffer (from + k)) (fill_byte seed (from + k))) (length buffer - from)

-- whether the bytes at the front of the work buffer that a run clears are 0
abbrev pub is_cleared : List ℕ → Bool
is_cleared work = all_below (λ k. nat_eq (slice_index work k) 0) work_size

-- the length of a snapshot of these nodes and variables; a byte outside reads 0
abbrev pub length_of : List ℕ → ℕ → ℕ → ℕ
length_of snapshot nodes variables = part_at snapshot nodes + 4 * variables

-- the length of the snapshot of a job
abbrev pub snapshot_length : List ℕ → List ℕ → ℕ
snapshot_length job snapshot = length_of snapshot (nodes_in job) (variables_in job)

-- whether trace, snapshot and work buffer have the bytes of a filling, each from a place on
abbrev pub all_kept : List ℕ → ℕ → List ℕ → ℕ → List ℕ → ℕ → ℕ → Bool
all_kept trace entries snapshot shown work cleared seed =
    is_kept trace entries seed && (is_kept snapshot shown seed && is_kept work cleared seed)

-- whether a run kept what it has to keep: a refusal all bytes; a run those after its entries, its snapshot and the bytes that it clears
abbrev pub keeps : Answer → List ℕ → List ℕ → List ℕ → List ℕ → ℕ → Bool
keeps (Err r) job trace snapshot work seed = all_kept trace 0 snapshot 0 work 0 seed
keeps (Ok x) job trace snapshot work seed =
    is_cleared work && all_kept trace (7 * x.turns) snapshot (snapshot_length job snapshot) work work_size seed

-- a buffer with one more, modulo 256, at a place; unchanged if it has no such place
abbrev pub changed_at : List ℕ → ℕ → List ℕ
changed_at buffer at = slice_set buffer at ((slice_index buffer at + 1) % 256)

-- a buffer with its last byte changed so; unchanged if it has none
abbrev pub changed_last : List ℕ → List ℕ
changed_last buffer = changed_at buffer (length buffer - 1)

-- the change that a number asks for
abbrev pub change_of : ℕ → ChangedByte
change_of number =
    cond (number == 1) FirstOfWork (cond (number == 2) LastOfWork (cond (number == 3) LastOfTrace (cond (number == 4) LastOfSnapshot Nothing)))

-- the trace buffer after a change
abbrev pub changed_trace : ChangedByte → List ℕ → List ℕ
changed_trace LastOfTrace trace = changed_last trace
changed_trace _ trace = trace

-- the snapshot buffer after it
abbrev pub changed_snapshot : ChangedByte → List ℕ → List ℕ
changed_snapshot LastOfSnapshot snapshot = changed_last snapshot
changed_snapshot _ snapshot = snapshot

-- the work buffer after it
abbrev pub changed_work : ChangedByte → List ℕ → List ℕ
changed_work FirstOfWork work = changed_at work 0
changed_work LastOfWork work = changed_last work
changed_work _ work = work

-- the lines `kept` and `changed`
abbrev pub verdict_line : Bool → List ℕ
verdict_line true = 107 ∷ 101 ∷ 112 ∷ 116 ∷ 10 ∷ []
verdict_line false = 99 ∷ 104 ∷ 97 ∷ 110 ∷ 103 ∷ 101 ∷ 100 ∷ 10 ∷ []

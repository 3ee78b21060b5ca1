-- The tally (S-12) made from a job, a number of turns, and any bytes as trace and snapshot ("picture").
use Rattle.std.specs.Prelude.{ℕ, ◌/◌, min, List, [], ◌∷◌, length, Result, Ok, Err}
use Rattle.model.specs.Program.{Program, program_of}
use Rattle.model.specs.Refusal.{Refusal, Decoded, accepted, rejected}
use Rattle.model.specs.Result.{written}
use Rattle.model.specs.Tally.{started, received, taken}
use Rattle.command.specs.declared.refusal.Refusal.{Refusal as Refused}
use Rattle.command.specs.Refusals.{refusal_of}
use Rattle.writing.specs.Writing.{joined}
use Rattle.output.specs.Finding.{entry_from, waiting_in, part_at}

-- how many entries of so many turns a trace holds in full, 7 bytes an entry
abbrev pub entries_held : ℕ → List ℕ → ℕ
entries_held turns trace = min turns (length trace / 7)

-- the four counts of node n: started by the job, received and taken by the entries, waiting by the byte in the node's part of the snapshot
-- ("picture")
abbrev pub tally_in : Program → ℕ → List ℕ → List ℕ → ℕ → List ℕ
tally_in P turns trace snapshot n =
    let k = entries_held turns trace in
    started P n
    ∷ received P (entry_from trace) k n
    ∷ taken (entry_from trace) k n
    ∷ waiting_in snapshot (part_at snapshot n)
    ∷ []

-- what is told of a job: how many nodes it has, or its refusal
abbrev pub nodes_told : Decoded → Result ℕ Refusal
nodes_told (accepted past) = Ok (program_of past).nodes
nodes_told (rejected r) = Err r

-- what the code's answer tells
abbrev pub answered_by : Result ℕ Refused → Result ℕ Refusal
answered_by (Ok nodes) = Ok nodes
answered_by (Err r) = Err (refusal_of r)

-- what is told, as three numbers: number and place of a refusal, and how many nodes; 0 where there is none
abbrev pub numbers_told : Result ℕ Refusal → List ℕ
numbers_told (Ok nodes) = 0 ∷ 0 ∷ nodes ∷ []
numbers_told (Err r) = r.number ∷ r.place ∷ 0 ∷ []

-- the numbers of what is told of a job
abbrev pub tally_told : Decoded → List ℕ
tally_told job = numbers_told (nodes_told job)

-- the caller's array afterwards: the counts of the job's nodes at the front, the other numbers unchanged; all of them for a refused job
abbrev pub tallies_after : Decoded → ℕ → List ℕ → List ℕ → List ℕ → List ℕ
tallies_after (accepted past) turns trace snapshot before =
    written (joined (tally_in (program_of past) turns trace snapshot) (program_of past).nodes) before
tallies_after (rejected r) turns trace snapshot before = before

-- What is printed for a job ("Jobs worked by hand").
use Rattle.std.specs.Prelude.{ℕ, ◌+◌, Bool, List, [], ◌++◌, leb, length, Option, None, Some}
use Rattle.writing.specs.Writing.{joined}
use Rattle.lines.specs.Lines.{run_lines, tally_line, refused_line, examined_line}
use Rattle.tally.specs.Tallies.{tally_in}
use Rattle.model.specs.Table.{NODE, VAR}
use Rattle.model.specs.Declared.{count_of}
use Rattle.model.specs.Program.{Program, program_of}
use Rattle.model.specs.Output.{Answer}
use Rattle.model.specs.Refusal.{decode_job, commands_of}
use Rattle.model.specs.Result.{Result, refused, ran}
use Rattle.model.specs.DispatchResult.{Handed}
use Rattle.job.specs.declared.schedule.Schedule.{Schedule}
use Rattle.job.specs.declared.schedule.Schedule.TheVariants as s
use Rattle.run.specs.Answers.{Told, told_by, told_in}
use Rattle.printing.specs.declared.Printed.{Printed}

-- how many nodes and variables a job declares
abbrev pub nodes_in : List ℕ → ℕ
nodes_in job = count_of NODE (commands_of (decode_job job))

abbrev pub variables_in : List ℕ → ℕ
variables_in job = count_of VAR (commands_of (decode_job job))

-- the tallies (S-12) of a program's first nodes, after so many turns, by trace and snapshot ("picture")
abbrev pub tally_lines : Program → ℕ → List ℕ → List ℕ → ℕ → List ℕ
tally_lines P turns trace snapshot nodes = joined (λ n. tally_line n (tally_in P turns trace snapshot n)) nodes

-- what is printed for a job whose run left this answer, trace and snapshot: the lines of the run, then the tallies
abbrev pub ended_lines : List ℕ → Answer → List ℕ → List ℕ → List ℕ
ended_lines job x trace snapshot =
    run_lines x trace snapshot (nodes_in job) (variables_in job)
    ++ tally_lines (program_of (commands_of (decode_job job))) x.turns trace snapshot (nodes_in job)

-- what is printed for a job with this result
abbrev pub result_lines : List ℕ → Result → List ℕ
result_lines job (refused r) = refused_line r.number r.place
result_lines job (ran x trace snapshot) = ended_lines job x trace snapshot

-- the line after those of a run: the examined total, if its turns were dispatched (S-2)
abbrev pub total_lines : Schedule → ℕ → List ℕ
total_lines s.Written examined = []
total_lines (s.Dispatched budget) examined = examined_line examined

abbrev pub total_after : Schedule → Result → ℕ → List ℕ
total_after schedule (refused r) examined = []
total_after schedule (ran x trace snapshot) examined = total_lines schedule examined

-- what is printed for a job whose turns are given in this way, by what is handed over: a refusal is one line
abbrev pub lines_by : Schedule → List ℕ → Handed → List ℕ
lines_by schedule job h = result_lines job h.result ++ total_after schedule h.result h.examined

-- bytes of text that are enough for the lines of every run
abbrev pub text_size : ℕ
text_size = 131072

-- whether a text has room for them from a place on
abbrev pub has_room : List ℕ → ℕ → Bool
has_room text at = leb (at + text_size) (length text)

-- what a call says that puts lines: the place after them, and what the run tells
pub record Said : Type 0 where
  pub end : ℕ
  pub told : Told

-- what each of the code's answers says: nothing, if the text has no room
abbrev pub said_by : Option Printed → Option Said
said_by (Some p) = Some (record { end = p.end; told = told_by p.answer })
said_by None = None

-- what is said of a job whose lines begin at a place, by what is handed over
abbrev pub said_of : ℕ → Schedule → List ℕ → Handed → Said
said_of at schedule job h = record { end = at + length (lines_by schedule job h); told = told_in h.result }

-- the place after what was put from a place on
abbrev pub place_after : ℕ → Option Printed → ℕ
place_after at (Some p) = p.end
place_after at None = at

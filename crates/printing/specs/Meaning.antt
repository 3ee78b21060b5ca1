-- What the printed lines mean ("Jobs worked by hand"): the lines of a run by its entries and its last state, without the bytes handed over.
use Rattle.std.specs.Prelude.{ℕ, ◌≡◌, List, [], ◌∷◌, ◌++◌, length}
use Rattle.text.specs.Text.{decimal, line}
use Rattle.writing.specs.Writing.{joined}
use Rattle.lines.specs.Lines.{node_word, var_word, end_line, tally_line, refused_line, examined_line}
use Rattle.model.specs.Declared.{turns_of}
use Rattle.model.specs.Program.{Program, program_of}
use Rattle.model.specs.State.{Message, State, position_at, accumulator_at, message_at, queue_at, waiting_at, variable_at}
use Rattle.model.specs.Turn.{Entry}
use Rattle.model.specs.Run.{Run, entry_at, monitored_run, unmonitored_run}
use Rattle.model.specs.Output.{answer_in}
use Rattle.model.specs.Refusal.{Decoded, accepted, rejected, Sizes, decode_for}
use Rattle.model.specs.Result.{monitored, unmonitored}
use Rattle.model.specs.Dispatch.{Dispatched, examined_in, monitored_dispatch, unmonitored_dispatch}
use Rattle.model.specs.DispatchResult.{decode_dispatch, dispatch_monitored, dispatch_unmonitored}
use Rattle.model.specs.Tally.{tally_of}
use Rattle.model.specs.Valid.{Bytes}
use Rattle.job.specs.declared.schedule.Schedule.TheVariants as s
use Rattle.printing.specs.Printing.{result_lines, lines_by}

-- an entry: node, kind, number, value
unfoldable pub line_of_entry : Entry → List ℕ
line_of_entry e = line (decimal e.node) (e.kind ∷ e.number ∷ e.value ∷ [])

-- waiting messages: of each the value, then the sender
abbrev pub message_numbers : List Message → List ℕ
message_numbers [] = []
message_numbers (m ∷ ms) = m.value ∷ m.sender ∷ message_numbers ms

-- node n of a state: `node`, number, position, accumulator ("hand"), message, waiting count, then the waiting messages with
-- their senders, oldest first
unfoldable pub line_of_node : State → ℕ → List ℕ
line_of_node s n = line node_word (n ∷ position_at s n ∷ accumulator_at s n ∷ message_at s n ∷ waiting_at s n ∷ message_numbers (queue_at s n))

-- variable x of a state: `var`, number, value
unfoldable pub line_of_variable : State → ℕ → List ℕ
line_of_variable s x = line var_word (x ∷ variable_at s x ∷ [])

-- the entries of a run, in order
abbrev pub lines_of_entries : Run → List ℕ
lines_of_entries r = joined (λ k. line_of_entry (entry_at r k)) (length r.steps)

-- a state of a program: its nodes, then its variables
abbrev pub lines_of_state : Program → State → List ℕ
lines_of_state P s = joined (line_of_node s) P.nodes ++ joined (line_of_variable s) P.variables

-- a run of a program: its entries, its answer, its last state
unfoldable pub lines_of_run : Program → Run → List ℕ
lines_of_run P r = lines_of_entries r ++ (end_line (answer_in r) ++ lines_of_state P r.final)

-- the tallies of a run (S-12): a line for each node of the program, in order, with its four counts at the stop
unfoldable pub lines_of_tallies : Program → Run → List ℕ
lines_of_tallies P r = joined (λ n. tally_line n (tally_of P (entry_at r) (length r.steps) r.final n)) P.nodes

-- a run and its tallies
abbrev pub lines_of_ended : Program → Run → List ℕ
lines_of_ended P r = lines_of_run P r ++ lines_of_tallies P r

-- a job, by the way its turns are run: the lines of its run, or that of its refusal
abbrev pub lines_of_job : (Program → List ℕ → Run) → Decoded → List ℕ
lines_of_job run (accepted past) = lines_of_ended (program_of past) (run (program_of past) (turns_of past))
lines_of_job run (rejected r) = refused_line r.number r.place

-- what is printed by the bytes handed over is what the run means, monitored ("watched") and unmonitored ("bare")
pub record PrintsRuns (job : List ℕ) (b : Sizes) : Type 0 where
  pub monitored_prints : result_lines job (monitored job b) ≡ lines_of_job monitored_run (decode_for job b)
  pub unmonitored_prints : result_lines job (unmonitored job b) ≡ lines_of_job unmonitored_run (decode_for job b)

-- it is so for every job of bytes and all buffers
abbrev pub LinesHold : Type 0
LinesHold = (job : List ℕ) (b : Sizes) → Bytes job → PrintsRuns job b

-- a dispatched job (S-2), by the way it is dispatched: the lines of its run, then that of the examined total; or the line of its refusal
abbrev pub lines_of_dispatch : (Program → Dispatched) → Decoded → List ℕ
lines_of_dispatch dispatch (accepted past) =
    lines_of_ended (program_of past) (dispatch (program_of past)).run ++ examined_line (examined_in (dispatch (program_of past)).choices)
lines_of_dispatch dispatch (rejected r) = refused_line r.number r.place

-- what is printed by the bytes handed over is what the dispatched run means, monitored ("watched") and unmonitored ("bare")
pub record PrintsDispatches (budget : ℕ) (job : List ℕ) (b : Sizes) : Type 0 where
  pub monitored_prints : lines_by (s.Dispatched budget) job (dispatch_monitored budget job b)
      ≡ lines_of_dispatch (λ P. monitored_dispatch P budget) (decode_dispatch budget job b)
  pub unmonitored_prints : lines_by (s.Dispatched budget) job (dispatch_unmonitored budget job b)
      ≡ lines_of_dispatch (λ P. unmonitored_dispatch P budget) (decode_dispatch budget job b)

-- it is so for every job of bytes, every budget and all buffers
abbrev pub DispatchLinesHold : Type 0
DispatchLinesHold = (budget : ℕ) (job : List ℕ) (b : Sizes) → Bytes job → PrintsDispatches budget job b

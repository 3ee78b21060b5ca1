-- The lines that a run prints ("Jobs worked by hand"), by the bytes that it left.
use Rattle.std.specs.Prelude.{ℕ, ◌+◌, ◌*◌, List, [], ◌∷◌, ◌++◌, get_or}
use Rattle.text.specs.Text.{decimal, line}
use Rattle.writing.specs.Writing.{joined}
use Rattle.model.specs.Command.{number_at}
use Rattle.model.specs.Output.{Answer}
use Rattle.output.specs.Written.{entry_with}
use Rattle.output.specs.Finding.{entry_from, waiting_in, part_at}
use Rattle.lines.specs.declared.answer.AnswerNumbers.{AnswerNumbers}

-- the words `end`, `node`, `var`, `tally`, `refused` and `examined`
abbrev pub end_word : List ℕ
end_word = 101 ∷ 110 ∷ 100 ∷ []

abbrev pub node_word : List ℕ
node_word = 110 ∷ 111 ∷ 100 ∷ 101 ∷ []

abbrev pub var_word : List ℕ
var_word = 118 ∷ 97 ∷ 114 ∷ []

abbrev pub tally_word : List ℕ
tally_word = 116 ∷ 97 ∷ 108 ∷ 108 ∷ 121 ∷ []

abbrev pub refused_word : List ℕ
refused_word = 114 ∷ 101 ∷ 102 ∷ 117 ∷ 115 ∷ 101 ∷ 100 ∷ []

abbrev pub examined_word : List ℕ
examined_word = 101 ∷ 120 ∷ 97 ∷ 109 ∷ 105 ∷ 110 ∷ 101 ∷ 100 ∷ []

-- entry k of the trace: node, kind, number, value
unfoldable pub entry_line : List ℕ → ℕ → List ℕ
entry_line trace k =
    let e = entry_from trace k in
    line (decimal e.node) (e.kind ∷ e.number ∷ e.value ∷ [])

-- the answer with these numbers
abbrev pub answer_with : AnswerNumbers → Answer
answer_with x = record { stop = x.stop; turns = x.turns; attempted = entry_with x.attempted }

-- `end`, stop, turns, attempted entry
unfoldable pub end_line : Answer → List ℕ
end_line x =
    line end_word
    (x.stop ∷ x.turns ∷ x.attempted.node ∷ x.attempted.kind ∷ x.attempted.number ∷ x.attempted.value ∷ [])

-- message i of those from a place of the snapshot ("picture") on: value, sender
abbrev pub message_in : List ℕ → ℕ → ℕ → List ℕ
message_in snapshot place i = number_at snapshot (place + 5 * i) 4 ∷ number_at snapshot (place + 5 * i + 4) 1 ∷ []

-- the first `count` of them
unfoldable pub messages_at : List ℕ → ℕ → ℕ → List ℕ
messages_at snapshot place count = joined (message_in snapshot place) count

-- the node whose part begins at a place: `node`, number, position, accumulator ("hand"), message, waiting count, then the waiting messages
-- with their senders
unfoldable pub node_line : List ℕ → ℕ → ℕ → List ℕ
node_line snapshot place n =
    line node_word
    (n ∷ number_at snapshot place 1 ∷ number_at snapshot (place + 1) 4 ∷ number_at snapshot (place + 5) 4 ∷ waiting_in snapshot place
    ∷ messages_at snapshot (place + 10) (waiting_in snapshot place))

-- variable x of those from a place of the snapshot on: `var`, number, value
unfoldable pub variable_line : List ℕ → ℕ → ℕ → List ℕ
variable_line snapshot place x = line var_word (x ∷ number_at snapshot (place + 4 * x) 4 ∷ [])

-- node n of the snapshot
abbrev pub part_line : List ℕ → ℕ → List ℕ
part_line snapshot n = node_line snapshot (part_at snapshot n) n

-- the snapshot: its nodes, then its variables
abbrev pub node_lines : List ℕ → ℕ → List ℕ
node_lines snapshot nodes = joined (part_line snapshot) nodes

unfoldable pub snapshot_lines : List ℕ → ℕ → ℕ → List ℕ
snapshot_lines snapshot nodes variables =
    node_lines snapshot nodes ++ joined (variable_line snapshot (part_at snapshot nodes)) variables

-- a run: its entries, its answer, its snapshot
unfoldable pub run_lines : Answer → List ℕ → List ℕ → ℕ → ℕ → List ℕ
run_lines x trace snapshot nodes variables =
    joined (entry_line trace) x.turns ++ (end_line x ++ snapshot_lines snapshot nodes variables)

-- the tally of node n, by its four counts (S-12): `tally`, number, started, received, taken, waiting
unfoldable pub tally_line : ℕ → List ℕ → List ℕ
tally_line n counts = line tally_word (n ∷ counts)

-- the counts of node n in an array, four a node
abbrev pub four_at : List ℕ → ℕ → List ℕ
four_at counts n = get_or counts (4 * n) 0 ∷ get_or counts (4 * n + 1) 0 ∷ get_or counts (4 * n + 2) 0 ∷ get_or counts (4 * n + 3) 0 ∷ []

-- the tallies of the first nodes, by an array
abbrev pub tally_lines_in : List ℕ → ℕ → List ℕ
tally_lines_in counts nodes = joined (λ n. tally_line n (four_at counts n)) nodes

-- a refusal: `refused`, number, place
unfoldable pub refused_line : ℕ → ℕ → List ℕ
refused_line number place = line refused_word (number ∷ place ∷ [])

-- the examined total of a dispatched run (S-2): `examined`, total
unfoldable pub examined_line : ℕ → List ℕ
examined_line examined = line examined_word (examined ∷ [])

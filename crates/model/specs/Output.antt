-- What a run hands over, as bytes ("What the run hands over"). The paper's "end picture" is the snapshot here.
use Rattle.std.specs.Prelude.{ℕ, zero, suc, ◌/◌, ◌%◌, List, [], ◌∷◌, ◌++◌, length}
use Rattle.model.specs.Program.{Program}
use Rattle.model.specs.State.{Message, State, position_at, accumulator_at, message_at, queue_at, waiting_at, variable_at}
use Rattle.model.specs.Turn.{Entry}
use Rattle.model.specs.Run.{Run, entries_of}

-- the answer: the stop, the completed turns, the attempted entry
pub record Answer : Type 0 where
  pub stop : ℕ
  pub turns : ℕ
  pub attempted : Entry

-- the answer of a run
abbrev pub answer_in : Run → Answer
answer_in r = record { stop = r.stop; turns = length r.steps; attempted = r.attempted }

-- a number as 4 bytes, lowest byte first
abbrev pub bytes4 : ℕ → List ℕ
bytes4 v = v % 256 ∷ v / 256 % 256 ∷ v / 65536 % 256 ∷ v / 16777216 % 256 ∷ []

-- an entry as 7 bytes
abbrev pub entry_bytes : Entry → List ℕ
entry_bytes e = e.node ∷ e.kind ∷ e.number ∷ bytes4 e.value

-- the trace: its entries as bytes
unfoldable pub trace_bytes : List Entry → List ℕ
trace_bytes [] = []
trace_bytes (e ∷ es) = entry_bytes e ++ trace_bytes es

-- waiting messages: of each the value as 4 bytes, then the sender
unfoldable pub messages_bytes : List Message → List ℕ
messages_bytes [] = []
messages_bytes (m ∷ ms) = bytes4 m.value ++ (m.sender ∷ messages_bytes ms)

-- a node: position, accumulator, message, how many messages wait, and these with their senders, oldest first
abbrev pub node_bytes : State → ℕ → List ℕ
node_bytes s n = position_at s n ∷ bytes4 (accumulator_at s n) ++ bytes4 (message_at s n) ++ (waiting_at s n ∷ messages_bytes (queue_at s n))

-- the first k nodes
unfoldable pub nodes_bytes : State → ℕ → List ℕ
nodes_bytes s zero = []
nodes_bytes s (suc k) = nodes_bytes s k ++ node_bytes s k

-- where the part of node n begins: the length of all parts before it
abbrev pub part_start : State → ℕ → ℕ
part_start s n = length (nodes_bytes s n)

-- the first k variables
unfoldable pub variables_bytes : State → ℕ → List ℕ
variables_bytes s zero = []
variables_bytes s (suc k) = variables_bytes s k ++ bytes4 (variable_at s k)

-- the snapshot ("end picture"): the nodes in order, then the variables
unfoldable pub snapshot_bytes : Program → State → List ℕ
snapshot_bytes P s = nodes_bytes s P.nodes ++ variables_bytes s P.variables

-- where the variables begin: the length of the parts of all nodes
abbrev pub variables_start : Program → State → ℕ
variables_start P s = part_start s P.nodes

-- the trace of a run
abbrev pub trace_in : Run → List ℕ
trace_in r = trace_bytes (entries_of r.steps)

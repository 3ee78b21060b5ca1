-- The state of a run ("A turn"). The paper's "hand" is the accumulator here.
use Rattle.std.specs.Prelude.{ℕ, zero, suc, ◌<◌, List, [], ◌∷◌, ◌++◌, map, length, get_or, set, replicate}
use Rattle.model.specs.Table.{max_nodes, max_variables}
use Rattle.model.specs.Program.{Program}

-- a waiting message: its value, and its sender: the node that sent it, or 255 for START
pub record Message : Type 0 where
  pub value : ℕ
  pub sender : ℕ

-- the sender of a START value
abbrev pub start_sender : ℕ
start_sender = 255

-- the message from this sender with this value; what stands for one where there is none
abbrev pub message_from : ℕ → ℕ → Message
message_from sender value = record { value = value; sender = sender }

abbrev pub no_message : Message
no_message = message_from 0 0

-- of each of 32 nodes the position in its handler, the accumulator ("hand"), the message being handled and the waiting messages, oldest
-- first; of each of 64 variables the value.
-- Nodes and variables that are not declared stay as they start, and no output shows them.
pub record State : Type 0 where
  pub position : List ℕ
  pub accumulator : List ℕ
  pub message : List ℕ
  pub queue : List (List Message)
  pub variable : List ℕ

-- the position of a node that is idle
abbrev pub idle : ℕ
idle = 255

-- a node's position, accumulator, message, waiting messages and their number; a variable's value
abbrev pub position_at : State → ℕ → ℕ
position_at s n = get_or s.position n 0

abbrev pub accumulator_at : State → ℕ → ℕ
accumulator_at s n = get_or s.accumulator n 0

abbrev pub message_at : State → ℕ → ℕ
message_at s n = get_or s.message n 0

abbrev pub queue_at : State → ℕ → List Message
queue_at s n = get_or s.queue n []

abbrev pub waiting_at : State → ℕ → ℕ
waiting_at s n = length (queue_at s n)

abbrev pub variable_at : State → ℕ → ℕ
variable_at s x = get_or s.variable x 0

-- every waiting message of these queues has a property, by the node that it waits at
abbrev pub EachWaiting : (ℕ → Message → Type 0) → List (List Message) → Type 0
EachWaiting Q qs = (n i : ℕ) → i < length (get_or qs n []) → Q n (get_or (get_or qs n []) i no_message)

-- the state with one part changed
abbrev pub with_position : State → ℕ → ℕ → State
with_position s n p = record {
  position = set s.position n p;
  accumulator = s.accumulator;
  message = s.message;
  queue = s.queue;
  variable = s.variable;
}

abbrev pub with_accumulator : State → ℕ → ℕ → State
with_accumulator s n a = record {
  position = s.position;
  accumulator = set
      s.accumulator n a;
  message = s.message;
  queue = s.queue;
  variable = s.variable;
}

abbrev pub with_message : State → ℕ → ℕ → State
with_message s n m = record {
  position = s.position;
  accumulator = s.accumulator;
  message = set
      s.message n m;
  queue = s.queue;
  variable = s.variable;
}

abbrev pub with_queues : State → List (List Message) → State
with_queues s qs = record { position = s.position; accumulator = s.accumulator; message = s.message; queue = qs; variable = s.variable }

abbrev pub with_queue : State → ℕ → List Message → State
with_queue s n q = with_queues s (set s.queue n q)

abbrev pub with_variable : State → ℕ → ℕ → State
with_variable s x v = record {
  position = s.position;
  accumulator = s.accumulator;
  message = s.message;
  queue = s.queue;
  variable = set
      s.variable x v;
}

-- the values of a function at 0, 1, .. up to below a number
unfoldable pub tabulate : {A : Type 0} → ℕ → (ℕ → A) → List A
tabulate zero f = []
tabulate (suc k) f = tabulate k f ++ (f k ∷ [])

-- what waits at a node at the start: its START value, with the sender that START has
abbrev pub first_queue : Program → ℕ → List Message
first_queue P n = map (message_from start_sender) (P.first_messages n)

-- the start: every node idle, its accumulator and message 0; the queues hold the START values, the variables their starts
unfoldable pub initial_state : Program → State
initial_state P =
    record {
      position = replicate max_nodes idle;
      accumulator = replicate max_nodes 0;
      message = replicate max_nodes 0;
      queue = tabulate max_nodes (first_queue P);
      variable = tabulate max_variables P.start_value;
    }

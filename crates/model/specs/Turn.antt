-- One turn ("A turn"): from a program and the state before, and from nothing else, the next state and an entry, or a stop. Permissions are
-- ignored here.
use Rattle.std.specs.Prelude.{ℕ, zero, suc, ◌+◌, ◌%◌, ◌^◌, Bool, false, cond, ◌&&◌, ◌||◌, List, [], ◌∷◌, ◌++◌, leb, ltb, eqb, length, get_or, set, drop}
use Rattle.model.specs.Table.{SET, TAKE, GET, PUT, ADD, PLUS, JUMPZ, JUMP, SEND, CALL, max_nodes, max_waiting}
use Rattle.model.specs.Declared.{Instruction, instruction}
use Rattle.model.specs.Program.{Program, shared_in}
use Rattle.model.specs.State.{Message, message_from, no_message}
use Rattle.model.specs.State.{State, idle, position_at, accumulator_at, message_at, queue_at, waiting_at, variable_at, with_position}
use Rattle.model.specs.State.{with_accumulator, with_message, with_queues, with_queue, with_variable}

-- a trace entry: node, kind, number, value
pub record Entry : Type 0 where
  pub node : ℕ
  pub kind : ℕ
  pub number : ℕ
  pub value : ℕ

-- the entry with these
abbrev pub entry : ℕ → ℕ → ℕ → ℕ → Entry
entry n kind number value = record { node = n; kind = kind; number = number; value = value }

-- what a turn comes to: completed, with its entry and the next state, or stopped, with the stop and the attempted entry
pub data Turned : Type 0 where
  completed : Entry → State → Turned
  stopped : ℕ → Entry → Turned

-- the oldest waiting message of a node
abbrev pub oldest : State → ℕ → Message
oldest s n = get_or (queue_at s n) 0 no_message

-- the node takes its oldest message: accumulator 0, position 0
abbrev pub begun : State → ℕ → State
begun s n = with_queue (with_message (with_accumulator (with_position s n 0) n 0) n (oldest s n).value) n (drop 1 (queue_at s n))

-- the turn of an idle node: stop 2 if its queue is empty, else kind 1 with the sender of the message and its value
abbrev pub idle_turn : State → ℕ → Turned
idle_turn s n =
    cond (eqb (waiting_at s n) 0) (stopped 2 (entry n 0 0 0))
    (completed (entry n 1 (oldest s n).sender (oldest s n).value) (begun s n))

-- the node becomes idle, accumulator and message 0
abbrev pub finished : State → ℕ → State
finished s n = with_message (with_accumulator (with_position s n idle) n 0) n 0

-- the entry that a handler command leaves: 3 for a shared variable read, 4 for one written, 5 for a call, 6 for a send, 0 for all else
abbrev pub entry_of : Program → State → ℕ → Instruction → Entry
entry_of P s n i =
    let x = i.operand in
    let acc = accumulator_at s n in
    let other = entry n 0 0 0 in
    cond (eqb i.byte GET) (cond (shared_in P x) (entry n 3 x (variable_at s x)) other)
    (cond (eqb i.byte PLUS) (cond (shared_in P x) (entry n 3 x (variable_at s x)) other)
    (cond (eqb i.byte PUT) (cond (shared_in P x) (entry n 4 x acc) other)
    (cond (eqb i.byte CALL) (entry n 5 x acc)
    (cond (eqb i.byte SEND) (entry n 6 x acc)
    other))))

-- the test passes for some number below k
unfoldable pub some_below : (ℕ → Bool) → ℕ → Bool
some_below test zero = false
some_below test (suc k) = some_below test k || test k

-- the target is wired to the node's port and holds 16 messages already
abbrev pub is_full : Program → State → ℕ → ℕ → ℕ → Bool
is_full P s n port t = P.wired n port t && leb max_waiting (waiting_at s t)

-- the command is a send, and some target is full
abbrev pub blocked : Program → State → ℕ → Instruction → Bool
blocked P s n i = eqb i.byte SEND && some_below (is_full P s n i.operand) max_nodes

-- the queues with the message at the back of each target's, for targets below k
unfoldable pub delivered : (ℕ → Bool) → Message → List (List Message) → ℕ → List (List Message)
delivered target m qs zero = qs
delivered target m qs (suc k) =
    let d = delivered target m qs k in
    let more = set d k (get_or d k [] ++ (m ∷ [])) in
    cond (target k) more d

-- the sum modulo 2^32
abbrev pub sum32 : ℕ → ℕ → ℕ
sum32 a b = (a + b) % 2 ^ 32

-- the node's position moves on by one
abbrev pub advanced : State → ℕ → State
advanced s n = with_position s n (position_at s n + 1)

-- what a handler command does ("what it does"), for the node n whose turn it is; after all but a taken jump the position moves on by one
abbrev pub performed : Program → State → ℕ → Instruction → State
performed P s n i =
    let x = i.operand in
    let acc = accumulator_at s n in
    cond (eqb i.byte SET) (advanced (with_accumulator s n x) n)
    (cond (eqb i.byte TAKE) (advanced (with_accumulator s n (message_at s n)) n)
    (cond (eqb i.byte GET) (advanced (with_accumulator s n (variable_at s x)) n)
    (cond (eqb i.byte PUT) (advanced (with_variable s x acc) n)
    (cond (eqb i.byte ADD) (advanced (with_accumulator s n (sum32 acc x)) n)
    (cond (eqb i.byte PLUS) (advanced (with_accumulator s n (sum32 acc (variable_at s x))) n)
    (cond (eqb i.byte JUMPZ) (cond (eqb acc 0) (with_position s n x) (advanced s n))
    (cond (eqb i.byte JUMP) (with_position s n x)
    (cond (eqb i.byte SEND) (advanced (with_queues s (delivered (P.wired n x) (message_from n acc) s.queue max_nodes)) n)
    (cond (eqb i.byte CALL) (advanced (with_accumulator s n (P.answer x acc)) n)
    (advanced s n))))))))))

-- the turn of a node at a handler command: stop 3 if a target is full, else what the command does
abbrev pub executed : Program → State → ℕ → Instruction → Turned
executed P s n i = cond (blocked P s n i) (stopped 3 (entry_of P s n i)) (completed (entry_of P s n i) (performed P s n i))

-- the instruction of a node's handler at a position
abbrev pub instruction_at : Program → ℕ → ℕ → Instruction
instruction_at P n i = get_or (P.handler n) i (instruction 0 0)

-- one turn of a node: idle, at a handler command, or at the end of its handler
unfoldable pub turn : Program → State → ℕ → Turned
turn P s n =
    cond (eqb (position_at s n) idle) (idle_turn s n)
    (cond (ltb (position_at s n) (length (P.handler n))) (executed P s n (instruction_at P n (position_at s n)))
    (completed (entry n 2 0 0) (finished s n)))

-- What holds of the commands of every accepted job, and of every state of its runs: what proofs about code rest on. No definition above
-- uses it.
use Rattle.std.specs.Prelude.{ℕ, ◌+◌, ◌^◌, ◌≤◌, ◌<◌, ◌≡◌, true, false, ◌&&◌, List, [], ◌∷◌, ◌⊎◌, leb, length, get_or, None}
use Rattle.model.specs.Table.{FLOW, NODE, VAR, FUN, REPLY, ARG, SPAN, SET, SKIP, TURN, OperandKind, scope, owner, start, answer}
use Rattle.model.specs.Table.{node, port, target, function, argument, value, low, high, variable, jump, absent, operands_of, kind_at}
use Rattle.model.specs.Table.{max_flows, max_nodes, max_variables, max_functions, max_replies, max_handler, max_ranges, max_turns, max_port}
use Rattle.model.specs.Table.{max_waiting}
use Rattle.model.specs.Command.{Operands, Command}
use Rattle.model.specs.Declared.{Instruction, count_of, body_length}
use Rattle.model.specs.Program.{Program}
use Rattle.model.specs.State.{State, idle, position_at, accumulator_at, message_at, waiting_at, variable_at, EachWaiting}
use Rattle.model.specs.Turn.{instruction_at}
use Rattle.model.specs.Refusal.{group_falls, exceeds_count, undeclared, out_of_reach, repeated, empty_span, violation}
use Rattle.model.specs.Refusal.{far_jump}

-- an operand is allowed by the largest count of what it names; one that is absent is 0
abbrev pub Allowed : OperandKind → ℕ → Type 0
Allowed scope x = x ≤ 2
Allowed owner x = x < max_nodes
Allowed start x = Unit {0}
Allowed answer x = Unit {0}
Allowed node x = x < max_nodes
Allowed port x = x ≤ max_port
Allowed target x = x < max_nodes
Allowed function x = x < max_functions
Allowed argument x = Unit {0}
Allowed value x = Unit {0}
Allowed low x = Unit {0}
Allowed high x = Unit {0}
Allowed variable x = x < max_variables
Allowed jump x = Unit {0}
Allowed absent x = x ≡ 0

-- a command as it is read: its byte is in the table, and its absent operands are 0
pub record Plain (c : Command) : Type 0 where
  pub known : operands_of c.byte ≡ None → ⊥
  pub first : kind_at c.byte 0 ≡ absent → c.operands.first ≡ 0
  pub second : kind_at c.byte 1 ≡ absent → c.operands.second ≡ 0
  pub third : kind_at c.byte 2 ≡ absent → c.operands.third ≡ 0
  pub fourth : kind_at c.byte 3 ≡ absent → c.operands.fourth ≡ 0

-- each command of the list, the latest first, is plain and passes the tests 4 to 8 and 15 after those before it
abbrev pub Valid : List Command → Type 0
Valid [] = Unit {0}
Valid (c ∷ past) = Valid past × Plain c × (violation past c ≡ 0)

-- a command that passes the tests 4 to 8 and 15
pub record Passes (past : List Command) (c : Command) : Type 0 where
  pub ordered : group_falls past c ≡ false
  pub counted : exceeds_count past c ≡ false
  pub declares : undeclared past c ≡ false
  pub reaches : out_of_reach past c ≡ false
  pub fresh : repeated past c ≡ false
  pub ascends : empty_span c ≡ false

-- the commands of an accepted job: what a run asks of them
pub record ValidJob (past : List Command) : Type 0 where
  pub commands : Valid past
  pub jumps : far_jump past ≡ None

-- the operands of a command byte are allowed
pub record Named (b : ℕ) (x : Operands) : Type 0 where
  pub first : Allowed (kind_at b 0) x.first
  pub second : Allowed (kind_at b 1) x.second
  pub third : Allowed (kind_at b 2) x.third
  pub fourth : Allowed (kind_at b 3) x.fourth

-- an instruction of a handler of an accepted job
pub record NamedInstruction (i : Instruction) : Type 0 where
  pub handler : (leb SET i.byte && leb i.byte SKIP) ≡ true
  pub operand : Allowed (kind_at i.byte 0) i.operand

-- the counts of the commands of an accepted job
pub record Limits (past : List Command) : Type 0 where
  pub flows : count_of FLOW past ≤ max_flows
  pub nodes : count_of NODE past ≤ max_nodes
  pub variables : count_of VAR past ≤ max_variables
  pub functions : count_of FUN past ≤ max_functions
  pub replies : count_of REPLY past ≤ max_replies
  pub ranges : count_of ARG past + count_of SPAN past ≤ max_ranges
  pub turns : count_of TURN past ≤ max_turns
  pub handlers : (n : ℕ) → body_length past n ≤ max_handler

-- at most 16 messages wait at a node
abbrev pub Bounded : State → Type 0
Bounded s = (n : ℕ) → waiting_at s n ≤ max_waiting

-- a node is idle or at a place of its handler, the end included
abbrev pub AtPlace : Program → ℕ → ℕ → Type 0
AtPlace P n p = (p ≡ idle) ⊎ (p ≤ length (P.handler n))

abbrev pub Placed : Program → State → Type 0
Placed P s = (n : ℕ) → AtPlace P n (position_at s n)

-- there are 32 nodes and 64 variables
pub record Sized (s : State) : Type 0 where
  pub position : length s.position ≡ max_nodes
  pub accumulator : length s.accumulator ≡ max_nodes
  pub message : length s.message ≡ max_nodes
  pub queue : length s.queue ≡ max_nodes
  pub variable : length s.variable ≡ max_variables

-- a job is bytes
abbrev pub Bytes : List ℕ → Type 0
Bytes job = (i : ℕ) → get_or job i 0 < 256

-- every number that a program fixes for accumulators, messages and variables is below 2^32
pub record ProgramFits (P : Program) : Type 0 where
  pub start_value : (x : ℕ) → P.start_value x < 2 ^ 32
  pub answer : (f v : ℕ) → P.answer f v < 2 ^ 32
  pub operand : (n i : ℕ) → (instruction_at P n i).operand < 2 ^ 32
  pub first_message : (n i : ℕ) → get_or (P.first_messages n) i 0 < 2 ^ 32

-- every accumulator ("hand"), message, value of a waiting message and variable is below 2^32
pub record Fits (s : State) : Type 0 where
  pub accumulator : (n : ℕ) → accumulator_at s n < 2 ^ 32
  pub message : (n : ℕ) → message_at s n < 2 ^ 32
  pub queue : EachWaiting (λ n m. m.value < 2 ^ 32) s.queue
  pub variable : (x : ℕ) → variable_at s x < 2 ^ 32

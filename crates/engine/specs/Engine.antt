-- The state of a run in the code, and what its start and its turns are.
use Rattle.command.specs.declared.instruction.Instruction.{Instruction}
use Rattle.std.specs.Prelude.{ℕ, ◌≡◌, Bool, true, List, get_or, replicate, Option}
use Rattle.model.specs.Table.{NODE}
use Rattle.model.specs.State.{start_sender, message_from, State as Meant, position_at, accumulator_at, waiting_at, initial_state}
use Rattle.model.specs.Dispatch.{ready_count}
use Rattle.command.specs.Instructions.{fetched_of, command_in}
use Rattle.tables.specs.Tables.{count_in, firsts_in}
use Rattle.tables.specs.Programs.{Handlers, program_in}
use Rattle.entries.specs.Entries.{Comes, is_stop, rule_of}
use Rattle.memory.specs.Queues.{paired, queues, count_at, BoundedCounts, BringsOnly}
use Rattle.plans.specs.Plans.{IdlesAtEnd}
use Rattle.engine.specs.declared.State.{State}
use Rattle.engine.specs.declared.Turned.{Turned}

-- the model's state that these arrays stand for: positions, accumulators, messages, how many messages wait, the values and the senders in
-- their slots, variables
abbrev pub view_of : List ℕ → List ℕ → List ℕ → List ℕ → List ℕ → List ℕ → List ℕ → Meant
view_of position accumulator message waiting values senders variable =
    record {
      position = position;
      accumulator = accumulator;
      message = message;
      queue = queues waiting (paired values senders);
      variable = variable;
    }

-- the model's state that a state of the code stands for
abbrev pub view : State → Meant
view s = view_of s.position s.accumulator s.message s.waiting s.queue s.sender s.variable

-- as many messages wait at each node as its count says
abbrev pub CountsWaiting : State → Type 0
CountsWaiting s = (n : ℕ) → waiting_at (view s) n ≡ count_at s.waiting n

-- the stored ready count (S-4) is that of the state, over the nodes of the tables
abbrev pub CountsReady : List ℕ → State → Type 0
CountsReady t s = s.ready ≡ ready_count (count_in t NODE) (view s)

-- no more messages wait at a node than it has slots, and as many as its count says; the ready count is that of the state; all slots, free
-- ones too, hold first messages or 0, sent by START; and the state stands for the start of the program in the tables, whatever its handlers
-- are
pub record Starts (t : List ℕ) (s : State) : Type 0 where
  pub bounded : BoundedCounts s.waiting
  pub counts : CountsWaiting s
  pub ready : CountsReady t s
  pub slots : BringsOnly (λ n. message_from start_sender (get_or (firsts_in t n) 0 0)) (replicate 512 (message_from start_sender 0))
      (paired s.queue s.sender)
  pub start : (hs : Handlers) → view s ≡ initial_state (program_in t hs)

-- a turn of node n: no more messages wait at a node than it has slots, and as many as its count says; the ready count is that of the state,
-- if n becomes idle only at the end of its handler; nothing but its accumulator, sent by n, is brought into a slot, free ones too; outcome
-- and state are what the turn of the program in the tables comes to, whatever its handlers are, if `fetched` stands in the node's own at
-- its position; and a stop leaves the whole state, free slots and ready count included
pub record Turns (t : List ℕ) (fetched : Option Instruction) (n : ℕ) (monitored : Bool) (before : State) (turned : Turned) : Type 0 where
  pub bounded : BoundedCounts turned.state.waiting
  pub counts : CountsWaiting turned.state
  pub ready : IdlesAtEnd fetched (position_at (view before) n) (position_at (view turned.state) n) → CountsReady t turned.state
  pub slots : BringsOnly (λ k. message_from n (accumulator_at (view before) n)) (paired before.queue before.sender)
      (paired turned.state.queue turned.state.sender)
  pub comes :
      (hs : Handlers) → fetched_of fetched ≡ command_in (hs n) (position_at (view before) n)
      → Comes (view before) (rule_of monitored (program_in t hs) (view before) n) turned.outcome (view turned.state)
  pub kept : is_stop turned.outcome ≡ true → turned.state ≡ before

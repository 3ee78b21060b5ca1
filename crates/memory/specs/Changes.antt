-- A node's registers and what a turn changes besides, and the state that they make.
use Rattle.std.specs.Prelude.{ℕ, ◌*◌, ◌-◌, ◌≤◌, ◌≡◌, Bool, true, false, List, get_or, set}
use Rattle.model.specs.Table.{max_nodes}
use Rattle.model.specs.Program.{Program}
use Rattle.model.specs.State.{Message, message_from, State, position_at, accumulator_at, message_at}
use Rattle.model.specs.Turn.{delivered}
use Rattle.memory.specs.declared.Registers.{Registers}
use Rattle.memory.specs.declared.Change.{Change}
use Rattle.memory.specs.declared.Change.TheVariants as c
use Rattle.memory.specs.Queues.{full, without_oldest, shifted, stored, counted}

-- registers: position, accumulator and message
abbrev pub registers : ℕ → ℕ → ℕ → Registers
registers position accumulator message = record { position = position; accumulator = accumulator; message = message }

-- a node's registers in a state
abbrev pub registers_at : State → ℕ → Registers
registers_at s n = registers (position_at s n) (accumulator_at s n) (message_at s n)

-- the queues after a change of node n: its oldest message leaves, or each target of a port gets the value from it; `wired` is by port and
-- target
abbrev pub queues_after : (ℕ → ℕ → Bool) → ℕ → ℕ → List (List Message) → Change → List (List Message)
queues_after wired n value qs c.Nothing = qs
queues_after wired n value qs c.Take = without_oldest qs n
queues_after wired n value qs (c.Send port) = delivered (wired port) (message_from n value) qs max_nodes
queues_after wired n value qs (c.Store x) = qs

-- the values or the senders in the slots after a change of node n: its slots move down, or each target of a port gets the number; `ws` says
-- how many messages waited before
abbrev pub slots_after : (ℕ → ℕ → Bool) → ℕ → ℕ → List ℕ → List ℕ → Change → List ℕ
slots_after wired n x ws slots c.Nothing = slots
slots_after wired n x ws slots c.Take = shifted slots (n * 16) 15
slots_after wired n x ws slots (c.Send port) = stored (wired port) ws x slots max_nodes
slots_after wired n x ws slots (c.Store y) = slots

-- how many messages wait after it
abbrev pub counts_after : (ℕ → ℕ → Bool) → ℕ → List ℕ → Change → List ℕ
counts_after wired n ws c.Nothing = ws
counts_after wired n ws c.Take = set ws n (get_or ws n 0 - 1)
counts_after wired n ws (c.Send port) = counted (wired port) ws max_nodes
counts_after wired n ws (c.Store x) = ws

-- the variables after a change: the variable becomes the value
abbrev pub variables_after : ℕ → List ℕ → Change → List ℕ
variables_after value xs c.Nothing = xs
variables_after value xs c.Take = xs
variables_after value xs (c.Send port) = xs
variables_after value xs (c.Store x) = set xs x.0 value

-- the change can be carried out where `waiting` messages wait at each node: one waits to be taken, no target is full
abbrev pub Possible : (ℕ → ℕ → Bool) → ℕ → (ℕ → ℕ) → Change → Type 0
Possible wired n waiting c.Nothing = Unit {0}
Possible wired n waiting c.Take = 1 ≤ waiting n
Possible wired n waiting (c.Send port) = full (wired port) waiting ≡ false
Possible wired n waiting (c.Store x) = Unit {0}

-- nothing is changed
abbrev pub is_nothing : Change → Bool
is_nothing c.Nothing = true
is_nothing c.Take = false
is_nothing (c.Send port) = false
is_nothing (c.Store x) = false

-- the state with these registers of node n and after its change; what is sent or stored is the accumulator before
abbrev pub carried : Program → State → ℕ → Registers → Change → State
carried P s n l x =
    record {
      position = set s.position n l.position;
      accumulator = set s.accumulator n l.accumulator;
      message = set s.message n l.message;
      queue = queues_after (P.wired n) n (accumulator_at s n) s.queue x;
      variable = variables_after (accumulator_at s n) s.variable x;
    }

-- Trace entries and outcomes of a turn: the code's enums in document 01's numbers.
use Rattle.std.specs.Prelude.{ℕ, ◌≡◌, Bool, true, false, cond, List, Result, Ok, Err}
use Rattle.model.specs.Program.{Program}
use Rattle.model.specs.State.{State, accumulator_at}
use Rattle.model.specs.Turn.{Entry as Meant, entry, entry_of, Turned, completed, stopped, turn}
use Rattle.model.specs.Permission.{permitted, redacted, monitored_turn}
use Rattle.command.specs.declared.instruction.Instruction.{Instruction}
use Rattle.command.specs.Instructions.{instruction_of}
use Rattle.tables.specs.Programs.{Handlers, program_in}
use Rattle.entries.specs.declared.Event.{Event}
use Rattle.entries.specs.declared.Event.TheVariants as e
use Rattle.entries.specs.declared.Entry.{Entry}
use Rattle.entries.specs.declared.Stop.{Stop}
use Rattle.entries.specs.declared.Stop.TheVariants as s

-- node, kind, number and value of each event of a node
abbrev pub entry_for : ℕ → Event → Meant
entry_for n e.Other = entry n 0 0 0
entry_for n (e.Begin sender message) = entry n 1 sender message
entry_for n e.Finish = entry n 2 0 0
entry_for n (e.Read x value) = entry n 3 x.0 value
entry_for n (e.Write x value) = entry n 4 x.0 value
entry_for n (e.Call f argument) = entry n 5 f.0 argument
entry_for n (e.Send port value) = entry n 6 port value

-- node, kind, number and value of an entry
abbrev pub numbers_of : Entry → Meant
numbers_of x = entry_for x.node.0 x.event

-- the number of each stop: 1 (forbidden), 2 (idle, queue empty) or 3 (a target full); and the attempted entry
abbrev pub stop_number : Stop → ℕ
stop_number (s.Forbidden x) = 1
stop_number (s.Unready n) = 2
stop_number (s.Full x) = 3

abbrev pub attempted_by : Stop → Meant
attempted_by (s.Forbidden x) = numbers_of x
attempted_by (s.Unready n) = entry n.0 0 0 0
attempted_by (s.Full x) = numbers_of x

-- what an outcome stands for, its entry or the stop, with the state after the turn
abbrev pub turned_by : Result Entry Stop → State → Turned
turned_by (Ok x) after = completed (numbers_of x) after
turned_by (Err stop) after = stopped (stop_number stop) (attempted_by stop)

-- the outcome is a stop
abbrev pub is_stop : Result Entry Stop → Bool
is_stop (Ok x) = false
is_stop (Err stop) = true

-- the state after a turn: a stopped turn leaves the state as it was
abbrev pub state_after : State → Turned → State
state_after s (completed x after) = after
state_after s (stopped k x) = s

-- an outcome and a state are what a turn of state `s` comes to
pub record Comes (s : State) (turned : Turned) (outcome : Result Entry Stop) (after : State) : Type 0 where
  pub tells : turned_by outcome after ≡ turned
  pub leaves : after ≡ state_after s turned

-- the rule for one turn of a monitored ("watched") or an unmonitored ("bare") run
abbrev pub rule_of : Bool → Program → State → ℕ → Turned
rule_of monitored P s n = cond monitored (monitored_turn P s n) (turn P s n)

-- the event is the one that the handler command leaves, with this accumulator and these variables before it, at every node and whatever the
-- handlers are
abbrev pub LeavesEvent : List ℕ → Instruction → ℕ → List ℕ → Event → Type 0
LeavesEvent t i accumulator variables x =
    (hs : Handlers) (s : State) (n : ℕ) → accumulator_at s n ≡ accumulator → s.variable ≡ variables
    → entry_for n x ≡ entry_of (program_in t hs) s n (instruction_of i)

-- the answer says whether the lists permit a node's event, whatever the handlers are
abbrev pub Judges : List ℕ → ℕ → Event → Bool → Type 0
Judges t n x answer = (hs : Handlers) → answer ≡ permitted (program_in t hs) (entry_for n x)

-- the event is the other as a stop shows it
abbrev pub Redacts : Event → Event → Type 0
Redacts x shown = (n : ℕ) → entry_for n shown ≡ redacted (entry_for n x)

-- A turn as a plan: the node's registers after it, what it changes besides, its outcome, and the ready count after it.
use Rattle.std.specs.Prelude.{ℕ, ◌≤◌, ◌≡◌, Bool, true, cond, List, ◌⊎◌, get_or, set, Option, None, Result}
use Rattle.model.specs.Table.{NODE}
use Rattle.model.specs.Program.{Program}
use Rattle.model.specs.State.{Message, State, idle, waiting_at}
use Rattle.model.specs.Turn.{Turned, blocked, executed, oldest}
use Rattle.model.specs.Permission.{enforced}
use Rattle.command.specs.declared.instruction.Instruction.{Instruction}
use Rattle.command.specs.Instructions.{instruction_of, fetched_of, command_in}
use Rattle.command.specs.declared.numbers.NodeNum.{NodeNum}
use Rattle.tables.specs.Tables.{count_in, wired_in}
use Rattle.tables.specs.Programs.{Handlers, program_in}
use Rattle.entries.specs.declared.Event.{Event}
use Rattle.entries.specs.declared.Entry.{Entry}
use Rattle.entries.specs.declared.Stop.{Stop}
use Rattle.entries.specs.Entries.{Comes, is_stop, rule_of}
use Rattle.memory.specs.declared.Registers.{Registers}
use Rattle.memory.specs.declared.Change.{Change}
use Rattle.memory.specs.declared.Change.TheVariants as c
use Rattle.effects.specs.Effects.{Shows}
use Rattle.memory.specs.Changes.{Possible, registers_at, counts_after, carried}
use Rattle.memory.specs.Ready.{ready_count_in}
use Rattle.plans.specs.declared.Plan.{Plan}

-- the entry of a node with an event
abbrev pub entry_by : NodeNum → Event → Entry
entry_by n event = record { node = n; event = event }

-- the plan with these parts
abbrev pub plan : Registers → Change → Result Entry Stop → ℕ → Plan
plan l change outcome ready = record { registers = l; change = change; outcome = outcome; ready = ready }

-- as many messages wait at each node as `ws` says
abbrev pub Waits : State → List ℕ → Type 0
Waits s ws = (k : ℕ) → waiting_at s k ≡ get_or ws k 0

-- the answer says whether the handler command is a send with a full target
abbrev pub Blocks : List ℕ → ℕ → Instruction → List ℕ → Bool → Type 0
Blocks t n i ws answer = (hs : Handlers) (s : State) → Waits s ws → answer ≡ blocked (program_in t hs) s n (instruction_of i)

-- what a turn comes to under the lists, or without them
abbrev pub judged : Bool → Program → Turned → Turned
judged monitored P x = cond monitored (enforced P x) x

-- the plan, carried out, is this turn; it can be carried out, and changes nothing if it is a stop
pub record Plans (P : Program) (s : State) (n : ℕ) (turned : Turned) (p : Plan) : Type 0 where
  pub comes : Comes s turned p.outcome (carried P s n p.registers p.change)
  pub possible : Possible (P.wired n) n (waiting_at s) p.change
  pub stays : is_stop p.outcome ≡ true → (p.registers ≡ registers_at s n) × (p.change ≡ c.Nothing)

-- the plan is what the node's turn at the handler command comes to, in every state with these registers, counts and variables, whatever the
-- handlers are
abbrev pub PlansCommand : List ℕ → NodeNum → Bool → Instruction → Registers → List ℕ → List ℕ → Plan → Type 0
PlansCommand t n monitored i l ws variables p =
    (hs : Handlers) (s : State) → Shows s n.0 l variables → Waits s ws
    → Plans (program_in t hs) s n.0 (judged monitored (program_in t hs) (executed (program_in t hs) s n.0 (instruction_of i))) p

-- the plan is the node's turn, in every state with these registers, counts and variables and, if a message waits, this oldest one,
-- whatever the handlers are, if `fetched` stands in the node's own at its position
abbrev pub PlansTurn : List ℕ → Option Instruction → NodeNum → Bool → Registers → Message → List ℕ → List ℕ → Plan → Type 0
PlansTurn t fetched n monitored l first ws variables p =
    (hs : Handlers) (s : State) → Shows s n.0 l variables → Waits s ws → (1 ≤ waiting_at s n.0 → oldest s n.0 ≡ first)
    → fetched_of fetched ≡ command_in (hs n.0) l.position
    → Plans (program_in t hs) s n.0 (rule_of monitored (program_in t hs) s n.0) p

-- a turn makes its node idle only at the end of its handler, by the node's position before and after it: as it is with handlers of at most
-- 64 commands, where no command leads to the position that stands for idle
abbrev pub IdlesAtEnd : Option Instruction → ℕ → ℕ → Type 0
IdlesAtEnd fetched before after = after ≡ idle → (before ≡ idle) ⊎ (fetched_of fetched ≡ None)

-- the plan has the ready count (S-4) of the arrays after it, over the nodes of the tables
abbrev pub PlansReady : List ℕ → ℕ → List ℕ → List ℕ → Plan → Type 0
PlansReady t n position ws p =
    p.ready ≡ ready_count_in (set position n p.registers.position) (counts_after (wired_in t n) n ws p.change) (count_in t NODE)

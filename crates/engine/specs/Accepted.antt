-- The engine on an accepted job: its start and its turns are those of the job's program.
use Rattle.command.specs.declared.instruction.Instruction.{Instruction}
use Rattle.std.specs.Prelude.{ℕ, ◌≤◌, ◌<◌, ◌≡◌, Bool, List, length, Option}
use Rattle.model.specs.Command.{Command}
use Rattle.model.specs.Declared.{turns_of}
use Rattle.model.specs.Program.{program_of}
use Rattle.model.specs.State.{position_at, initial_state}
use Rattle.model.specs.Dispatch.{ready_count}
use Rattle.model.specs.Refusal.{accepted, decode_job, work_size}
use Rattle.model.specs.Valid.{Placed}
use Rattle.command.specs.Instructions.{fetched_of, command_in}
use Rattle.tables.specs.Stands.{Stands}
use Rattle.handlers.specs.Loading.{handlers_in, loaded}
use Rattle.job.specs.Prepared.{turn_in}
use Rattle.entries.specs.Entries.{Comes, rule_of}
use Rattle.memory.specs.Ready.{Among}
use Rattle.engine.specs.declared.State.{State}
use Rattle.engine.specs.declared.Turned.{Turned}
use Rattle.engine.specs.Engine.{view, Starts, Turns}

-- the states that the engine leads to: what `start` gives, and what `turn` gives for one of so many nodes, by what stands in its handler at
-- its position, completed or stopped, monitored ("watched") or not ("bare")
pub data Led (job t w : List ℕ) (nodes : ℕ) : State → Type 0 where
  at_start : (s : State) → Starts t s → Led job t w nodes s
  after_turn :
      (s : State) → Led job t w nodes s → (fetched : Option Instruction) (n : ℕ) (monitored : Bool) (x : Turned) → n < nodes
      → fetched_of fetched ≡ command_in (handlers_in job t w n) (position_at (view s) n) → Turns t fetched n monitored s x
      → Led job t w nodes x.state

-- what `start` promises is the start of the job's program; what `turn` promises, given what `fetch` answers, is that program's turn,
-- monitored or not; of every state that they lead to, the ready count (S-4) is that of the state, over the nodes of the job, and the
-- positions are inside their handlers; and `turn` may be asked for these nodes, those of the job's turns among them. `past` are the commands
-- of the job
pub record EngineMeets (job t w : List ℕ) (past : List Command) : Type 0 where
  pub start : (s : State) → Starts t s → view s ≡ initial_state (program_of past)
  pub turn :
      (s : State) (fetched : Option Instruction) (n : ℕ) (monitored : Bool) (turned : Turned)
      → fetched_of fetched ≡ command_in (handlers_in job t w n) (position_at (view s) n) → Turns t fetched n monitored s turned
      → Comes (view s) (rule_of monitored (program_of past) (view s) n) turned.outcome (view turned.state)
  pub ready : (s : State) → Led job t w (program_of past).nodes s → s.ready ≡ ready_count (program_of past).nodes (view s)
  pub placed : (s : State) → Led job t w (program_of past).nodes s → Placed (program_of past) (view s)
  pub among : (n : ℕ) → n < (program_of past).nodes → Among t n
  pub nodes : (k : ℕ) → k < length (turns_of past) → turn_in job t k < (program_of past).nodes

-- the claim: for every accepted job, with tables that stand for its commands, as decoding leaves them, and a work buffer with the places of
-- its handler commands, as loading leaves it
abbrev pub EngineHolds : Type 0
EngineHolds =
    (job t w : List ℕ) (past : List Command) → decode_job job ≡ accepted past → Stands t past → work_size ≤ length w
    → EngineMeets job t (loaded w past) past

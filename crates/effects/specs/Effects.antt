-- Effects: what a handler command does, as registers and a change.
use Rattle.std.specs.Prelude.{◌≡◌, ℕ, false, List}
use Rattle.model.specs.Declared.{Instruction as Meant}
use Rattle.model.specs.Program.{Program}
use Rattle.model.specs.State.{State, waiting_at}
use Rattle.model.specs.Turn.{blocked, performed}
use Rattle.command.specs.declared.instruction.Instruction.{Instruction}
use Rattle.command.specs.Instructions.{instruction_of}
use Rattle.tables.specs.Programs.{Handlers, program_in}
use Rattle.memory.specs.declared.Registers.{Registers}
use Rattle.memory.specs.declared.Change.{Change}
use Rattle.memory.specs.Changes.{registers, registers_at, Possible, carried}
use Rattle.effects.specs.declared.Effect.{Effect}

-- the effect with these registers and this change
abbrev pub effect : ℕ → ℕ → ℕ → Change → Effect
effect position accumulator message change = record { registers = registers position accumulator message; change = change }

-- the state has these registers of node n and these variables
pub record Shows (s : State) (n : ℕ) (l : Registers) (xs : List ℕ) : Type 0 where
  pub own : registers_at s n ≡ l
  pub variables : s.variable ≡ xs

-- the effect is what the handler command of node n does in a state, and can be carried out if no target of it is full
pub record Does (P : Program) (s : State) (n : ℕ) (i : Meant) (x : Effect) : Type 0 where
  pub state : carried P s n x.registers x.change ≡ performed P s n i
  pub possible : blocked P s n i ≡ false → Possible (P.wired n) n (waiting_at s) x.change

-- the effect is what the handler command does, at every node, in every state with these registers and variables, whatever the handlers are
unfoldable pub Performs : List ℕ → Instruction → Registers → List ℕ → Effect → Type 0
Performs t i l xs x = (hs : Handlers) (s : State) (n : ℕ) → Shows s n l xs → Does (program_in t hs) s n (instruction_of i) x

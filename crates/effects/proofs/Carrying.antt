-- Effects carried out: numbers that are written back unchanged change nothing.
use Rattle.std.proofs.Common.{◌≡◌, ℕ, ◌+◌, false, List, get_or, set, sym, ap, ◌∙◌, subst}
use lib.Seq.{set-get_or}
use Rattle.model.specs.Program.{Program}
use Rattle.model.specs.State.{State, position_at, accumulator_at, message_at, waiting_at, with_position, with_accumulator}
use Rattle.model.specs.Turn.{advanced, sum32, blocked, performed}
use Rattle.command.specs.declared.numbers.FunNum.{FunNum}
use Rattle.command.specs.declared.numbers.VarNum.{VarNum}
use Rattle.command.specs.declared.instruction.Instruction.{Instruction}
use Rattle.command.specs.declared.instruction.Instruction.TheVariants as i
use Rattle.command.specs.Instructions.{instruction_of}
use Rattle.tables.specs.Tables.{answer_in}
use Rattle.tables.specs.Programs.{Handlers, program_in}
use Rattle.memory.specs.declared.Registers.{Registers}
use Rattle.memory.specs.declared.Change.{Change}
use Rattle.memory.specs.declared.Change.TheVariants as c
use Rattle.entries.proofs.Names.{answer_by}
use Rattle.effects.specs.declared.Effect.{Effect}
use Rattle.effects.specs.Effects.{effect, Shows, Does, Performs}
use Rattle.memory.specs.Changes.{registers, registers_at, queues_after, variables_after, carried, Possible}

-- the state with a new position of node n and after its change
abbrev pub behind : Program → State → ℕ → ℕ → Change → State
behind P s n p x = record {
  position = set s.position n p;
  accumulator = s.accumulator;
  message = s.message;
  queue = queues_after
      (P.wired n) n (accumulator_at s n) s.queue x;
  variable = variables_after (accumulator_at s n) s.variable x;
}

module _ (P : Program) (s : State) (n : ℕ) where
  -- the message is written back, the accumulator is
  message-same : set s.message n (message_at s n) ≡ s.message
  message-same = set-get_or s.message n 0

  accumulator-same : set s.accumulator n (accumulator_at s n) ≡ s.accumulator
  accumulator-same = set-get_or s.accumulator n 0

  -- everything is written back
  pub stays : carried P s n (registers_at s n) c.Nothing ≡ s
  stays = λ j. record {
    position = set-get_or s.position n 0 j;
    accumulator = accumulator-same j;
    message = message-same j;
    queue =
        s.queue;
    variable = s.variable;
  }

  -- position and accumulator are new
  takes : (p a : ℕ) → carried P s n (registers p a (message_at s n)) c.Nothing ≡ with_position (with_accumulator s n a) n p
  takes p a = λ j. record {
    position = set s.position n p;
    accumulator = set
        s.accumulator n a;
    message = message-same j;
    queue = s.queue;
    variable = s.variable;
  }

  -- the position is new, and what the change makes
  goes : (p : ℕ) (x : Change) → carried P s n (registers p (accumulator_at s n) (message_at s n)) x
      ≡ behind P s n p x
  goes p x = λ j. record {
    position = set s.position n p;
    accumulator = accumulator-same j;
    message = message-same j;
    queue = queues_after
        (P.wired n) n (accumulator_at s n) s.queue x;
    variable = variables_after (accumulator_at s n) s.variable x;
  }

-- what a command does, by the effect that it has in a state with these numbers
module _ (t : List ℕ) (l : Registers) (xs : List ℕ) (k : Instruction) (r : Effect) where
  by_effect : (x : Effect) → r ≡ x → ((hs : Handlers) (s : State) (n : ℕ) → Shows s n l xs → Does (program_in t hs) s n (instruction_of k) x)
      → Performs t k l xs r
  unfolding Performs
  by_effect x e does hs s n h = subst (Does (program_in t hs) s n (instruction_of k)) (sym e) (does hs s n h)

  -- a command that sets the accumulator
  pub sets : (a : ℕ) → r ≡ effect (l.position + 1) a l.message c.Nothing
      → ((hs : Handlers) (s : State) (n : ℕ) → Shows s n l xs
      → performed (program_in t hs) s n (instruction_of k) ≡ advanced (with_accumulator s n a) n) → Performs t k l xs r
  sets a e same =
      by_effect (effect (l.position + 1) a l.message c.Nothing) e
      (λ hs s n h.
      let P = program_in t hs in
      record {
        state = subst (λ (o : Registers). carried P s n (registers (o.position + 1) a o.message) c.Nothing ≡ advanced
            (with_accumulator s n a) n) h.own (takes P s n (position_at s n + 1) a) ∙ sym (same hs s n h);
        possible = λ _. tt;
      })

  -- a command that goes on at a position, with the same accumulator
  leads : (p : ℕ) (x : Change) → r ≡ effect p l.accumulator l.message x
      → ((hs : Handlers) (s : State) (n : ℕ) → Shows s n l xs
      → performed (program_in t hs) s n (instruction_of k)
      ≡ behind (program_in t hs) s n p x)
      → ((hs : Handlers) (s : State) (n : ℕ) → blocked (program_in t hs) s n (instruction_of k) ≡ false
      → Possible ((program_in t hs).wired n) n (waiting_at s) x)
      → Performs t k l xs r
  leads p x e same can =
      by_effect (effect p l.accumulator l.message x) e
      (λ hs s n h.
      let P = program_in t hs in
      record {
        state = ap (λ (o : Registers). carried P s n (registers p o.accumulator o.message) x) (sym h.own) ∙ goes P s n p x
            ∙ sym (same hs s n h);
        possible = can hs s n;
      })

  -- a jump
  pub jumps : (p : ℕ) → r ≡ effect p l.accumulator l.message c.Nothing
      → ((hs : Handlers) (s : State) (n : ℕ) → Shows s n l xs → performed (program_in t hs) s n (instruction_of k) ≡ with_position s n p)
      → Performs t k l xs r
  jumps p e same = leads p c.Nothing e same (λ hs s n _. tt)

  -- a command that goes on with the same accumulator
  pub nexts : (x : Change) → r ≡ effect (l.position + 1) l.accumulator l.message x
      → ((hs : Handlers) (s : State) (n : ℕ)
      → performed (program_in t hs) s n (instruction_of k)
      ≡ behind (program_in t hs) s n (position_at s n + 1) x)
      → ((hs : Handlers) (s : State) (n : ℕ) → blocked (program_in t hs) s n (instruction_of k) ≡ false
      → Possible ((program_in t hs).wired n) n (waiting_at s) x)
      → Performs t k l xs r
  nexts x e same = leads (l.position + 1) x e
      (λ hs s n h. same hs s n ∙ ap (λ (o : Registers). behind (program_in t hs) s n (o.position + 1) x) h.own)

-- the commands that work on the accumulator
module _ (t : List ℕ) (l : Registers) (xs : List ℕ) (r : Effect) (a : ℕ) (e : r ≡ effect (l.position + 1) a l.message c.Nothing) where
  pub gets : (x : VarNum) → a ≡ get_or xs x.0 0 → Performs t (i.Get x) l xs r
  gets x v = sets t l xs (i.Get x) r a e (λ hs s n h. ap (λ (ys : List ℕ). advanced (with_accumulator s n (get_or ys x.0 0)) n)
      h.variables ∙ ap (λ (b : ℕ). advanced (with_accumulator s n b) n) (sym v))

  pub calls : (f : FunNum) → a ≡ answer_in t f.0 l.accumulator → Performs t (i.Call f) l xs r
  calls f q = sets t l xs (i.Call f) r a e (λ hs s n h. ap (λ (v : ℕ). advanced (with_accumulator s n v) n)
      (answer_by t hs f.0 (accumulator_at s n) ∙ ap (λ (o : Registers). answer_in t f.0 o.accumulator) h.own ∙ sym q))

  pub adds : (v : ℕ) → a ≡ sum32 l.accumulator v → Performs t (i.Add v) l xs r
  adds v q = sets t l xs (i.Add v) r a e (λ hs s n h. ap (λ (o : Registers). advanced (with_accumulator s n (sum32 o.accumulator v)) n)
      h.own ∙ ap (λ (b : ℕ). advanced (with_accumulator s n b) n) (sym q))

  pub pluses : (x : VarNum) (v : ℕ) → v ≡ get_or xs x.0 0 → a ≡ sum32 l.accumulator v → Performs t (i.Plus x) l xs r
  pluses x v p q =
      sets t l xs (i.Plus x) r a e
      (λ hs s n h.
      ap (λ (o : Registers). advanced (with_accumulator s n (sum32 o.accumulator (get_or s.variable x.0 0))) n) h.own
      ∙ ap (λ (ys : List ℕ). advanced (with_accumulator s n (sum32 l.accumulator (get_or ys x.0 0))) n) h.variables
      ∙ ap (λ (b : ℕ). advanced (with_accumulator s n b) n) (ap (sum32 l.accumulator) (sym p) ∙ sym q))

-- what an effect does in one state
pub does_at : (t : List ℕ) (k : Instruction) (l : Registers) (xs : List ℕ) (x : Effect) → Performs t k l xs x
    → (hs : Handlers) (s : State) (n : ℕ) → Shows s n l xs → Does (program_in t hs) s n (instruction_of k) x
unfolding Performs
does_at t k l xs x p = p

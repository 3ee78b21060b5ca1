-- Two programs that agree everywhere are equal. A TURN command changes no program.
use Prim.Native.Nat.{ℕ}
use mathlib.Core.Path.{◌≡◌}
use mathlib.Core.Bool.{false}
use mathlib.Core.List.{List, ◌∷◌, append-nil}
use Rattle.model.specs.Table.{WIRE, ANY, ARG, READ, WRITE, SPAN, TURN}
use Rattle.model.specs.Command.{Operands, binary, ternary, Command, is}
use Rattle.model.specs.Declared.{count_of, occurs, in_span, declared, reply_of, handler_of, starts_of}
use Rattle.model.specs.Program.{Program, program_of}

-- two programs that agree everywhere
pub record Agree (P Q : Program) : Type 0 where
  pub flows : P.flows ≡ Q.flows
  pub nodes : P.nodes ≡ Q.nodes
  pub variables : P.variables ≡ Q.variables
  pub functions : P.functions ≡ Q.functions
  pub flow : (n : ℕ) → P.flow n ≡ Q.flow n
  pub scope : (x : ℕ) → P.scope x ≡ Q.scope x
  pub owner : (x : ℕ) → P.owner x ≡ Q.owner x
  pub start_value : (x : ℕ) → P.start_value x ≡ Q.start_value x
  pub answer : (f argument : ℕ) → P.answer f argument ≡ Q.answer f argument
  pub wired : (n port t : ℕ) → P.wired n port t ≡ Q.wired n port t
  pub may_call : (n f argument : ℕ) → P.may_call n f argument ≡ Q.may_call n f argument
  pub may_read : (n x : ℕ) → P.may_read n x ≡ Q.may_read n x
  pub may_write : (n x : ℕ) → P.may_write n x ≡ Q.may_write n x
  pub handler : (n : ℕ) → P.handler n ≡ Q.handler n
  pub first_messages : (n : ℕ) → P.first_messages n ≡ Q.first_messages n

pub agree : (P Q : Program) → Agree P Q → P ≡ Q
agree P Q a =
    λ i.
    record {
      flows = a.flows i;
      nodes = a.nodes i;
      variables = a.variables i;
      functions = a.functions i;
      flow = λ n. a.flow n i;
      scope = λ x. a.scope x i;
      owner = λ x. a.owner x i;
      start_value = λ x. a.start_value x i;
      answer = λ f argument. a.answer f argument i;
      wired = λ n port t. a.wired n port t i;
      may_call = λ n f argument. a.may_call n f argument i;
      may_read = λ n x. a.may_read n x i;
      may_write = λ n x. a.may_write n x i;
      handler = λ n. a.handler n i;
      first_messages = λ n. a.first_messages n i;
    }

-- a command with another byte
occurs-other : (b : ℕ) (x : Operands) (c : Command) (past : List Command) → is b c ≡ false → occurs b x (c ∷ past) ≡ occurs b x past
unfolding occurs
occurs-other b x c past e = rw e

span-other : (n f argument : ℕ) (c : Command) (past : List Command) → is SPAN c ≡ false
    → in_span n f argument (c ∷ past) ≡ in_span n f argument past
unfolding in_span
span-other n f argument c past e = rw e

-- the program of a job does not depend on its turns
pub program-turn : (c : Command) (past : List Command) → c.byte ≡ TURN → program_of (c ∷ past) ≡ program_of past
unfolding program_of count_of declared reply_of handler_of starts_of
program-turn c past e =
    agree (program_of (c ∷ past)) (program_of past)
    (record {
      flows = rw e;
      nodes = rw e;
      variables = rw e;
      functions = rw e;
      flow = λ n. rw e;
      scope = λ x. rw e;
      owner = λ x. rw e;
      start_value = λ x. rw e;
      answer = λ f argument. rw e;
      wired = λ n port t. occurs-other WIRE (ternary n port t) c past (rw e);
      may_call = λ n f argument.
          rw (
            occurs-other ANY (binary n f) c past (rw e),
            occurs-other ARG (ternary n f argument) c past (rw e),
            span-other n f argument c past (rw e),
          );
      may_read = λ n x. occurs-other READ (binary n x) c past (rw e);
      may_write = λ n x. occurs-other WRITE (binary n x) c past (rw e);
      handler = λ n. rw e (append-nil (handler_of past n));
      first_messages = λ n. rw e (append-nil (starts_of past n));
    })

-- Tables that stand for commands have the program of these.
use Prim.Native.Nat.{ℕ}
use mathlib.Core.Path.{◌≡◌}
use mathlib.Core.List.{List}
use native.Mathlib.Omega.{arith}
use Rattle.model.specs.Table.{FLOW, NODE, VAR, FUN}
use Rattle.model.specs.Command.{Command}
use Rattle.model.specs.Declared.{handler_of}
use Rattle.model.specs.Program.{program_of}
use Rattle.model.proofs.Program.{agree}
use Rattle.tables.specs.Programs.{Handlers, program_in}
use Rattle.tables.specs.Stands.{Stands}

pub program-stands : (t : List ℕ) (past : List Command) → Stands t past → (hs : Handlers) → ((n : ℕ) → hs n ≡ handler_of past n)
    → program_in t hs ≡ program_of past
unfolding program_in program_of
program-stands t past s hs same =
    agree (program_in t hs) (program_of past)
    (record {
      flows = s.counts FLOW (omega arith);
      nodes = s.counts NODE (omega arith);
      variables = s.counts VAR (omega arith);
      functions = s.counts FUN (omega arith);
      flow = s.flow;
      scope = s.scope;
      owner = s.owner;
      start_value = s.start_value;
      answer = λ f argument. rw (s.replies f argument, s.fun_answer f);
      wired = s.wires;
      may_call = λ n f argument. rw (s.anys n f, s.calls n f argument);
      may_read = s.reads;
      may_write = s.writes;
      handler = same;
      first_messages = s.firsts;
    })

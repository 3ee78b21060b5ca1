-- The program that tables stand for, given the handlers of the nodes.
use Rattle.std.specs.Prelude.{ℕ, List}
use Rattle.model.specs.Table.{FLOW, NODE, VAR, FUN}
use Rattle.model.specs.Declared.{Instruction}
use Rattle.model.specs.Program.{Program}
use Rattle.tables.specs.Tables.{count_in, flow_in, scope_in, owner_in, start_in, answer_in, wired_in, call_in, read_in, write_in, firsts_in}

-- the handler of each node
abbrev pub Handlers : Type 0
Handlers = ℕ → List Instruction

-- every name of a program, by the tables `t`; its handlers are `hs`
unfoldable pub program_in : List ℕ → Handlers → Program
program_in t hs =
    record {
      flows = count_in t FLOW;
      nodes = count_in t NODE;
      variables = count_in t VAR;
      functions = count_in t FUN;
      flow = flow_in t;
      scope = scope_in t;
      owner = owner_in t;
      start_value = start_in t;
      answer = answer_in t;
      wired = wired_in t;
      may_call = call_in t;
      may_read = read_in t;
      may_write = write_in t;
      handler = hs;
      first_messages = firsts_in t;
    }

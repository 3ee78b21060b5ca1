-- What an accepted job fixes, its turns aside ("The job"). One turn depends on a program and a state, and on nothing else.
use Rattle.std.specs.Prelude.{ℕ, Bool, ◌||◌, List}
use Rattle.model.specs.Table.{FLOW, NODE, VAR, FUN, WIRE, ANY, ARG, READ, WRITE}
use Rattle.model.specs.Command.{Command, binary, ternary}
use Rattle.model.specs.Declared.{Instruction, count_of, occurs, flow_of, scope_of, owner_of, start_of, answer_of, is_shared, handler_of}
use Rattle.model.specs.Declared.{in_span, starts_of}

-- a program
pub record Program : Type 0 where
  -- how many flows, nodes, variables and functions there are
  pub flows : ℕ
  pub nodes : ℕ
  pub variables : ℕ
  pub functions : ℕ
  -- the flow of a node
  pub flow : ℕ → ℕ
  -- scope, owner and start of a variable
  pub scope : ℕ → ℕ
  pub owner : ℕ → ℕ
  pub start_value : ℕ → ℕ
  -- the answer, REPLY's or FUN's: by function and argument
  pub answer : ℕ → ℕ → ℕ
  -- a port is wired to a target: by node, port and target
  pub wired : ℕ → ℕ → ℕ → Bool
  -- a call is permitted, by ANY, ARG or SPAN: by node, function and argument
  pub may_call : ℕ → ℕ → ℕ → Bool
  -- reading is permitted, writing is: by node and variable
  pub may_read : ℕ → ℕ → Bool
  pub may_write : ℕ → ℕ → Bool
  -- the handler of a node
  pub handler : ℕ → List Instruction
  -- the first messages of a node
  pub first_messages : ℕ → List ℕ

-- the variable is shared
abbrev pub shared_in : Program → ℕ → Bool
shared_in P x = is_shared (P.scope x)

-- the program of a job's commands
unfoldable pub program_of : List Command → Program
program_of past =
    record {
      flows = count_of FLOW past;
      nodes = count_of NODE past;
      variables = count_of VAR past;
      functions = count_of FUN past;
      flow = flow_of past;
      scope = scope_of past;
      owner = owner_of past;
      start_value = start_of past;
      answer = answer_of past;
      wired = λ n port t. occurs WIRE (ternary n port t) past;
      may_call = λ n f argument. occurs ANY (binary n f) past || (occurs ARG (ternary n f argument) past || in_span n f argument past);
      may_read = λ n x. occurs READ (binary n x) past;
      may_write = λ n x. occurs WRITE (binary n x) past;
      handler = handler_of past;
      first_messages = starts_of past;
    }

-- Request S-7, "that a list show only what the handler uses": its test refuses a job exactly if a permission of it is unused, and does
-- nothing else.
use Rattle.std.specs.Prelude.{ℕ, ◌<◌, ◌≡◌, true, ◌⊎◌, List, length}
use Rattle.model.specs.Table.{ANY, ARG, READ, WRITE, SPAN, GET, PUT, PLUS, CALL}
use Rattle.model.specs.Command.{Command, quaternary, ternary, binary}
use Rattle.model.specs.Declared.{instruction, occurs}
use Rattle.model.specs.Program.{Program, program_of}
use Rattle.model.specs.Turn.{instruction_at}
use Rattle.model.specs.Run.{Run, monitored_run, unmonitored_run}
use Rattle.model.specs.Refusal.{refuse, accepted, decode, and_then, far_jump, decode_job, Sizes, short_buffer}
use Rattle.model.specs.Result.{Result, refused, result_of, monitored, unmonitored}

-- the handler of a node has a command with this byte and operand, at some position
pub record HasCommand (P : Program) (n b x : ℕ) : Type 0 where
  pub position : ℕ
  pub inside : position < length (P.handler n)
  pub command : instruction_at P n position ≡ instruction b x

-- each permission of these commands has a command in its node's handler that uses it
pub record LeastPrivilege (past : List Command) : Type 0 where
  pub reads : (n x : ℕ) → occurs READ (binary n x) past ≡ true
      → HasCommand (program_of past) n GET x ⊎ HasCommand (program_of past) n PLUS x
  pub writes : (n x : ℕ) → occurs WRITE (binary n x) past ≡ true → HasCommand (program_of past) n PUT x
  pub anys : (n f : ℕ) → occurs ANY (binary n f) past ≡ true → HasCommand (program_of past) n CALL f
  pub arguments : (n f v : ℕ) → occurs ARG (ternary n f v) past ≡ true → HasCommand (program_of past) n CALL f
  pub spans : (n f low high : ℕ) → occurs SPAN (quaternary n f low high) past ≡ true → HasCommand (program_of past) n CALL f

-- what is handed over for a job if test 19 is left out, by the way its turns are run
abbrev pub without_test : (Program → List ℕ → Run) → List ℕ → Sizes → Result
without_test run job b = result_of run (and_then (short_buffer job b) (and_then far_jump (decode job)))

-- the test does nothing but refuse: a job that it does not refuse has the result that it has without the test
abbrev pub OnlyRefuses : (Program → List ℕ → Run) → (List ℕ → Sizes → Result) → Type 0
OnlyRefuses run result =
    (job : List ℕ) (b : Sizes) → ((place : ℕ) × (result job b ≡ refused (refuse 19 place))) ⊎ (result job b ≡ without_test run job b)

-- the claim
pub record LeastPrivilegeHolds : Type 0 where
  -- on every accepted job: all its permissions are used
  pub of_accepted : (job : List ℕ) (past : List Command) → decode_job job ≡ accepted past → LeastPrivilege past
  -- and on every job that passes the tests before: if all its permissions are used, it passes this one too
  pub of_used : (job : List ℕ) (past : List Command) → and_then far_jump (decode job) ≡ accepted past → LeastPrivilege past
      → decode_job job ≡ accepted past
  -- on the monitored ("watched") and the unmonitored ("bare") run of every job
  pub of_monitored : OnlyRefuses monitored_run monitored
  pub of_unmonitored : OnlyRefuses unmonitored_run unmonitored

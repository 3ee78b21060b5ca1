-- Request S-13: a variable that nobody may read. Two jobs of equal bytes but for the start of a shared variable for which no node has READ,
-- run monitored ("watched") with buffers of equal lengths.
-- It speaks of the start alone: what a node writes to the variable stands in the trace, and the snapshot ("picture") shows the variable to
-- whoever is handed it.
use Rattle.std.specs.Prelude.{ℕ, ◌+◌, ◌*◌, ◌≤◌, ◌<◌, ◌≡◌, ◌⊎◌, true, false, List, [], ◌∷◌, length, get_or}
use Rattle.model.specs.Table.{VAR, READ}
use Rattle.model.specs.Command.{Command, binary, number_at, whole, read_command}
use Rattle.model.specs.Declared.{count_of, occurs, start_of, is_shared, shared}
use Rattle.model.specs.Program.{Program, shared_in, program_of}
use Rattle.model.specs.State.{State, variable_at, with_variable}
use Rattle.model.specs.Run.{Run, entries_of, entry_at}
use Rattle.model.specs.Output.{answer_in, variables_start, snapshot_bytes}
use Rattle.model.specs.Refusal.{Refusal, Decoded, accepted, rejected, decode_job, Sizes, decode_for}
use Rattle.model.specs.Conclusion.{monitored_of}
use Rattle.model.specs.Dispatch.{Dispatched, examined_in, monitored_dispatch}
use Rattle.model.specs.DispatchResult.{decode_dispatch}
use Rattle.model.specs.Tally.{tally_of}

-- the same bytes but for the four from a place on, which may differ or be equal
pub record SameBut (at : ℕ) (bytes bytes' : List ℕ) : Type 0 where
  pub same_length : length bytes ≡ length bytes'
  pub elsewhere : (i : ℕ) → (i < at) ⊎ (at + 4 ≤ i) → get_or bytes i 0 ≡ get_or bytes' i 0

-- the commands that a job spells up to a place, the latest first: each is read where the one before it ends. No other test is asked, so
-- that a job that is refused spells commands too, up to a byte that is no command or a command that is cut short
pub data Spells (job : List ℕ) : ℕ → List Command → Type 0 where
  begin : Spells job 0 []
  further :
      (place : ℕ) (past : List Command) (c : Command) (next : ℕ)
      → Spells job place past → read_command job place ≡ whole c next → Spells job next (c ∷ past)

-- the start of variable x stands in the job from a place on (`at`), x is shared, and the job spells no READ of it
pub record Secret (job : List ℕ) (x at : ℕ) : Type 0 where
  -- the job spells its VAR after these commands
  pub before : List Command
  pub declaration : Command
  pub next : ℕ
  pub spelled : Spells job next (declaration ∷ before)
  pub is_variable : declaration.byte ≡ VAR
  pub number : count_of VAR before ≡ x
  -- its start stands behind its byte, scope and owner
  pub start : at ≡ declaration.place + 3
  -- its scope is not that of a node: flow or global, or above 2, and then the job is refused
  pub shared_scope : is_shared declaration.operands.first ≡ true
  pub unread : (end : ℕ) (past : List Command) → Spells job end past → (n : ℕ) → occurs READ (binary n x) past ≡ false

-- where the four bytes of variable x stand in a snapshot ("picture"): behind the nodes and the variables before it
abbrev pub variable_place : Program → State → ℕ → ℕ
variable_place P s x = variables_start P s + 4 * x

-- two runs, each of its program, are alike in all that is handed over and counted, but for variable x
pub record RunsAlike (x : ℕ) (P P' : Program) (r r' : Run) : Type 0 where
  -- the programs have as many nodes and as many variables, x among them
  pub nodes : P.nodes ≡ P'.nodes
  pub variables : P.variables ≡ P'.variables
  pub declared : x < P.variables
  -- the answer is the same: stop, completed turns, attempted entry
  pub answer : answer_in r ≡ answer_in r'
  -- the trace is the same
  pub entries : entries_of r.steps ≡ entries_of r'.steps
  -- the last states are the same but for the value of x
  pub value : ℕ
  pub final : r'.final ≡ with_variable r.final x value
  -- it has its start in both; or the same value in both, as it has once a turn wrote it
  pub kept : ((variable_at r.final x ≡ P.start_value x) × (value ≡ P'.start_value x)) ⊎ (value ≡ variable_at r.final x)
  -- the snapshots ("pictures") are the same but for its four bytes, which stand at the same place of both
  pub place : variable_place P r.final x ≡ variable_place P' r'.final x
  pub snapshot : SameBut (variable_place P r.final x) (snapshot_bytes P r.final) (snapshot_bytes P' r'.final)
  -- the tally of each node is the same
  pub tally :
      (n : ℕ) → tally_of P (entry_at r) (length r.steps) r.final n ≡ tally_of P' (entry_at r') (length r'.steps) r'.final n

-- two dispatched runs are alike if their runs are, and the choices, and so the examined total, are the same
pub record DispatchesAlike (x : ℕ) (P P' : Program) (d d' : Dispatched) : Type 0 where
  pub runs : RunsAlike x P P' d.run d'.run
  pub choices : d.choices ≡ d'.choices
  pub examined : examined_in d.choices ≡ examined_in d'.choices

-- two jobs are refused alike, by number and place, or both are accepted, and then what they run is alike
pub data Alike (Runs : List Command → List Command → Type 0) : Decoded → Decoded → Type 0 where
  both_refused : (r : Refusal) → Alike Runs (rejected r) (rejected r)
  both_accepted : (past past' : List Command) → Runs past past' → Alike Runs (accepted past) (accepted past')

-- it is so for every two jobs of equal bytes but for the start of a shared variable for which no node has READ, run monitored ("watched")
-- with their written turns, in buffers of equal lengths
abbrev pub SecrecyHolds : Type 0
SecrecyHolds =
    (job job' : List ℕ) (x at : ℕ) → Secret job x at → SameBut at job job' → (b : Sizes)
    → Alike (λ past past'. RunsAlike x (program_of past) (program_of past') (monitored_of past) (monitored_of past'))
    (decode_for job b) (decode_for job' b)

-- and dispatched, with one budget for both
abbrev pub DispatchSecrecyHolds : Type 0
DispatchSecrecyHolds =
    (job job' : List ℕ) (x at : ℕ) → Secret job x at → SameBut at job job' → (budget : ℕ) (b : Sizes)
    → Alike
    (λ past past'. DispatchesAlike x (program_of past) (program_of past') (monitored_dispatch (program_of past) budget)
    (monitored_dispatch (program_of past') budget))
    (decode_dispatch budget job b) (decode_dispatch budget job' b)

-- no such variable is left out: of all commands that a job spells, accepted or not, every shared variable without READ is one, and its
-- start is the number at that place
abbrev pub SecretsSpelled : Type 0
SecretsSpelled =
    (job : List ℕ) (end : ℕ) (past : List Command)
    → Spells job end past → ((c : Command) (next : ℕ) → ¬ (read_command job end ≡ whole c next))
    → (x : ℕ) → shared past x ≡ true → ((n : ℕ) → occurs READ (binary n x) past ≡ false)
    → (at : ℕ) × Secret job x at × (start_of past x ≡ number_at job at 4)

-- so it is for the program of a job that passes the tests 1 to 9, 15 and 19, whatever its buffers or its budget
abbrev pub SecretsFound : Type 0
SecretsFound =
    (job : List ℕ) (past : List Command) → decode_job job ≡ accepted past
    → (x : ℕ) → shared_in (program_of past) x ≡ true → ((n : ℕ) → (program_of past).may_read n x ≡ false)
    → (at : ℕ) × Secret job x at × ((program_of past).start_value x ≡ number_at job at 4)

-- each of them stays one where the start of another, or its own, is changed: so the starts of several may be changed, one after the other
abbrev pub SecretsStay : Type 0
SecretsStay =
    (job job' : List ℕ) (x at : ℕ) → Secret job x at → SameBut at job job' → (y place : ℕ) → Secret job y place → Secret job' y place

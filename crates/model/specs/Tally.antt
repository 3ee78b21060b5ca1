-- Request S-12: messages add up. The messages of each node that were started, received, taken, and that wait, by plain counting.
use Rattle.std.specs.Prelude.{ℕ, ◌+◌, ◌<◌, ◌≡◌, Bool, cond, ◌&&◌, List, [], ◌∷◌, eqb, length}
use Rattle.model.specs.Table.{START, max_nodes}
use Rattle.model.specs.Command.{Command, is}
use Rattle.model.specs.Program.{Program, program_of}
use Rattle.model.specs.State.{Message, start_sender, State, queue_at, waiting_at}
use Rattle.model.specs.Turn.{Entry}
use Rattle.model.specs.Run.{Run, entry_at, state_at, monitored_run, unmonitored_run}
use Rattle.model.specs.Dispatch.{count_below, monitored_dispatch, unmonitored_dispatch}

-- how many of the first k entries pass a test; the entries are given as a function: entry 0, entry 1, ..
abbrev pub count_entries : (Entry → Bool) → (ℕ → Entry) → ℕ → ℕ
count_entries test entries k = count_below (λ j. test (entries j)) k

-- how many elements of a list pass a test
unfoldable pub count_if : {A : Type 0} → (A → Bool) → List A → ℕ
count_if test [] = 0
count_if test (a ∷ l) = cond (test a) (count_if test l + 1) (count_if test l)

-- the entry reaches node n: kind 6, of a node and a port that are wired to n
abbrev pub reaches : Program → ℕ → Entry → Bool
reaches P n e = eqb e.kind 6 && P.wired e.node e.number n

-- the entry is a taking by node n: kind 1, of node n
abbrev pub takes : ℕ → Entry → Bool
takes n e = eqb e.kind 1 && eqb e.node n

-- started: the first messages of node n
abbrev pub started : Program → ℕ → ℕ
started P n = length (P.first_messages n)

-- it counts the START commands of the node
abbrev pub StartedHolds : Type 0
StartedHolds =
    (past : List Command) (n : ℕ) → started (program_of past) n ≡ count_if (λ (c : Command). is START c && eqb c.operands.first n) past

-- received: the first k entries that reach node n, each once
abbrev pub received : Program → (ℕ → Entry) → ℕ → ℕ → ℕ
received P entries k n = count_entries (reaches P n) entries k

-- taken: those that are a taking by node n
abbrev pub taken : (ℕ → Entry) → ℕ → ℕ → ℕ
taken entries k n = count_entries (takes n) entries k

-- waiting is `waiting_at`, which the snapshot ("picture") shows. The four counts of node n, after the first k entries and in this state
abbrev pub tally_of : Program → (ℕ → Entry) → ℕ → State → ℕ → List ℕ
tally_of P entries k s n = started P n ∷ received P entries k n ∷ taken entries k n ∷ waiting_at s n ∷ []

-- by sender: the first messages of node n that are from m, which are all of them if m is 255, the sender that START has, and else none
abbrev pub started_from : Program → ℕ → ℕ → ℕ
started_from P m n = cond (eqb start_sender m) (started P n) 0

-- m's sends that are wired to n
abbrev pub sent_to : Program → (ℕ → Entry) → ℕ → ℕ → ℕ → ℕ
sent_to P entries k m n = count_entries (λ e. eqb e.node m && reaches P n e) entries k

-- the messages from m that n took: the number of a kind 1 entry is the sender (S-11)
abbrev pub taken_from : (ℕ → Entry) → ℕ → ℕ → ℕ → ℕ
taken_from entries k m n = count_entries (λ e. eqb e.number m && takes n e) entries k

-- the messages from m that wait at n
abbrev pub waiting_from : State → ℕ → ℕ → ℕ
waiting_from s m n = count_if (λ (a : Message). eqb a.sender m) (queue_at s n)

-- the messages of node n add up, after the first k entries and in this state
pub record AddUp (P : Program) (entries : ℕ → Entry) (k : ℕ) (s : State) (n : ℕ) : Type 0 where
  -- in all
  pub in_all : started P n + received P entries k n ≡ taken entries k n + waiting_at s n
  -- by sender, START among them
  pub from : (m : ℕ) → started_from P m n + sent_to P entries k m n ≡ taken_from entries k m n + waiting_from s m n
  -- so those from any other m than 255 add up to m's sends that are wired to n
  pub from_node : (m : ℕ) → ¬ (m ≡ start_sender) → sent_to P entries k m n ≡ taken_from entries k m n + waiting_from s m n

-- they do at each of 32 nodes after the first k turns of a run, for every k (after its last turn nothing changes), and so at its stop
pub record Tallied (P : Program) (r : Run) : Type 0 where
  pub always : (k n : ℕ) → n < max_nodes → AddUp P (entry_at r) k (state_at r k) n
  pub at_stop : (n : ℕ) → n < max_nodes → AddUp P (entry_at r) (length r.steps) r.final n

-- the runs of a program: of any written turns and dispatched with any budget, unmonitored ("bare") and monitored ("watched")
pub data RunOf (P : Program) : Run → Type 0 where
  unmonitored_turns : (turns : List ℕ) → RunOf P (unmonitored_run P turns)
  monitored_turns : (turns : List ℕ) → RunOf P (monitored_run P turns)
  unmonitored_budget : (budget : ℕ) → RunOf P (unmonitored_dispatch P budget).run
  monitored_budget : (budget : ℕ) → RunOf P (monitored_dispatch P budget).run

-- messages add up in every run of every program
abbrev pub TallyHolds : Type 0
TallyHolds = (P : Program) (r : Run) → RunOf P r → Tallied P r

-- The dispatcher (S-2): given a budget of turns, it chooses the node of each turn instead of reading it from the job. And the ready count
-- (S-4), which is 0 exactly if nobody is chosen.
use Rattle.std.specs.Prelude.{ℕ, zero, suc, ◌+◌, ◌-◌, Bool, cond, not, ◌&&◌, List, [], ◌∷◌, ltb, eqb}
use Rattle.model.specs.Table.{TURN}
use Rattle.model.specs.Program.{Program}
use Rattle.model.specs.State.{State, idle, position_at, waiting_at, initial_state}
use Rattle.model.specs.Turn.{entry, Turned, completed, stopped, turn}
use Rattle.model.specs.Permission.{monitored_turn}
use Rattle.model.specs.Run.{Run, ended, after}

-- a node is ready unless it is idle with an empty queue
abbrev pub ready : State → ℕ → Bool
ready s n = not (eqb (position_at s n) idle && eqb (waiting_at s n) 0)

-- how many of the numbers below k pass the test
unfoldable pub count_below : (ℕ → Bool) → ℕ → ℕ
count_below test zero = 0
count_below test (suc k) = cond (test k) (count_below test k + 1) (count_below test k)

-- the ready count (S-4): how many of so many nodes are ready
abbrev pub ready_count : ℕ → State → ℕ
ready_count nodes s = count_below (ready s) nodes

-- the node i places on from a number, going round: after the last of the nodes comes node 0
abbrev pub going_round : ℕ → ℕ → ℕ → ℕ
going_round nodes from i = cond (ltb (from + i) nodes) (from + i) (from + i - nodes)

-- the first of the k numbers i, i + 1, .. that passes the test; i + k if none does
unfoldable pub first_from : (ℕ → Bool) → ℕ → ℕ → ℕ
first_from test i zero = i
first_from test i (suc k) = cond (test i) i (first_from test (i + 1) k)

-- a choice: a node, or nobody; and how many nodes were examined for it
pub data Choice : Type 0 where
  chosen : ℕ → ℕ → Choice
  nobody : ℕ → Choice

-- the fruitless choice: no node was examined, as the ready count is 0 (S-4)
abbrev pub fruitless : Choice
fruitless = nobody 0

-- the choice of the node i places on, the chosen one counted; the fruitless one where there are not so many nodes
abbrev pub choice_at : ℕ → ℕ → ℕ → Choice
choice_at nodes from i = cond (ltb i nodes) (chosen (going_round nodes from i) (i + 1)) fruitless

-- the first ready node, going round from a number on
unfoldable pub choose : ℕ → ℕ → State → Choice
choose nodes from s = choice_at nodes from (first_from (λ i. ready s (going_round nodes from i)) 0 nodes)

-- a dispatched run: the run, and its choices, the last fruitless or stopped one included
pub record Dispatched : Type 0 where
  pub run : Run
  pub choices : List Choice

-- the dispatched run that goes on by `rest` after a choice whose turn is completed; a stopped turn ends it
abbrev pub pursue : (State → Dispatched) → Choice → State → Turned → Dispatched
pursue rest c s (completed e s') = record { run = after s e (rest s').run; choices = c ∷ (rest s').choices }
pursue rest c s (stopped k e) = record { run = ended s k e; choices = c ∷ [] }

-- the turn of the chosen node, by a rule for one turn, and what follows after it; nobody: stop 4
abbrev pub serve : (State → ℕ → Turned) → (ℕ → State → Dispatched) → State → Choice → Dispatched
serve rule rest s (chosen n k) = pursue (rest (n + 1)) (chosen n k) s (rule s n)
serve rule rest s (nobody k) = record { run = ended s 4 (entry 0 0 0 0); choices = nobody k ∷ [] }

-- the run of so many turns from a state, by a rule for one turn; the first choice goes round from the number `from` on, each other one from
-- after the node served last
unfoldable pub dispatch_from : (State → ℕ → Turned) → ℕ → ℕ → ℕ → State → Dispatched
dispatch_from rule nodes zero from s = record { run = ended s 0 (entry 0 0 0 0); choices = [] }
dispatch_from rule nodes (suc budget) from s = serve rule (dispatch_from rule nodes budget) s (choose nodes from s)

-- the unmonitored ("bare") and the monitored ("watched") dispatched run: the first choice starts at node 0
unfoldable pub unmonitored_dispatch : Program → ℕ → Dispatched
unmonitored_dispatch P budget = dispatch_from (turn P) P.nodes budget 0 (initial_state P)

unfoldable pub monitored_dispatch : Program → ℕ → Dispatched
monitored_dispatch P budget = dispatch_from (monitored_turn P) P.nodes budget 0 (initial_state P)

-- the nodes that were chosen, a stopped choice included
unfoldable pub chosen_in : List Choice → List ℕ
chosen_in [] = []
chosen_in (chosen n k ∷ cs) = n ∷ chosen_in cs
chosen_in (nobody k ∷ cs) = chosen_in cs

-- how many nodes were examined for a choice, and in all
abbrev pub examined_for : Choice → ℕ
examined_for (chosen n k) = k
examined_for (nobody k) = k

unfoldable pub examined_in : List Choice → ℕ
examined_in [] = 0
examined_in (c ∷ cs) = examined_for c + examined_in cs

-- nodes written out as the bytes of TURN commands
unfoldable pub turn_bytes : List ℕ → List ℕ
turn_bytes [] = []
turn_bytes (n ∷ ns) = TURN ∷ n ∷ turn_bytes ns

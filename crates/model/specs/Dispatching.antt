-- What holds of dispatched runs (S-2) and of the ready count (S-4), for every program and every budget.
use Rattle.std.specs.Prelude.{ℕ, suc, ◌+◌, ◌*◌, ◌≤◌, ◌<◌, ◌≡◌, ◌↔◌, true, false, cond, List, [], ◌∷◌, ◌++◌, eqb, length, get_or, take}
use Rattle.model.specs.Program.{Program}
use Rattle.model.specs.State.{State, initial_state}
use Rattle.model.specs.Turn.{Entry, entry, Turned, completed, turn}
use Rattle.model.specs.Permission.{monitored_turn}
use Rattle.model.specs.Run.{Run, run_from, states_of, entry_at, state_at}
use Rattle.model.specs.Following.{Follows}
use Rattle.model.specs.Transparency.{AllPermitted, FirstForbidden, stopped_at, Comparison}
use Rattle.model.specs.Dispatch.{ready, ready_count, going_round, Choice, chosen, nobody, choose, Dispatched, chosen_in, examined_for}
use Rattle.model.specs.Dispatch.{examined_in, unmonitored_dispatch, monitored_dispatch}
use Rattle.model.specs.DispatchResult.{Handed, handed}

-- a choice, going round from a number on: the first ready node, all before it being unready, or nobody, all being unready; no node is
-- examined for nobody (S-4)
pub data Chooses (nodes from : ℕ) (s : State) : Choice → Type 0 where
  found :
      (i : ℕ) → i < nodes → ready s (going_round nodes from i) ≡ true → ((j : ℕ) → j < i → ready s (going_round nodes from j) ≡ false)
      → Chooses nodes from s (chosen (going_round nodes from i) (i + 1))
  nobody_found : ((j : ℕ) → j < nodes → ready s (going_round nodes from j) ≡ false) → Chooses nodes from s (nobody 0)

-- every choice, in every state
abbrev pub ChoicesHold : Type 0
ChoicesHold = (nodes from : ℕ) (s : State) → Chooses nodes from s (choose nodes from s)

-- the ready count tells whether anybody is chosen (S-4): nobody is exactly if it is 0; and it is at most the number of nodes
pub record CountTells (nodes from : ℕ) (s : State) : Type 0 where
  pub tells : (choose nodes from s ≡ nobody 0) ↔ (ready_count nodes s ≡ 0)
  pub most : ready_count nodes s ≤ nodes

-- in every state, going round from every number that a choice goes round from
abbrev pub ReadyCountHolds : Type 0
ReadyCountHolds = (nodes from : ℕ) (s : State) → from ≤ nodes → CountTells nodes from s

-- a dispatched run as the run of written turns has it: its turns ran out where nobody was ready
abbrev pub written_out : Run → Run
written_out r = record { steps = r.steps; stop = cond (eqb r.stop 4) 0 r.stop; attempted = r.attempted; final = r.final }

-- the stops of an unmonitored and of a monitored dispatched run: 2 is none of them
pub data UnmonitoredStop : ℕ → Type 0 where
  is_zero : UnmonitoredStop 0
  is_three : UnmonitoredStop 3
  is_four : UnmonitoredStop 4

pub data MonitoredStop : ℕ → Type 0 where
  is_one : MonitoredStop 1
  as_unmonitored : {k : ℕ} → UnmonitoredStop k → MonitoredStop k

-- the number from which on the choice after another one goes round: that after the chosen node (after nobody there is no choice)
abbrev pub onwards : Choice → ℕ
onwards (chosen n k) = n + 1
onwards (nobody k) = 0

-- the choices in these states, each going round from after the node chosen before
unfoldable pub choices_along : ℕ → ℕ → List State → List Choice
choices_along nodes from [] = []
choices_along nodes from (s ∷ states) = choose nodes from s ∷ choices_along nodes (onwards (choose nodes from s)) states

-- the states of a run: those that its turns were made from, and the last one
abbrev pub states_in : Run → List State
states_in r = states_of r.steps ++ (r.final ∷ [])

-- a dispatched run stopped at its turn n: the examined total of the choices up to and with that turn's
abbrev pub handed_at : Program → Dispatched → ℕ → Handed
handed_at P d n = record { result = stopped_at P d.run n; examined = examined_in (take (suc n) d.choices) }

-- demand 3 under the dispatcher: an unmonitored and a monitored dispatched run of a program
pub record DispatchComparison (P : Program) (u m : Dispatched) : Type 0 where
  -- the runs compare as those of written turns do
  pub runs : Comparison P u.run m.run
  -- if u has no forbidden turn, what they hand over is identical, the examined total included
  pub identical : AllPermitted P u.run → handed P m ≡ handed P u
  -- if it has one, m hands over u stopped at the first, with the examined total of the choices up to and with that one
  pub stops : (n : ℕ) → FirstForbidden P u.run n → handed P m ≡ handed_at P u n
  -- and so do the choices
  pub same_choices : AllPermitted P u.run → m.choices ≡ u.choices
  pub choices_up_to : (n : ℕ) → FirstForbidden P u.run n → m.choices ≡ take (suc n) u.choices

-- one of the turns of a run, from the turn `first` on and before the turn `end`, is the node's, as its entry shows
pub record ServedBetween (r : Run) (node first end : ℕ) : Type 0 where
  pub turn_number : ℕ
  pub lowest : first ≤ turn_number
  pub highest : turn_number < end
  pub served : (entry_at r turn_number).node ≡ node

-- a node that is ready before turn k of a run is served by one of the turns k .. k + nodes - 1, if the run makes that many
abbrev pub Fair : ℕ → Run → Type 0
Fair nodes r =
    (k node : ℕ) → node < nodes → ready (state_at r k) node ≡ true → k + nodes ≤ length r.steps → ServedBetween r node k (k + nodes)

-- at most all nodes are examined for one choice, and there are at most as many choices as budgeted turns; in all at most all nodes for each
-- chosen one, as none are examined for a fruitless choice (S-4)
pub record Examined (nodes budget : ℕ) (choices : List Choice) : Type 0 where
  pub each : (k : ℕ) → k < length choices → examined_for (get_or choices k (nobody 0)) ≤ nodes
  pub number : length choices ≤ budget
  pub total : examined_in choices ≤ nodes * length (chosen_in choices)

-- a dispatched run by a rule for one turn, with this budget, from this state
pub record Dispatches (rule : State → ℕ → Turned) (nodes budget : ℕ) (start : State) (d : Dispatched) : Type 0 where
  -- its choices are those in its states, as far as the budget goes, from node 0 on
  pub chooses_along : d.choices ≡ choices_along nodes 0 (take budget (states_in d.run))
  -- its chosen nodes as written turns give the same run, with stop 0 for 4, and that run goes by the rule
  pub written : run_from rule (chosen_in d.choices) start ≡ written_out d.run
  pub follows : Follows rule (chosen_in d.choices) start (written_out d.run)
  -- the node of entry k is the node chosen for turn k
  pub serves : (k : ℕ) → k < length d.run.steps → (entry_at d.run k).node ≡ get_or (chosen_in d.choices) k 0
  -- it stops by 0 exactly if the budgeted turns are made, by 4 exactly if turns are left and nobody is ready
  pub budget_made : (d.run.stop ≡ 0) ↔ (length d.run.steps ≡ budget)
  pub nobody_ready : (d.run.stop ≡ 4)
      ↔ ((length d.run.steps < budget) × ((n : ℕ) → n < nodes → ready d.run.final n ≡ false))
  -- so the ready count tells stop 4 (S-4)
  pub none_counted : (d.run.stop ≡ 4) ↔ ((length d.run.steps < budget) × (ready_count nodes d.run.final ≡ 0))
  -- the attempted entry is all 0 then, and every chosen node has made its turn
  pub nobody_attempts : d.run.stop ≡ 4 → d.run.attempted ≡ entry 0 0 0 0
  pub nobody_stopped : d.run.stop ≡ 4 → length (chosen_in d.choices) ≡ length d.run.steps
  pub examines : Examined nodes budget d.choices
  pub is_fair : Fair nodes d.run

-- both dispatched runs of a program
pub record BothDispatch (P : Program) (budget : ℕ) : Type 0 where
  pub unmonitored_dispatches : Dispatches (turn P) P.nodes budget (initial_state P) (unmonitored_dispatch P budget)
  pub monitored_dispatches : Dispatches (monitored_turn P) P.nodes budget (initial_state P) (monitored_dispatch P budget)
  pub unmonitored_stops : UnmonitoredStop (unmonitored_dispatch P budget).run.stop
  pub monitored_stops : MonitoredStop (monitored_dispatch P budget).run.stop
  pub comparison : DispatchComparison P (unmonitored_dispatch P budget) (monitored_dispatch P budget)

-- all this holds of every program and every budget
abbrev pub DispatchHolds : Type 0
DispatchHolds = (P : Program) (budget : ℕ) → BothDispatch P budget

-- a ready node stays ready until it is served: in every state, by the turn of another node, monitored ("watched") or not ("bare")
abbrev pub StaysReady : (State → ℕ → Turned) → Type 0
StaysReady rule =
    (s : State) (n m : ℕ) → ¬ (m ≡ n) → ready s m ≡ true → (e : Entry) (s' : State) → rule s n ≡ completed e s' → ready s' m ≡ true

abbrev pub ReadyHolds : Type 0
ReadyHolds = (P : Program) → StaysReady (turn P) × StaysReady (monitored_turn P)

-- A run ("A turn"): the turns one after the other, each on the state that the last one left, until a stop.
use Rattle.std.specs.Prelude.{ℕ, List, [], ◌∷◌, map, get_or}
use Rattle.model.specs.Program.{Program}
use Rattle.model.specs.State.{State, initial_state}
use Rattle.model.specs.Turn.{Entry, entry, Turned, completed, stopped, turn}
use Rattle.model.specs.Permission.{monitored_turn}

-- a completed turn: the state that it was made from, and its entry
pub record Step : Type 0 where
  pub before : State
  pub made : Entry

-- a run: its completed turns, the stop (0: the turns ran out) with the attempted entry, and the last state
pub record Run : Type 0 where
  pub steps : List Step
  pub stop : ℕ
  pub attempted : Entry
  pub final : State

-- the run without a completed turn: it ends in this state, with this stop and attempted entry
abbrev pub ended : State → ℕ → Entry → Run
ended s k e = record { steps = []; stop = k; attempted = e; final = s }

-- the run with one more completed turn in front
abbrev pub after : State → Entry → Run → Run
after s e r = record { steps = record { before = s; made = e } ∷ r.steps; stop = r.stop; attempted = r.attempted; final = r.final }

-- the run that goes on by `rest` after a completed turn; a stopped turn changes nothing and ends the run
abbrev pub proceed : (State → Run) → State → Turned → Run
proceed rest s (completed e s') = after s e (rest s')
proceed rest s (stopped k e) = ended s k e

-- the run of these turns from a state, by a rule for one turn
unfoldable pub run_from : (State → ℕ → Turned) → List ℕ → State → Run
run_from rule [] s = ended s 0 (entry 0 0 0 0)
run_from rule (n ∷ turns) s = proceed (run_from rule turns) s (rule s n)

-- the unmonitored ("bare") run of these turns
unfoldable pub unmonitored_run : Program → List ℕ → Run
unmonitored_run P turns = run_from (turn P) turns (initial_state P)

-- the monitored ("watched") run of these turns
unfoldable pub monitored_run : Program → List ℕ → Run
monitored_run P turns = run_from (monitored_turn P) turns (initial_state P)

-- the entries of completed turns
abbrev pub entries_of : List Step → List Entry
entries_of steps = map (λ (t : Step). t.made) steps

-- the states that completed turns were made from
abbrev pub states_of : List Step → List State
states_of steps = map (λ (t : Step). t.before) steps

-- entry k of a run, counted from 0
abbrev pub entry_at : Run → ℕ → Entry
entry_at r k = get_or (entries_of r.steps) k (entry 0 0 0 0)

-- the state that turn k of a run was made from; after the completed turns the last state
abbrev pub state_at : Run → ℕ → State
state_at r k = get_or (states_of r.steps) k r.final

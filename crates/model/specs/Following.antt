-- Demand 2 of the definitions: a run goes by the rule for one turn, each turn on the state that the last one left, until a stop.
use Rattle.std.specs.Prelude.{ℕ, suc, ◌<◌, ◌≡◌, ◌⊎◌, List, length, get_or}
use Rattle.model.specs.Program.{Program}
use Rattle.model.specs.State.{State, initial_state}
use Rattle.model.specs.Turn.{entry, Turned, completed, stopped, turn}
use Rattle.model.specs.Permission.{monitored_turn}
use Rattle.model.specs.Run.{Run, entry_at, state_at, monitored_run, unmonitored_run}

-- stop 0: all turns are completed, and the attempted entry is all 0
pub record RanOut (turns : List ℕ) (r : Run) : Type 0 where
  pub completed_all : length r.steps ≡ length turns
  pub stop : r.stop ≡ 0
  pub attempted : r.attempted ≡ entry 0 0 0 0

-- another stop: the turn after the completed ones is stopped, with this stop and this attempted entry, and the last state is the one that
-- it was tried on
pub record Halted (rule : State → ℕ → Turned) (turns : List ℕ) (r : Run) : Type 0 where
  pub next : length r.steps < length turns
  pub stopping : rule r.final (get_or turns (length r.steps) 0) ≡ stopped r.stop r.attempted
  pub nonzero : ¬ (r.stop ≡ 0)

-- a run of these turns from a state by a rule for one turn
pub record Follows (rule : State → ℕ → Turned) (turns : List ℕ) (start : State) (r : Run) : Type 0 where
  -- it begins at this state
  pub begins : state_at r 0 ≡ start
  -- completed turn k makes entry k and state k + 1 from state k and the node of turn k
  pub goes_on : (k : ℕ) → k < length r.steps → rule (state_at r k) (get_or turns k 0) ≡ completed (entry_at r k) (state_at r (suc k))
  -- it ends in one of the two ways above
  pub ends : RanOut turns r ⊎ Halted rule turns r

-- demand 2: both runs of any turns of a program
pub record Demand2 (P : Program) (turns : List ℕ) : Type 0 where
  pub unmonitored_follows : Follows (turn P) turns (initial_state P) (unmonitored_run P turns)
  pub monitored_follows : Follows (monitored_turn P) turns (initial_state P) (monitored_run P turns)

-- demand 2 holds of every program and all turns
abbrev pub Demand2Holds : Type 0
Demand2Holds = (P : Program) (turns : List ℕ) → Demand2 P turns

-- Which stops there are: 2 and 3 of an unmonitored turn, 1 to 3 of a monitored one, and 0 of a run whose turns ran out.
use Prim.Native.Nat.{ℕ}
use mathlib.Core.Path.{◌≡◌}
use mathlib.Core.List.{List, [], ◌∷◌}
use native.Mathlib.Omega.{arith}
use Rattle.model.specs.Program.{Program}
use Rattle.model.specs.State.{State}
use Rattle.model.specs.Turn.{Turned, completed, stopped, turn}
use Rattle.model.specs.Permission.{monitored_turn}
use Rattle.model.specs.Run.{Run, proceed, run_from}
use Rattle.model.proofs.Ways.{turn_by, monitored_by}

-- a turn is completed, or its stop is one of these
abbrev pub StopsBy : (ℕ → Type 0) → Turned → Type 0
StopsBy Q (completed e s) = Unit {0}
StopsBy Q (stopped k e) = Q k

-- an unmonitored turn stops by 2 or 3
pub turn-stops : (Q : ℕ → Type 0) → Q 2 → Q 3 → (P : Program) (s : State) (n : ℕ) → StopsBy Q (turn P s n)
turn-stops Q two three P s n = turn_by (StopsBy Q) P s n (λ p w. two) (λ p w. tt) (λ l b. three) (λ l b. tt) (λ l. tt)

-- the lists add stop 1
pub monitored-stops : (Q : ℕ → Type 0) → Q 1 → Q 2 → Q 3 → (P : Program) (s : State) (n : ℕ) → StopsBy Q (monitored_turn P s n)
monitored-stops Q one two three P s n = monitored_by (StopsBy Q) P s n (turn-stops Q two three P s n) (λ e. one)

-- a run stops by 0 or as its rule does
proceed-stops : (Q : ℕ → Type 0) (rest : State → Run) (s : State) (t : Turned) → StopsBy Q t → ((s' : State) → Q (rest s').stop)
    → Q (proceed rest s t).stop
proceed-stops Q rest s (completed e s') p ih = ih s'
proceed-stops Q rest s (stopped k e) p ih = p

pub run-stops :
    (Q : ℕ → Type 0) → Q 0 → (rule : State → ℕ → Turned) → ((s : State) (n : ℕ) → StopsBy Q (rule s n))
    → (turns : List ℕ) (s : State) → Q (run_from rule turns s).stop
unfolding run_from
run-stops Q none rule stops [] s = none
run-stops Q none rule stops (n ∷ turns) s = proceed-stops Q (run_from rule turns) s (rule s n) (stops s n)
    (run-stops Q none rule stops turns)

-- an unmonitored run does not answer stop 1
pub run-not-one : (P : Program) (turns : List ℕ) (s : State) → (run_from (turn P) turns s).stop ≡ 1 → ⊥
run-not-one P = run-stops (λ k. k ≡ 1 → ⊥) (λ h. omega arith) (turn P) (turn-stops (λ k. k ≡ 1 → ⊥) (λ h. omega arith) (λ h. omega arith) P)

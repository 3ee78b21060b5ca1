-- A monitored dispatched run beside the unmonitored one with the same budget.
use Prim.Native.Nat.{ℕ, zero, suc, ◌+◌, ◌<◌, zero-le}
use mathlib.Core.Path.{◌≡◌, refl, sym, ap, ◌∙◌}
use mathlib.Core.List.{List, [], ◌∷◌, ◌++◌}
use native.Mathlib.Nat.{not-suc-le-zero, le_of_suc-le-suc}
use lib.ListN.{length, get_or, take}
use lib.Seq.{take-nil}
use Rattle.model.specs.Program.{Program}
use Rattle.model.specs.State.{State}
use Rattle.model.specs.Turn.{Turned, completed, stopped, turn}
use Rattle.model.specs.Permission.{enforced, monitored_turn}
use Rattle.model.specs.Run.{Run, Step, proceed, states_of}
use Rattle.model.specs.Transparency.{AllPermitted, FirstForbidden}
use Rattle.model.specs.Dispatch.{going_round, Choice, chosen, nobody, fruitless, choose, Dispatched, pursue, serve, dispatch_from}
use Rattle.model.specs.Dispatch.{examined_in}
use Rattle.model.specs.Dispatching.{onwards, choices_along, states_in, DispatchComparison}
use Rattle.model.proofs.Transparency.{halted_run, Compared, agree, turn-compared, identical, stops, comparison}
use Rattle.model.proofs.Pursuing.{dispatch_by}
use Rattle.model.proofs.DispatchedRuns.{dispatched}

-- a choice after which there is none
along_one : (nodes budget from : ℕ) (s : State) (c : Choice) → choose nodes from s ≡ c
    → c ∷ [] ≡ choices_along nodes from (take (suc budget) (s ∷ []))
unfolding choices_along
along_one nodes budget from s c e = rw (take-nil budget, e)

-- the choices of a dispatched run are those in its states, as far as the budget goes
abbrev Along : ℕ → ℕ → ℕ → Dispatched → Type 0
Along nodes budget from d = d.choices ≡ choices_along nodes from (take budget (states_in d.run))

pub choices_along_lem : (rule : State → ℕ → Turned) (nodes budget : ℕ) (s : State)
    → (dispatched rule nodes budget s).choices ≡ choices_along nodes 0 (take budget (states_in (dispatched rule nodes budget s).run))
unfolding choices_along
choices_along_lem rule nodes budget s =
    dispatch_by rule nodes (λ budget from s d. Along nodes budget from d)
    (record {
      made = λ from s. refl;
      fails = λ budget from s c. along_one nodes budget from s fruitless c.choice;
      halts = λ budget from s i c k e t. along_one nodes budget from s _ c.choice;
      goes = λ budget from s i c e s' t d ih.
          rw c.choice (ap (λ (cs : List Choice). chosen (going_round nodes from i) (i + 1) ∷ cs) ih);
    })
    budget 0 s zero-le

-- the first choices are those in the first states
along_take : (nodes k from : ℕ) (states : List State) → choices_along nodes from (take k states) ≡ take k (choices_along nodes from states)
unfolding choices_along
along_take nodes zero from states = refl
along_take nodes (suc k) from [] = refl
along_take nodes (suc k) from (s ∷ states) =
    ap (λ (cs : List Choice). choose nodes from s ∷ cs) (along_take nodes k (onwards (choose nodes from s)) states)

-- the first of the first are the same either way
take_swap : {A : Type 0} (a b : ℕ) (l : List A) → take a (take b l) ≡ take b (take a l)
take_swap zero b l = sym (take-nil b)
take_swap (suc a) zero l = refl
take_swap (suc a) (suc b) [] = refl
take_swap {A} (suc a) (suc b) (x ∷ l) = ap (λ (r : List A). x ∷ r) (take_swap a b l)

-- the states of a run that is stopped at its turn n
halted_states : (n : ℕ) (steps : List Step) (final : State) → n < length steps
    → states_of (take n steps) ++ (get_or (states_of steps) n final ∷ []) ≡ take (suc n) (states_of steps ++ (final ∷ []))
halted_states zero [] final h = absurd (not-suc-le-zero h)
halted_states (suc n) [] final h = absurd (not-suc-le-zero h)
halted_states zero (t ∷ steps) final h = refl
halted_states (suc n) (t ∷ steps) final h =
    ap (λ (r : List State). t.before ∷ r) (halted_states n steps final (le_of_suc-le-suc h))

-- a dispatched run, and one whose run is the same or is stopped at turn n
module _ (nodes budget : ℕ) (u m : Dispatched) (along : Along nodes budget 0 u) (along' : Along nodes budget 0 m) where
  same-choices : m.run ≡ u.run → m.choices ≡ u.choices
  same-choices e = along' ∙ ap (λ (r : Run). choices_along nodes 0 (take budget (states_in r))) e ∙ sym along

  halted-choices : (n : ℕ) → n < length u.run.steps → m.run ≡ halted_run u.run n → m.choices ≡ take (suc n) u.choices
  halted-choices n h e =
      along'
      ∙ ap (λ (r : Run). choices_along nodes 0 (take budget (states_in r))) e
      ∙ ap (λ (l : List State). choices_along nodes 0 (take budget l)) (halted_states n u.run.steps u.run.final h)
      ∙ ap (choices_along nodes 0) (take_swap budget (suc n) (states_in u.run))
      ∙ along_take nodes (suc n) 0 (take budget (states_in u.run))
      ∙ ap (take (suc n)) (sym along)

-- both runs, by the law for one turn of any two runs
pursue-run : (rest : State → Dispatched) (c : Choice) (s : State) (t : Turned) → (pursue rest c s t).run ≡ proceed (λ s'. (rest s').run) s t
pursue-run rest c s (completed e s') = refl
pursue-run rest c s (stopped k e) = refl

module _ (P : Program) where
  served-compared :
      (rest rest' : ℕ → State → Dispatched) → ((from : ℕ) (s : State) → Compared P (rest from s).run (rest' from s).run)
      → (s : State) (c : Choice) → Compared P (serve (turn P) rest s c).run (serve (monitored_turn P) rest' s c).run
  unfolding monitored_turn
  served-compared rest rest' ih s (chosen n k) =
      rw (pursue-run (rest (n + 1)) (chosen n k) s (turn P s n), pursue-run (rest' (n + 1)) (chosen n k) s (enforced P (turn P s n)))
      (turn-compared P s (λ s'. (rest (n + 1) s').run) (λ s'. (rest' (n + 1) s').run) (turn P s n) (ih (n + 1)))
  served-compared rest rest' ih s (nobody k) = agree (λ k h. absurd (not-suc-le-zero h)) refl

  dispatch_compared : (nodes budget from : ℕ) (s : State)
      → Compared P (dispatch_from (turn P) nodes budget from s).run (dispatch_from (monitored_turn P) nodes budget from s).run
  unfolding dispatch_from
  dispatch_compared nodes zero from s = agree (λ k h. absurd (not-suc-le-zero h)) refl
  dispatch_compared nodes (suc budget) from s =
      served-compared (dispatch_from (turn P) nodes budget) (dispatch_from (monitored_turn P) nodes budget) (dispatch_compared nodes budget) s
      (choose nodes from s)

  -- demand 3 under the dispatcher
  pub dispatches-compared : (nodes budget : ℕ) (s : State) → ¬ ((dispatched (turn P) nodes budget s).run.stop ≡ 1)
      → DispatchComparison P (dispatched (turn P) nodes budget s) (dispatched (monitored_turn P) nodes budget s)
  dispatches-compared nodes budget s never =
      let u = dispatched (turn P) nodes budget s in
      let m = dispatched (monitored_turn P) nodes budget s in
      let both = dispatch_compared nodes budget 0 s in
      let runs = comparison P u.run m.run never both in
      let along_u = choices_along_lem (turn P) nodes budget s in
      let along_m = choices_along_lem (monitored_turn P) nodes budget s in
      let same : AllPermitted P u.run → m.choices ≡ u.choices =
      λ all. same-choices nodes budget u m along_u along_m (identical P u.run m.run both all) in
      let up_to : (n : ℕ) → FirstForbidden P u.run n → m.choices ≡ take (suc n) u.choices =
      λ n first. halted-choices nodes budget u m along_u along_m n first.is_forbidden.is_completed
      (stops P u.run m.run both n first) in
      record {
        runs = runs;
        identical = λ all. λ i. record { result = runs.identical all i; examined = examined_in (same all i) };
        stops = λ n first. λ i. record { result = runs.stops n first i; examined = examined_in (up_to n first i) };
        same_choices = same;
        choices_up_to = up_to;
      }

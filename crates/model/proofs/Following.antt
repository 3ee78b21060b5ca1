-- Every run follows its rule for one turn: the proof of `Demand2` for every program and all turns.
use Prim.Native.Nat.{ℕ, zero, suc, ◌<◌, zero-le, suc-le-suc}
use mathlib.Core.Path.{◌≡◌, refl, sym, ap, subst, ◌∙◌}
use mathlib.Core.Logic.{◌⊎◌, inl, inr}
use mathlib.Core.List.{List, [], ◌∷◌}
use native.Mathlib.Omega.{arith}
use native.Mathlib.Decide.{dec_lt}
use native.Mathlib.Nat.{not-suc-le-zero, le_of_suc-le-suc}
use lib.ListN.{length, get_or, length-map, get_or-eq_default}
use Rattle.model.specs.State.{State, initial_state}
use Rattle.model.specs.Turn.{Entry, entry, Turned, completed, stopped, turn}
use Rattle.model.specs.Permission.{monitored_turn}
use Rattle.model.specs.Run.{Step, Run, after, proceed, run_from, entries_of, states_of, entry_at, state_at, monitored_run, unmonitored_run}
use Rattle.model.specs.Following.{RanOut, Halted, Follows, Demand2Holds}
use Rattle.model.proofs.Stops.{StopsBy, turn-stops, monitored-stops}

module _ (rule : State → ℕ → Turned) (turns : List ℕ) (n : ℕ) (s : State) where
  -- a completed turn in front
  front : (e : Entry) (s' : State) (r : Run) → rule s n ≡ completed e s' → Follows rule turns s' r
      → Follows rule (n ∷ turns) s (after s e r)
  front e s' r first f = record { begins = refl; goes_on = each; ends = last f.ends }
    where
      each : (k : ℕ) → k < suc (length r.steps) → rule (state_at (after s e r) k) (get_or (n ∷ turns) k 0) ≡ completed
          (entry_at (after s e r) k) (state_at (after s e r) (suc k))
      each zero h = first ∙ ap (completed e) (sym f.begins)
      each (suc k) h = f.goes_on k (le_of_suc-le-suc h)

      last : RanOut turns r ⊎ Halted rule turns r → RanOut (n ∷ turns) (after s e r) ⊎ Halted rule (n ∷ turns) (after s e r)
      last (inl o) = inl (record { completed_all = ap suc o.completed_all; stop = o.stop; attempted = o.attempted })
      last (inr h) = inr (record { next = suc-le-suc h.next; stopping = h.stopping; nonzero = h.nonzero })

  -- one turn and what follows it, by what the turn comes to
  proceeds : (rest : State → Run) (t : Turned) → rule s n ≡ t → StopsBy (λ k. ¬ (k ≡ 0)) t
      → ((s' : State) → Follows rule turns s' (rest s')) → Follows rule (n ∷ turns) s (proceed rest s t)
  proceeds rest (completed e s') first q ih = front e s' (rest s') first (ih s')
  proceeds rest (stopped k e) first q ih =
      record {
        begins = refl;
        goes_on = λ j h. absurd (not-suc-le-zero h);
        ends = inr (record { next = suc-le-suc zero-le; stopping = first; nonzero = q });
      }

-- a run by a rule that does not stop by 0
pub follows :
    (rule : State → ℕ → Turned) → ((s : State) (n : ℕ) → StopsBy (λ k. ¬ (k ≡ 0)) (rule s n))
    → (turns : List ℕ) (s : State) → Follows rule turns s (run_from rule turns s)
unfolding run_from
follows rule stops [] s = record {
  begins = refl;
  goes_on = λ k h. absurd (not-suc-le-zero h);
  ends = inl
      (record { completed_all = refl; stop = refl; attempted = refl });
}
follows rule stops (n ∷ turns) s = proceeds rule turns n s (run_from rule turns) (rule s n) refl (stops s n) (follows rule stops turns)

-- demand 2
pub demand2 : Demand2Holds
unfolding unmonitored_run monitored_run
demand2 P turns =
    record {
      unmonitored_follows = follows (turn P) (turn-stops (λ k. ¬ (k ≡ 0)) (λ h. omega arith) (λ h. omega arith) P) turns (initial_state P);
      monitored_follows = follows (monitored_turn P) (monitored-stops (λ k. ¬ (k ≡ 0)) (λ h. omega arith) (λ h. omega arith)
          (λ h. omega arith) P) turns (initial_state P);
    }

-- after the completed turns: no entry, and the last state
module _ (r : Run) (k : ℕ) (beyond : ¬ (k < length r.steps)) where
  pub no_entry_lem : entry_at r k ≡ entry 0 0 0 0
  no_entry_lem = get_or-eq_default (entries_of r.steps) (entry 0 0 0 0) (omega (arith, length-map r.steps (λ (t : Step). t.made)))

  pub last-state : state_at r k ≡ r.final
  last-state = get_or-eq_default (states_of r.steps) r.final (omega (arith, length-map r.steps (λ (t : Step). t.before)))

-- what holds of the first state, goes on with each completed turn, and stays after them, holds at any time
module _ {rule : State → ℕ → Turned} {turns : List ℕ} {start : State} {r : Run} (goes : Follows rule turns start r) where
  pub at_each :
      (Q : ℕ → State → Type 0) → Q 0 start → ((k : ℕ) (s : State) → ¬ (k < length r.steps) → Q k s → Q (suc k) s)
      → ((k : ℕ) → k < length r.steps → Q k (state_at r k) → Q (suc k) (state_at r (suc k)))
      → (k : ℕ) → Q k (state_at r k)
  at_each Q first stays next zero = subst (Q 0) (sym goes.begins) first
  at_each Q first stays next (suc k) = by_place (dec_lt k (length r.steps)) (at_each Q first stays next k)
    where
      by_place : Dec (k < length r.steps) → Q k (state_at r k) → Q (suc k) (state_at r (suc k))
      by_place (yes h) q = next k h q
      by_place (no h) q =
          stays k (state_at r (suc k)) h (subst (Q k) (last-state r k h ∙ sym (last-state r (suc k) (λ i. h (omega arith)))) q)

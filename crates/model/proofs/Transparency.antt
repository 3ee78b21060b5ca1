-- The proof of `Demand3` for every job and all buffers, by induction over the turns.
use Prim.Native.Nat.{ℕ, zero, suc, ◌<◌, ◌≤◌, zero-le, suc-le-suc}
use mathlib.Core.Path.{◌≡◌, refl, sym, ap, subst, ◌∙◌}
use mathlib.Core.Logic.{◌↔◌, ◌⊎◌, inl, inr}
use mathlib.Core.Bool.{Bool, true, false, cond}
use mathlib.Core.List.{List, [], ◌∷◌}
use native.Mathlib.Omega.{arith}
use native.Mathlib.Nat.{not-suc-le-zero, le_of_suc-le-suc}
use lib.ListN.{length, take, length-take}
use lib.Seq.{length-take-le, get_or-take}
use Rattle.model.specs.Declared.{turns_of}
use Rattle.model.specs.Program.{Program, program_of}
use Rattle.model.specs.State.{State, initial_state}
use Rattle.model.specs.Turn.{Entry, entry, Turned, completed, stopped, turn}
use Rattle.model.specs.Permission.{permitted, redacted, enforced, monitored_turn}
use Rattle.model.specs.Run.{Run, Step, after, proceed, run_from, entries_of, entry_at, state_at, monitored_run, unmonitored_run}
use Rattle.model.specs.Result.{report, sizes_of}
use Rattle.model.specs.Transparency.{AllPermitted, Forbidden, FirstForbidden, stopped_at, Comparison, Demand3Holds}
use Rattle.model.proofs.Logic.{not-both}
use Rattle.model.proofs.Stops.{run-not-one}
use Rattle.model.proofs.Conclusion.{both_end, concluded, monitored-leaves, unmonitored-leaves}

-- a run that is stopped at its turn n
abbrev pub halted_run : Run → ℕ → Run
halted_run r n = record { steps = take n r.steps; stop = 1; attempted = redacted (entry_at r n); final = state_at r n }

-- a run and the same run under the lists: they agree, or the second one is the first stopped at its first forbidden turn
pub data Compared (P : Program) (u m : Run) : Type 0 where
  agree : AllPermitted P u → m ≡ u → Compared P u m
  halt : (n : ℕ) → FirstForbidden P u n → m ≡ halted_run u n → Compared P u m

-- a permitted entry in front keeps the comparison
step-compared :
    (P : Program) (s : State) (e : Entry) (u m : Run)
    → permitted P e ≡ true → Compared P u m → Compared P (after s e u) (after s e m)
step-compared P s e u m p (agree all same) = agree front (ap (after s e) same)
  where
    front : AllPermitted P (after s e u)
    front zero h = p
    front (suc k) h = all k (le_of_suc-le-suc h)
step-compared P s e u m p (halt n first same) = halt (suc n) front (ap (after s e) same)
  where
    before : (k : ℕ) → k < suc n → permitted P (entry_at (after s e u) k) ≡ true
    before zero h = p
    before (suc k) h = first.earlier k (le_of_suc-le-suc h)

    front : FirstForbidden P (after s e u) (suc n)
    front = record {
      is_forbidden = record {
        is_completed = suc-le-suc
            first.is_forbidden.is_completed;
        not_permitted = first.is_forbidden.not_permitted;
      };
      earlier = before;
    }

-- one turn and what follows it, by what the turn comes to
pub turn-compared :
    (P : Program) (s : State) (rest rest' : State → Run) (t : Turned)
    → ((s' : State) → Compared P (rest s') (rest' s'))
    → Compared P (proceed rest s t) (proceed rest' s (enforced P t))
turn-compared P s rest rest' (stopped k e) ih = agree (λ k h. absurd (not-suc-le-zero h)) refl
turn-compared P s rest rest' (completed e s') ih = by_permission (permitted P e) refl
  where
    by_permission :
        (b : Bool) → permitted P e ≡ b
        → Compared P (after s e (rest s')) (proceed rest' s (cond b (completed e s') (stopped 1 (redacted e))))
    by_permission true p = step-compared P s e (rest s') (rest' s') p (ih s')
    by_permission false p =
        halt 0
        (record {
          is_forbidden = record { is_completed = suc-le-suc zero-le; not_permitted = p };
          earlier = λ k h. absurd
              (not-suc-le-zero h);
        })
        refl

-- the two runs of any turns from any state
run-compared :
    (P : Program) (turns : List ℕ) (s : State)
    → Compared P (run_from (turn P) turns s) (run_from (monitored_turn P) turns s)
unfolding run_from monitored_turn
run-compared P [] s = agree (λ k h. absurd (not-suc-le-zero h)) refl
run-compared P (n ∷ turns) s =
    turn-compared P s (run_from (turn P) turns) (run_from (monitored_turn P) turns) (turn P s n) (run-compared P turns)

-- the entries of the first n turns
entries-take : (n : ℕ) (steps : List Step) → entries_of (take n steps) ≡ take n (entries_of steps)
entries-take zero steps = refl
entries-take (suc n) [] = refl
entries-take (suc n) (c ∷ steps) = ap {B = List Entry} (λ es. c.made ∷ es) (entries-take n steps)

module _ (P : Program) (u m : Run) where
  -- no turn is forbidden
  none-forbidden : AllPermitted P u → (n : ℕ) → Forbidden P u n → ⊥
  none-forbidden all n f = not-both (all n f.is_completed) f.not_permitted

  -- the two cases
  decided : Compared P u m → ((n : ℕ) × FirstForbidden P u n) ⊎ AllPermitted P u
  decided (agree all same) = inr all
  decided (halt n first same) = inl (n, first)

  pub identical : Compared P u m → AllPermitted P u → m ≡ u
  identical (agree _ same) all = same
  identical (halt n first same) all = absurd (none-forbidden all n first.is_forbidden)

  -- every entry of the second run is permitted
  safe : Compared P u m → AllPermitted P m
  safe (agree all same) = subst (AllPermitted P) (sym same) all
  safe (halt n first same) = subst (AllPermitted P) (sym same) cut
    where
      cut : AllPermitted P (halted_run u n)
      cut k h =
          let short : k < n = omega (arith, length-take n u.steps) in
          rw (entries-take n u.steps, get_or-take n (entries_of u.steps) k (entry 0 0 0 0) short) (first.earlier k short)

  -- the first forbidden turn is one
  same_first : (k n : ℕ) → FirstForbidden P u k → FirstForbidden P u n → k ≡ n
  same_first k n f g =
      let a : ¬ (k < n) = λ h. not-both (g.earlier k h) f.is_forbidden.not_permitted in
      let b : ¬ (n < k) = λ h. not-both (f.earlier n h) g.is_forbidden.not_permitted in
      omega arith

  -- where turn n is the first forbidden one, the second run is the first one stopped there
  pub stops : Compared P u m → (n : ℕ) → FirstForbidden P u n → m ≡ halted_run u n
  stops (agree all same) n first = absurd (none-forbidden all n first.is_forbidden)
  stops (halt k first' same) n first = same ∙ ap (halted_run u) (same_first k n first' first)

  -- the second run answers stop 1 exactly if some turn is forbidden
  stop-one : (u.stop ≡ 1 → ⊥) → Compared P u m → (m.stop ≡ 1) ↔ ((n : ℕ) × Forbidden P u n)
  stop-one never (agree all same) = (
    λ h. absurd (never (ap (λ (r : Run). r.stop) (sym same) ∙ h)),
    λ f. absurd
        (none-forbidden all f.0 f.1),
  )
  stop-one never (halt n first same) = (λ h. (n, first.is_forbidden), λ f. ap (λ (r : Run). r.stop) same)

-- what a stopped run hands over
halted-report : (P : Program) (r : Run) (n : ℕ) → n < length r.steps → report P (halted_run r n) ≡ stopped_at P r n
unfolding report
halted-report P r n h = let le : n ≤ length r.steps = omega arith in rw (length-take-le n r.steps le, entries-take n r.steps)

-- two runs that compare so
pub comparison : (P : Program) (u m : Run) → (u.stop ≡ 1 → ⊥) → Compared P u m → Comparison P u m
comparison P u m never both =
    record {
      decided = decided P u m both;
      identical = λ all. ap (report P) (identical P u m both all);
      stops = λ n first. ap (report P) (stops P u m both n first) ∙ halted-report P u n first.is_forbidden.is_completed;
      stop_one = stop-one P u m never both;
      safe = safe P u m both;
    }

-- both runs of any turns of any program
pub runs-compared : (P : Program) (turns : List ℕ) → Comparison P (unmonitored_run P turns) (monitored_run P turns)
unfolding unmonitored_run monitored_run
runs-compared P turns =
    comparison P (run_from (turn P) turns (initial_state P)) (run_from (monitored_turn P) turns (initial_state P))
    (run-not-one P turns (initial_state P)) (run-compared P turns (initial_state P))

-- demand 3
pub demand3 : Demand3Holds
demand3 job b b' =
    record {
      refuse_alike = λ same r. (
        λ e. ((concluded job (sizes_of b')).unmonitored_refuses r).1 (rw same at (((concluded job (sizes_of b)).monitored_refuses r).0 e)),
        λ e. ((concluded job (sizes_of b)).monitored_refuses r).1 (rw (← same) at (((concluded job (sizes_of b')).unmonitored_refuses r).0 e)),
      );
      both_run = λ past m u.
          record {
            unmonitored_reports = (both_end job (sizes_of b') past u).unmonitored_reports;
            monitored_reports = (both_end job (sizes_of b) past m).monitored_reports;
            comparison = runs-compared (program_of past) (turns_of past);
          };
      monitored_leaves = monitored-leaves job b;
      unmonitored_leaves = unmonitored-leaves job b';
    }

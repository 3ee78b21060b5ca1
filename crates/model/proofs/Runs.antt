-- A run by a loop over its turns, and the trace that grows with it.
use Prim.Native.Nat.{ℕ, zero, suc, ◌+◌, ◌≤◌, ◌<◌}
use mathlib.Core.Path.{◌≡◌, refl, sym, ap, ◌∙◌}
use mathlib.Core.List.{List, [], ◌∷◌, ◌++◌, append_assoc, append-nil, map-append}
use native.Mathlib.Numerals.{add-one}
use lib.ListN.{length, get_or, drop, drop_of_length-le}
use lib.Seq.{drop-cons}
use Rattle.model.specs.State.{State}
use Rattle.model.specs.Turn.{Entry, entry, Turned, completed, stopped}
use Rattle.model.specs.Run.{Step, Run, proceed, run_from, entries_of, state_at}
use Rattle.model.specs.Output.{entry_bytes, trace_bytes}
use Rattle.model.proofs.Ways.{Keeps}

-- one entry more at the end of the trace
pub trace_snoc : (es : List Entry) (e : Entry) → trace_bytes (es ++ (e ∷ [])) ≡ trace_bytes es ++ entry_bytes e
unfolding trace_bytes
trace_snoc [] e = append-nil (entry_bytes e)
trace_snoc (f ∷ es) e = ap (λ (l : List ℕ). entry_bytes f ++ l) (trace_snoc es e)
    ∙ sym (append_assoc (entry_bytes f) (trace_bytes es) (entry_bytes e))

pub entries_snoc : (steps : List Step) (t : Step) → entries_of (steps ++ (t ∷ [])) ≡ entries_of steps ++ (t.made ∷ [])
entries_snoc steps t = map-append (λ (u : Step). u.made) steps (t ∷ [])

-- a run after turns that are done already: what a loop over the turns keeps
unfoldable pub behind : List Step → Run → Run
behind done r = record { steps = done ++ r.steps; stop = r.stop; attempted = r.attempted; final = r.final }

-- before the loop
pub behind-none : (r : Run) → behind [] r ≡ r
unfolding behind
behind-none r = refl

-- turn k of the loop: it is completed, or stopped, or there is none
module _ (rule : State → ℕ → Turned) (turns : List ℕ) (done : List Step) (k : ℕ) (s : State) where
  next-turn : k < length turns → run_from rule (drop k turns) s ≡ run_from rule (get_or turns k 0 ∷ drop (k + 1) turns) s
  next-turn h = ap (λ (l : List ℕ). run_from rule l s) (drop-cons turns k 0 h
      ∙ ap (λ (i : ℕ). get_or turns k 0 ∷ drop i turns) (sym (add-one k)))

  pub behind-completed :
      (e : Entry) (s' : State) → k < length turns → rule s (get_or turns k 0) ≡ completed e s'
      → behind done (run_from rule (drop k turns) s) ≡ behind (done ++ (record { before = s; made = e } ∷ []))
      (run_from rule (drop (k + 1) turns) s')
  unfolding behind run_from
  behind-completed e s' h t = ap (behind done) (next-turn h) ∙ simp (t, append_assoc)

  pub behind-stopped :
      (j : ℕ) (e : Entry) → k < length turns → rule s (get_or turns k 0) ≡ stopped j e
      → behind done (run_from rule (drop k turns) s) ≡ record { steps = done; stop = j; attempted = e; final = s }
  unfolding behind run_from
  behind-stopped j e h t = ap (behind done) (next-turn h) ∙ simp (t, append-nil)

  pub behind-ended : length turns ≤ k → behind done (run_from rule (drop k turns) s) ≡ record
      { steps = done; stop = 0; attempted = entry 0 0 0 0; final = s }
  unfolding behind run_from
  behind-ended h = ap (λ (l : List ℕ). behind done (run_from rule l s)) (drop_of_length-le turns h) ∙ simp append-nil

-- what every turn keeps holds of every state of a run
module _ (Q : State → Type 0) (rule : State → ℕ → Turned) (keeps : (s : State) (n : ℕ) → Q s → Keeps Q (rule s n)) where
  proceed-each :
      (rest : State → Run) → ((s : State) → Q s → (k : ℕ) → Q (state_at (rest s) k))
      → (s : State) → Q s → (t : Turned) → Keeps Q t → (k : ℕ) → Q (state_at (proceed rest s t) k)
  proceed-each rest ih s q (stopped j e) h k = q
  proceed-each rest ih s q (completed e s') h zero = q
  proceed-each rest ih s q (completed e s') h (suc k) = ih s' h k

  pub run-each : (turns : List ℕ) (s : State) → Q s → (k : ℕ) → Q (state_at (run_from rule turns s) k)
  unfolding run_from
  run-each [] s q k = q
  run-each (n ∷ turns) s q k = proceed-each (run_from rule turns) (run-each turns) s q (rule s n) (keeps s n q) k

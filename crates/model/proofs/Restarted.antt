-- A program with another start of one variable: its first state, its monitored runs and its snapshots are the same but for that variable.
use Prim.Native.Nat.{ℕ, zero, suc, ◌+◌, ◌-◌, ◌*◌, ◌≤◌, ◌<◌}
use mathlib.Core.Path.{◌≡◌, refl, sym, ap, ◌∙◌, fun_ext}
use mathlib.Core.Logic.{◌⊎◌, inl, inr}
use mathlib.Core.Bool.{Bool, true, false}
use mathlib.Core.List.{List, ◌++◌}
use native.Mathlib.Omega.{arith}
use lib.Dec.{eqb}
use lib.ListN.{length, get_or, length-append, length-map, get_or-eq_default}
use lib.Seq.{get_or-set_other}
use borrow.Author.Tests.{eqb-true, eqb-false}
use Rattle.model.specs.Table.{max_variables}
use Rattle.model.specs.Program.{Program, shared_in}
use Rattle.model.specs.State.{State, variable_at, with_variable, initial_state}
use Rattle.model.specs.Turn.{Entry, entry, Turned, completed, stopped, turn}
use Rattle.model.specs.Permission.{enforced, monitored_turn}
use Rattle.model.specs.Run.{Step, Run, monitored_run}
use Rattle.model.specs.Output.{bytes4, node_bytes, nodes_bytes, variables_bytes, snapshot_bytes}
use Rattle.model.specs.Dispatch.{examined_in, monitored_dispatch}
use Rattle.model.specs.Tally.{tally_of}
use Rattle.model.specs.Secrecy.{SameBut, variable_place, RunsAlike, DispatchesAlike}
use Rattle.model.proofs.Lists.{get_or-tabulate, tabulate-set, append_at}
use Rattle.model.proofs.Bounds.{length-variables}
use Rattle.model.proofs.Unread.{Kept, NearRun, near-run, near_dispatch}
use Rattle.model.proofs.Restarting.{with_start_values}

-- the snapshots of two states that differ in one variable
module _ (s : State) (x v : ℕ) where
  nodes-same : (k : ℕ) → nodes_bytes (with_variable s x v) k ≡ nodes_bytes s k
  unfolding nodes_bytes
  nodes-same zero = refl
  nodes-same (suc k) = ap (λ (l : List ℕ). l ++ node_bytes s k) (nodes-same k)

  variables-same :
      (k i : ℕ) → (i < 4 * x) ⊎ (4 * x + 4 ≤ i) → get_or (variables_bytes s k) i 0 ≡ get_or (variables_bytes (with_variable s x v) k) i 0
  unfolding variables_bytes
  variables-same zero i h = refl
  variables-same (suc k) i h =
      append_at (variables_bytes s k) (variables_bytes (with_variable s x v) k) (bytes4 (variable_at s k))
      (bytes4 (variable_at (with_variable s x v) k)) i
      (length-variables s k ∙ sym (length-variables (with_variable s x v) k))
      (λ l. variables-same k i h)
      (λ l. by_number (eqb k x) refl (rw (length-variables s k) at l))
    where
      beyond : k ≡ x → 4 * k ≤ i → (i < 4 * x) ⊎ (4 * x + 4 ≤ i) → 4 ≤ i - length (variables_bytes s k)
      beyond e l (inl o) = absurd (omega arith)
      beyond e l (inr o) = omega (arith, length-variables s k)

      by_number :
          (b : Bool) → eqb k x ≡ b → 4 * k ≤ i
          → get_or (bytes4 (variable_at s k)) (i - length (variables_bytes s k)) 0
          ≡ get_or (bytes4 (variable_at (with_variable s x v) k)) (i - length (variables_bytes s k)) 0
      by_number true p l =
          let h4 : 4 ≤ i - length (variables_bytes s k) = beyond (eqb-true k x p) l h in
          get_or-eq_default (bytes4 (variable_at s k)) 0 h4
          ∙ sym (get_or-eq_default (bytes4 (variable_at (with_variable s x v) k)) 0 h4)
      by_number false p l = rw (get_or-set_other s.variable x k v 0 (eqb-false k x p))

  snapshot-same : (P : Program) (starts : ℕ → ℕ)
      → SameBut (variable_place P s x) (snapshot_bytes P s) (snapshot_bytes (with_start_values P starts) (with_variable s x v))
  unfolding snapshot_bytes
  snapshot-same P starts =
      rw (nodes-same P.nodes)
      (record {
        same_length =
            length-append nodes (variables_bytes s P.variables)
            ∙ omega (
              arith,
              length-variables s P.variables,
              length-variables (with_variable s x v) P.variables,
              length-append nodes (variables_bytes (with_variable s x v) P.variables),
            );
        elsewhere = λ i h.
            append_at nodes nodes (variables_bytes s P.variables) (variables_bytes (with_variable s x v) P.variables) i refl (λ l. refl)
            (λ l. variables-same P.variables (i - length nodes) (nearer i l h));
      })
    where
      nodes : List ℕ
      nodes = nodes_bytes s P.nodes

      nearer : (i : ℕ) → length nodes ≤ i → (i < length nodes + 4 * x) ⊎ (length nodes + 4 * x + 4 ≤ i)
          → (i - length nodes < 4 * x) ⊎ (4 * x + 4 ≤ i - length nodes)
      nearer i l (inl h) = inl (omega arith)
      nearer i l (inr h) = inr (omega arith)

-- what runs that are near hand over
near-alike : (x : ℕ) (P : Program) (starts : ℕ → ℕ) (r r' : Run) → x < P.variables → NearRun x (P.start_value x) (starts x) r r'
    → RunsAlike x P (with_start_values P starts) r r'
near-alike x P starts r r' h n =
    let turns : length r.steps ≡ length r'.steps =
    sym (length-map r.steps (λ (t : Step). t.made)) ∙ ap length n.entries ∙ length-map r'.steps (λ (t : Step). t.made) in
    let entry_in : List Entry → ℕ → Entry = λ es k. get_or es k (entry 0 0 0 0) in
    record {
      nodes = refl;
      variables = refl;
      declared = h;
      answer = λ i. record { stop = n.stop i; turns = turns i; attempted = n.attempted i };
      entries = n.entries;
      value = n.final.value;
      final = n.final.same;
      kept = n.final.kept;
      place = rw (n.final.same, nodes-same r.final x n.final.value P.nodes);
      snapshot = rw n.final.same (snapshot-same r.final x n.final.value P starts);
      tally = λ m. rw n.final.same (λ i. tally_of P (entry_in (n.entries i)) (turns i) r.final m);
    }

module _
    (P : Program) (starts : ℕ → ℕ) (x : ℕ) (agrees : (y : ℕ) → ¬ (y ≡ x) → starts y ≡ P.start_value y)
    (declared : x < P.variables) (few : P.variables ≤ max_variables)
    (shared : shared_in P x ≡ true) (unread : (n : ℕ) → P.may_read n x ≡ false)
  where
    -- the start of the run
    initial_near : initial_state (with_start_values P starts) ≡ with_variable (initial_state P) x (starts x)
    unfolding initial_state
    initial_near =
        ap
        (λ (l : List ℕ).
        record {
          position = (initial_state P).position;
          accumulator = (initial_state P).accumulator;
          message = (initial_state P).message;
          queue = (initial_state P).queue;
          variable = l;
        })
        (tabulate-set max_variables x starts P.start_value agrees)

    initial_kept : Kept x (P.start_value x) (starts x) (initial_state P) (starts x)
    unfolding initial_state
    initial_kept = inl (get_or-tabulate max_variables x P.start_value 0 (omega arith), refl)

    -- a turn asks for no start
    same_turn : (s : State) (n : ℕ) → turn (with_start_values P starts) s n ≡ turn P s n
    unfolding turn
    same_turn s n = refl

    same-enforced : (t : Turned) → enforced (with_start_values P starts) t ≡ enforced P t
    same-enforced (completed e s) = refl
    same-enforced (stopped k e) = refl

    same-rule : monitored_turn (with_start_values P starts) ≡ monitored_turn P
    unfolding monitored_turn
    same-rule = fun_ext (λ s. fun_ext (λ n. same-enforced (turn (with_start_values P starts) s n) ∙ ap (enforced P) (same_turn s n)))

    -- the monitored run of written turns, and the dispatched one
    pub restarted-run : (turns : List ℕ)
        → RunsAlike x P (with_start_values P starts) (monitored_run P turns) (monitored_run (with_start_values P starts) turns)
    unfolding monitored_run
    restarted-run turns =
        rw (same-rule, initial_near) (near-alike x P starts _ _ declared
        (near-run P x (P.start_value x) (starts x) shared unread turns (initial_state P) (starts x) initial_kept))

    pub restarted_dispatch : (budget : ℕ)
        → DispatchesAlike x P (with_start_values P starts) (monitored_dispatch P budget) (monitored_dispatch (with_start_values P starts) budget)
    unfolding monitored_dispatch
    restarted_dispatch budget =
        let d = near_dispatch P x (P.start_value x) (starts x) shared unread P.nodes budget 0 (initial_state P) (starts x) initial_kept in
        rw (same-rule, initial_near)
        (record { runs = near-alike x P starts _ _ declared d.run; choices = d.choices; examined = ap examined_in d.choices })

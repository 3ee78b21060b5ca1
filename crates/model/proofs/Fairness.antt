-- The dispatcher is fair: a ready node is served by one of as many turns as there are nodes.
use Prim.Native.Nat.{ℕ, zero, suc, ◌+◌, ◌-◌, ◌≤◌, ◌<◌, zero-le}
use mathlib.Core.Path.{◌≡◌, refl, sym, ap, ◌∙◌}
use mathlib.Core.Bool.{Bool, true, false}
use native.Mathlib.Omega.{arith}
use native.Mathlib.Nat.{not-suc-le-zero}
use lib.Dec.{ltb, eqb}
use lib.ListN.{length}
use borrow.Author.Tests.{ltb-true, ltb-false, eqb-true, eqb-false}
use Rattle.model.specs.State.{State}
use Rattle.model.specs.Turn.{Entry, Turned, completed}
use Rattle.model.specs.Run.{Run, ended, after}
use Rattle.model.specs.Dispatch.{ready, going_round}
use Rattle.model.specs.Dispatching.{ServedBetween, Fair}
use Rattle.model.proofs.Logic.{not-both}
use Rattle.model.proofs.Serving.{Serving}
use Rattle.model.proofs.Choosing.{reached, round_on}
use Rattle.model.proofs.Pursuing.{Finds, dispatch_by}
use Rattle.model.proofs.DispatchedRuns.{dispatched}

-- how a run ends the wait of a node, by any rule that serves
module _ (rule : State → ℕ → Turned) (serving : Serving rule) (nodes : ℕ) where
  -- a ready node i places on is served by one of the next i + 1 turns
  abbrev Soon : ℕ → State → Run → Type 0
  Soon from s r =
      (m i : ℕ) → i < nodes → going_round nodes from i ≡ m → ready s m ≡ true → i < length r.steps → ServedBetween r m 0 (i + 1)

  -- a run without a completed turn serves nobody
  none-served : (from : ℕ) (s : State) (k : ℕ) (e : Entry) → Soon from s (ended s k e) × Fair nodes (ended s k e)
  none-served from s k e = (λ m i l a r short. absurd (not-suc-le-zero short), λ k m l r enough. absurd (omega arith))

  -- the choice in a state finds the node h places on, whose turn is completed, and the run goes on
  module _
      (from : ℕ) (s : State) (h : ℕ) (c : Finds nodes from s h) (e : Entry) (s' : State)
      (t : rule s (going_round nodes from h) ≡ completed e s') (r : Run)
    where
      -- a ready node is no nearer
      nearer : (m i : ℕ) → going_round nodes from i ≡ m → ready s m ≡ true → h ≤ i
      nearer m i a q = by_place (ltb i h) refl
        where
          by_place : (b : Bool) → ltb i h ≡ b → h ≤ i
          by_place true p = let z : ready s m ≡ false = rw a at (c.earlier i (ltb-true i h p)) in not-both q z
          by_place false p = ltb-false i h p

      -- its turn is this one, or it is nearer after it
      soon_goes : Soon (going_round nodes from h + 1) s' r → Soon from s (after s e r)
      soon_goes soon m i l a q short = by_node (eqb m n) refl
        where
          n : ℕ
          n = going_round nodes from h

          served : e.node ≡ n
          served = rw t at (serving.makes s n)

          by_node : (b : Bool) → eqb m n ≡ b → ServedBetween (after s e r) m 0 (i + 1)
          by_node true p = record { turn_number = 0; lowest = zero-le; highest = omega arith; served = served ∙ sym (eqb-true m n p) }
          by_node false p =
              let other : ¬ (m ≡ n) = eqb-false m n p in
              let apart : ¬ (h ≡ i) = λ z. other (sym a ∙ ap (going_round nodes from) (sym z)) in
              let near : h < i = omega (arith, nearer m i a q, apart) in
              let kept : ready s' m ≡ true = serving.keeps s n m other q e s' t in
              let v = soon m (i - h - 1) (omega arith) (round_on nodes from h i c.low near l ∙ a) kept (omega arith) in
              record { turn_number = suc v.turn_number; lowest = omega arith; highest = omega (arith, v.highest); served = v.served }

      -- every node is some places on
      fair-goes : Soon (going_round nodes from h + 1) s' r → Fair nodes r → Fair nodes (after s e r)
      fair-goes soon fair zero m l q enough =
          let a = reached nodes from m c.low l in
          let v = soon_goes soon m a.distance a.near a.arrives q (omega (arith, a.near)) in
          record { turn_number = v.turn_number; lowest = omega arith; highest = omega (arith, v.highest, a.near); served = v.served }
      fair-goes soon fair (suc k) m l q enough =
          let v = fair k m l q (omega arith) in
          record {
            turn_number = suc v.turn_number;
            lowest = omega (arith, v.lowest);
            highest = omega (arith, v.highest);
            served = v.served;
          }

  pub is-fair : (budget : ℕ) (start : State) → Fair nodes (dispatched rule nodes budget start).run
  is-fair budget start =
      (dispatch_by rule nodes (λ budget from s d. Soon from s d.run × Fair nodes d.run)
      (record {
        made = λ from s. none-served from s _ _;
        fails = λ budget from s c. none-served from s _ _;
        halts = λ budget from s h c k e t. none-served from s k e;
        goes = λ budget from s h c e s' t d ih. (
          soon_goes from s h c e s' t d.run ih.0,
          fair-goes from s h c e s' t d.run ih.0 ih.1,
        );
      })
      budget 0 start zero-le).1

-- Dispatched runs by a rule that serves: written out they are runs of written turns; what they choose and examine, and how they end.
use Prim.Native.Nat.{ℕ, zero, suc, ◌*◌, ◌≤◌, ◌<◌, zero-le}
use mathlib.Core.Path.{◌≡◌, refl, ap}
use mathlib.Core.Logic.{◌↔◌}
use mathlib.Core.Bool.{true, false}
use mathlib.Core.List.{List, [], ◌∷◌}
use native.Mathlib.Omega.{arith}
use native.Mathlib.Nat.{not-suc-le-zero, le_of_suc-le-suc}
use lib.ListN.{length, get_or}
use borrow.Author.Tests.{ne_eqb}
use Rattle.model.specs.State.{State}
use Rattle.model.specs.Turn.{Entry, entry, Turned, stopped}
use Rattle.model.specs.Run.{after, run_from}
use Rattle.model.specs.Dispatch.{ready, going_round, Choice, chosen, nobody, fruitless, Dispatched, dispatch_from, chosen_in, examined_for}
use Rattle.model.specs.Dispatch.{examined_in, ready_count}
use Rattle.model.specs.Dispatching.{written_out, Examined}
use Rattle.model.proofs.Lists.{AllBelow}
use Rattle.model.proofs.Stops.{StopsBy}
use Rattle.model.proofs.Serving.{Serving}
use Rattle.model.proofs.Logic.{not-both}
use Rattle.model.proofs.Choosing.{round_below, reached}
use Rattle.model.proofs.Counting.{count_none, none-counted}
use Rattle.model.proofs.Pursuing.{Ways, dispatch_by}

-- each choice of one more
each_more : (nodes : ℕ) (c : Choice) (cs : List Choice) → examined_for c ≤ nodes
    → ((k : ℕ) → k < length cs → examined_for (get_or cs k (nobody 0)) ≤ nodes)
    → (k : ℕ) → k < length (c ∷ cs) → examined_for (get_or (c ∷ cs) k (nobody 0)) ≤ nodes
each_more nodes c cs h rest zero l = h
each_more nodes c cs h rest (suc k) l = rest k (le_of_suc-le-suc l)

-- what is examined for no choice, and for one choice more
examined-none : (nodes budget : ℕ) → Examined nodes budget []
unfolding examined_in
examined-none nodes budget = record { each = λ k h. absurd (not-suc-le-zero h); number = zero-le; total = zero-le }

examined-more : (nodes budget : ℕ) (c : Choice) (cs : List Choice) → examined_for c ≤ nodes * length (chosen_in (c ∷ []))
    → Examined nodes budget cs → Examined nodes (suc budget) (c ∷ cs)
unfolding examined_in chosen_in
examined-more nodes budget (chosen n j) cs h x = record {
  each = each_more nodes (chosen n j) cs (omega arith) x.each;
  number = omega (arith, x.number);
  total = omega (arith, x.total);
}
examined-more nodes budget (nobody j) cs h x = record {
  each = each_more nodes (nobody j) cs (omega arith) x.each;
  number = omega (arith, x.number);
  total = omega (arith, x.total);
}

-- the dispatched run from node 0 on
abbrev pub dispatched : (State → ℕ → Turned) → ℕ → ℕ → State → Dispatched
dispatched rule nodes budget = dispatch_from rule nodes budget 0

module _ (rule : State → ℕ → Turned) (nodes budget : ℕ) (start : State) where
  -- by each of the four ways
  by_ways : (R : ℕ → ℕ → State → Dispatched → Type 0) → Ways rule nodes R → R budget 0 start (dispatched rule nodes budget start)
  by_ways R w = dispatch_by rule nodes R w budget 0 start zero-le

  -- at most all nodes are examined for a choice, and at most one choice is made a turn
  pub examined : Examined nodes budget (dispatched rule nodes budget start).choices
  unfolding chosen_in
  examined =
      by_ways (λ budget from s d. Examined nodes budget d.choices)
      (record {
        made = λ from s. examined-none nodes 0;
        fails = λ budget from s c. examined-more nodes budget fruitless [] (omega arith) (examined-none nodes budget);
        halts = λ budget from s i c k e t. examined-more nodes budget _ [] (omega (arith, c.near)) (examined-none nodes budget);
        goes = λ budget from s i c e s' t d ih. examined-more nodes budget _ d.choices (omega (arith, c.near)) ih;
      })

  -- the chosen nodes are nodes, and at most as many as turns
  pub chosen-nodes :
      AllBelow nodes (chosen_in (dispatched rule nodes budget start).choices)
      × (length (chosen_in (dispatched rule nodes budget start).choices) ≤ budget)
  unfolding chosen_in
  chosen-nodes =
      by_ways (λ budget from s d. AllBelow nodes (chosen_in d.choices) × (length (chosen_in d.choices) ≤ budget))
      (record {
        made = λ from s. (tt, zero-le);
        fails = λ budget from s c. (tt, zero-le);
        halts = λ budget from s i c k e t. ((round_below nodes from i c.low c.near, tt), omega arith);
        goes = λ budget from s i c e s' t d ih. ((round_below nodes from i c.low c.near, ih.0), omega (arith, ih.1));
      })

  -- it stops by 0, by 4, or as its rule does for ready nodes
  pub dispatch_stops : (Q : ℕ → Type 0) → Q 0 → Q 4 → ((s : State) (n : ℕ) → ready s n ≡ true → StopsBy Q (rule s n))
      → Q (dispatched rule nodes budget start).run.stop
  dispatch_stops Q out four stops =
      by_ways (λ budget from s d. Q d.run.stop)
      (record {
        made = λ from s. out;
        fails = λ budget from s c. four;
        halts = λ budget from s i c k e t. rw t at (stops s (going_round nodes from i) c.is_ready);
        goes = λ budget from s i c e s' t d ih. ih;
      })

  module _ (serving : Serving rule) where
    -- its rule stops by neither 0 nor 4
    proper : (s : State) (n k : ℕ) (e : Entry) → rule s n ≡ stopped k e → (¬ (k ≡ 0)) × (¬ (k ≡ 4))
    proper s n k e t = rw t at (serving.stops (λ k. (¬ (k ≡ 0)) × (¬ (k ≡ 4))) (omega arith) (omega arith) (omega arith) s n)

    -- its chosen nodes as written turns give the same run, with stop 0 for 4
    pub written_out_lem : run_from rule (chosen_in (dispatched rule nodes budget start).choices) start
        ≡ written_out (dispatched rule nodes budget start).run
    unfolding run_from chosen_in
    written_out_lem =
        by_ways (λ budget from s d. run_from rule (chosen_in d.choices) s ≡ written_out d.run)
        (record {
          made = λ from s. refl;
          fails = λ budget from s c. refl;
          halts = λ budget from s i c k e t. rw (t, ne_eqb k 4 (proper s _ k e t).1);
          goes = λ budget from s i c e s' t d ih. rw t (ap (after s e) ih);
        })

    -- it stops by 0 exactly if the budgeted turns are made
    pub budget-made : ((dispatched rule nodes budget start).run.stop ≡ 0)
        ↔ (length (dispatched rule nodes budget start).run.steps ≡ budget)
    budget-made =
        by_ways (λ budget from s d. (d.run.stop ≡ 0) ↔ (length d.run.steps ≡ budget))
        (record {
          made = λ from s. (λ h. refl, λ h. refl);
          fails = λ budget from s c. (λ h. absurd (omega arith), λ h. absurd (omega arith));
          halts = λ budget from s i c k e t. (λ h. absurd ((proper s _ k e t).0 h), λ h. absurd (omega arith));
          goes = λ budget from s i c e s' t d ih. (λ h. ap suc (ih.0 h), λ h. ih.1 (omega arith));
        })

    -- it stops by 4 exactly if turns are left and nobody is ready
    pub nobody-ready : ((dispatched rule nodes budget start).run.stop ≡ 4)
        ↔ ((length (dispatched rule nodes budget start).run.steps < budget)
        × ((n : ℕ) → n < nodes → ready (dispatched rule nodes budget start).run.final n ≡ false))
    nobody-ready =
        by_ways
        (λ budget from s d. (d.run.stop ≡ 4)
        ↔ ((length d.run.steps < budget) × ((n : ℕ) → n < nodes → ready d.run.final n ≡ false)))
        (record {
          made = λ from s. (λ h. absurd (omega arith), λ h. absurd (omega (arith, h.0)));
          fails = λ budget from s c. (
            λ h. (
              omega arith,
              λ n l. let a = reached nodes from n c.low l in rw a.arrives at (c.unready a.distance a.near),
            ),
            λ h. refl,
          );
          halts = λ budget from s i c k e t. (
            λ h. absurd ((proper s _ k e t).1 h),
            λ h. absurd (not-both c.is_ready (h.1 (going_round nodes from i) (round_below nodes from i c.low c.near))),
          );
          goes = λ budget from s i c e s' t d ih. (
            λ h. let q = ih.0 h in (omega (arith, q.0), q.1),
            λ h. ih.1 (omega (arith, h.0), h.1),
          );
        })

    -- exactly if turns are left and the ready count is 0
    pub count-tells : ((dispatched rule nodes budget start).run.stop ≡ 4)
        ↔ ((length (dispatched rule nodes budget start).run.steps < budget)
        × (ready_count nodes (dispatched rule nodes budget start).run.final ≡ 0))
    count-tells =
        let final = ready (dispatched rule nodes budget start).run.final in (
          λ h. let q = nobody-ready.0 h in (q.0, count_none final nodes q.1),
          λ h. nobody-ready.1 (h.0, none-counted final nodes h.1),
        )

    -- with zeros as attempted entry then
    pub nobody_attempts_lem : (dispatched rule nodes budget start).run.stop ≡ 4
        → (dispatched rule nodes budget start).run.attempted ≡ entry 0 0 0 0
    nobody_attempts_lem =
        by_ways (λ budget from s d. d.run.stop ≡ 4 → d.run.attempted ≡ entry 0 0 0 0)
        (record {
          made = λ from s h. refl;
          fails = λ budget from s c h. refl;
          halts = λ budget from s i c k e t h. absurd ((proper s _ k e t).1 h);
          goes = λ budget from s i c e s' t d ih. ih;
        })

    -- and every chosen node has made its turn
    pub nobody-stopped : (dispatched rule nodes budget start).run.stop ≡ 4
        → length (chosen_in (dispatched rule nodes budget start).choices) ≡ length (dispatched rule nodes budget start).run.steps
    unfolding chosen_in
    nobody-stopped =
        by_ways (λ budget from s d. d.run.stop ≡ 4 → length (chosen_in d.choices) ≡ length d.run.steps)
        (record {
          made = λ from s h. refl;
          fails = λ budget from s c h. refl;
          halts = λ budget from s i c k e t h. absurd ((proper s _ k e t).1 h);
          goes = λ budget from s i c e s' t d ih h. ap suc (ih h);
        })

-- at most all choices are of a node
pub chosen-few : (cs : List Choice) → length (chosen_in cs) ≤ length cs
unfolding chosen_in
chosen-few [] = zero-le
chosen-few (chosen n k ∷ cs) = omega (arith, chosen-few cs)
chosen-few (nobody k ∷ cs) = omega (arith, chosen-few cs)

-- The dispatched calls of the code, from what the entry points promise and what dispatched jobs come to.
use Prim.Native.Nat.{ℕ, zero, suc, ◌+◌, ◌*◌, ◌≤◌, ◌<◌}
use mathlib.Core.Path.{◌≡◌, refl, sym, ap, subst, ◌∙◌}
use mathlib.Core.List.{List, [], ◌∷◌, ◌++◌}
use mathlib.Core.Logic.Iff
use mathlib.Core.Logic.{◌↔◌}
use native.Mathlib.Nat.{mul-le-mul_left}
use native.Mathlib.Omega.{arith}
use lib.ListN.{length, get_or, length-map}
use lib.Seq.{get_or-append-add}
use Rattle.model.specs.Program.{Program, program_of}
use Rattle.model.specs.State.{State}
use Rattle.model.specs.Turn.{Entry, entry, Turned}
use Rattle.model.specs.Run.{Step, entries_of}
use Rattle.model.specs.Output.{entry_bytes, trace_bytes}
use Rattle.model.specs.Refusal.{Refusal}
use Rattle.model.specs.Result.{report, sizes_of}
use Rattle.model.specs.Dispatch.{Dispatched}
use Rattle.model.specs.DispatchResult.{Handed, handed, dispatch_monitored, dispatch_unmonitored}
use Rattle.model.specs.Dispatching.{written_out, Dispatches}
use Rattle.model.specs.DispatchConclusion.{DispatchRefuses, refused_with}
use Rattle.model.proofs.DispatchedRuns.{chosen-few}
use Rattle.model.proofs.Dispatching.{dispatch_holds}
use Rattle.model.proofs.DispatchConclusion.{dispatch_concludes}
use Rattle.run.specs.Answers.{told_in, Call, call, Gives}
use Rattle.transparency.specs.Dispatched.{DispatchCall, Hands, DispatchTransparencyHolds, DispatchExportsTransparent}
use Rattle.transparency.specs.Dispatched.{written_told, DispatchTells, SameWritten, DispatchCallsHold}
use Rattle.transparency.proofs.Claims.{gives-refused, stop_in, turns_in, parted}

-- a call that hands something over hands over a refusal exactly if that is it
hands-refused : (h : Handed) (c : DispatchCall) → Hands h c → (r : Refusal) → Hands (refused_with r) c ↔ (h ≡ refused_with r)
hands-refused h c g r = (
  λ k i. record {
    result = (gives-refused h.result c.call g.gives r).0 k.gives i;
    examined = (sym g.examined ∙ k.examined) i;
  },
  λ e. rw e at g,
)

-- demand 3 of the code under the dispatcher
pub dispatch_transparency : DispatchTransparencyHolds
dispatch_transparency budget job m u gm gu =
    let one = dispatch_concludes budget job m.call.before in
    let other = dispatch_concludes budget job u.call.before in
    let refuses_m : (r : Refusal) → Hands (refused_with r) m ↔ DispatchRefuses budget job (sizes_of m.call.before) r =
    λ r. Iff.trans (hands-refused (dispatch_monitored budget job (sizes_of m.call.before)) m gm r) (one.monitored_refuses r) in
    let refuses_u : (r : Refusal) → Hands (refused_with r) u ↔ DispatchRefuses budget job (sizes_of u.call.before) r =
    λ r. Iff.trans (hands-refused (dispatch_unmonitored budget job (sizes_of u.call.before)) u gu r) (other.unmonitored_refuses r) in
    record {
      monitored_refuses = refuses_m;
      unmonitored_refuses = refuses_u;
      refuse_alike = λ same r. Iff.trans (rw same at (refuses_m r)) (Iff.symm (refuses_u r));
      both_run = λ past a b.
          let c = one.compared past a in
          let g = rw (one.runs past a).monitored_hands at gm in
          record {
            unmonitored_runs = rw (other.runs past b).unmonitored_hands at gu;
            decided = c.runs.decided;
            identical = λ all. rw (c.identical all) at g;
            stops = λ n first. rw (c.stops n first) at g;
            parts = parted _ _ _ m.call c.runs g.gives;
          };
    }

-- the same of the exported entry points
pub dispatch_exports_transparency : DispatchExportsTransparent
dispatch_exports_transparency budget job before after before' after' numbers numbers' tm lm tu lu =
    let h = dispatch_monitored budget job (sizes_of before) in
    let k = dispatch_unmonitored budget job (sizes_of before') in
    let m : DispatchCall = record { call = call before after (told_in h.result); examined = h.examined } in
    let u : DispatchCall = record { call = call before' after' (told_in k.result); examined = k.examined } in (
      m,
      u,
      tm,
      tu,
      refl,
      refl,
      dispatch_transparency budget job m u
          (record { gives = record { told = refl; left = lm }; examined = refl })
          (record { gives = record { told = refl; left = lu }; examined = refl }),
    )

-- entry j of a trace begins at byte 7 * j, with its node
trace-node :
    (es : List Entry) (rest : List ℕ) (j : ℕ) → j < length es
    → get_or (trace_bytes es ++ rest) (7 * j) 0 ≡ (get_or es j (entry 0 0 0 0)).node
unfolding trace_bytes
trace-node [] rest j h = absurd (omega arith)
trace-node (e ∷ es) rest zero h = refl
trace-node (e ∷ es) rest (suc j) h =
    let next : 7 * suc j ≡ 7 + 7 * j = omega arith in
    ap (λ (p : ℕ). get_or (trace_bytes (e ∷ es) ++ rest) p 0) next ∙ get_or-append-add (entry_bytes e) (trace_bytes es ++ rest) (7 * j) 0
    ∙ trace-node es rest j (omega arith)

-- a call that hands over a dispatched run
module _ (P : Program) (d : Dispatched) (c : DispatchCall) (g : Hands (handed P d) c) where
  tells : {Stops : ℕ → Type 0} {rule : State → ℕ → Turned} {budget : ℕ} {start : State} → Stops d.run.stop
      → length d.run.steps ≤ budget → Dispatches rule P.nodes budget start d → DispatchTells Stops P budget d c
  unfolding report
  tells {Stops} stop made goes = record {
    hands = g;
    stops = λ x e. subst Stops (ap stop_in (sym g.gives.told ∙ e)) stop;
    turns = λ x e. let told : length d.run.steps ≡ x.turns = ap turns_in (sym g.gives.told ∙ e) in omega arith;
    few = omega (
      arith,
      goes.examines.total,
      mul-le-mul_left P.nodes (chosen-few d.choices),
      mul-le-mul_left P.nodes goes.examines.number,
    );
    turns_only = λ x e four.
        let told = sym g.gives.told ∙ e in
        let all = goes.nobody_stopped (ap stop_in told ∙ four) ∙ ap turns_in told in
        omega (arith, rw all at goes.examines.total);
    fair = λ x e k node h is l.
        let turns : length d.run.steps ≡ x.turns = ap turns_in (sym g.gives.told ∙ e) in
        let s = goes.is_fair k node h is (omega arith) in
        let j = s.turn_number in (
          j,
          s.lowest,
          s.highest,
          ap (λ (l : List ℕ). get_or l (7 * j) 0) g.gives.left.trace
              ∙ trace-node (entries_of d.run.steps) _ j (omega (arith, length-map d.run.steps (λ (t : Step). t.made)))
              ∙ s.served,
        );
  }

  -- a call that gives this run with its turns written out, had it begun with the same buffers
  same-written : (w : Call) → Gives (report P (written_out d.run)) (call c.call.before w.after w.told) → SameWritten c w
  unfolding report
  same-written w h =
      let x = g.gives.left in
      let y = h.left in
      record {
        buffers = λ i. record {
          trace = (y.trace ∙ sym x.trace) i;
          snapshot = (y.snapshot ∙ sym x.snapshot) i;
          work = (y.work ∙ sym x.work) i;
        };
        told = h.told ∙ sym (ap written_told g.gives.told);
      }

-- every accepted job
pub dispatch_calls : DispatchCallsHold
dispatch_calls budget job past c a =
    let P = program_of past in
    let both = dispatch_holds P budget in
    let runs = (dispatch_concludes budget job c.call.before).runs past a in
    record {
      monitored_tells = λ g. tells P _ c (rw runs.monitored_hands at g) both.monitored_stops runs.monitored_ends.turns
          both.monitored_dispatches;
      unmonitored_tells = λ g.
          tells P _ c (rw runs.unmonitored_hands at g) both.unmonitored_stops runs.unmonitored_ends.turns
          both.unmonitored_dispatches;
      monitored_written = λ g w h short same.
          same-written P _ c (rw runs.monitored_hands at g) w (rw (same, runs.monitored_written _ runs.monitored_long short) at h);
      unmonitored_written = λ g w h short same.
          same-written P _ c (rw runs.unmonitored_hands at g) w (rw (same, runs.unmonitored_written _ runs.unmonitored_long short) at
          h);
    }

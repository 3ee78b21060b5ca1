-- The proof of `DispatchConcludes` for every job, every budget and all buffers.
use Prim.Native.Nat.{ℕ, ◌*◌, ◌≤◌}
use mathlib.Core.Path.{◌≡◌, refl, sym, ap, ◌∙◌}
use mathlib.Core.List.{List}
use native.Mathlib.Omega.{arith}
use lib.ListN.{length}
use Rattle.model.specs.Table.{max_job}
use Rattle.model.specs.Command.{Command}
use Rattle.model.specs.Program.{Program, program_of}
use Rattle.model.specs.State.{State, initial_state}
use Rattle.model.specs.Turn.{Turned, turn}
use Rattle.model.specs.Permission.{monitored_turn}
use Rattle.model.specs.Run.{Run, run_from, monitored_run, unmonitored_run}
use Rattle.model.specs.Refusal.{Refusal, Decoded, accepted, rejected, Sizes, snapshot_size, work_size, decode_for}
use Rattle.model.specs.Result.{report, result_of, monitored, unmonitored, Buffers, sizes_of}
use Rattle.model.specs.Conclusion.{Leaves}
use Rattle.model.specs.Valid.{Bounded}
use Rattle.model.specs.Dispatch.{Dispatched, chosen_in, unmonitored_dispatch, monitored_dispatch}
use Rattle.model.specs.DispatchResult.{decode_dispatch, Handed, handed_by, dispatch_monitored, dispatch_unmonitored}
use Rattle.model.specs.Dispatching.{written_out}
use Rattle.model.specs.DispatchConclusion.{DispatchRefuses, DispatchAccepts, DispatchEnds, with_choices, LongEnough, BothDispatchesEnd}
use Rattle.model.specs.DispatchConclusion.{refused_with, DispatchConcludes}
use Rattle.model.proofs.Lists.{AllBelow}
use Rattle.model.proofs.Valid.{reads-valid}
use Rattle.model.proofs.Ways.{Keeps}
use Rattle.model.proofs.Results.{buffers_fit_for}
use Rattle.model.proofs.Bounds.{length-trace_in, turn-bounded, monitored-bounded, run-bounded, initial_bounded, snapshot-fits}
use Rattle.model.proofs.Conclusion.{result-refused, by_decoded, ran-leaves, leaves}
use Rattle.model.proofs.WritingOut.{turns-written}
use Rattle.model.proofs.Serving.{Serving, turn_serving, monitored_serving}
use Rattle.model.proofs.DispatchedRuns.{dispatched, chosen-nodes, written_out_lem}
use Rattle.model.proofs.Dispatching.{dispatch_holds}
use Rattle.model.proofs.DispatchWalking.{walked, longest-accepted, dispatch_accepts_decodes, dispatch_refuses_decodes}
use Rattle.model.proofs.DispatchDecoding.{none_no_turn, dispatch_monitored_refused, dispatch_unmonitored_refused}
use Rattle.model.proofs.DispatchDecoding.{dispatch_monitored_ran, dispatch_unmonitored_ran}

-- what is handed over, and a refusal, come from decoding
handed-result : (dispatch : Program → Dispatched) (d : Decoded) → (handed_by dispatch d).result ≡ result_of (λ P turns. (dispatch P).run) d
handed-result dispatch (accepted past) = refl
handed-result dispatch (rejected r) = refl

handed-refused : (dispatch : Program → Dispatched) (d : Decoded) (r : Refusal) → handed_by dispatch d ≡ refused_with r → d ≡ rejected r
handed-refused dispatch d r e =
    result-refused (λ P turns. (dispatch P).run) d r (sym (handed-result dispatch d) ∙ ap (λ (h : Handed). h.result) e)

-- a dispatched run of an accepted job by a rule that serves and that keeps the bounds
module _
    (budget : ℕ) (job : List ℕ) (b : Sizes) (past : List Command) (a : DispatchAccepts budget job b past) (rule : State → ℕ → Turned)
    (serving : Serving rule) (bounded : (s : State) (n : ℕ) → Bounded s → Keeps Bounded (rule s n))
  where
    abbrev P : Program
    P = program_of past

    abbrev d : Dispatched
    d = dispatched rule P.nodes budget (initial_state P)

    abbrev ns : List ℕ
    ns = chosen_in d.choices

    -- its chosen nodes: written out they give its run; they are nodes, and at most as many as the budget; the buffers are long enough
    same : run_from rule ns (initial_state P) ≡ written_out d.run
    same = written_out_lem rule P.nodes budget (initial_state P) serving

    below : AllBelow P.nodes ns × (length ns ≤ budget)
    below = chosen-nodes rule P.nodes budget (initial_state P)

    fits : (7 * budget ≤ b.trace) × (snapshot_size ≤ b.snapshot) × (work_size ≤ b.work)
    fits = buffers_fit_for job b budget a.buffers

    -- its run is that of the written turns, which keeps the bounds
    ends : DispatchEnds P budget b d.run
    ends =
        let v = reads-valid a.accepts.reads in
        let r = rw same at (run-bounded rule bounded ns (initial_state P) (initial_bounded past v)) in
        let l = length-trace_in d.run in
        record {
          turns = omega (arith, r.steps, below.1);
          trace_length = l;
          trace_fits = omega (arith, r.steps, below.1, fits.0);
          snapshot_length = snapshot-fits past v ns d.run.final r.final;
          snapshot_fits = fits.1;
          work_fits = fits.2;
        }

    -- its choices written out after the job
    long : LongEnough b (length ns)
    long = (omega (arith, below.1, fits.0), fits.1, fits.2)

    written_after : (run : Program → List ℕ → Run) → run P ns ≡ run_from rule ns (initial_state P) → (b' : Sizes)
        → LongEnough b' (length ns) → length (with_choices job d) ≤ max_job
        → result_of run (decode_for (with_choices job d) b') ≡ report P (written_out d.run)
    unfolding program_of
    written_after run e b' enough short =
        turns-written run job b' past (longest-accepted job past a.accepts) (none_no_turn past a.without_turns) ns below.0
        (omega (arith, below.1, a.has_budget.highest)) enough short
        ∙ ap (report P) (e ∙ same)

-- what an accepted job comes to
both-dispatched : (budget : ℕ) (job : List ℕ) (b : Sizes) (past : List Command) → DispatchAccepts budget job b past
    → BothDispatchesEnd budget job b past
unfolding monitored unmonitored monitored_run unmonitored_run monitored_dispatch unmonitored_dispatch
both-dispatched budget job b past a =
    let P = program_of past in
    let e = dispatch_accepts_decodes budget job b past a in
    record {
      monitored_hands = dispatch_monitored_ran budget job b past e;
      unmonitored_hands = dispatch_unmonitored_ran budget job b past e;
      monitored_ends = ends budget job b past a (monitored_turn P) (monitored_serving P) (monitored-bounded P);
      unmonitored_ends = ends budget job b past a (turn P) (turn_serving P) (turn-bounded P);
      monitored_long = long budget job b past a (monitored_turn P) (monitored_serving P) (monitored-bounded P);
      unmonitored_long = long budget job b past a (turn P) (turn_serving P) (turn-bounded P);
      monitored_written =
          written_after budget job b past a (monitored_turn P) (monitored_serving P) (monitored-bounded P) monitored_run refl;
      unmonitored_written = written_after budget job b past a (turn P) (turn_serving P) (turn-bounded P) unmonitored_run refl;
    }

-- the buffers afterwards
dispatch_leaves :
    (budget : ℕ) (job : List ℕ) (b : Buffers) (dispatch : Program → Dispatched)
    → ((past : List Command) → DispatchAccepts budget job (sizes_of b) past
    → DispatchEnds (program_of past) budget (sizes_of b) (dispatch (program_of past)).run)
    → Leaves (handed_by dispatch (decode_dispatch budget job (sizes_of b))).result b
dispatch_leaves budget job b dispatch ends =
    rw (handed-result dispatch (decode_dispatch budget job (sizes_of b)))
    (leaves (λ P turns. (dispatch P).run) b (DispatchAccepts budget job (sizes_of b)) (DispatchRefuses budget job (sizes_of b))
    (decode_dispatch budget job (sizes_of b))
    (λ past a. let e = ends past a in
    ran-leaves (program_of past) b _ e.trace_fits (omega (arith, e.snapshot_length, e.snapshot_fits)) e.work_fits)
    (walked budget job (sizes_of b)))

-- every dispatched job
pub dispatch_concludes : DispatchConcludes
unfolding dispatch_monitored dispatch_unmonitored
dispatch_concludes budget job b =
    let d = decode_dispatch budget job (sizes_of b) in
    let cause : (r : Refusal) → d ≡ rejected r → DispatchRefuses budget job (sizes_of b) r =
    λ r e. rw e at (walked budget job (sizes_of b)) in
    record {
      decided =
          by_decoded (DispatchAccepts budget job (sizes_of b)) (DispatchRefuses budget job (sizes_of b)) d (walked budget job (sizes_of b));
      monitored_refuses = λ r. (
        λ e. cause r (handed-refused (λ P. monitored_dispatch P budget) d r e),
        λ q. dispatch_monitored_refused budget job (sizes_of b) r (dispatch_refuses_decodes budget job (sizes_of b) r q),
      );
      unmonitored_refuses = λ r. (
        λ e. cause r (handed-refused (λ P. unmonitored_dispatch P budget) d r e),
        λ q. dispatch_unmonitored_refused budget job (sizes_of b) r (dispatch_refuses_decodes budget job (sizes_of b) r q),
      );
      runs = both-dispatched budget job (sizes_of b);
      compared = λ past a. (dispatch_holds (program_of past) budget).comparison;
      monitored_leaves =
          dispatch_leaves budget job b (λ P. monitored_dispatch P budget)
          (λ past a. (both-dispatched budget job (sizes_of b) past a).monitored_ends);
      unmonitored_leaves =
          dispatch_leaves budget job b (λ P. unmonitored_dispatch P budget)
          (λ past a. (both-dispatched budget job (sizes_of b) past a).unmonitored_ends);
    }

-- The run of an accepted job leaves the buffers as the model says.
use Prim.Native.Nat.{ℕ, ◌+◌, ◌-◌, ◌*◌, ◌≤◌}
use mathlib.Core.Path.{◌≡◌, refl, sym, ap, subst, ◌∙◌}
use mathlib.Core.Bool.{Bool, true, false}
use mathlib.Core.List.{List, ◌++◌}
use Rattle.std.proofs.Common.{None, Ok, Err}
use native.Mathlib.Omega.{arith}
use lib.ListN.{length, get_or, drop, replicate, length-drop, length-replicate}
use lib.Seq.{ext_get_or, get_or-drop}
use Rattle.model.specs.Table.{TURN}
use Rattle.model.specs.Command.{Command}
use Rattle.model.specs.Program.{program_of}
use Rattle.model.specs.Run.{monitored_run, unmonitored_run}
use Rattle.model.specs.Dispatch.{monitored_dispatch, unmonitored_dispatch, examined_in}
use Rattle.model.specs.DispatchResult.{Handed, handed, dispatch_monitored, dispatch_unmonitored}
use Rattle.model.specs.Refusal.{Refusal, Decoded, accepted, rejected, commands_of, IsAccepted, decode_job, Sizes, snapshot_size, work_size}
use Rattle.model.specs.Refusal.{short_buffer, decode_for}
use Rattle.model.specs.Result.{Result, refused, report, monitored, unmonitored, Buffers, sizes_of, written}
use Rattle.model.specs.Result.{trace_after, snapshot_after, work_after}
use Rattle.model.specs.Valid.{ValidJob}
use Rattle.model.proofs.Results.{and_then_accepted, buffers_fit, buffers_fit_for}
use Rattle.model.proofs.DispatchDecoding.{budget-good, under_accepted}
use Rattle.model.proofs.Valid.{job-valid}
use Rattle.command.specs.declared.refusal.Refusal.{Refusal as Refused}
use Rattle.command.specs.Refusals.{refusal_of}
use Rattle.handlers.specs.Loading.{loaded}
use Rattle.handlers.proofs.Slots.{length-loaded, beyond-loaded}
use Rattle.tables.specs.Stands.{Stands}
use Rattle.writing.specs.Writing.{Writes}
use Rattle.writing.proofs.Placing.{placed-front}
use Rattle.job.specs.declared.schedule.Schedule.{Schedule}
use Rattle.job.specs.declared.schedule.Schedule.TheVariants as s
use Rattle.job.specs.Scheduling.{decode_by, budget_refusal, turns_by}
use Rattle.turns.specs.declared.ending.CountedEnding.{CountedEnding}
use Rattle.turns.specs.Runs.{run_of, Loaded, RunsAs}
use Rattle.run.specs.declared.answer.Handed.{Handed as Answered}
use Rattle.run.specs.Delivered.{AcceptedWith, DeliversRunOf, DeliversRun}
use Rattle.run.specs.Answers.{Answer, answer, told_by, told_in, handed_for, buffers, Delivers}

-- lists that agree from a place on
drop-same : (n : ℕ) (xs ys : List ℕ) → length xs ≡ length ys → ((i : ℕ) → n ≤ i → get_or xs i 0 ≡ get_or ys i 0) → drop n xs ≡ drop n ys
drop-same n xs ys e same =
    ext_get_or 0 (drop n xs) (drop n ys) (length-drop n xs ∙ ap (λ (k : ℕ). k - n) e ∙ sym (length-drop n ys))
    (λ i h. get_or-drop n xs i 0 ∙ same (n + i) (omega arith) ∙ sym (get_or-drop n ys i 0))

over-same : (size : ℕ) (xs ys : List ℕ) → length xs ≡ length ys → ((i : ℕ) → size ≤ i → get_or xs i 0 ≡ get_or ys i 0)
    → written (replicate size 0) xs ≡ written (replicate size 0) ys
over-same size xs ys e same =
    let long = length-replicate {A = ℕ} size 0 in
    ap (λ (l : List ℕ). replicate size 0 ++ l) (drop-same (length (replicate {A = ℕ} size 0)) xs ys e (λ i h. same i (omega arith)))

-- a job that is accepted, its turns given in either way, passed the tests of every job, has buffers for its turns, and a good budget
accepted_by : (schedule : Schedule) (job t : List ℕ) (b : Sizes) (past : List Command) → decode_by schedule job b ≡ accepted past →
    Stands t past
    → (decode_job job ≡ accepted past) × (7 * turns_by schedule t ≤ b.trace) × (snapshot_size ≤ b.snapshot) × (work_size ≤ b.work)
    × (budget_refusal schedule ≡ None)
unfolding decode_for
accepted_by s.Written job t b past e stands =
    let d = and_then_accepted (short_buffer job b) (decode_job job) past e in
    let fit = buffers_fit job b past d.1 in
    (d.0, omega (arith, stands.counts TURN (omega arith), fit.0), fit.1, fit.2, refl)
accepted_by (s.Dispatched budget) job t b past e stands =
    let d = under_accepted budget job b past e in
    let fit = buffers_fit_for job b budget d.2 in
    (d.0, fit.0, fit.1, fit.2, rw (budget-good budget d.3 d.4))

module _ (schedule : Schedule) (job t : List ℕ) (b : Sizes) (f : AcceptedWith schedule job t b) where
  abbrev past : List Command
  past = f.past

  passed : (decode_job job ≡ accepted past) × (7 * turns_by schedule t ≤ b.trace) × (snapshot_size ≤ b.snapshot) × (work_size ≤ b.work)
      × (budget_refusal schedule ≡ None)
  passed = accepted_by schedule job t b past f.decoded f.stands

  valid : ValidJob past
  valid = job-valid job past passed.0

  pub may_load : IsAccepted (decode_job job)
  may_load = rw passed.0 tt

  pub loads : (w : List ℕ) → loaded w (commands_of (decode_job job)) ≡ loaded w past
  loads w = ap (λ (d : Decoded). loaded w (commands_of d)) passed.0

  -- the buffers are long enough, and the budget is good
  pub trace-fits : 7 * turns_by schedule t ≤ b.trace
  trace-fits = passed.1

  pub snapshot-fits : snapshot_size ≤ b.snapshot
  snapshot-fits = passed.2

  pub work-fits : work_size ≤ b.work
  work-fits = passed.3

  pub good-budget : budget_refusal schedule ≡ None
  good-budget = passed.4

  pub is-ready : (w after : List ℕ) → work_size ≤ length w → after ≡ loaded w (commands_of (decode_job job)) → Loaded job t after
  is-ready w after long e =
      record { past = past; decoded = passed.0; stands = f.stands; before = w; long = long; holds = e ∙ loads w }

  -- zeros over the loaded places are zeros over what was there before
  zeros_over : (w : List ℕ) → written (replicate work_size 0) (loaded w past) ≡ written (replicate work_size 0) w
  zeros_over w = over-same work_size (loaded w past) w (length-loaded w past) (beyond-loaded w past valid.commands)

-- what is handed over
module _ (schedule : Schedule) (job t : List ℕ) (before : Buffers) (f : AcceptedWith schedule job t (sizes_of before)) (m : Bool) where
  pub hands-over :
      (trace snapshot : List ℕ) (x : CountedEnding)
      → ((past : List Command) → decode_job job ≡ accepted past
      → RunsAs (program_of past) (run_of schedule m past) before.trace before.snapshot trace snapshot x)
      → (work : List ℕ) (last : ℕ) → Writes (replicate work_size 0) (loaded before.work (commands_of (decode_job job))) 0 work last
      → DeliversRun schedule m job before (buffers trace snapshot work) x
  unfolding report
  hands-over trace snapshot x runs work last zeros past e =
      let d = f.decoded in
      let same : f.past ≡ past = cc in
      let r = runs f.past (passed schedule job t (sizes_of before) f).0 in
      let given : DeliversRunOf (run_of schedule m f.past) f.past before (buffers trace snapshot work) x = record {
        delivers = record {
          told = ap answer r.answer;
          left = record {
            trace = r.trace;
            snapshot = r.snapshot;
            work = zeros.buffer ∙ placed-front _ (replicate work_size 0)
                ∙ ap (written (replicate work_size 0)) (loads schedule job t (sizes_of before) f before.work)
                ∙ zeros_over schedule job t (sizes_of before) f before.work;
          };
        };
        examined = r.examined;
      } in
      subst (λ (p : List Command). DeliversRunOf (run_of schedule m p) p before (buffers trace snapshot work) x) same given

-- what the model hands over for a job that is accepted, and for one that is refused
pub handed-ran : (schedule : Schedule) (m : Bool) (job : List ℕ) (b : Sizes) (past : List Command) → decode_by schedule job b ≡ accepted past
    → handed_for schedule m job b ≡ handed (program_of past) (run_of schedule m past)
unfolding monitored unmonitored monitored_run unmonitored_run dispatch_monitored dispatch_unmonitored monitored_dispatch unmonitored_dispatch
    examined_in
handed-ran s.Written true job b past e = rw e
handed-ran s.Written false job b past e = rw e
handed-ran (s.Dispatched budget) true job b past e = rw e
handed-ran (s.Dispatched budget) false job b past e = rw e

pub handed-refused : (schedule : Schedule) (m : Bool) (job : List ℕ) (b : Sizes) (r : Refusal) → decode_by schedule job b ≡ rejected r
    → handed_for schedule m job b ≡ record { result = refused r; examined = 0 }
unfolding monitored unmonitored dispatch_monitored dispatch_unmonitored
handed-refused s.Written true job b r e = rw e
handed-refused s.Written false job b r e = rw e
handed-refused (s.Dispatched budget) true job b r e = rw e
handed-refused (s.Dispatched budget) false job b r e = rw e

-- a job that is accepted in either way is accepted by the tests of every job
pub decoded_by : (schedule : Schedule) (job : List ℕ) (b : Sizes) (past : List Command) → decode_by schedule job b ≡ accepted past
    → decode_job job ≡ accepted past
unfolding decode_for
decoded_by s.Written job b past e = (and_then_accepted (short_buffer job b) (decode_job job) past e).0
decoded_by (s.Dispatched budget) job b past e = (under_accepted budget job b past e).0

-- the answer, the examined total and the buffers afterwards are those handed over
pub record Reports (h : Handed) (before after : Buffers) (x : Answered) : Type 0 where
  pub delivers : Delivers h.result before after x.answer
  pub examined : x.examined ≡ h.examined

-- what the entry points report
module _ (schedule : Schedule) (m : Bool) (job : List ℕ) (before : Buffers) where
  pub reports_refused : (q : Refused) → decode_by schedule job (sizes_of before) ≡ rejected (refusal_of q)
      → Reports (handed_for schedule m job (sizes_of before)) before before (record { answer = Err q; examined = 0 })
  reports_refused q e = subst (λ (h : Handed). Reports h before before (record { answer = Err q; examined = 0 }))
      (sym (handed-refused schedule m job (sizes_of before) (refusal_of q) e))
      (record { delivers = record { told = refl; left = record { trace = refl; snapshot = refl; work = refl } }; examined = refl })

  pub reports_ran : (after : Buffers) (x : CountedEnding) (past : List Command) → decode_by schedule job (sizes_of before) ≡ accepted past
      → DeliversRun schedule m job before after x
      → Reports (handed_for schedule m job (sizes_of before)) before after (record { answer = Ok x.ending; examined = x.examined })
  reports_ran after x past e h = subst (λ (y : Handed). Reports y before after (record {
    answer = Ok x.ending;
    examined = x.examined;
  }))
      (sym (handed-ran schedule m job (sizes_of before) past e))
      (record { delivers = (h past e).delivers; examined = (h past e).examined })

-- what is delivered, from what is told and the three buffers
pub delivers_by :
    (result : Result) (before after : Buffers) (x : Answer)
    → told_by x ≡ told_in result → after.trace ≡ trace_after result before.trace
    → after.snapshot ≡ snapshot_after result before.snapshot
    → after.work ≡ work_after result before.work → Delivers result before after x
delivers_by result before after x told trace snapshot work =
    record { told = told; left = record { trace = trace; snapshot = snapshot; work = work } }

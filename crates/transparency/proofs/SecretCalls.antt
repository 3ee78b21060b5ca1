-- Two calls of jobs that are the same but for the start of a variable that nobody may read, from what the entry points promise.
use Prim.Native.Nat.{ℕ}
use mathlib.Core.Path.{◌≡◌, refl, sym, ap, ap₂, subst, ◌∙◌}
use mathlib.Core.Bool.{true}
use mathlib.Core.List.{List, [], ◌∷◌}
use native.Mathlib.Omega.{arith}
use lib.ListN.{length, drop, length-append}
use Rattle.std.proofs.Common.{Ok}
use Rattle.model.specs.Command.{Command}
use Rattle.model.specs.Program.{program_of}
use Rattle.model.specs.Turn.{Entry}
use Rattle.model.specs.Output.{trace_bytes}
use Rattle.model.specs.Refusal.{Refusal, accepted, rejected, Sizes}
use Rattle.model.specs.Result.{report, written, Buffers, sizes_of, trace_after, snapshot_after, work_after}
use Rattle.model.specs.DispatchResult.{Handed}
use Rattle.model.specs.Secrecy.{SameBut, Secret, Alike}
use Rattle.model.proofs.Lists.{append_at}
use Rattle.writing.specs.Writing.{joined}
use Rattle.job.specs.declared.schedule.Schedule.{Schedule}
use Rattle.job.specs.declared.schedule.Schedule.TheVariants as s
use Rattle.job.specs.Scheduling.{decode_by}
use Rattle.turns.specs.Runs.{run_of}
use Rattle.run.specs.Answers.{answer, told_in, handed_for, BuffersAfter}
use Rattle.run.specs.Exported.{numbers_in, numbers_with}
use Rattle.run.proofs.Delivering.{handed-ran, handed-refused, decoded_by}
use Rattle.run.proofs.Alike.{CommandsAlike, alike, by_alike, alike-on, both-refused}
use Rattle.transparency.specs.SecretCalls.{RunsLeaveAlike, SecrecyLeaves, SecretCallsHold, numbers_by, SecretExportsHold}
use Rattle.transparency.proofs.TallyCalls.{tally_calls_hold}

-- buffers that the same bytes but for four were written to
written_same : (at : ℕ) (bytes bytes' buffer : List ℕ) → SameBut at bytes bytes' → SameBut at (written bytes buffer) (written bytes' buffer)
written_same at bytes bytes' buffer same =
    let l : length bytes ≡ length bytes' = same.same_length in
    let rest = drop (length bytes) buffer in
    rw (← l)
    (record {
      same_length = omega (arith, length-append bytes rest, length-append bytes' rest);
      elsewhere = λ i h. append_at bytes bytes' rest rest i l (λ _. same.elsewhere i h) (λ _. refl);
    })

-- what is handed over, but for the snapshot
record HandedAlike (h h' : Handed) : Type 0 where
  told : told_in h.result ≡ told_in h'.result
  examined : h.examined ≡ h'.examined
  trace : (buffer : List ℕ) → trace_after h.result buffer ≡ trace_after h'.result buffer
  work : (buffer : List ℕ) → work_after h.result buffer ≡ work_after h'.result buffer

numbers-alike : (schedule : Schedule) (h h' : Handed) → HandedAlike h h' → numbers_by schedule h ≡ numbers_by schedule h'
numbers-alike s.Written h h' a = ap numbers_in a.told
numbers-alike (s.Dispatched budget) h h' a = ap₂ numbers_with a.told a.examined

module _ (schedule : Schedule) (job job' : List ℕ) (x at : ℕ) (S : Secret job x at) (same : SameBut at job job') where
  decoded : (b : Sizes) → Alike (CommandsAlike schedule x) (decode_by schedule job b) (decode_by schedule job' b)
  decoded = alike schedule job job' x at S same

  handed-alike : (b : Sizes) → HandedAlike (handed_for schedule true job b) (handed_for schedule true job' b)
  unfolding report
  handed-alike b =
      by_alike (CommandsAlike schedule x) (decode_by schedule job b) (decode_by schedule job' b) (decoded b)
      (HandedAlike (handed_for schedule true job b) (handed_for schedule true job' b))
      (λ r e e'. rw (handed-refused schedule true job b r e, handed-refused schedule true job' b r e')
      (record { told = refl; examined = refl; trace = λ buffer. refl; work = λ buffer. refl }))
      (λ past past' e e' a. rw (handed-ran schedule true job b past e, handed-ran schedule true job' b past' e')
      (record {
        told = ap answer a.runs.answer;
        examined = a.examined;
        trace = λ buffer. ap (λ (es : List Entry). written (trace_bytes es) buffer) a.runs.entries;
        work = λ buffer. refl;
      }))

  module _
      (before after after' : Buffers)
      (left : BuffersAfter (handed_for schedule true job (sizes_of before)).result before after)
      (left' : BuffersAfter (handed_for schedule true job' (sizes_of before)).result before after')
    where
      abbrev b : Sizes
      b = sizes_of before

      snapshots_refused : (r : Refusal) → decode_by schedule job b ≡ rejected r → after.snapshot ≡ after'.snapshot
      snapshots_refused r e =
          let e' = both-refused (CommandsAlike schedule x) r (decode_by schedule job' b) (rw e at (decoded b)) in
          let kept : Handed → List ℕ = λ h. snapshot_after h.result before.snapshot in
          left.snapshot ∙ ap kept (handed-refused schedule true job b r e) ∙ sym (ap kept (handed-refused schedule true job' b r e'))
          ∙ sym left'.snapshot

      runs-left :
          (past past' : List Command) → decode_by schedule job b ≡ accepted past → decode_by schedule job' b ≡ accepted past'
          → CommandsAlike schedule x past past'
          → RunsLeaveAlike x job job' (program_of past) (program_of past') (run_of schedule true past).run (run_of schedule true past').run
          after after'
      unfolding report
      runs-left past past' e e' both =
          let a = both.runs in
          record {
            place = a.place;
            snapshot =
                rw (left.snapshot, left'.snapshot, handed-ran schedule true job b past e, handed-ran schedule true job' b past' e')
                (written_same _ _ _ before.snapshot a.snapshot);
            tally_tells =
                rw (decoded_by schedule job b past e, decoded_by schedule job' b past' e') (ap (λ (n : ℕ). 0 ∷ 0 ∷ n ∷ []) a.nodes);
            tally_answers = rw (decoded_by schedule job b past e, decoded_by schedule job' b past' e') (ap Ok a.nodes);
            tally_counts = λ counts.
                rw (left.trace, left.snapshot, left'.trace, left'.snapshot)
                ((tally_calls_hold schedule true job before past e).counts counts
                ∙ (λ i. written (joined (λ n. a.tally n i) (a.nodes i)) counts)
                ∙ sym ((tally_calls_hold schedule true job' before past' e').counts counts));
          }

      left-alike : SecrecyLeaves schedule x job job' before after after'
      left-alike =
          let h = handed-alike b in
          record {
            trace = left.trace ∙ h.trace before.trace ∙ sym left'.trace;
            work = left.work ∙ h.work before.work ∙ sym left'.work;
            decided = alike-on (CommandsAlike schedule x) _ (decode_by schedule job b) (decode_by schedule job' b) (decoded b) runs-left;
            refused = snapshots_refused;
          }

pub secret_calls_hold : SecretCallsHold
secret_calls_hold schedule job job' x at S same c c' g g' e =
    let found = c.call.before in
    let h = handed-alike schedule job job' x at S same (sizes_of found) in
    let h' : Buffers → Handed = λ b. handed_for schedule true job' (sizes_of b) in
    let told' = subst (λ (b : Buffers). c'.call.told ≡ told_in (h' b).result) (sym e) g'.gives.told in
    let examined' = subst (λ (b : Buffers). c'.examined ≡ (h' b).examined) (sym e) g'.examined in
    let left' = subst (λ (b : Buffers). BuffersAfter (h' b).result b c'.call.after) (sym e) g'.gives.left in
    record {
      told = g.gives.told ∙ h.told ∙ sym told';
      examined = g.examined ∙ h.examined ∙ sym examined';
      left = left-alike schedule job job' x at S same found c.call.after c'.call.after g.gives.left left';
    }

pub secret_exports_hold : SecretExportsHold
secret_exports_hold schedule job job' x at S same before after after' numbers numbers' n left n' left' = (
  n ∙ numbers-alike schedule _ _ (handed-alike schedule job job' x at S same (sizes_of before)) ∙ sym n',
  left-alike schedule job job' x at S same before after after' left left',
)

-- The proof of `Demand1` for every job and all buffers.
use Prim.Native.Nat.{ℕ, ◌≤◌}
use mathlib.Core.Path.{◌≡◌, refl}
use mathlib.Core.Logic.{◌⊎◌, inl, inr}
use mathlib.Core.List.{List}
use native.Mathlib.Omega.{arith}
use lib.ListN.{length, drop, replicate, length-append, length-drop, length-replicate}
use lib.Seq.{take-append_seam, drop-append_seam}
use Rattle.model.specs.Command.{Command}
use Rattle.model.specs.Declared.{turns_of}
use Rattle.model.specs.Program.{Program, program_of}
use Rattle.model.specs.State.{initial_state}
use Rattle.model.specs.Turn.{turn}
use Rattle.model.specs.Permission.{monitored_turn}
use Rattle.model.specs.Run.{Run, monitored_run, unmonitored_run}
use Rattle.model.specs.Output.{trace_in, snapshot_bytes}
use Rattle.model.specs.Refusal.{Refusal, Decoded, accepted, rejected, Sizes, work_size, decode_for}
use Rattle.model.specs.Result.{refused, report, result_of, monitored, unmonitored, Buffers, sizes_of, written}
use Rattle.model.specs.Conclusion.{Refuses, Accepts, Ends, BothEnd, Concluded, Filled, Leaves, Demand1Holds}
use Rattle.model.proofs.Walking.{Decides, decode_for_walked}
use Rattle.model.proofs.Retracing.{accepts_decodes, refuses_decodes}
use Rattle.model.proofs.Valid.{reads-valid, limits}
use Rattle.model.proofs.Growth.{length-turns}
use Rattle.model.proofs.Results.{buffers_fit, monitored-refused, unmonitored-refused, monitored-ran, unmonitored-ran}
use Rattle.model.proofs.Stops.{turn-stops, monitored-stops, run-stops, run-not-one}
use Rattle.model.proofs.Bounds.{RunBounded, length-trace_in, unmonitored-fits, monitored-fits, snapshot-fits}

-- a run of an accepted job that keeps the bounds
ends : (job : List ℕ) (b : Sizes) (past : List Command) → Accepts job b past → (r : Run) → r.stop ≤ 3
    → RunBounded (length (turns_of past)) r → Ends (program_of past) b r
ends job b past a r stop bounded =
    let v = reads-valid a.reads in
    let buffers = buffers_fit job b past a.buffers in
    let l = (limits past v).turns in
    let s = bounded.steps in
    let n = length-turns past in
    let m = length-trace_in r in
    let q = buffers.0 in
    record {
      stops = stop;
      turns = omega arith;
      trace_length = m;
      trace_fits = omega arith;
      snapshot_length = snapshot-fits past v (turns_of past) r.final bounded.final;
      snapshot_fits = buffers.1;
      work_fits = buffers.2;
    }

monitored-low : (P : Program) (turns : List ℕ) → (monitored_run P turns).stop ≤ 3
unfolding monitored_run
monitored-low P turns =
    run-stops (λ k. k ≤ 3) (omega arith) (monitored_turn P) (monitored-stops (λ k. k ≤ 3) (omega arith) (omega arith) (omega arith) P) turns
    (initial_state P)

unmonitored-low : (P : Program) (turns : List ℕ) → (unmonitored_run P turns).stop ≤ 3
unfolding unmonitored_run
unmonitored-low P turns = run-stops (λ k. k ≤ 3) (omega arith) (turn P) (turn-stops (λ k. k ≤ 3) (omega arith) (omega arith) P) turns
    (initial_state P)

never-one : (P : Program) (turns : List ℕ) → ¬ ((unmonitored_run P turns).stop ≡ 1)
unfolding unmonitored_run
never-one P turns = run-not-one P turns (initial_state P)

-- what an accepted job comes to
pub both_end : (job : List ℕ) (b : Sizes) (past : List Command) → Accepts job b past → BothEnd job b past
both_end job b past a =
    let e = accepts_decodes job b past a in
    let v = reads-valid a.reads in
    record {
      monitored_reports = monitored-ran job b past e;
      unmonitored_reports = unmonitored-ran job b past e;
      monitored_ends = ends job b past a _ (monitored-low (program_of past) (turns_of past)) (monitored-fits past v (turns_of past));
      unmonitored_ends = ends job b past a _ (unmonitored-low (program_of past) (turns_of past)) (unmonitored-fits past v (turns_of past));
      never_one = never-one (program_of past) (turns_of past);
    }

-- a refusal comes from decoding
pub result-refused : (run : Program → List ℕ → Run) (d : Decoded) (r : Refusal) → result_of run d ≡ refused r → d ≡ rejected r
unfolding report
result-refused run (accepted past) r e = let w : ◌≡◌ {A = ℕ} 0 1 = cc in absurd (omega arith)
result-refused run (rejected q) r e = cc

-- what a job comes to, by what it is decoded to
pub by_decoded : (Q : List Command → Type 0) (R : Refusal → Type 0) (d : Decoded) → Decides Q R d
    → ((r : Refusal) × R r) ⊎ ((past : List Command) × Q past)
by_decoded Q R (accepted past) a = inr (past, a)
by_decoded Q R (rejected r) q = inl (r, q)

module _ (job : List ℕ) (b : Sizes) where
  cause : (r : Refusal) → decode_for job b ≡ rejected r → Refuses job b r
  cause r e = rw e at (decode_for_walked job b)

  pub concluded : Concluded job b
  unfolding monitored unmonitored
  concluded =
      record {
        decided = by_decoded (Accepts job b) (Refuses job b) (decode_for job b) (decode_for_walked job b);
        monitored_refuses = λ r. (
          λ e. cause r (result-refused monitored_run (decode_for job b) r e),
          λ q. monitored-refused job b r
              (refuses_decodes q),
        );
        unmonitored_refuses = λ r. (
          λ e. cause r (result-refused unmonitored_run (decode_for job b) r e),
          λ q. unmonitored-refused job b r
              (refuses_decodes q),
        );
        runs = both_end job b;
      }

-- bytes written to the front of a buffer that holds them
written-filled : (bytes buffer : List ℕ) → length bytes ≤ length buffer → Filled bytes buffer (written bytes buffer)
written-filled bytes buffer h =
    record {
      front = take-append_seam bytes (drop (length bytes) buffer);
      beyond = drop-append_seam bytes (drop (length bytes) buffer);
      same_length = omega (arith, length-append bytes (drop (length bytes) buffer), length-drop (length bytes) buffer);
    }

-- the buffers after a refusal and after a run
refused-leaves : (r : Refusal) (b : Buffers) → Leaves (refused r) b
refused-leaves r b = record {
  untouched = λ q e. (refl, refl, refl);
  filled = λ a t s e. let w : ◌≡◌ {A = ℕ} 0 1 = cc in
      absurd (omega arith);
}

pub ran-leaves : (P : Program) (b : Buffers) (r : Run) → length (trace_in r) ≤ length b.trace
    → length (snapshot_bytes P r.final) ≤ length b.snapshot → work_size ≤ length b.work → Leaves (report P r) b
unfolding report
ran-leaves P b r trace snapshot work =
    record {
      untouched = λ q w. let z : ◌≡◌ {A = ℕ} 0 1 = cc in absurd (omega arith);
      filled = λ a t s w.
          let t_same : trace_in r ≡ t = cc in
          let s-same : snapshot_bytes P r.final ≡ s = cc in
          rw (← t_same, ← s-same) (
            written-filled (trace_in r) b.trace trace,
            written-filled (snapshot_bytes P r.final) b.snapshot snapshot,
            written-filled (replicate work_size 0) b.work (rw (length-replicate {A = ℕ} work_size 0) work),
          );
    }

-- the buffers after what is handed over for a job, by what it is decoded to
pub leaves :
    (run : Program → List ℕ → Run) (b : Buffers) (Q : List Command → Type 0) (R : Refusal → Type 0) (d : Decoded)
    → ((past : List Command) → Q past → Leaves (report (program_of past) (run (program_of past) (turns_of past))) b)
    → Decides Q R d → Leaves (result_of run d) b
leaves run b Q R (accepted past) h q = h past q
leaves run b Q R (rejected r) h q = refused-leaves r b

module _ (job : List ℕ) (b : Buffers) where
  leaves_by : (run : Program → List ℕ → Run)
      → ((past : List Command) → Accepts job (sizes_of b) past → Ends (program_of past) (sizes_of b) (run (program_of past) (turns_of past)))
      → Leaves (result_of run (decode_for job (sizes_of b))) b
  leaves_by run ends =
      leaves run b (Accepts job (sizes_of b)) (Refuses job (sizes_of b)) (decode_for job (sizes_of b))
      (λ past a. let e = ends past a in
      ran-leaves (program_of past) b _ e.trace_fits (omega (arith, e.snapshot_length, e.snapshot_fits)) e.work_fits)
      (decode_for_walked job (sizes_of b))

  pub monitored-leaves : Leaves (monitored job (sizes_of b)) b
  unfolding monitored
  monitored-leaves = leaves_by monitored_run (λ past a. (both_end job (sizes_of b) past a).monitored_ends)

  pub unmonitored-leaves : Leaves (unmonitored job (sizes_of b)) b
  unfolding unmonitored
  unmonitored-leaves = leaves_by unmonitored_run (λ past a. (both_end job (sizes_of b) past a).unmonitored_ends)

-- demand 1
pub demand1 : Demand1Holds
demand1 job b = record {
  concluded = concluded job (sizes_of b);
  monitored_leaves = monitored-leaves job b;
  unmonitored_leaves =
      unmonitored-leaves job b;
}

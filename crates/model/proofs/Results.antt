-- What a job comes to after the tests 9 and 19, the tests of the buffers, and the run.
use Prim.Native.Nat.{ℕ, ◌*◌, ◌≤◌, ◌<◌}
use mathlib.Core.Path.{◌≡◌, refl}
use mathlib.Core.Bool.{Bool, true, false, cond}
use mathlib.Core.List.{List}
use Rattle.std.proofs.Common.{Option, None, Some}
use native.Mathlib.Omega.{arith}
use lib.Dec.{ltb}
use lib.ListN.{length}
use borrow.Author.Tests.{lt-ltb, le-ltb, ltb-false}
use Rattle.model.specs.Table.{TURN}
use Rattle.model.specs.Command.{Command}
use Rattle.model.specs.Declared.{count_of, turns_of}
use Rattle.model.specs.Program.{program_of}
use Rattle.model.specs.Run.{monitored_run, unmonitored_run}
use Rattle.model.specs.Refusal.{Refusal, refuse, Decoded, accepted, rejected, decode, accept_unless, and_then, first_of, far_jump}
use Rattle.model.specs.Refusal.{unused_permission, decode_job, Sizes, short_buffer_for, short_buffer, decode_for}
use Rattle.model.specs.Result.{refused, report, monitored, unmonitored}

-- the tests 9 and 19, by what came before
pub decode-job-rejected : (job : List ℕ) (r : Refusal) → decode job ≡ rejected r → decode_job job ≡ rejected r
unfolding decode_job
decode-job-rejected job r e = rw e

pub decode_job_jump : (job : List ℕ) (all : List Command) (r : Refusal) → decode job ≡ accepted all → far_jump all ≡ Some r
    → decode_job job ≡ rejected r
unfolding decode_job
decode_job_jump job all r e f = rw (e, f)

pub decode_job_unused : (job : List ℕ) (all : List Command) (r : Refusal) → decode job ≡ accepted all → far_jump all ≡ None
    → unused_permission all ≡ Some r → decode_job job ≡ rejected r
unfolding decode_job
decode_job_unused job all r e f u = rw (e, f, u)

pub decode-job-accepted : (job : List ℕ) (all : List Command) → decode job ≡ accepted all → far_jump all ≡ None
    → unused_permission all ≡ None → decode_job job ≡ accepted all
unfolding decode_job
decode-job-accepted job all e f u = rw (e, f, u)

-- both at once
pub decode-job-later : (job : List ℕ) (all : List Command) → decode job ≡ accepted all
    → decode_job job ≡ accept_unless all (first_of (far_jump all) (unused_permission all))
unfolding decode_job
decode-job-later job all e = rw e (by_jumps (far_jump all))
  where
    by_jumps : (o : Option Refusal) → and_then unused_permission (accept_unless all o) ≡ accept_unless all (first_of o (unused_permission all))
    by_jumps None = refl
    by_jumps (Some r) = refl

-- accepted after a further test: accepted before it, and the test finds nothing
pub and_then_accepted : (test : List Command → Option Refusal) (d : Decoded) (past : List Command) → and_then test d ≡ accepted past
    → (d ≡ accepted past) × (test past ≡ None)
and_then_accepted test (accepted all) past e = by_test (test all) refl e
  where
    by_test : (r : Option Refusal) → test all ≡ r → accept_unless all r ≡ accepted past → (accepted all ≡ accepted past) × (test past ≡ None)
    by_test None p q = let same : all ≡ past = cc in (q, rw (← same) p)
    by_test (Some r) p q = let w : ◌≡◌ {A = ℕ} 0 1 = cc in absurd (omega arith)
and_then_accepted test (rejected r) past e = let w : ◌≡◌ {A = ℕ} 0 1 = cc in absurd (omega arith)

-- no buffer is too short for so many turns
pub buffers_fit_for : (job : List ℕ) (b : Sizes) (turns : ℕ) → short_buffer_for job b turns ≡ None
    → (7 * turns ≤ b.trace) × (3136 ≤ b.snapshot) × (4096 ≤ b.work)
buffers_fit_for job b turns e = by_tests (ltb b.trace (7 * turns)) refl (ltb b.snapshot 3136) refl (ltb b.work 4096) refl e
  where
    by_tests :
        (t : Bool) → ltb b.trace (7 * turns) ≡ t → (u : Bool) → ltb b.snapshot 3136 ≡ u → (v : Bool)
        → ltb b.work 4096 ≡ v
        → cond t (Some (refuse 10 (length job))) (cond u (Some (refuse 11 (length job)))
        (cond v (Some (refuse 12 (length job))) None)) ≡ None
        → (7 * turns ≤ b.trace) × (3136 ≤ b.snapshot) × (4096 ≤ b.work)
    by_tests true p u q v r z = let w : ◌≡◌ {A = ℕ} 0 1 = cc in absurd (omega arith)
    by_tests false p true q v r z = let w : ◌≡◌ {A = ℕ} 0 1 = cc in absurd (omega arith)
    by_tests false p false q true r z = let w : ◌≡◌ {A = ℕ} 0 1 = cc in absurd (omega arith)
    by_tests false p false q false r z = (ltb-false b.trace (7 * turns) p, ltb-false b.snapshot 3136 q, ltb-false b.work 4096 r)

-- for the turns of the job
pub buffers_fit : (job : List ℕ) (b : Sizes) (past : List Command) → short_buffer job b past ≡ None
    → (7 * count_of TURN past ≤ b.trace) × (3136 ≤ b.snapshot) × (4096 ≤ b.work)
buffers_fit job b past = buffers_fit_for job b (count_of TURN past)

module _ (job : List ℕ) (b : Sizes) where
  pub decode_for_rejected : (r : Refusal) → decode_job job ≡ rejected r → decode_for job b ≡ rejected r
  unfolding decode_for
  decode_for_rejected r e = rw e

  module _ (all : List Command) (e : decode_job job ≡ accepted all) where
    pub decode_for_trace : b.trace < 7 * count_of TURN all → decode_for job b ≡ rejected (refuse 10 (length job))
    unfolding decode_for
    decode_for_trace h = rw (e, lt-ltb b.trace (7 * count_of TURN all) h)

    pub decode_for_snapshot : 7 * count_of TURN all ≤ b.trace → b.snapshot < 3136 → decode_for job b ≡ rejected (refuse 11 (length job))
    unfolding decode_for
    decode_for_snapshot h i = rw (e, le-ltb b.trace (7 * count_of TURN all) h, lt-ltb b.snapshot 3136 i)

    pub decode_for_work : 7 * count_of TURN all ≤ b.trace → 3136 ≤ b.snapshot → b.work < 4096
        → decode_for job b ≡ rejected (refuse 12 (length job))
    unfolding decode_for
    decode_for_work h i j = rw (e, le-ltb b.trace (7 * count_of TURN all) h, le-ltb b.snapshot 3136 i, lt-ltb b.work 4096 j)

    pub decode_for_accepted : 7 * count_of TURN all ≤ b.trace → 3136 ≤ b.snapshot → 4096 ≤ b.work → decode_for job b ≡ accepted all
    unfolding decode_for
    decode_for_accepted h i j = rw (e, le-ltb b.trace (7 * count_of TURN all) h, le-ltb b.snapshot 3136 i, le-ltb b.work 4096 j)

  -- the results
  pub monitored-refused : (r : Refusal) → decode_for job b ≡ rejected r → monitored job b ≡ refused r
  unfolding monitored
  monitored-refused r e = rw e

  pub unmonitored-refused : (r : Refusal) → decode_for job b ≡ rejected r → unmonitored job b ≡ refused r
  unfolding unmonitored
  unmonitored-refused r e = rw e

  pub monitored-ran : (all : List Command) → decode_for job b ≡ accepted all
      → monitored job b ≡ report (program_of all) (monitored_run (program_of all) (turns_of all))
  unfolding monitored
  monitored-ran all e = rw e

  pub unmonitored-ran : (all : List Command) → decode_for job b ≡ accepted all
      → unmonitored job b ≡ report (program_of all) (unmonitored_run (program_of all) (turns_of all))
  unfolding unmonitored
  unmonitored-ran all e = rw e

-- What an accepted job hands over does not depend on the length that is asked of the work buffer (S-9).
use Prim.Native.Nat.{ℕ, ◌*◌, ◌≤◌}
use mathlib.Core.Path.{◌≡◌, refl}
use mathlib.Core.Logic.{◌⊎◌, inl, inr}
use mathlib.Core.Bool.{Bool, true, false, cond}
use mathlib.Core.List.{List}
use Rattle.std.proofs.Common.{None, Some}
use native.Mathlib.Omega.{arith}
use lib.Dec.{ltb}
use lib.ListN.{length}
use borrow.Author.Tests.{le-ltb, ltb-false}
use Rattle.model.specs.Table.{TURN}
use Rattle.model.specs.Declared.{count_of}
use Rattle.model.specs.Program.{Program}
use Rattle.model.specs.Run.{Run, monitored_run, unmonitored_run}
use Rattle.model.specs.Refusal.{refuse, Decoded, accepted, rejected, accept_unless, and_then, decode_job, Sizes, snapshot_size, work_size}
use Rattle.model.specs.Refusal.{short_buffer, short_buffer_asking, decode_for}
use Rattle.model.specs.Result.{refused, result_of, monitored, unmonitored}
use Rattle.model.specs.WorkSize.{former_work_size, SameAsFormerly, WorkSizeHolds}

module _ (run : Program → List ℕ → Run) (job : List ℕ) where
  -- test 12 passes, before and now
  long-enough : (b b' : Sizes) → b.trace ≡ b'.trace → b.snapshot ≡ b'.snapshot → former_work_size ≤ b.work → work_size ≤ b'.work
      → (d : Decoded)
      → result_of run (and_then (λ past. short_buffer_asking former_work_size job b (count_of TURN past)) d) ≡ result_of run (and_then (short_buffer
      job b') d)
  long-enough b b' t s h k (accepted past) = rw (t, s, le-ltb b.work former_work_size h, le-ltb b'.work work_size k)
  long-enough b b' t s h k (rejected r) = refl

  -- the tests up to 11 are the same, and what passed test 12 before passes it now
  aside : (b : Sizes) (d : Decoded)
      → (result_of run (and_then (λ past. short_buffer_asking former_work_size job b (count_of TURN past)) d) ≡ refused (refuse 12 (length job)))
      ⊎ (result_of run (and_then (λ past. short_buffer_asking former_work_size job b (count_of TURN past)) d) ≡ result_of run (and_then
      (short_buffer job b) d))
  aside b (rejected r) = inr refl
  aside b (accepted past) = by_tests (ltb b.trace (7 * count_of TURN past)) (ltb b.snapshot snapshot_size)
      (ltb b.work former_work_size) refl
    where
      by_tests :
          (t s w : Bool) → ltb b.work former_work_size ≡ w
          → (result_of run (accept_unless past (cond t (Some (refuse 10 (length job))) (cond s (Some (refuse 11 (length job)))
          (cond w (Some (refuse 12 (length job))) None)))) ≡ refused (refuse 12 (length job)))
          ⊎ (result_of run (accept_unless past (cond t (Some (refuse 10 (length job))) (cond s (Some (refuse 11 (length job)))
          (cond w (Some (refuse 12 (length job))) None)))) ≡ result_of run (accept_unless past (cond t (Some (refuse 10 (length job)))
          (cond s (Some (refuse 11 (length job))) (cond (ltb b.work work_size) (Some (refuse 12 (length job))) None)))))
      by_tests true s w e = inr refl
      by_tests false true w e = inr refl
      by_tests false false true e = inl refl
      by_tests false false false e = inr (rw (le-ltb b.work work_size (omega (arith, ltb-false b.work former_work_size e))))

-- by any way of running the turns
same_as : (run : Program → List ℕ → Run) → SameAsFormerly run (λ job b. result_of run (decode_for job b))
unfolding decode_for
same_as run =
    record {
      long_enough = λ job b b' t s h k. long-enough run job b b' t s h k (decode_job job);
      same_buffers = λ job b. aside run job b (decode_job job);
    }

pub work-size-holds : WorkSizeHolds
unfolding monitored unmonitored
work-size-holds = record { of_monitored = same_as monitored_run; of_unmonitored = same_as unmonitored_run }

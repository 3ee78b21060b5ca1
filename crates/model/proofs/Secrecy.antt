-- A variable that nobody may read: the proofs of `SecrecyHolds` and `DispatchSecrecyHolds`, by what both jobs are decoded to.
use Prim.Native.Nat.{ℕ, ◌≤◌, ◌<◌}
use mathlib.Core.Path.{◌≡◌, refl, sym}
use mathlib.Core.Bool.{Bool, true, false}
use mathlib.Core.List.{List}
use lib.Dec.{ltb}
use lib.ListN.{length}
use borrow.Author.Tests.{ltb-true, ltb-false}
use Rattle.model.specs.Table.{VAR, max_variables}
use Rattle.model.specs.Command.{Command}
use Rattle.model.specs.Declared.{count_of, start_of, shared, turns_of}
use Rattle.model.specs.Program.{program_of}
use Rattle.model.specs.Refusal.{Decoded, accepted, rejected, decode_job, short_buffer, decode_for}
use Rattle.model.specs.Conclusion.{Reads, monitored_of}
use Rattle.model.specs.Dispatch.{monitored_dispatch}
use Rattle.model.specs.DispatchResult.{decode_dispatch}
use Rattle.model.specs.Secrecy.{Spells, Secret, RunsAlike, DispatchesAlike, Alike, both_refused, both_accepted}
use Rattle.model.specs.Secrecy.{SecrecyHolds, DispatchSecrecyHolds}
use Rattle.model.proofs.Logic.{true_false}
use Rattle.model.proofs.Growth.{declared_outside}
use Rattle.model.proofs.Valid.{job-accepted, job-valid, limits}
use Rattle.model.proofs.Results.{and_then_accepted}
use Rattle.model.proofs.DispatchDecoding.{under_accepted}
use Rattle.model.proofs.Restarting.{restarted, turns_re, program_re, start_re}
use Rattle.model.proofs.Restarted.{restarted-run, restarted_dispatch}
use Rattle.model.proofs.DecodingBoth.{Matches, other_start, for_matches, dispatch_matches}

-- what is read and passes the tests is spelled
pub reads_spells : {job : List ℕ} {place : ℕ} {past : List Command} → Reads job place past → Spells job place past
reads_spells Reads.begin = Spells.begin
reads_spells (Reads.further place past c next r h e v) = Spells.further place past c next (reads_spells r) e

-- a shared variable is declared
pub shared-declared : (past : List Command) (x : ℕ) → shared past x ≡ true → x < count_of VAR past
shared-declared past x s = by_count (ltb x (count_of VAR past)) refl
  where
    by_count : (b : Bool) → ltb x (count_of VAR past) ≡ b → x < count_of VAR past
    by_count true p = ltb-true x (count_of VAR past) p
    by_count false p =
        true_false (rw (declared_outside (λ c before. c.operands.first) VAR past x (ltb-false x (count_of VAR past) p)) at (sym s))

-- the commands of a job that passes their tests, and what they spell
pub job_spells : (job : List ℕ) (past : List Command) → decode_job job ≡ accepted past → Spells job (length job) past
job_spells job past e = reads_spells (job-accepted job past e).read.reads

-- the commands of an accepted job with another start of the variable
module _
    (job : List ℕ) (x at v : ℕ) (S : Secret job x at) (past : List Command) (e : decode_job job ≡ accepted past)
    (s : shared past x ≡ true)
  where
    abbrev starts : ℕ → ℕ
    starts = start_of (restarted x v past)

    unread : (n : ℕ) → (program_of past).may_read n x ≡ false
    unfolding program_of
    unread n = S.unread (length job) past (job_spells job past e) n

    few : (program_of past).variables ≤ max_variables
    unfolding program_of
    few = (limits past (job-valid job past e).commands).variables

    restarted-runs : RunsAlike x (program_of past) (program_of (restarted x v past)) (monitored_of past) (monitored_of (restarted x v past))
    unfolding program_of
    restarted-runs =
        rw (program_re x v past, turns_re x v past)
        (restarted-run (program_of past) starts x (start_re x v past) (shared-declared past x s) few s unread (turns_of past))

    restarted-dispatches :
        (budget : ℕ)
        → DispatchesAlike x (program_of past) (program_of (restarted x v past)) (monitored_dispatch (program_of past) budget)
        (monitored_dispatch (program_of (restarted x v past)) budget)
    unfolding program_of
    restarted-dispatches budget =
        rw (program_re x v past)
        (restarted_dispatch (program_of past) starts x (start_re x v past) (shared-declared past x s) few s unread budget)

-- two decodings that match are alike, if what they run is
matches_alike :
    (Runs : List Command → List Command → Type 0) (x v : ℕ) (d d' : Decoded) → Matches x v d d'
    → ((past : List Command) → d ≡ accepted past → shared past x ≡ true → Runs past (restarted x v past)) → Alike Runs d d'
matches_alike Runs x v (accepted past) (accepted past') m h = rw m.0 (both_accepted past (restarted x v past) (h past refl m.1))
matches_alike Runs x v (accepted past) (rejected r) m h = absurd m
matches_alike Runs x v (rejected r) (accepted past) m h = absurd m
matches_alike Runs x v (rejected r) (rejected r') m h = rw (← m) (both_refused r)

pub secrecy_holds : SecrecyHolds
secrecy_holds job job' x at S same b =
    let v = other_start job job' x at S same in
    matches_alike _ x v (decode_for job b) (decode_for job' b) (for_matches job job' x at S same b)
    (λ past e. restarted-runs job x at v S past
    (and_then_accepted (short_buffer job b) (decode_job job) past (unfold decode_for in e)).0)

pub dispatch_secrecy_holds : DispatchSecrecyHolds
dispatch_secrecy_holds job job' x at S same budget b =
    let v = other_start job job' x at S same in
    matches_alike _ x v (decode_dispatch budget job b) (decode_dispatch budget job' b) (dispatch_matches job job' x at S same budget b)
    (λ past e s. restarted-dispatches job x at v S past (under_accepted budget job b past e).0 s budget)

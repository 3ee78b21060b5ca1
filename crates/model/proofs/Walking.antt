-- Decoding comes to the commands that a job reads, or to the first test that it fails.
use Prim.Native.Nat.{ℕ, zero, suc, ◌+◌, ◌≤◌, ◌<◌}
use mathlib.Core.Path.{◌≡◌, refl}
use mathlib.Core.Bool.{Bool, true, false, cond, ◌||◌}
use mathlib.Core.List.{List, [], ◌∷◌}
use Rattle.std.proofs.Common.{Option, None, Some}
use native.Mathlib.Omega.{arith}
use lib.Dec.{ltb, eqb}
use lib.ListN.{length}
use borrow.Author.Tests.{ltb-true, ltb-false, eqb-true, eqb-false}
use Rattle.model.specs.Table.{max_job}
use Rattle.model.specs.Command.{Command, Parsed, whole, unknown, cut_short, read_command}
use Rattle.model.specs.Refusal.{violation, Refusal, refuse, Decoded, accepted, rejected, decode_next, decode_read, decode_from, decode}
use Rattle.model.specs.Refusal.{accept_unless, and_then, far_jump, unused_permission, decode_job, Sizes, short_buffer, decode_for}
use Rattle.model.specs.Conclusion.{HasLength, Reads, begin, further, Refuses, empty, long, no_command, cut_off, violates, jumps_far}
use Rattle.model.specs.Conclusion.{permits_unused, has_short_buffer, Accepts}
use Rattle.model.proofs.Reading.{read_at}

-- a property of the commands if they are accepted, and one of the refusal if they are not
abbrev pub Decides : (List Command → Type 0) → (Refusal → Type 0) → Decoded → Type 0
Decides Q R (accepted past) = Q past
Decides Q R (rejected r) = R r

-- where other properties follow
pub decides_on :
    (Q S : List Command → Type 0) (R T : Refusal → Type 0) (d : Decoded)
    → ((past : List Command) → Q past → S past) → ((r : Refusal) → R r → T r) → Decides Q R d → Decides S T d
decides_on Q S R T (accepted past) pass fail q = pass past q
decides_on Q S R T (rejected r) pass fail q = fail r q

-- the walk over a job that is neither empty nor too long
module _ (job : List ℕ) (b : Sizes) (size : HasLength job) where
  abbrev Walked : Decoded → Type 0
  Walked = Decides (Reads job (length job)) (Refuses job b)

  -- the rest of the walk, with a bound on the commands left that is high enough
  abbrev Rest : ℕ → (ℕ → List Command → Decoded) → Type 0
  Rest fuel rest = (place : ℕ) (past : List Command) → Reads job place past → place ≤ length job → length job ≤ place + fuel
      → Walked (rest place past)

  module _ (fuel : ℕ) (rest : ℕ → List Command → Decoded) (ih : Rest fuel rest) (place : ℕ) (past : List Command)
      (reads : Reads job place past) (h : place < length job) (enough : length job ≤ place + suc fuel) where
    next-walked : (c : Command) (next k : ℕ) → read_command job place ≡ whole c next → violation past c ≡ k
        → Walked (decode_next rest place past c next k)
    next-walked c next zero e v =
        let r = read_at job place c next e in
        ih next (c ∷ past) (further place past c next reads h e v) r.inside (omega (arith, r.later))
    next-walked c next (suc k) e v = violates size place past c next (suc k) reads h e v (λ z. omega arith)

    read-walked : (r : Parsed) → read_command job place ≡ r → Walked (decode_read rest place past r)
    read-walked unknown e = no_command size place past reads h e
    read-walked cut_short e = cut_off size place past reads h e
    read-walked (whole c next) e = next-walked c next (violation past c) e refl

  from-walked : (fuel place : ℕ) (past : List Command) → Reads job place past → place ≤ length job → length job ≤ place + fuel
      → Walked (decode_from fuel job place past)
  unfolding decode_from
  from-walked zero place past reads i f = let here : place ≡ length job = omega arith in rw here at reads
  from-walked (suc fuel) place past reads i f = by_place (ltb place (length job)) refl (from-walked fuel)
    where
      by_place : (t : Bool) → ltb place (length job) ≡ t → Rest fuel (decode_from fuel job)
          → Walked (cond t (decode_read (decode_from fuel job) place past (read_command job place)) (accepted past))
      by_place true t ih = read-walked fuel (decode_from fuel job) ih place past reads (ltb-true place (length job) t) f
          (read_command job place) refl
      by_place false t ih = let here : place ≡ length job = omega (arith, ltb-false place (length job) t) in rw here at reads

-- a job whose commands pass the tests 1 to 8 and 15
pub record PassedEight (job : List ℕ) (past : List Command) : Type 0 where
  pub size : HasLength job
  pub reads : Reads job (length job) past

-- after the tests 1 to 8 and 15
pub decode-walked : (job : List ℕ) (b : Sizes) → Decides (PassedEight job) (Refuses job b) (decode job)
unfolding decode
decode-walked job b = by_length (eqb (length job) 0) refl (ltb max_job (length job)) refl
  where
    by_length :
        (t : Bool) → eqb (length job) 0 ≡ t → (u : Bool) → ltb max_job (length job) ≡ u
        → Decides (PassedEight job) (Refuses job b) (cond (t || u) (rejected (refuse 1 0)) (decode_from (length job) job 0 []))
    by_length true p u q = empty (eqb-true (length job) 0 p)
    by_length false p true q = long (ltb-true max_job (length job) q)
    by_length false p false q =
        let size : HasLength job = record {
          lowest = omega (arith, eqb-false (length job) 0 p);
          highest = ltb-false max_job
              (length job) q;
        } in
        decides_on (Reads job (length job)) (PassedEight job) (Refuses job b) (Refuses job b) (decode_from (length job) job 0 [])
        (λ past q. record { size = size; reads = q }) (λ r q. q)
        (from-walked job b size (length job) 0 [] begin (omega arith) (omega arith))

-- a further test, if all commands are accepted so far
pub and_then_walked :
    (Q S : List Command → Type 0) (R : Refusal → Type 0) (test : List Command → Option Refusal) (d : Decoded)
    → ((past : List Command) → Q past → test past ≡ None → S past)
    → ((past : List Command) (r : Refusal) → Q past → test past ≡ Some r → R r)
    → Decides Q R d → Decides S R (and_then test d)
and_then_walked Q S R test (rejected r) pass fail q = q
and_then_walked Q S R test (accepted past) pass fail q = by_test (test past) refl
  where
    by_test : (o : Option Refusal) → test past ≡ o → Decides S R (accept_unless past o)
    by_test None e = pass past q e
    by_test (Some r) e = fail past r q e

-- after the tests 1 to 9 and 15
record PassedNine (job : List ℕ) (past : List Command) : Type 0 where
  read : PassedEight job past
  jumps : far_jump past ≡ None

jumps-walked : (job : List ℕ) (b : Sizes) → Decides (PassedNine job) (Refuses job b) (and_then far_jump (decode job))
jumps-walked job b =
    and_then_walked (PassedEight job) (PassedNine job) (Refuses job b) far_jump (decode job)
    (λ past q e. record { read = q; jumps = e })
    (λ past r q e. jumps_far q.size past r q.reads e)
    (decode-walked job b)

-- after the tests 1 to 9, 15 and 19
pub record PassedJob (job : List ℕ) (past : List Command) : Type 0 where
  pub read : PassedEight job past
  pub jumps : far_jump past ≡ None
  pub permissions : unused_permission past ≡ None

pub decode-job-walked : (job : List ℕ) (b : Sizes) → Decides (PassedJob job) (Refuses job b) (decode_job job)
unfolding decode_job
decode-job-walked job b =
    and_then_walked (PassedNine job) (PassedJob job) (Refuses job b) unused_permission (and_then far_jump (decode job))
    (λ past q e. record { read = q.read; jumps = q.jumps; permissions = e })
    (λ past r q e. permits_unused q.read.size past r q.read.reads q.jumps e)
    (jumps-walked job b)

-- after all tests
pub decode_for_walked : (job : List ℕ) (b : Sizes) → Decides (Accepts job b) (Refuses job b) (decode_for job b)
unfolding decode_for
decode_for_walked job b =
    and_then_walked (PassedJob job) (Accepts job b) (Refuses job b) (short_buffer job b) (decode_job job)
    (λ past q e. record {
      size = q.read.size;
      reads = q.read.reads;
      jumps = q.jumps;
      permissions = q.permissions;
      buffers = e;
    })
    (λ past r q e. has_short_buffer q.read.size past r q.read.reads q.jumps q.permissions e)
    (decode-job-walked job b)

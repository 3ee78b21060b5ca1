-- Verdicts: how each is reached, and what follows of it.
use Prim.Native.Nat.{ℕ}
use mathlib.Core.Path.{◌≡◌, refl, sym, ap, ◌∙◌}
use mathlib.Core.Bool.{cond}
use mathlib.Core.List.{List}
use Rattle.model.specs.Command.{Command}
use Rattle.model.specs.Refusal.{Decoded, accepted, rejected, decode, accept_unless, first_of, far_jump, unused_permission, decode_job}
use Rattle.model.proofs.Results.{decode-job-rejected, decode-job-later}
use Rattle.command.specs.declared.refusal.Refusal.{Refusal as Refused}
use Rattle.std.proofs.Common.{Result, Ok, Err, is_ok}
use Rattle.command.specs.Refusals.{refusal_of}
use Rattle.tables.specs.Cells.{blank}
use Rattle.tables.specs.Stands.{Stands}
use Rattle.uses.specs.Uses.{Uses}
use Rattle.model.specs.Refusal.{IsAccepted}
use Rattle.job.specs.Decoding.{verdict_of, Verdicts, Walks, Decides}

-- a job that is accepted, and one that is refused
pub accepts : (d : Decoded) (t : List ℕ) (all : List Command) → d ≡ accepted all → Stands t all → Verdicts d t (Ok tt)
accepts d t all e s = record { verdict = rw e; tables = λ past f. let q : all ≡ past = cc in rw q at s }

pub refuses : (d : Decoded) (t : List ℕ) (q : Refused) → d ≡ rejected (refusal_of q) → Verdicts d t (Err q)
refuses d t q e = record { verdict = rw e; tables = λ past f. absurd cc }

-- the same after the walk, with what the handlers use
pub walk_accepts : (d : Decoded) (t u : List ℕ) (all : List Command) → d ≡ accepted all → Stands t all → Uses u all
    → Walks d t u (Ok tt)
walk_accepts d t u all e s uses =
    record { verdicts = accepts d t all e s; uses = λ past f. let q : all ≡ past = cc in rw q at uses }

pub walk_refuses : (d : Decoded) (t u : List ℕ) (q : Refused) → d ≡ rejected (refusal_of q) → Walks d t u (Err q)
walk_refuses d t u q e = record {
  verdicts = refuses d t q e;
  uses = λ past f. absurd cc;
}

-- what a verdict says of the job
pub record Accepted (d : Decoded) (t : List ℕ) : Type 0 where
  pub past : List Command
  pub decoded : d ≡ accepted past
  pub stands : Stands t past

pub is-accepted : (d : Decoded) (t : List ℕ) (x : Unit {0}) → Verdicts d t (Ok x) → Accepted d t
is-accepted (accepted past) t x h = record { past = past; decoded = refl; stands = h.tables past refl }
is-accepted (rejected q) t x h = let f = h.verdict in absurd cc

pub is-refused : (d : Decoded) (t : List ℕ) (q : Refused) → Verdicts d t (Err q) → d ≡ rejected (refusal_of q)
is-refused (accepted past) t q h = let f = h.verdict in absurd cc
is-refused (rejected p) t q h = let f = h.verdict in cc

-- refused by the walk; and after the walk the verdict on jumps and permissions decides
pub refused-early : (job t : List ℕ) (q : Refused) → decode job ≡ rejected (refusal_of q) → Verdicts (decode_job job) t (Err q)
refused-early job t q e = refuses (decode_job job) t q (decode-job-rejected job (refusal_of q) e)

pub later_decide :
    (job t u : List ℕ) (r : Result (Unit {0}) Refused) (a : Accepted (decode job) t) → ((past : List Command) → decode job ≡ accepted past → Uses u past)
    → ((all : List Command) → decode job ≡ accepted all → Stands t all → Uses u all
    → verdict_of r ≡ first_of (far_jump all) (unused_permission all))
    → Verdicts (decode_job job) t r
later_decide job t u r a uses later =
    by_verdict r
    (decode-job-later job a.past a.decoded
    ∙ ap (accept_unless a.past) (sym (later a.past a.decoded a.stands (uses a.past a.decoded))))
  where
    by_verdict : (r : Result (Unit {0}) Refused) → decode_job job ≡ accept_unless a.past (verdict_of r) → Verdicts (decode_job job) t r
    by_verdict (Ok x) e = accepts (decode_job job) t a.past e a.stands
    by_verdict (Err q) e = refuses (decode_job job) t q e

-- the whole verdict, with the tables as they are left
pub decides_accepted : (d : Decoded) (t : List ℕ) → Accepted d t → Decides d t (Ok tt)
decides_accepted d t a =
    let e = a.decoded in
    record { judged = accepts d t a.past e a.stands; cleared = λ q f. absurd cc }

pub decides_refused : (d : Decoded) (t : List ℕ) (q : Refused) → d ≡ rejected (refusal_of q) → t ≡ blank → Decides d t (Err q)
decides_refused d t q e b = record { judged = refuses d t q e; cleared = λ p f. b }

-- a verdict that is handed on, and the tables blank where it is a refusal
pub settled :
    (d : Decoded) (t : List ℕ) (given : Result (Unit {0}) Refused) → Verdicts d t given → (after : List ℕ) (r : Result (Unit {0}) Refused)
    → r ≡ given → after ≡ cond (is_ok given) t blank → Decides d after r
settled d t (Ok x) v after r same e = rw (same, e) (decides_accepted d t (is-accepted d t x v))
settled d t (Err q) v after r same e = rw (same, e) (decides_refused d blank q (is-refused d t q v) refl)

-- a job with the verdict that it is accepted may be loaded
pub may_load : (d : Decoded) (t : List ℕ) (x : Unit {0}) → Decides d t (Ok x) → IsAccepted d
may_load d t x h = rw (is-accepted d t x h.judged).decoded tt

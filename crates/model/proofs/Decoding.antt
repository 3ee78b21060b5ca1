-- Decoding by a loop over the job: what comes of each command, and that the bound on their number is no limit.
use Prim.Native.Nat.{ℕ, zero, suc, ◌+◌, ◌≤◌, ◌<◌}
use mathlib.Core.Path.{◌≡◌, refl, sym, ap, ◌∙◌}
use mathlib.Core.Bool.{cond}
use mathlib.Core.List.{List, [], ◌∷◌}
use native.Mathlib.Omega.{arith}
use lib.Dec.{ltb}
use lib.ListN.{length}
use borrow.Author.Tests.{eq-eqb, ne_eqb, lt-ltb, le-ltb}
use Rattle.model.specs.Command.{Command, Parsed, whole, unknown, cut_short, read_command}
use Rattle.model.specs.Refusal.{violation, refuse, Decoded, accepted, rejected, decode_next, decode_read, decode_from, decode}
use Rattle.model.proofs.Reading.{read_at}

-- at the end of the job, whatever the fuel
pub decode_end : (fuel : ℕ) (job : List ℕ) (place : ℕ) (past : List Command) → length job ≤ place
    → decode_from fuel job place past ≡ accepted past
unfolding decode_from
decode_end zero job place past h = refl
decode_end (suc fuel) job place past h = rw (le-ltb place (length job) h)

-- at a place inside the job, by what is read there
module _ (fuel : ℕ) (job : List ℕ) (place : ℕ) (past : List Command) (inside : place < length job) where
  pub decode-unknown : read_command job place ≡ unknown → decode_from (suc fuel) job place past ≡ rejected (refuse 2 place)
  unfolding decode_from
  decode-unknown e = rw (lt-ltb place (length job) inside, e)

  pub decode-short : read_command job place ≡ cut_short → decode_from (suc fuel) job place past ≡ rejected (refuse 3 place)
  unfolding decode_from
  decode-short e = rw (lt-ltb place (length job) inside, e)

  pub decode-refused :
      (c : Command) (next k : ℕ) → read_command job place ≡ whole c next → violation past c ≡ k → ¬ (k ≡ 0)
      → decode_from (suc fuel) job place past ≡ rejected (refuse k place)
  unfolding decode_from
  decode-refused c next zero e v n = absurd (n refl)
  decode-refused c next (suc k) e v n = rw (lt-ltb place (length job) inside, e, v)

  pub decode-on :
      (c : Command) (next : ℕ) → read_command job place ≡ whole c next → violation past c ≡ 0
      → decode_from (suc fuel) job place past ≡ decode_from fuel job next (c ∷ past)
  unfolding decode_from
  decode-on c next e v = rw (lt-ltb place (length job) inside, e, v)

-- test 1
pub decode-empty : (job : List ℕ) → length job ≡ 0 → decode job ≡ rejected (refuse 1 0)
unfolding decode
decode-empty job e = rw (eq-eqb (length job) 0 e)

pub decode-long : (job : List ℕ) → ¬ (length job ≡ 0) → 16384 < length job → decode job ≡ rejected (refuse 1 0)
unfolding decode
decode-long job n l = rw (ne_eqb (length job) 0 n, lt-ltb 16384 (length job) l)

-- the bound on the commands left is no limit: it suffices that it reaches the end of the job
pub decode-fuel : (fuel : ℕ) (job : List ℕ) (place : ℕ) (past : List Command) → length job ≤ place + fuel
    → decode_from fuel job place past ≡ decode_from (suc fuel) job place past
unfolding decode_from
decode-fuel zero job place past h = rw (le-ltb place (length job) (omega arith))
decode-fuel (suc fuel) job place past h = by_read (read_command job place) refl (decode-fuel fuel job)
  where
    by_violation :
        (c : Command) (next k : ℕ) → decode_from fuel job next (c ∷ past) ≡ decode_from (suc fuel) job next (c ∷ past)
        → decode_next (decode_from fuel job) place past c next k ≡ decode_next (decode_from (suc fuel) job) place past c next k
    by_violation c next zero ih = ih
    by_violation c next (suc k) ih = refl

    by_read :
        (r : Parsed) → read_command job place ≡ r
        → ((place : ℕ) (past : List Command) → length job ≤ place + fuel
        → decode_from fuel job place past ≡ decode_from (suc fuel) job place past)
        → cond (ltb place (length job)) (decode_read (decode_from fuel job) place past r) (accepted past) ≡ cond (ltb place (length job))
        (decode_read (decode_from (suc fuel) job) place past r) (accepted past)
    by_read unknown e ih = refl
    by_read cut_short e ih = refl
    by_read (whole c next) e ih =
        ap (λ (d : Decoded). cond (ltb place (length job)) d (accepted past))
        (by_violation c next (violation past c) (ih next (c ∷ past) (omega (arith, (read_at job place c next e).later))))

-- what a decoding loop keeps: the job's decoding goes on from here, with fuel enough
pub record Decoding (job : List ℕ) (place : ℕ) (past : List Command) : Type 0 where
  pub fuel : ℕ
  pub inside : place ≤ length job
  pub enough : length job ≤ place + fuel
  pub goes_on : decode_from fuel job place past ≡ decode job

-- at the start
pub decoding_start : (job : List ℕ) → ¬ (length job ≡ 0) → length job ≤ 16384 → Decoding job 0 []
unfolding decode
decoding_start job n l =
    record {
      fuel = length job;
      inside = omega arith;
      enough = omega arith;
      goes_on = rw (ne_eqb (length job) 0 n, le-ltb 16384 (length job) l);
    }

-- fuel is left inside the job
pub fuel-left : (job : List ℕ) (place fuel : ℕ) → place < length job → length job ≤ place + fuel → (f : ℕ) × (fuel ≡ suc f)
fuel-left job place zero h e = absurd (omega arith)
fuel-left job place (suc f) h e = (f, refl)

module _ (job : List ℕ) (place : ℕ) (past : List Command) (d : Decoding job place past) where
  -- at the end
  pub decoding_end : length job ≤ place → decode job ≡ accepted past
  decoding_end h = sym d.goes_on ∙ decode_end d.fuel job place past h

  module _ (h : place < length job) where
    left : (f : ℕ) × (decode_from (suc f) job place past ≡ decode job) × (d.fuel ≡ suc f)
    left = let f = fuel-left job place d.fuel h d.enough in (f.0, rw f.1 at d.goes_on, f.1)

    -- refused at this place by 2, by 3, by 4 to 8 or 15
    pub decoding_unknown : read_command job place ≡ unknown → decode job ≡ rejected (refuse 2 place)
    decoding_unknown e = sym left.1 ∙ decode-unknown left.0 job place past h e

    pub decoding_short : read_command job place ≡ cut_short → decode job ≡ rejected (refuse 3 place)
    decoding_short e = sym left.1 ∙ decode-short left.0 job place past h e

    pub decoding_refused : (c : Command) (next k : ℕ) → read_command job place ≡ whole c next → violation past c ≡ k → ¬ (k ≡ 0)
        → decode job ≡ rejected (refuse k place)
    decoding_refused c next k e v n = sym left.1 ∙ decode-refused left.0 job place past h c next k e v n

    -- after a command that passes
    pub decoding_on : (c : Command) (next : ℕ) → read_command job place ≡ whole c next → violation past c ≡ 0 → Decoding job next (c ∷ past)
    decoding_on c next e v =
        let r = read_at job place c next e in
        let g = left.2 in
        let m = d.enough in
        record {
          fuel = left.0;
          inside = r.inside;
          enough = omega (arith, r.later);
          goes_on = sym (decode-on left.0 job place past h c next e v) ∙ left.1;
        }

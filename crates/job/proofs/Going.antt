-- The walk over the commands: what each step gives, and what the loop keeps.
use Prim.Native.Nat.{ℕ, suc, ◌+◌, ◌≤◌, ◌<◌}
use mathlib.Core.Path.{◌≡◌, refl, sym, ◌∙◌}
use mathlib.Core.Bool.{true, false, ◌||◌}
use mathlib.Core.List.{List, [], ◌∷◌}
use Rattle.std.proofs.Common.{Some, Ok, Err}
use native.Mathlib.Omega.{arith}
use lib.Dec.{eqb, ltb}
use lib.ListN.{length}
use borrow.Author.Tests.{eqb-false, ltb-false}
use Rattle.model.specs.Command.{Command, Parsed as ParsedAs, whole, unknown, cut_short, read_command}
use Rattle.model.specs.Refusal.{violation, Refusal as RefusedFor, refuse, rejected, decode_from, decode}
use Rattle.model.specs.Valid.{Valid, Plain}
use Rattle.model.proofs.Logic.{or_left, or_right}
use Rattle.model.proofs.Reading.{read_at}
use Rattle.model.proofs.Decoding.{decode_end, decode-unknown, decode-short, decode-refused, decode-on, decoding_start, fuel-left}
use Rattle.command.specs.declared.read.Command.{Command as Code}
use Rattle.command.specs.declared.refusal.Reason.{Reason}
use Rattle.command.specs.declared.refusal.Reason.TheVariants as r
use Rattle.command.specs.declared.refusal.Refusal.{Refusal}
use Rattle.command.specs.Refusals.{number_of, refusal_of}
use Rattle.command.specs.Reading.{command_of, refusal_at}
use Rattle.tables.specs.Cells.{blank}
use Rattle.tables.specs.Stands.{Stands}
use Rattle.tables.proofs.Blank.{stands-blank}
use Rattle.uses.specs.Uses.{Uses}
use Rattle.job.specs.Decoding.{Onward, Walks}
use Rattle.job.proofs.Judged.{walk_accepts, walk_refuses}

-- no test has number 0
reason-counts : (r : Reason) → ¬ (number_of r ≡ 0)
reason-counts r.Length e = absurd (omega arith)
reason-counts r.UnknownByte e = absurd (omega arith)
reason-counts r.CutShort e = absurd (omega arith)
reason-counts r.LowerGroup e = absurd (omega arith)
reason-counts r.CountExceeded e = absurd (omega arith)
reason-counts r.Undeclared e = absurd (omega arith)
reason-counts r.OutOfReach e = absurd (omega arith)
reason-counts r.Repeated e = absurd (omega arith)
reason-counts r.FarJump e = absurd (omega arith)
reason-counts r.ShortTrace e = absurd (omega arith)
reason-counts r.ShortSnapshot e = absurd (omega arith)
reason-counts r.ShortWork e = absurd (omega arith)
reason-counts r.BadBudget e = absurd (omega arith)
reason-counts r.WrittenTurn e = absurd (omega arith)
reason-counts r.EmptySpan e = absurd (omega arith)
reason-counts r.UnusedPermission e = absurd (omega arith)

module _ (job : List ℕ) (place : ℕ) (inside : place < length job) (past : List Command) where
  -- 2 and 3
  pub step-unread : (q : RefusedFor) → refusal_at place (read_command job place) ≡ Some q → (fuel : ℕ)
      → decode_from (suc fuel) job place past ≡ rejected q
  step-unread q e fuel = by_read (read_command job place) refl e
    where
      by_read : (r : ParsedAs) → read_command job place ≡ r → refusal_at place r ≡ Some q → decode_from (suc fuel) job place past ≡ rejected q
      by_read unknown p f = decode-unknown fuel job place past inside p ∙ cc
      by_read cut_short p f = decode-short fuel job place past inside p ∙ cc
      by_read (whole c next) p f = let w : ◌≡◌ {A = ℕ} 0 1 = cc in absurd (omega arith)

  module _ (c : Code) (next : ℕ) (read : read_command job place ≡ whole (command_of c) next) where
    pub read_plain : Plain (command_of c)
    read_plain = (read_at job place (command_of c) next read).plain

    -- 4 to 8 and 15
    pub step-refused : (r : Reason) → number_of r ≡ violation past (command_of c) → (fuel : ℕ)
        → decode_from (suc fuel) job place past ≡ rejected (refuse (number_of r) place)
    step-refused r v fuel = decode-refused fuel job place past inside (command_of c) next (number_of r) read (sym v) (reason-counts r)

    -- a command that passes
    pub step-valid : 0 ≡ violation past (command_of c) → Valid past → Valid (command_of c ∷ past)
    step-valid v valid = (valid, read_plain, sym v)

    pub step-on : (t u : List ℕ) → Stands t (command_of c ∷ past) → Uses u (command_of c ∷ past) → Valid (command_of c ∷ past)
        → Onward job place past t u next
    step-on t u stands uses valid =
        let r = read_at job place (command_of c) next read in
        record {
          command = command_of c;
          stands = stands;
          uses = uses;
          valid = valid;
          later = r.later;
          inside = r.inside;
          same = λ fuel. decode-on fuel job place past inside (command_of c) next read valid.2;
        }

-- 1, and a job that passes it
pub decode_size : (job : List ℕ) → (eqb (length job) 0 || ltb 16384 (length job)) ≡ true → decode job ≡ rejected (refuse 1 0)
unfolding decode
decode_size job e = rw e

pub sized : (job : List ℕ) → (eqb (length job) 0 || ltb 16384 (length job)) ≡ false → ¬ (length job ≡ 0) × (length job ≤ 16384)
sized job e = (
  eqb-false (length job) 0 (or_left (eqb (length job) 0) (ltb 16384 (length job)) e),
  ltb-false 16384 (length job) (or_right (eqb (length job) 0) (ltb 16384 (length job)) e),
)

-- what the loop keeps
pub record Going (job t u : List ℕ) (place : ℕ) : Type 0 where
  pub past : List Command
  pub fuel : ℕ
  pub inside : place ≤ length job
  pub enough : length job ≤ place + fuel
  pub goes_on : decode_from fuel job place past ≡ decode job
  pub stands : Stands t past
  pub uses : Uses u past
  pub valid : Valid past
  pub short : length past ≤ place

pub going_start : (job t u : List ℕ) → ¬ (length job ≡ 0) → length job ≤ 16384 → t ≡ blank → Uses u [] → Going job t u 0
going_start job t u n l e uses =
    let d = decoding_start job n l in
    record {
      past = [];
      fuel = d.fuel;
      inside = d.inside;
      enough = d.enough;
      goes_on = d.goes_on;
      stands = rw e stands-blank;
      uses = uses;
      valid = tt;
      short = omega arith;
    }

module _ (job t u : List ℕ) (place : ℕ) (g : Going job t u place) where
  pub going_end : length job ≤ place → Walks (decode job) t u (Ok tt)
  going_end h = walk_accepts (decode job) t u g.past (sym g.goes_on ∙ decode_end g.fuel job place g.past h) g.stands g.uses

  module _ (h : place < length job) where
    left : (f : ℕ) × (decode_from (suc f) job place g.past ≡ decode job) × (g.fuel ≡ suc f)
    left = let f = fuel-left job place g.fuel h g.enough in (f.0, rw f.1 at g.goes_on, f.1)

    pub going-stop : (t₁ u₁ : List ℕ) (r : Refusal) → ((fuel : ℕ) → decode_from (suc fuel) job place g.past ≡ rejected (refusal_of r))
        → Walks (decode job) t₁ u₁ (Err r)
    going-stop t₁ u₁ r e = walk_refuses (decode job) t₁ u₁ r (sym left.1 ∙ e left.0)

    pub going_on : (t₁ u₁ : List ℕ) (next : ℕ) → Onward job place g.past t₁ u₁ next → Going job t₁ u₁ next
    going_on t₁ u₁ next o =
        let f = left.2 in
        let m = g.enough in
        let n = g.short in
        record {
          past = o.command ∷ g.past;
          fuel = left.0;
          inside = o.inside;
          enough = omega (arith, o.later);
          goes_on = sym (o.same left.0) ∙ left.1;
          stands = o.stands;
          uses = o.uses;
          valid = o.valid;
          short = omega (arith, o.later);
        }

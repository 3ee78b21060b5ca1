-- A further look at the commands of an accepted job, after the tests of commands: what its loop keeps, and what it finds.
use Prim.Native.Nat.{ℕ, zero, suc, ◌+◌, ◌≤◌, ◌<◌}
use mathlib.Core.Path.{◌≡◌, refl, sym, ◌∙◌}
use mathlib.Core.Bool.{Bool, true, false, cond, ◌||◌}
use mathlib.Core.List.{List, [], ◌∷◌}
use Rattle.std.proofs.Common.{Option, None, Some}
use native.Mathlib.Omega.{arith}
use lib.Dec.{ltb, eqb}
use lib.ListN.{length}
use borrow.Author.Tests.{lt-ltb, ltb-true, ltb-false}
use Rattle.model.specs.Table.{group_of, max_job}
use Rattle.model.specs.Command.{Command, Parsed, whole, unknown, cut_short, read_command}
use Rattle.model.specs.Refusal.{violation, Refusal, refuse, accepted, rejected, decode_next, decode_read, decode_from, decode}
use Rattle.model.specs.Refusal.{group_falls, first_of, refuse_first}
use Rattle.model.proofs.Logic.{or_left, or_right}
use Rattle.model.proofs.Valid.{passes}
use Rattle.model.proofs.Reading.{read_at}
use Rattle.model.proofs.Decoding.{decode_end, fuel-left}

-- the first of two refusals, if the second is not there
pub first_of_none : (r : Option Refusal) → first_of r None ≡ r
first_of_none None = refl
first_of_none (Some q) = refl

-- an accepted job is decoded from its start
pub accepted-from : (job : List ℕ) (all : List Command) → decode job ≡ accepted all → decode_from (length job) job 0 [] ≡ accepted all
unfolding decode
accepted-from job all e = by_length (eqb (length job) 0 || ltb max_job (length job)) e
  where
    by_length : (t : Bool) → cond t (rejected (refuse 1 0)) (decode_from (length job) job 0 []) ≡ accepted all
        → decode_from (length job) job 0 [] ≡ accepted all
    by_length true q = let w : ◌≡◌ {A = ℕ} 0 1 = cc in absurd (omega arith)
    by_length false q = q

-- what is read inside an accepted job is a command that passes
pub record Passing (fuel : ℕ) (job : List ℕ) (place : ℕ) (past all : List Command) : Type 0 where
  pub command : Command
  pub next : ℕ
  pub is_read : read_command job place ≡ whole command next
  pub passes : violation past command ≡ 0
  pub goes_on : decode_from fuel job next (command ∷ past) ≡ accepted all

passing-next :
    (fuel : ℕ) (job : List ℕ) (place : ℕ) (past all : List Command) (c : Command) (next k : ℕ)
    → read_command job place ≡ whole c next → violation past c ≡ k → decode_next (decode_from fuel job) place past c next k ≡ accepted all
    → Passing fuel job place past all
passing-next fuel job place past all c next zero r v e = record { command = c; next = next; is_read = r; passes = v; goes_on = e }
passing-next fuel job place past all c next (suc k) r v e = let w : ◌≡◌ {A = ℕ} 0 1 = cc in absurd (omega arith)

passing-read :
    (fuel : ℕ) (job : List ℕ) (place : ℕ) (past all : List Command) (r : Parsed)
    → read_command job place ≡ r → decode_read (decode_from fuel job) place past r ≡ accepted all → Passing fuel job place past all
passing-read fuel job place past all unknown r e = let w : ◌≡◌ {A = ℕ} 0 1 = cc in absurd (omega arith)
passing-read fuel job place past all cut_short r e = let w : ◌≡◌ {A = ℕ} 0 1 = cc in absurd (omega arith)
passing-read fuel job place past all (whole c next) r e = passing-next fuel job place past all c next (violation past c) r refl e

pub passing : (fuel : ℕ) (job : List ℕ) (place : ℕ) (past all : List Command) → place < length job
    → decode_from (suc fuel) job place past ≡ accepted all → Passing fuel job place past all
unfolding decode_from
passing fuel job place past all h e = passing-read fuel job place past all (read_command job place) refl
    (rw (lt-ltb place (length job) h) at e)

-- what holds so far, and goes on to hold after every command that passes, holds of all commands of an accepted job
module _ (P : List Command → Type 0) (further : (past : List Command) (c : Command) → violation past c ≡ 0 → P past → P (c ∷ past))
    (job : List ℕ) (all : List Command) where
  holds_of_all : (fuel place : ℕ) (past : List Command) → decode_from fuel job place past ≡ accepted all → P past → P all
  unfolding decode_from
  holds_of_all zero place past e h = let q : past ≡ all = cc in rw q at h
  holds_of_all (suc fuel) place past e h = by_place (ltb place (length job)) refl (holds_of_all fuel)
    where
      by_place :
          (t : Bool) → ltb place (length job) ≡ t
          → ((place : ℕ) (past : List Command) → decode_from fuel job place past ≡ accepted all → P past → P all)
          → P all
      by_place true t ih =
          let p = passing fuel job place past all (ltb-true place (length job) t) e in
          ih p.next (p.command ∷ past) p.goes_on (further past p.command p.passes h)
      by_place false t ih = let z = rw t at e in let q : past ≡ all = cc in rw q at h

-- what no command of a group above g changes: it stays as it is from the first such command on, since groups do not fall
module _ {A : Type 0} (value : List Command → A) (g : ℕ)
    (same : (past : List Command) (c : Command) → g < group_of c.byte → value (c ∷ past) ≡ value past) where
  -- commands that may follow are of a group above g, and the value is this one
  record Behind (x : A) (past : List Command) : Type 0 where
    above : (c : Command) → group_falls past c ≡ false → g < group_of c.byte
    still : value past ≡ x

  further-behind : (x : A) (past : List Command) (c : Command) → violation past c ≡ 0 → Behind x past → Behind x (c ∷ past)
  unfolding group_falls
  further-behind x past c v b =
      record {
        above = λ d f. b.above d (or_right (ltb (group_of d.byte) (group_of c.byte)) (group_falls past d) f);
        still = same past c (b.above c (passes past c v).ordered) ∙ b.still;
      }

  stays-from :
      (job : List ℕ) (all : List Command) (fuel place : ℕ) (past : List Command) → place < length job
      → decode_from (suc fuel) job place past ≡ accepted all
      → (c : Command) (next : ℕ) → read_command job place ≡ whole c next → g < group_of c.byte → value all ≡ value past
  unfolding group_falls
  stays-from job all fuel place past h e c next r high =
      let p = passing fuel job place past all h e in
      let w = sym r ∙ p.is_read in
      let a : p.command ≡ c = cc in
      let first : Behind (value past) (c ∷ past) =
      record {
        above = λ d f. omega (arith, ltb-false (group_of d.byte) (group_of c.byte) (or_left _ (group_falls past d) f));
        still = same past c high;
      } in
      (holds_of_all (Behind (value past)) (further-behind (value past)) job all fuel p.next (p.command ∷ past) p.goes_on
      (rw a first)).still

-- a further look at the commands of an accepted job: those before a place, after which the rest of the job follows
pub record Scanning (job : List ℕ) (all : List Command) (place : ℕ) (past : List Command) : Type 0 where
  pub fuel : ℕ
  pub enough : length job ≤ place + fuel
  pub goes_on : decode_from fuel job place past ≡ accepted all

-- at the start
pub scanning-start : (job : List ℕ) (all : List Command) → decode job ≡ accepted all → Scanning job all 0 []
scanning-start job all e = record { fuel = length job; enough = omega arith; goes_on = accepted-from job all e }

module _ {job : List ℕ} {all : List Command} {place : ℕ} {past : List Command} (s : Scanning job all place past) where
  -- at the end
  pub scanning_end : length job ≤ place → past ≡ all
  scanning_end h = let z = sym (decode_end s.fuel job place past h) ∙ s.goes_on in cc

  module _ (h : place < length job) where
    left : (f : ℕ) × (decode_from (suc f) job place past ≡ accepted all) × (s.fuel ≡ suc f)
    left = let f = fuel-left job place s.fuel h s.enough in (f.0, rw f.1 at s.goes_on, f.1)

    read : Passing left.0 job place past all
    read = passing left.0 job place past all h left.1

    -- what is read is a command
    pub scanning-reads : (c : Command) × (next : ℕ) × (read_command job place ≡ whole c next)
    scanning-reads = (read.command, read.next, read.is_read)

    module _ (c : Command) (next : ℕ) (e : read_command job place ≡ whole c next) where
      same-command : read.command ≡ c
      same-command = let w = sym e ∙ read.is_read in cc

      same_next : read.next ≡ next
      same_next = let w = sym e ∙ read.is_read in cc

      -- it passes the tests of commands
      pub scanning-passes : violation past c ≡ 0
      scanning-passes = rw same-command at read.passes

      -- after it
      pub scanning-on : Scanning job all next (c ∷ past)
      scanning-on =
          let r = read_at job place c next e in
          let g = left.2 in
          let m = s.enough in
          record { fuel = left.0; enough = omega (arith, r.later); goes_on = rw (same-command, same_next) at read.goes_on }

      -- a later test that found none before it and finds it refuses it
      pub scanning-found : (k : ℕ) (test : List Command → Command → Bool) → refuse_first k test past ≡ None → test past c ≡ true
          → refuse_first k test all ≡ Some (refuse k place)
      unfolding refuse_first
      scanning-found k test fine t =
          holds_of_all (λ past. refuse_first k test past ≡ Some (refuse k place)) (λ past d v f. rw f) job all scanning-on.fuel next
          (c ∷ past) scanning-on.goes_on (rw (fine, t, (read_at job place c next e).here))

      -- it is of a group above g, and a value does not change by commands of those groups
      pub scanning-behind :
          {A : Type 0} (value : List Command → A) (g : ℕ)
          → ((past : List Command) (d : Command) → g < group_of d.byte → value (d ∷ past) ≡ value past)
          → g < group_of c.byte → value all ≡ value past
      scanning-behind value g same above = stays-from value g same job all left.0 place past h left.1 c next e above

-- a command that a later test does not find changes nothing
pub refuse-on : (k : ℕ) (test : List Command → Command → Bool) (past : List Command) (c : Command) → test past c ≡ false
    → refuse_first k test (c ∷ past) ≡ refuse_first k test past
unfolding refuse_first
refuse-on k test past c e = rw e (first_of_none (refuse_first k test past))

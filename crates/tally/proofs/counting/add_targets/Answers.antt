use mathlib.Core.Path.{◌≡◌, refl, ◌∙◌}
use native.Mathlib.Omega.{arith}
use Prim.Native.Nat.{ℕ, ◌+◌, ◌%◌}
use mathlib.Core.Bool.{Bool, true, false}
use mathlib.Core.List.{List}
use lib.Dec.{eqb}
use lib.ListN.{length, get_or, set}
use lib.Seq.{set-get_or}
use borrow.Author.Tests.{eqb-true, eqb-false}
use borrow.Author.Rules.{rules}
use Rattle.tables.specs.Bits.{bit_of}
use Rattle.memory.specs.Queues.{counted}
use Rattle.memory.proofs.Sending.{counted_target, counted-other, counted-later}
use Rattle.tally.proofs.Adding.{Ahead, ahead-first, ahead-one, ahead-other, ahead-next, none_above, adds_targets}
use Rattle.tally.proofs.counting.add_targets.Goals as goal
use Rattle.tally.proofs.counting.add_targets.Goals.{In-loop-target}

-- the count of the target at hand is still that of before
count-before : (c : In-loop-target) → get_or c.loop-target.counts c.loop-target.target 0 ≡ get_or c.args.counts.now c.loop-target.target 0
count-before c =
    rw c.loop-target.invariant.1
    (counted-later (bit_of c.args.targets) c.args.counts.now c.loop-target.target c.loop-target.target (omega arith))

pub loop-target-init : goal.loop-target-init
unfolding counted
loop-target-init c = (ahead-first c.args.targets (search rules), refl)

pub overflow_add-counts : goal.overflow_add-counts
overflow_add-counts c = let same = count-before (goal.at.overflow_add-counts c).In-loop-target in
    omega (arith, same, c.requires.by_index c.loop-target.target (omega (arith, c.loop-target-test.true)))

-- what one step adds: one for a target, nothing for another node
adds-bit :
    (all : ℕ) (ws counts : List ℕ) (k targets x : ℕ) → Ahead all k targets → x ≡ targets % 2 → counts ≡ counted (bit_of all) ws k
    → get_or counts k 0 ≡ get_or ws k 0 → set counts k (get_or counts k 0 + x) ≡ counted (bit_of all) ws (k + 1)
adds-bit all ws counts k targets x a e same here = by_bit (eqb (targets % 2) 1) refl
  where
    by_bit : (b : Bool) → eqb (targets % 2) 1 ≡ b → set counts k (get_or counts k 0 + x) ≡ counted (bit_of all) ws (k + 1)
    by_bit true p =
        let odd = eqb-true (targets % 2) 1 p in
        let one : x ≡ 1 = e ∙ odd in
        rw (one, here, same) (counted_target (bit_of all) ws k (ahead-one a odd))
    by_bit false p =
        let even = eqb-false (targets % 2) 1 p in
        let none : get_or counts k 0 + x ≡ get_or counts k 0 = omega (arith, e, even) in
        rw none (set-get_or counts k 0 ∙ same ∙ counted-other (bit_of all) ws k (ahead-other a even))

pub loop-target-preserved : goal.loop-target-preserved
loop-target-preserved c = (
  ahead-next c.loop-target.invariant.0 (omega (arith, c.loop-target-test.true)),
  adds-bit c.args.targets c.args.counts.now c.loop-target.counts c.loop-target.target c.loop-target.ahead _ c.loop-target.invariant.0
      c.from.ensures c.loop-target.invariant.1 (count-before (goal.at.loop-target-preserved c).In-loop-target),
)

pub returns : goal.returns
returns c = let long : length c.args.counts.now ≡ 32 = search rules in
    adds_targets c.args.targets c.loop-target.target c.args.counts.now c.loop-target.counts long c.loop-target.invariant.0.inside
    (λ i h. none_above c.args.targets (search rules) i (omega (arith, h, c.loop-target-test.false))) c.loop-target.invariant.1

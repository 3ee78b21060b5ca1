use mathlib.Core.Path.{refl, sym, ◌∙◌}
use mathlib.Core.Logic.{inl, inr}
use native.Mathlib.Omega.{arith}
use borrow.Author.Rules.{rules}
use borrow.Author.Tests.{ne_eqb}
use Rattle.tally.proofs.Adding.{adds_one, adds_none, takes-here, takes-other}
use Rattle.tally.proofs.counting.add_taken.Goals as goal
use Rattle.tally.proofs.counting.add_taken.Goals.{else-trace-place-via-then-trace-place+else-node-lt32, else-trace-place-via-else-trace-place}

pub operand-node-requires : goal.operand-node-requires
operand-node-requires c = (search rules, inr (inl refl))

pub overflow_add-counts : goal.overflow_add-counts
overflow_add-counts c = omega (arith, c.requires.by_index _ c.if-node-lt32.true)

pub returns-then-node-lt32 : goal.returns-then-node-lt32
returns-then-node-lt32 c = adds_one _ c.args.counts.now _ (search rules) c.if-node-lt32.true
    (λ n. takes-here c.args.trace.now c.args.k _ n (c.if-trace-place.true ∙ c.number.ensures) c.operand-node.ensures)

pub returns-else-trace-place : goal.returns-else-trace-place
returns-else-trace-place c = adds_none _ c.args.counts.now c.else-trace-place.array_long (elim c.else-trace-place.branch [
  | else-trace-place-via-then-trace-place+else-node-lt32 w ↦ λ n h.
      takes-here c.args.trace.now c.args.k _ n (w.if-trace-place.true ∙ c.number.ensures) c.operand-node.ensures
      ∙ ne_eqb _ n (λ e. omega (arith, w.if-node-lt32.false))
  | else-trace-place-via-else-trace-place w ↦ λ n h.
      takes-other c.args.trace.now c.args.k n (λ e. w.if-trace-place.false (e ∙ sym c.number.ensures))
])

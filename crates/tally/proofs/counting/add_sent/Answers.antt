use mathlib.Core.Path.{refl, sym, ◌∙◌}
use mathlib.Core.Logic.{inl, inr}
use borrow.Author.Rules.{rules}
use Rattle.tables.specs.Bits.{bit_of}
use Rattle.tally.proofs.Adding.{adds-agree, adds_none, reaches_here, reaches-none}
use Rattle.tally.proofs.counting.add_sent.Goals as goal

pub operand-requires : goal.operand-requires
operand-requires c = (search rules, inr (inl refl))

pub operand-port-requires : goal.operand-port-requires
operand-port-requires c = (search rules, inr (inl refl))

pub returns-then-trace-place : goal.returns-then-trace-place
returns-then-trace-place c hs = adds-agree (bit_of c.targets_of.result) _ _ _
    (λ n h.
    c.targets_of.ensures n h
    ∙ reaches_here c.args.trace.now c.args.k c.args.tables.now hs n _ _ (c.if-trace-place.true ∙ c.number.ensures) c.operand.ensures
    c.operand-port.ensures)
    c.add_targets.ensures

pub returns-else-trace-place : goal.returns-else-trace-place
returns-else-trace-place c hs = adds_none _ c.args.counts.now (search rules)
    (λ n h. reaches-none c.args.trace.now c.args.k c.args.tables.now hs n (λ e. c.if-trace-place.false (e ∙ sym c.number.ensures)))

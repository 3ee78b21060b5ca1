use borrow.Author.Tests.{eq-eqb, ne_eqb}
use Rattle.tables.specs.Bits.{with_half}
use Rattle.tables.proofs.bits.with_half.Goals as goal

pub returns-then-i-eq0 : goal.returns-then-i-eq0
unfolding with_half
returns-then-i-eq0 c = rw (eq-eqb _ 0 c.if-i-eq0.true)

pub returns : goal.returns
unfolding with_half
returns c = rw (ne_eqb _ 0 c.if-i-eq0.false)

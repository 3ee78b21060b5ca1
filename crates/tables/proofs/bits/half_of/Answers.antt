use borrow.Author.Tests.{eq-eqb, ne_eqb}
use Rattle.tables.specs.Bits.{half_of}
use Rattle.tables.proofs.bits.half_of.Goals as goal

pub returns-then-i-eq0 : goal.returns-then-i-eq0
unfolding half_of
returns-then-i-eq0 c = rw (eq-eqb _ 0 c.if-i-eq0.true)

pub returns : goal.returns
unfolding half_of
returns c = rw (ne_eqb _ 0 c.if-i-eq0.false)

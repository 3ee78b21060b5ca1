use Rattle.model.proofs.Reading.{number-four, number-one}
use Rattle.command.proofs.Shaped.{width-none}
use Rattle.command.proofs.read.operand.Goals as goal

pub returns-then-width-eq4 : goal.returns-then-width-eq4
returns-then-width-eq4 c = rw (c.if-width-eq4.true, number-four) c.from_le_bytes.ensures

pub returns-then-width-eq1 : goal.returns-then-width-eq1
returns-then-width-eq1 c = rw (c.if-width-eq1.true, number-one) c.from.ensures

pub returns : goal.returns
returns c = width-none _ _ _ c.requires.1 c.if-width-eq4.false c.if-width-eq1.false

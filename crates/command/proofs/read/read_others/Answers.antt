use mathlib.Core.Path.{refl}
use Rattle.command.proofs.Taken.{fourth-fits, none-follows}
use Rattle.command.proofs.read.read_others.Goals as goal

pub returns-then-shape : goal.returns-then-shape
returns-then-shape c = none-follows _ _ _ _ c.requires _ refl (rw c.unpack-shape.ensures at c.if-shape.true)

pub operand-fourth-requires : goal.operand-fourth-requires
operand-fourth-requires c = fourth-fits _ _ _ _ c.requires _ c.unpack-shape.ensures

use mathlib.Core.Path.{refl}
use mathlib.Core.Logic.{inl}
use borrow.Author.Rules.{rules}
use Rattle.writing.proofs.Putting.{none-put, room, one-put, all-put}
use Rattle.lines.proofs.Texts.{variable-same}
use Rattle.lines.proofs.snapshot.put_variable_lines.Goals as goal

pub loop-x-init : goal.loop-x-init
loop-x-init c = none-put _ _ _

pub operand-value-requires : goal.operand-value-requires
operand-value-requires c = (search rules, inl refl)

pub put_line-next-requires : goal.put_line-next-requires
put_line-next-requires c = rw (variable-same _ _ c.loop-x.x _ c.operand-value.ensures) at
    (room _ _ _ _ c.requires.variables_in_bounds_2 c.loop-x.x
    c.loop-x-test.true _ _ c.loop-x.invariant)

pub loop-x-preserved : goal.loop-x-preserved
loop-x-preserved c = one-put _ _ _ _ c.requires.variables_in_bounds_2 c.loop-x.x c.loop-x-test.true _ _ c.loop-x.invariant _ _
    (rw (variable-same _ _ c.loop-x.x _ c.operand-value.ensures) c.put_line-next.ensures)

pub returns : goal.returns
returns c = all-put _ _ _ _ c.loop-x.x _ _ c.loop-x.auto.x-end c.loop-x-test.false c.loop-x.invariant

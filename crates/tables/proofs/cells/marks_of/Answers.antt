use mathlib.Core.Path.{sym, ◌∙◌}
use Rattle.tables.proofs.Setting.{bit_zero}
use Rattle.tables.proofs.Writing.{mark_first, mark_below}
use Rattle.tables.proofs.cells.marks_of.Goals as goal

pub returns-then-row-lt128 : goal.returns-then-row-lt128
returns-then-row-lt128 c k h = rw c.entry.ensures (mark_first _ _ _ k c.if-row-lt128.true h)

pub returns : goal.returns
returns c k h = bit_zero k ∙ sym (mark_below _ _ _ k c.if-row-lt128.false)

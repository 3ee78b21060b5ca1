use mathlib.Core.Path.{sym, ◌∙◌}
use Rattle.command.proofs.Shaped.{row_here, row-passed, row_missing}
use Rattle.command.proofs.table.row_in.Goals as goal

pub returns-then-row-byte : goal.returns-then-row-byte
returns-then-row-byte c = sym (c.loop-row.invariant ∙ row_here _ _ _ c.loop-row-test.true c.if-row-byte.true)

pub loop-row-preserved : goal.loop-row-preserved
loop-row-preserved c = c.loop-row.invariant ∙ row-passed _ _ _ c.loop-row-test.true c.if-row-byte.false

pub returns : goal.returns
returns c = sym (c.loop-row.invariant ∙ row_missing _ _ _ c.loop-row-test.false)

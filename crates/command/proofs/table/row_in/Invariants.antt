use mathlib.Core.Path.{◌≡◌}
use lib.ListN.{drop}
use Rattle.command.specs.Rows.{row_in}
use Rattle.command.proofs.table.row_in.Given as goal

abbrev pub invariant-loop-row : goal.invariant-loop-row
invariant-loop-row l = row_in l.rows l.byte ≡ row_in (drop l.row-index l.rows) l.byte

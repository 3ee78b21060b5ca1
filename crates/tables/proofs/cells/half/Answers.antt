use mathlib.Core.Path.{◌∙◌}
use Rattle.tables.specs.Cells.{half_in}
use Rattle.tables.proofs.cells.half.Goals as goal

pub returns : goal.returns
unfolding half_in
returns c = c.half_of.ensures ∙ rw c.entry-x.ensures

use mathlib.Core.Path.{◌∙◌}
use Rattle.tables.specs.Cells.{put_half}
use Rattle.tables.proofs.cells.put_half.Goals as goal

pub returns : goal.returns
unfolding put_half
returns c = c.put.ensures
    ∙ rw (c.with_half.ensures, c.entry-x.ensures)

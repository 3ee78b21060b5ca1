use mathlib.Core.Path.{◌∙◌}
use Rattle.tables.specs.Cells.{put_half}
use Rattle.tables.specs.Writes.{made}
use Rattle.notes.proofs.chains.note_range.Goals as goal

pub returns : goal.returns
unfolding made put_half
returns c = c.note_item.ensures
    ∙ rw (c.put_half.ensures, c.one_more.ensures, c.last_range-before.ensures, c.count-number.ensures)

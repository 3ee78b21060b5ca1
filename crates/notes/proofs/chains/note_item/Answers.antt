use mathlib.Core.Path.{◌∙◌}
use Rattle.tables.specs.Writes.{made}
use Rattle.notes.proofs.chains.note_item.Goals as goal

pub returns : goal.returns
unfolding made
returns c = c.put-4.ensures
    ∙ rw (
      c.one_more.ensures,
      c.put-3.ensures,
      c.put-2.ensures,
      c.put.ensures,
    )

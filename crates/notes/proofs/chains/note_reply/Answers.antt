use mathlib.Core.Path.{◌∙◌}
use Rattle.tables.specs.Writes.{made}
use Rattle.notes.proofs.chains.note_reply.Goals as goal

pub returns : goal.returns
unfolding made
returns c = c.note_item.ensures
    ∙ rw (c.put.ensures, c.one_more.ensures, c.last_reply-before.ensures, c.count-number.ensures)

use mathlib.Core.Path.{◌∙◌}
use Rattle.notes.proofs.Noting.{stands-noted}
use Rattle.notes.proofs.note.Goals as goal

pub returns : goal.returns
returns c = stands-noted _ c.args.c _ _ _ _ c.count_of-have.ensures
    c.note_content.ensures
    (c.put.ensures ∙ rw c.one_more.ensures) c.put-2.ensures

use mathlib.Core.Path.{sym, ap, ◌∙◌}
use Rattle.tables.specs.Items.{second_of}
use Rattle.items.proofs.Searching.{found_none}
use Rattle.declared.proofs.reply_to.Goals as goal

pub returns-then-last-eq0 : goal.returns-then-last-eq0
returns-then-last-eq0 c = sym (ap second_of (found_none _ _ _ (sym c.last_reply-last.ensures ∙ c.if-last-eq0.true)))

use mathlib.Core.Path.{◌∙◌, ap}
use Rattle.entries.specs.Entries.{entry_for}
use Rattle.entries.proofs.Events.{read_left, write-left}
use Rattle.entries.proofs.event_of.Goals as goal

pub returns-in-Get : goal.returns-in-Get
returns-in-Get c hs s n a v = rw c.in-Get.is
    (ap (entry_for n) c.read_of.ensures ∙ read_left c.args.tables.now hs s n _ _
    v)

pub returns-in-Put : goal.returns-in-Put
returns-in-Put c hs s n a v = rw c.in-Put.is
    (ap (entry_for n) c.write_of.ensures ∙ write-left c.args.tables.now hs s n _
    _ a)

pub returns-in-Plus : goal.returns-in-Plus
returns-in-Plus c hs s n a v = rw c.in-Plus.is
    (ap (entry_for n) c.read_of-in-Plus.ensures ∙ read_left c.args.tables.now hs s n _ _
    v)

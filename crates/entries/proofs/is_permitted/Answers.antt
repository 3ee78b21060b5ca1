use mathlib.Core.Path.{◌∙◌, sym}
use Rattle.entries.proofs.Names.{read_by, write_by, call_by}
use Rattle.entries.proofs.is_permitted.Goals as goal

pub returns-in-Read : goal.returns-in-Read
returns-in-Read c hs = rw c.in-Read.is (c.may_read.ensures
    ∙ sym (read_by c.args.tables.now hs _ _))

pub returns-in-Write : goal.returns-in-Write
returns-in-Write c hs = rw c.in-Write.is (c.may_write.ensures
    ∙ sym (write_by c.args.tables.now hs _ _))

pub returns-in-Call : goal.returns-in-Call
returns-in-Call c hs = rw c.in-Call.is (c.may_call.ensures
    ∙ sym (call_by c.args.tables.now hs _ _ _))

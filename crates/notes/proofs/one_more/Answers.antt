use borrow.Author.Tests.{lt-ltb, le-ltb}
use Rattle.tables.specs.Writes.{one_more}
use Rattle.notes.proofs.one_more.Goals as goal

pub returns-then-n-lt65536 : goal.returns-then-n-lt65536
unfolding one_more
returns-then-n-lt65536 c = rw (lt-ltb _ 65536 c.if-n-lt65536.true)

pub returns : goal.returns
unfolding one_more
returns c = rw (le-ltb _ 65536 c.if-n-lt65536.false)

use borrow.Author.Tests.{lt-ltb, le-ltb}
use Rattle.tables.proofs.Setting.{bit_zero}
use Rattle.declared.proofs.targets_of.Goals as goal

pub returns-then-port-lt4 : goal.returns-then-port-lt4
returns-then-port-lt4 c k h = rw (lt-ltb _ 4 c.if-port-lt4.true) (c.marks_of.ensures k h)

pub returns : goal.returns
returns c k h = rw (le-ltb _ 4 c.if-port-lt4.false) (bit_zero k)

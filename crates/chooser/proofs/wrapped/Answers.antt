use native.Mathlib.Omega.{arith}
use borrow.Author.Tests.{lt-ltb, le-ltb}
use Rattle.chooser.proofs.wrapped.Goals as goal

pub returns-then-n-nodes : goal.returns-then-n-nodes
returns-then-n-nodes c = rw (lt-ltb c.args.n c.args.nodes (omega (arith, c.if-n-nodes.true)))

pub returns : goal.returns
returns c = rw (le-ltb c.args.n c.args.nodes (omega (arith, c.if-n-nodes.false)))

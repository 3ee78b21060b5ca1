use mathlib.Core.Path.{ap}
use native.Mathlib.Omega.{arith}
use borrow.Author.Rules.{rules}
use lib.ListN.{length}
use Rattle.tables.proofs.Places.{places-zero, places-next}
use Rattle.tables.proofs.bits.PlacesIterator.next.Goals as goal

pub returns-then-left-eq0-clause-steps : goal.returns-then-left-eq0-clause-steps
returns-then-left-eq0-clause-steps c = rw c.if-left-eq0.true (places-zero, places-zero)

pub returns-clause-steps : goal.returns-clause-steps
returns-clause-steps c = places-next c.args.self.now.0 (omega (arith, c.if-left-eq0.false)) (search rules)

pub returns-clause-goes : goal.returns-clause-goes
returns-clause-goes c = let less = ap length (places-next c.args.self.now.0 (omega (arith, c.if-left-eq0.false)) (search rules)) in search rules

use Rattle.command.proofs.Taken.{read_missing, read-cut}
use Rattle.command.proofs.read.extent_of.Goals as goal

pub returns-in_default : goal.returns-in_default
returns-in_default c = read_missing _ _ (rw c.in_default.is at c.requires.1)

pub returns-then-job-next : goal.returns-then-job-next
returns-then-job-next c = read-cut _ _ _ _ (rw c.in-Some.is at c.requires.1) c.unpack-shape.ensures c.if-job-next.true

use Rattle.writing.proofs.Placing.{writes_nothing}
use Rattle.printing.proofs.put_total.Goals as goal

pub returns-in-Written : goal.returns-in-Written
returns-in-Written c = rw c.in-Written.is (writes_nothing _ _)

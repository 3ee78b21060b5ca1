use mathlib.Core.Path.{ap}
use native.Mathlib.Omega.{arith}
use lib.ListN.{length}
use Rattle.writing.proofs.put_word.Goals as goal

pub put_all-requires : goal.put_all-requires
put_all-requires c = omega (arith, c.requires, ap length c.to_le_bytes.ensures)

pub returns : goal.returns
returns c = rw c.to_le_bytes.ensures at c.put_all.ensures

use mathlib.Core.Path.{refl}
use native.Mathlib.Omega.{arith}
use Rattle.writing.proofs.Placing.{placed_over}
use Rattle.writing.proofs.put_all.Goals as goal

pub returns : goal.returns
returns g c = record { place = refl; buffer = placed_over _ _ _ _ _ c.copy_from_slice.ensures.after (omega arith) }

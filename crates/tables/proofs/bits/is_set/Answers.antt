use mathlib.Core.Path.{refl}
use Rattle.tables.specs.Bits.{bit_of}
use Rattle.tables.proofs.bits.is_set.Goals as goal

pub returns : goal.returns
unfolding bit_of
returns c = refl

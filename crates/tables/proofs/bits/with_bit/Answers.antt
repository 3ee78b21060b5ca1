use Rattle.tables.proofs.Setting.{or-sets}
use Rattle.tables.proofs.bits.with_bit.Goals as goal

pub returns : goal.returns
returns c = or-sets _ _ c.requires

use mathlib.Core.Path.{refl}
use Rattle.model.specs.Table.{operands_in, operands_of, is_among, largest_in, largest_of}
use Rattle.command.proofs.Shaped.{row-found}
use Rattle.command.proofs.table.look_up.Goals as goal

-- the code's rows and the model's agree: computed
pub returns : goal.returns
unfolding operands_of operands_in is_among largest_in largest_of
returns c = row-found _ _ _ c.row_in.ensures (record { same = refl })

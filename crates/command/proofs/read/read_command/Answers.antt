use mathlib.Core.Path.{sym, ap, ◌∙◌}
use Rattle.command.specs.Reading.{others_at}
use Rattle.command.proofs.Taken.{read_all, read_known}
use Rattle.command.proofs.read.read_command.Goals as goal

pub returns : goal.returns
returns c = (
  read_all _ _ _ _ c.in_ok-extent.ensures _ c.unpack-shape.ensures _ _ c.operand-first.ensures (c.read_others-others.ensures ∙ ap (others_at _ _) (sym c.unpack-shape.ensures)),
  read_known _ _ _ _ c.in_ok-extent.ensures _ c.unpack-shape.ensures _ c.read_others-others.result,
)

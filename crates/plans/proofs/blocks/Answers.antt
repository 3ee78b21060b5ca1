use mathlib.Core.Path.{◌∙◌}
use Rattle.plans.proofs.Deciding.{full_blocks}
use Rattle.plans.proofs.blocks.Goals as goal

pub returns-in-Send : goal.returns-in-Send
returns-in-Send c hs s h = rw c.in-Send.is
    (c.has_full.ensures ∙ full_blocks c.args.tables.now hs
    c.args.waiting.now s _ _ h)

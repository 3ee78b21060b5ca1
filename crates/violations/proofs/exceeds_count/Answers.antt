use Rattle.violations.proofs.Judging.{exceeds_same}
use Rattle.violations.proofs.exceeds_count.Goals as goal

pub returns : goal.returns
returns c = λ past s.
    exceeds_same _ c.args.c past s _ _ _ _ _ c.requires c.unpack-shape.ensures
    c.counted-have.ensures c.open_node-opened.ensures
    c.length_of-inside.ensures c.is_handler-handler.ensures

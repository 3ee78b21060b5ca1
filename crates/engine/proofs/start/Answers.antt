use Rattle.engine.proofs.Starting.{started}
use Rattle.engine.proofs.start.Goals as goal

pub returns : goal.returns
returns c = started _ _ _ _ c.count_of-nodes.result _ c.fill_queues.ensures.size c.fill_queues.ensures.queues c.fill_queues.ensures.slots c.fill_variables.ensures c.count_of-nodes.ensures
    c.count_ready.ensures

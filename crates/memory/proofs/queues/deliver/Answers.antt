use Rattle.tables.specs.Tables.{wired_in}
use Rattle.memory.proofs.Sending.{sends-all}
use Rattle.memory.proofs.queues.deliver.Goals as goal

pub loop-target-init : goal.loop-target-init
loop-target-init c =
    rw c.into_iter-target-iterator.ensures.into_iter_gives
    (sends-all (wired_in c.args.tables.now c.args.n.0 c.args.port) _ _ _ _ _ c.requires.waiting_value _ c.targets_of-targets.ensures)

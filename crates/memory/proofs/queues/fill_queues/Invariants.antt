use mathlib.Core.List.{map}
use lib.ListN.{get_or}
use Rattle.model.specs.State.{start_sender, message_from}
use Rattle.tables.specs.Tables.{firsts_in}
use Rattle.memory.specs.Queues.{BringsOnly}
use Rattle.memory.proofs.Filled.{Queued}
use Rattle.memory.proofs.queues.fill_queues.Given as goal

abbrev pub invariant-loop-n : goal.invariant-loop-n
invariant-loop-n l = Queued (λ k. map (message_from start_sender) (firsts_in l.tables k)) l.n l.waiting (map (message_from start_sender) l.queue)
    × BringsOnly (λ k. message_from start_sender (get_or (firsts_in l.tables k) 0 0)) (map (message_from start_sender) l.initial.queue)
    (map (message_from start_sender) l.queue)

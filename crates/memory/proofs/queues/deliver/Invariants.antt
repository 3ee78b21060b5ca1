use Rattle.tables.specs.Bits.{places}
use Rattle.tables.specs.Tables.{wired_in}
use Rattle.memory.specs.Queues.{stored, counted}
use Rattle.memory.proofs.Sending.{Sends}
use Rattle.memory.proofs.queues.deliver.Given as goal

abbrev pub invariant-loop-target : goal.invariant-loop-target
invariant-loop-target l =
    let target = wired_in l.tables l.fn.n.0 l.port in
    Sends l.value l.from (counted target l.initial.waiting 32) (stored target l.initial.waiting l.value l.initial.queue 32)
    (stored target l.initial.waiting l.from l.initial.sender 32) (places l.target-iterator.0) l.waiting l.queue l.sender

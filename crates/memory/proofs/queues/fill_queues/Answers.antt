use Prim.Native.Nat.{ℕ, ◌*◌}
use mathlib.Core.Path.{ap, ◌∙◌}
use mathlib.Core.List.{List, map}
use native.Mathlib.Omega.{arith}
use borrow.Author.Rules.{rules}
use lib.ListN.{get_or, length-map}
use Rattle.model.specs.State.{start_sender, message_from}
use Rattle.tables.specs.Tables.{firsts_in}
use Rattle.memory.proofs.Pairing.{map-set}
use Rattle.memory.proofs.Waiting.{brings-set}
use Rattle.memory.proofs.Filled.{queued_none, queued_one, queued_empty, queued_all}
use Rattle.memory.proofs.queues.fill_queues.Goals as goal
use Rattle.memory.proofs.queues.fill_queues.Goals.{in-Some, in_default}

pub loop-n-init : goal.loop-n-init
loop-n-init c = (queued_none _ _ _ (length-map c.args.queue.now (message_from start_sender) ∙ search rules) (search rules), λ test own all. all)

pub loop-n-preserved : goal.loop-n-preserved
loop-n-preserved c = elim c.match-first_message.branch [
  | in-Some w ↦
      let first = w.in-Some.ensures in
      rw (w.queue-is, w.waiting-is, map-set start_sender c.loop-n.queue (c.loop-n.n * 16) w.in-Some.value) (
        queued_one c.loop-n.invariant.0 _ (omega arith) (ap (map (message_from start_sender)) first),
        brings-set (λ k. message_from start_sender (get_or (firsts_in c.args.tables.now k) 0 0)) (map (message_from start_sender) c.args.queue.now)
            (map (message_from start_sender) c.loop-n.queue) _ _ c.loop-n.n (ap (λ (m : List ℕ). message_from start_sender (get_or m 0 0)) first) c.loop-n.invariant.1,
      )
  | in_default w ↦ rw (w.queue-is, w.waiting-is) (queued_empty c.loop-n.invariant.0 (omega arith) (ap (map (message_from start_sender)) w.in_default.ensures), c.loop-n.invariant.1)
]

pub returns-clause-queues : goal.returns-clause-queues
returns-clause-queues c = queued_all c.loop-n.invariant.0 (omega arith)

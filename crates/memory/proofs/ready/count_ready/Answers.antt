use mathlib.Core.Path.{sym, ◌∙◌}
use native.Mathlib.Omega.{arith}
use Rattle.model.proofs.Counting.{count_nothing, count-passes, count-fails, count_most}
use Rattle.memory.specs.Ready.{ready_in}
use Rattle.memory.proofs.ready.count_ready.Goals as goal
use Rattle.memory.proofs.ready.count_ready.Goals.{then-is_ready, else-is_ready}

pub loop-n-init : goal.loop-n-init
loop-n-init c = sym (count_nothing _)

pub overflow_add-count : goal.overflow_add-count
overflow_add-count c = omega (arith, count_most (ready_in c.args.position.now c.args.waiting.now) c.loop-n.n, c.loop-n.invariant)

pub loop-n-preserved : goal.loop-n-preserved
loop-n-preserved c = let test = ready_in c.args.position.now c.args.waiting.now in
    elim c.if-is_ready.branch [
      | then-is_ready w ↦ rw w.count-is (count-passes test c.loop-n.n c.loop-n.count c.loop-n.invariant (sym c.is_ready.ensures ∙ w.if-is_ready.true))
      | else-is_ready w ↦ rw w.count-is (count-fails test c.loop-n.n c.loop-n.count c.loop-n.invariant (sym c.is_ready.ensures ∙ w.if-is_ready.false))
    ]

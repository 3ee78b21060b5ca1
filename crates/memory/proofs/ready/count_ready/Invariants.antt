use mathlib.Core.Path.{◌≡◌}
use Rattle.memory.specs.Ready.{ready_count_in}
use Rattle.memory.proofs.ready.count_ready.Given as goal

abbrev pub invariant-loop-n : goal.invariant-loop-n
invariant-loop-n l = l.count ≡ ready_count_in l.position l.waiting l.n

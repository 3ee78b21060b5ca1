use mathlib.Core.Path.{◌≡◌}
use Rattle.tables.specs.Bits.{bit_of}
use Rattle.memory.specs.Queues.{counted}
use Rattle.tally.proofs.Adding.{Ahead}
use Rattle.tally.proofs.counting.add_targets.Given as goal

abbrev pub invariant-loop-target : goal.invariant-loop-target
invariant-loop-target l = Ahead l.targets l.target l.ahead × (l.counts ≡ counted (bit_of l.targets) l.initial.counts l.target)

use Prim.Native.Nat.{◌-◌}
use lib.ListN.{length}
use Rattle.model.specs.Refusal.{decode_job, commands_of}
use Rattle.handlers.proofs.Keeping.{Keeping}
use Rattle.handlers.proofs.load.load.Given as goal

abbrev pub invariant-loop-at : goal.invariant-loop-at
invariant-loop-at l = Keeping l.job (commands_of (decode_job l.job)) l.initial.work l.work l.at l.opened.0 l.index

abbrev pub decreases-loop-at : goal.decreases-loop-at
decreases-loop-at l = length l.job - l.at

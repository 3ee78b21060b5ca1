use Prim.Native.Nat.{◌-◌}
use mathlib.Core.Path.{◌≡◌}
use mathlib.Core.List.{List}
use lib.ListN.{length}
use Rattle.model.specs.Command.{Command}
use Rattle.model.specs.Refusal.{accepted, decode}
use Rattle.tables.specs.Stands.{Stands}
use Rattle.uses.specs.Uses.{Uses}
use Rattle.job.proofs.Looking.{Looking}
use Rattle.job.proofs.later.check_later.Given as goal

abbrev pub invariant-loop-at : goal.invariant-loop-at
invariant-loop-at l = (all : List Command) → decode l.job ≡ accepted all → Stands l.tables all → Uses l.uses all
    → Looking l.job all l.at l.opened.0 l.unused

abbrev pub decreases-loop-at : goal.decreases-loop-at
decreases-loop-at l = length l.job - l.at

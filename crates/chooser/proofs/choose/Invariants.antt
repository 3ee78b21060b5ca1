use Prim.Native.Nat.{◌-◌}
use Rattle.chooser.proofs.Searching.{Searched}
use Rattle.chooser.proofs.choose.Given as goal

abbrev pub invariant-loop-n : goal.invariant-loop-n
invariant-loop-n l = Searched l.position l.waiting l.nodes l.from l.n l.examined

abbrev pub decreases-loop-n : goal.decreases-loop-n
decreases-loop-n l = l.nodes - l.examined

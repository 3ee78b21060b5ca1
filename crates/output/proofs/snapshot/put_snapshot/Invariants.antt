use Rattle.engine.specs.Engine.{view}
use Rattle.output.proofs.Parts.{Shown}
use Rattle.output.proofs.snapshot.put_snapshot.Given as goal

abbrev pub invariant-loop-n : goal.invariant-loop-n
invariant-loop-n l = Shown (view l.state) l.initial.snapshot l.n l.snapshot l.at

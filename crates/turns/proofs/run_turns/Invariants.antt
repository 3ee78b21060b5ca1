use Rattle.turns.proofs.Running.{Going}
use Rattle.turns.proofs.run_turns.Given as goal

abbrev pub invariant-loop-k : goal.invariant-loop-k
invariant-loop-k l =
    Going l.order.schedule l.order.monitored l.job l.tables l.work l.initial.trace l.trace l.state l.halt l.turns l.examined l.from l.at l.k

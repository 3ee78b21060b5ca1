use Rattle.model.specs.Table.{max_variables}
use Rattle.tables.specs.Tables.{start_in}
use Rattle.memory.proofs.Filled.{Filled}
use Rattle.memory.proofs.variables.fill_variables.Given as goal

abbrev pub invariant-loop-x : goal.invariant-loop-x
invariant-loop-x l = Filled (start_in l.tables) 0 max_variables l.x l.variable

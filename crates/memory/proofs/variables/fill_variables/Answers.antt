use native.Mathlib.Omega.{arith}
use Rattle.memory.proofs.Filled.{filled-all}
use Rattle.memory.proofs.variables.fill_variables.Goals as goal

pub returns : goal.returns
returns c = filled-all c.loop-x.invariant (omega arith)

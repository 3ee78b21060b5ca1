-- What was passed is the filling.
use Rattle.std.proofs.Common.{take, ◌≡◌}
use Rattle.conformance.specs.Keeping.{filling}
use Rattle.conformance.proofs.buffers.fill.Given as goal

abbrev pub invariant-loop-i : goal.invariant-loop-i
invariant-loop-i l = take l.i l.buffer ≡ filling l.seed l.i

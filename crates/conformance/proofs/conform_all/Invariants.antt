-- The text of one more run fits after that which waits.
use Rattle.std.proofs.Common.{◌+◌, ◌≤◌}
use Rattle.conformance.proofs.conform_all.Given as goal

abbrev pub invariant-loop : goal.invariant-loop
invariant-loop g l = l.at + 131080 ≤ 262144

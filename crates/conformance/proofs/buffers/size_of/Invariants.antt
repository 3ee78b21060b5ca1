-- The place is where the part of the next node begins; a part has at most 1,285 bytes.
use Rattle.std.proofs.Common.{◌≡◌, ◌*◌, ◌≤◌}
use Rattle.output.specs.Finding.{part_at}
use Rattle.conformance.proofs.buffers.size_of.Given as goal

abbrev pub invariant-loop-n : goal.invariant-loop-n
invariant-loop-n l = record {
  begins : l.place ≡ part_at l.snapshot l.n;
  small : l.place ≤ 1285 * l.n;
}

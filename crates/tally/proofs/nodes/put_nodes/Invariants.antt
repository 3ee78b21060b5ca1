use Prim.Native.Nat.{◌*◌, ◌≤◌}
use mathlib.Core.Path.{◌≡◌}
use Rattle.writing.proofs.Putting.{Put}
use Rattle.tables.specs.Programs.{Handlers, program_in}
use Rattle.output.specs.Finding.{part_at}
use Rattle.tally.specs.Counted.{tally_by}
use Rattle.tally.proofs.nodes.put_nodes.Given as goal

abbrev pub invariant-loop-n : goal.invariant-loop-n
invariant-loop-n l = (l.place ≡ part_at l.snapshot l.n) × (l.place ≤ 1285 * l.n)
    × ((hs : Handlers) → Put (tally_by (program_in l.tables hs) l.arrivals l.takings l.snapshot) l.initial.counts 0 l.n l.counts l.at)

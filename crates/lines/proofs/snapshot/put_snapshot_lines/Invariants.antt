use mathlib.Core.Path.{◌≡◌}
use Rattle.writing.proofs.Putting.{Put}
use Rattle.output.specs.Finding.{part_at}
use Rattle.lines.specs.Lines.{part_line}
use Rattle.lines.proofs.snapshot.put_snapshot_lines.Given as goal

abbrev pub invariant-loop-n : goal.invariant-loop-n
invariant-loop-n l = (l.place ≡ part_at l.snapshot l.n) × Put
    (part_line l.snapshot) l.initial.text l.at l.n l.text l.next

use Rattle.writing.proofs.Putting.{Put}
use Rattle.lines.specs.Lines.{variable_line}
use Rattle.lines.proofs.snapshot.put_variable_lines.Given as goal

abbrev pub invariant-loop-x : goal.invariant-loop-x
invariant-loop-x l = Put
    (variable_line l.snapshot l.place) l.initial.text l.at l.x l.text l.next

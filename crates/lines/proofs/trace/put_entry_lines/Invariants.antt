use Rattle.writing.proofs.Putting.{Put}
use Rattle.lines.specs.Lines.{entry_line}
use Rattle.lines.proofs.trace.put_entry_lines.Given as goal

abbrev pub invariant-loop-k : goal.invariant-loop-k
invariant-loop-k l = Put (entry_line l.trace) l.initial.text l.at l.k l.text l.next

use Rattle.writing.proofs.Putting.{Put}
use Rattle.lines.specs.Lines.{tally_line, four_at}
use Rattle.lines.proofs.tallies.put_tally_lines.Given as goal

abbrev pub invariant-loop-n : goal.invariant-loop-n
invariant-loop-n l = Put (λ k. tally_line k (four_at l.counts k)) l.initial.text l.at l.n l.text l.next

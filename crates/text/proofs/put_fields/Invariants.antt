use lib.ListN.{get_or}
use Rattle.text.specs.Text.{field}
use Rattle.writing.proofs.Putting.{Put}
use Rattle.text.proofs.put_fields.Given as goal

abbrev pub invariant-loop-number : goal.invariant-loop-number
invariant-loop-number l = Put (λ k. field (get_or l.numbers k 0)) l.initial.text l.at l.number-index l.text l.next

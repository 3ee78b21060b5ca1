use lib.ListN.{get_or}
use Rattle.model.specs.Output.{bytes4}
use Rattle.writing.proofs.Putting.{Put}
use Rattle.writing.proofs.put_words.Given as goal

abbrev pub invariant-loop-value : goal.invariant-loop-value
invariant-loop-value l = Put (λ k. bytes4 (get_or l.values k 0)) l.initial.buffer l.at l.value-index l.buffer l.next

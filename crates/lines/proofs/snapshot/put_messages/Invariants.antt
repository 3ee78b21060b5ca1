use Rattle.writing.proofs.Putting.{Put}
use Rattle.lines.proofs.Texts.{message_fields}
use Rattle.lines.proofs.snapshot.put_messages.Given as goal

abbrev pub invariant-loop-i : goal.invariant-loop-i
invariant-loop-i l = Put (message_fields l.snapshot l.place) l.initial.text l.at l.i l.text l.next

use lib.ListN.{length}
use Rattle.writing.proofs.Putting.{Put}
use Rattle.output.proofs.Messages.{message_bytes}
use Rattle.output.proofs.snapshot.put_messages.Given as goal

abbrev pub invariant-loop-value : goal.invariant-loop-value
invariant-loop-value l = Put (message_bytes l.values l.senders) l.initial.snapshot l.at (length l.yielded) l.snapshot l.next

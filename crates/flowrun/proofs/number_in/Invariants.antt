use Rattle.flowrun.proofs.Digits.{Digested}
use Rattle.flowrun.proofs.number_in.Given as goal

abbrev pub invariant-loop-digit : goal.invariant-loop-digit
invariant-loop-digit l = Digested l.word l.value l.digit-index

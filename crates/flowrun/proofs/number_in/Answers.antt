-- The number is that of the digits so far, and of those that are left.
use Rattle.std.proofs.Common.{arith}
use Rattle.flowrun.proofs.Digits.{digested_all, digested_other, digested_next}
use Rattle.flowrun.proofs.number_in.Goals as goal

-- another byte
pub returns-then-not-is_ascii_digit : goal.returns-then-not-is_ascii_digit
returns-then-not-is_ascii_digit c =
    let l = c.loop-digit in
    digested_other c.args.word.now (cc) c.if-word-gt-DIGITS.false l.value l.digit-index l.invariant (omega arith)
    c.if-not-is_ascii_digit.ensures.cases

-- one digit more
pub loop-digit-preserved : goal.loop-digit-preserved
loop-digit-preserved c =
    let l = c.loop-digit in
    rw c.from.ensures (digested_next c.args.word.now (cc) c.if-word-gt-DIGITS.false l.value l.digit-index l.invariant (omega arith)
    c.if-not-is_ascii_digit.ensures.cases)

-- all bytes are digits
pub returns : goal.returns
returns c =
    let l = c.loop-digit in
    digested_all c.args.word.now (cc) c.if-word-gt-DIGITS.false l.value l.digit-index l.invariant (omega arith)

use mathlib.Core.Path.{refl}
use mathlib.Core.Logic.{inl, inr}
use borrow.Author.Rules.{rules}
use Rattle.writing.proofs.Putting.{none-put, room, one-put, all-put}
use Rattle.lines.proofs.Texts.{messages-each}
use Rattle.lines.proofs.snapshot.put_messages.Goals as goal

pub loop-i-init : goal.loop-i-init
loop-i-init c = none-put _ _ _

pub operand-message-requires : goal.operand-message-requires
operand-message-requires c = (search rules, inl refl)

pub operand-sender-requires : goal.operand-sender-requires
operand-sender-requires c = (search rules, inr (inl refl))

pub put_fields-next-requires : goal.put_fields-next-requires
put_fields-next-requires c = rw (c.operand-message.ensures, c.operand-sender.ensures)
    (room _ _ _ _ (rw messages-each c.requires.count_in_bounds_2) c.loop-i.i c.loop-i-test.true _ _ c.loop-i.invariant)

pub loop-i-preserved : goal.loop-i-preserved
loop-i-preserved c = one-put _ _ _ _ (rw messages-each c.requires.count_in_bounds_2) c.loop-i.i c.loop-i-test.true _ _ c.loop-i.invariant _ _
    (rw (c.operand-message.ensures, c.operand-sender.ensures) at c.put_fields-next.ensures)

pub returns : goal.returns
returns c = rw messages-each at (all-put _ _ _ _ c.loop-i.i _ _ c.loop-i.auto.i-end c.loop-i-test.false c.loop-i.invariant)

use Rattle.writing.proofs.Putting.{none-put, room, one-put, all-put}
use Rattle.writing.proofs.Words.{numbers-each, numbers-room}
use Rattle.writing.proofs.put_words.Goals as goal

pub loop-value-init : goal.loop-value-init
loop-value-init c = none-put _ _ _

pub put_word-next-requires : goal.put_word-next-requires
put_word-next-requires c = room _ _ _ _ (numbers-room _ _ _ c.requires) c.loop-value.value-index c.loop-value-test.true _ _
    c.loop-value.invariant

pub loop-value-preserved : goal.loop-value-preserved
loop-value-preserved c = one-put _ _ _ _ (numbers-room _ _ _ c.requires) c.loop-value.value-index c.loop-value-test.true _ _
    c.loop-value.invariant _ _ c.put_word-next.ensures

pub returns : goal.returns
returns c = rw numbers-each at (all-put _ _ _ _ c.loop-value.value-index _ _ c.loop-value.auto.value-index-end
    c.loop-value-test.false c.loop-value.invariant)

use Rattle.writing.proofs.Putting.{none-put, room, one-put, all-put}
use Rattle.text.proofs.Putting.{fields-each}
use Rattle.text.proofs.put_fields.Goals as goal

pub loop-number-init : goal.loop-number-init
loop-number-init c = none-put _ _ _

pub put_field-next-requires : goal.put_field-next-requires
put_field-next-requires c = room _ _ _ _ (rw fields-each c.requires) c.loop-number.number-index c.loop-number-test.true _ _
    c.loop-number.invariant

pub loop-number-preserved : goal.loop-number-preserved
loop-number-preserved c = one-put _ _ _ _ (rw fields-each c.requires) c.loop-number.number-index c.loop-number-test.true _ _
    c.loop-number.invariant _ _ c.put_field-next.ensures

pub returns : goal.returns
returns c = rw fields-each at (all-put _ _ _ _ c.loop-number.number-index _ _ c.loop-number.auto.number-index-end
    c.loop-number-test.false c.loop-number.invariant)

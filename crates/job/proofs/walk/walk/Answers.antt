use Rattle.std.proofs.lemmas.Result.{err_from_is_err_and}
use Rattle.job.proofs.Judged.{walk_refuses}
use Rattle.job.proofs.Going.{decode_size, sized, going_start, going_end, going-stop, going_on}
use Rattle.job.proofs.walk.walk.Goals as goal

pub returns-then-is_empty-job : goal.returns-then-is_empty-job
returns-then-is_empty-job c = walk_refuses _ _ _ _ (decode_size _ (rw c.is_empty.ensures at c.if-is_empty-job.true))

pub loop-at-init : goal.loop-at-init
loop-at-init c = let n = sized _ (rw c.is_empty.ensures at c.if-is_empty-job.false) in (n.1, going_start _ _ _ n.0 n.1 c.clear.ensures c.requires)

pub returns-in_err-at : goal.returns-in_err-at
returns-in_err-at c = let g = c.loop-at.invariant.1 in
    let p = err_from_is_err_and c.from_residual.result c.from_residual.ensures.1 in rw (p.1, p.2)
    (going-stop _ _ _ _ g c.loop-at-test.true _ _ _ (c.in_err-at.ensures g.past g.stands g.uses g.valid g.short))

pub loop-at-preserved : goal.loop-at-preserved
loop-at-preserved c = let g = c.loop-at.invariant.1 in
    (c.loop-at.invariant.0, going_on _ _ _ _ g c.loop-at-test.true _ _ _ (c.in_ok-at.ensures g.past g.stands g.uses g.valid g.short))

pub returns : goal.returns
returns c = going_end _ _ _ _ c.loop-at.invariant.1 c.loop-at-test.false

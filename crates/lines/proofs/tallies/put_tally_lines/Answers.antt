use Rattle.writing.proofs.Putting.{none-put, room, one-put, all-put}
use Rattle.lines.specs.Lines.{four_at}
use Rattle.lines.proofs.Texts.{tally-same}
use Rattle.lines.proofs.tallies.put_tally_lines.Goals as goal

pub loop-n-init : goal.loop-n-init
loop-n-init c = none-put _ _ _

pub put_line-next-requires : goal.put_line-next-requires
put_line-next-requires c = rw (tally-same c.loop-n.n (four_at c.args.counts.now c.loop-n.n)) at
    (room _ _ _ _ c.requires.nodes_in_bounds_2 c.loop-n.n c.loop-n-test.true _ _ c.loop-n.invariant)

pub loop-n-preserved : goal.loop-n-preserved
loop-n-preserved c = one-put _ _ _ _ c.requires.nodes_in_bounds_2 c.loop-n.n c.loop-n-test.true _ _ c.loop-n.invariant _ _
    (rw (tally-same c.loop-n.n (four_at c.args.counts.now c.loop-n.n)) c.put_line-next.ensures)

pub returns : goal.returns
returns c = all-put _ _ _ _ c.loop-n.n _ _ c.loop-n.auto.n-end c.loop-n-test.false c.loop-n.invariant

use native.Mathlib.Omega.{arith}
use Rattle.writing.proofs.Putting.{none-put, room, one-put, all-put}
use Rattle.lines.proofs.trace.put_entry_lines.Goals as goal

pub loop-k-init : goal.loop-k-init
loop-k-init c = none-put _ _ _

pub put_entry_line-next-requires : goal.put_entry_line-next-requires
put_entry_line-next-requires c = record {
  k_in_bounds = omega (arith, c.requires.turns_in_bounds, c.loop-k-test.true);
  k_in_bounds_2 = room _ _ _ _
      c.requires.turns_in_bounds_2 c.loop-k.k c.loop-k-test.true _ _ c.loop-k.invariant;
}

pub loop-k-preserved : goal.loop-k-preserved
loop-k-preserved c = one-put _ _ _ _ c.requires.turns_in_bounds_2 c.loop-k.k
    c.loop-k-test.true _ _ c.loop-k.invariant _ _ c.put_entry_line-next.ensures

pub returns : goal.returns
returns c = all-put _ _ _ _ c.loop-k.k _ _ c.loop-k.auto.k-end c.loop-k-test.false c.loop-k.invariant

use mathlib.Core.Path.{sym, ap, ◌∙◌}
use native.Mathlib.Omega.{arith}
use Rattle.tables.specs.Items.{second_of}
use Rattle.items.proofs.Searching.{found_hit, found_miss, found_none}
use Rattle.items.proofs.find.Goals as goal

pub returns-then-fits : goal.returns-then-fits
returns-then-fits c = let h = rw (
  c.fits.ensures,
  c.entry-second.ensures,
  c.entry-first.ensures,
  c.entry-link.ensures,
) at c.if-fits.true in
    rw c.entry-second.ensures
    (sym (ap second_of (c.loop-at.invariant ∙ found_hit _ _ c.loop-at.at c.loop-at-test.true h)))

pub loop-at-preserved : goal.loop-at-preserved
loop-at-preserved c = let h = rw (
  c.fits.ensures,
  c.entry-second.ensures,
  c.entry-first.ensures,
  c.entry-link.ensures,
) at c.if-fits.false in
    c.loop-at.invariant ∙ found_miss _ _ c.loop-at.at c.loop-at-test.true h _
    (c.go_back-at.ensures ∙ rw c.entry-link.ensures)

pub returns : goal.returns
returns c = sym (ap second_of (c.loop-at.invariant ∙ found_none _ _ c.loop-at.at (omega arith)))

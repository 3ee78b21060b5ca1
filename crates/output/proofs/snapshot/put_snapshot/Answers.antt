use mathlib.Core.Path.{◌≡◌}
use native.Mathlib.Omega.{arith}
use borrow.Author.Rules.{rules}
use Rattle.output.proofs.Parts.{none_shown, view_bounded, one_shown, all_shown}
use Rattle.output.proofs.snapshot.put_snapshot.Goals as goal

pub loop-n-init : goal.loop-n-init
loop-n-init c = none_shown _ _

pub loop-n-preserved : goal.loop-n-preserved
loop-n-preserved c = one_shown _ (view_bounded c.args.state.now c.requires.bounded_counts) _ c.loop-n.n c.loop-n.snapshot c.loop-n.at _ _
    (omega (arith, c.loop-n-test.true, c.requires.snapshot_size_in_bounds.0, c.requires.snapshot_size_in_bounds.1)) (search rules)
    c.loop-n.invariant (record { part = c.put_node-at.ensures.part; place = c.put_node-at.ensures.place })

pub returns : goal.returns
returns c = let e : c.loop-n.n ≡ c.args.nodes = omega (arith, c.loop-n.auto.n-end, c.loop-n-test.false) in
    all_shown _ c.args.nodes c.args.variables _ c.loop-n.snapshot c.loop-n.at _ _
    (omega (arith, c.loop-n.invariant.short, c.loop-n.auto.n-end, c.requires.snapshot_size_in_bounds.0, c.requires.snapshot_size_in_bounds.1, c.requires.snapshot_size_in_bounds.2))
    (rw e at c.loop-n.invariant.place) (rw e at c.loop-n.invariant.parts) c.put_variables.ensures.part

use native.Mathlib.Omega.{arith}
use mathlib.Core.Path.{sym, ◌∙◌}
use Rattle.chooser.proofs.Searching.{searched_nobody, searched_first, searched_found, searched_next}
use Rattle.chooser.proofs.choose.Goals as goal

pub returns-then-ready-eq0 : goal.returns-then-ready-eq0
returns-then-ready-eq0 c = searched_nobody c.args.position.now c.args.waiting.now c.args.nodes c.args.from c.requires.nodes_bound.1 (sym c.requires.ready_value ∙ c.if-ready-eq0.true)

pub loop-n-init : goal.loop-n-init
loop-n-init c = rw c.wrapped-n.ensures
    (searched_first c.args.position.now c.args.waiting.now c.args.nodes c.args.from c.requires.nodes_bound.1 (omega (arith, c.requires.ready_value, c.if-ready-eq0.false)))

pub loop-n-preserved : goal.loop-n-preserved
loop-n-preserved c = rw c.wrapped-n-in-loop-n.ensures (searched_next c.args.position.now c.args.waiting.now c.args.nodes c.args.from c.requires.nodes_bound.1 c.loop-n.n c.loop-n.examined
    c.loop-n.invariant (sym c.is_ready.ensures ∙ c.if-is_ready.false))

pub returns : goal.returns
returns c = searched_found c.args.position.now c.args.waiting.now c.args.nodes c.args.from c.requires.nodes_bound.1 c.loop-n.n c.loop-n.examined c.loop-n.invariant
    (sym c.is_ready.ensures ∙ c.if-is_ready.true)

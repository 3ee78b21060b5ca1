use Prim.Native.Nat.{◌<◌}
use mathlib.Core.Path.{refl}
use borrow.Author.Rules.{rules}
use Rattle.tables.specs.Tables.{wired_in}
use Rattle.memory.specs.Queues.{count_at}
use Rattle.memory.specs.Changes.{Possible}
use Rattle.memory.specs.Ready.{ReadyCounted}
use Rattle.memory.proofs.Readying.{among_below}
use Rattle.engine.proofs.Carried.{Lengths, ready-counted, can_change, carried_out}
use Rattle.engine.proofs.State.turn.Goals as goal
use Rattle.engine.proofs.State.turn.Goals.{Start, After-plan_turn-plan}

-- the lengths of the arrays, and that the node is below 32
lengths : (z : Start) → Lengths z.args.self
lengths z = record { positions = search rules; counts = search rules; places = search rules; beside = search rules }

inside : (z : Start) → z.args.n.0 < 32
inside z = among_below z.requires.among

-- the ready count before the turn
before : (z : Start) → ReadyCounted z.args.tables.now z.args.n.0 z.args.self.position z.args.self.waiting z.args.self.ready
before z =
    let a = z.args in
    ready-counted a.tables.now a.fetched a.self a.n a.monitored z.requires.bounded_counts (lengths z) z.requires.among z.requires.counts_ready

-- the planned change can be carried out
can : (p : After-plan_turn-plan) → Possible (wired_in p.args.tables.now p.args.n.0) p.args.n.0 (count_at p.args.self.waiting)
    p.plan_turn-plan.result.change
can p =
    let a = p.args in
    let known : Lengths a.self = record { positions = search rules; counts = search rules; places = search rules; beside = search rules } in
    can_change a.tables.now a.fetched a.self a.n a.monitored p.requires.bounded_counts known p.plan_turn-plan.result
    p.plan_turn-plan.ensures.plans_turn (among_below p.requires.among)

pub plan_turn-plan-requires : goal.plan_turn-plan-requires
plan_turn-plan-requires c = record {
  fact = c.requires.fact;
  ready_counted = before (goal.at.plan_turn-plan-requires c).Start;
  position_value = refl;
}

pub change_queues-requires : goal.change_queues-requires
change_queues-requires c = record {
  n_bound = inside (goal.at.change_queues-requires c).Start;
  possible = can (goal.at.change_queues-requires c).After-plan_turn-plan;
}

pub returns : goal.returns
returns c = carried_out c.args.tables.now c.args.fetched c.args.self c.args.n c.args.monitored c.requires.bounded_counts (lengths (goal.at.returns c).Start) c.plan_turn-plan.result
    c.plan_turn-plan.ensures.plans_turn (inside (goal.at.returns c).Start) _ _ _ _ c.change_queues.ensures.senders
    (c.change_queues.ensures.values, c.change_queues.ensures.counts) c.change_variable.ensures (before (goal.at.returns c).Start) c.plan_turn-plan.ensures.ready

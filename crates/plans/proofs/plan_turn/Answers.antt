use mathlib.Core.Path.{sym, ap, ◌∙◌}
use native.Mathlib.Omega.{arith}
use Rattle.model.specs.State.{message_from}
use Rattle.command.specs.Instructions.{fetched_of}
use Rattle.command.proofs.Fetching.{inside-command, after-command}
use Rattle.tables.specs.Programs.{program_in}
use Rattle.memory.proofs.Readying.{ready_less, ready-same}
use Rattle.plans.proofs.Turning.{unready-planned, begun-planned, finished-planned, executed-planned}
use Rattle.plans.proofs.plan_turn.Goals as goal
use Rattle.plans.proofs.plan_turn.Goals.{then-waiting-i-eq0-2, else-waiting-i-eq0-2}

pub returns-then-waiting-i-eq0-clause-plans_turn : goal.returns-then-waiting-i-eq0-clause-plans_turn
returns-then-waiting-i-eq0-clause-plans_turn c hs s h counts first fetches = rw c.stopped.ensures
    (unready-planned (program_in c.args.tables.now hs) s c.args.n c.args.monitored c.args.registers h.own
    c.if-registers-eq-IDLE.true (counts c.args.n.0 ∙ c.if-waiting-i-eq0.true) _)

pub returns-then-registers-eq-IDLE-clause-plans_turn : goal.returns-then-registers-eq-IDLE-clause-plans_turn
returns-then-registers-eq-IDLE-clause-plans_turn c hs s h counts first fetches = rw c.made.ensures
    (begun-planned (program_in c.args.tables.now hs) s c.args.n c.args.monitored c.args.registers h.own
    c.if-registers-eq-IDLE.true
    (λ e. c.if-waiting-i-eq0.false (sym (counts c.args.n.0) ∙ e)) (message_from c.args.sender c.args.oldest)
    (first (omega (arith, counts c.args.n.0, c.if-waiting-i-eq0.false))) _)

pub overflow_sub-left : goal.overflow_sub-left
overflow_sub-left c = (ready_less _ _ _ _ _ c.requires.ready_counted (λ e. c.if-registers-eq-IDLE.false (c.requires.position_value ∙ e)) c.if-waiting-i-eq0-2.true).0

pub returns-in-Some-clause-plans_turn : goal.returns-in-Some-clause-plans_turn
unfolding program_in
returns-in-Some-clause-plans_turn c hs s h counts first fetches =
    let inside = inside-command (hs c.args.n.0) c.args.registers.position _
    (sym (ap fetched_of c.in-Some.is) ∙ fetches) in
    executed-planned (program_in c.args.tables.now hs) s c.args.n c.args.monitored c.args.registers h.own c.if-registers-eq-IDLE.false inside.0 _ inside.1 _
    (c.decide.ensures.plans_command hs s h counts)

pub returns-after-waiting-i-eq0-2-clause-plans_turn : goal.returns-after-waiting-i-eq0-2-clause-plans_turn
unfolding program_in
returns-after-waiting-i-eq0-2-clause-plans_turn c hs s h counts first fetches = rw c.made-in-None.ensures
    (finished-planned (program_in c.args.tables.now hs) s c.args.n c.args.monitored c.args.registers h.own c.if-registers-eq-IDLE.false
    (after-command (hs c.args.n.0) c.args.registers.position
    (sym (ap fetched_of c.in-None.is) ∙ fetches)) _)

pub returns-after-waiting-i-eq0-2-clause-ready : goal.returns-after-waiting-i-eq0-2-clause-ready
returns-after-waiting-i-eq0-2-clause-ready c ends = rw c.made-in-None.ensures
    (elim c.if-waiting-i-eq0-2.branch [
      | then-waiting-i-eq0-2 w ↦ w.left-is ∙ (ready_less _ _ _ _ _ c.requires.ready_counted
          (λ e. c.if-registers-eq-IDLE.false (c.requires.position_value ∙ e)) w.if-waiting-i-eq0-2.true).1
      | else-waiting-i-eq0-2 w ↦ w.left-is ∙ ready-same _ _ _ _ _ c.requires.ready_counted
          (λ e. c.if-registers-eq-IDLE.false (c.requires.position_value ∙ e)) w.if-waiting-i-eq0-2.false
    ])

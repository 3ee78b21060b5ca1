use mathlib.Core.Path.{sym, ◌∙◌, ap}
use Rattle.tables.specs.Programs.{program_in}
use Rattle.memory.specs.declared.Registers.{Registers}
use Rattle.memory.proofs.Readying.{ready-few, ready_on}
use Rattle.effects.proofs.Carrying.{does_at}
use Rattle.plans.specs.declared.Plan.{Plan}
use Rattle.plans.proofs.Deciding.{forbidden-planned, full-planned, made_by}
use Rattle.plans.proofs.decide.Goals as goal

pub ready_with-counted-requires : goal.ready_with-counted-requires
ready_with-counted-requires c = ready-few _ _ _ _ _ c.requires.ready_counted

pub returns-then-is_forbidden-clause-plans_command : goal.returns-then-is_forbidden-clause-plans_command
returns-then-is_forbidden-clause-plans_command c hs s h counts =
    let left = c.event_of-event.ensures hs s c.args.n.0 (ap (λ (o : Registers). o.accumulator) h.own) h.variables in
    rw c.stopped.ensures
    (forbidden-planned (program_in c.args.tables.now hs) s c.args.n c.args.monitored c.args.instruction c.event_of-event.result left
    c.args.registers h.own (sym (c.is_forbidden.ensures hs)
    ∙ c.if-is_forbidden.true) c.redact-event.result (c.redact-event.ensures c.args.n.0) _)

pub returns-then-blocks-clause-plans_command : goal.returns-then-blocks-clause-plans_command
returns-then-blocks-clause-plans_command c hs s h counts =
    let left = c.event_of-event.ensures hs s c.args.n.0 (ap (λ (o : Registers). o.accumulator) h.own) h.variables in
    rw c.stopped-then-blocks.ensures
    (full-planned (program_in c.args.tables.now hs) s c.args.n c.args.monitored c.args.instruction c.event_of-event.result left c.args.registers
    h.own (sym (c.blocks-2.ensures hs s counts) ∙ c.if-blocks.true) _)

pub returns-clause-plans_command : goal.returns-clause-plans_command
returns-clause-plans_command c hs s h counts =
    let left = c.event_of-event.ensures hs s c.args.n.0 (ap (λ (o : Registers). o.accumulator) h.own) h.variables in
    rw c.made.ensures
    (made_by (program_in c.args.tables.now hs) s c.args.n c.args.monitored c.args.instruction c.event_of-event.result left
    (sym (c.is_forbidden.ensures hs) ∙ c.if-is_forbidden.false)
    (sym (c.blocks-2.ensures hs s counts) ∙ c.if-blocks.false) c.effect_of-effect.result
    (does_at _ _ _ _ _ c.effect_of-effect.ensures hs s c.args.n.0 h) _)

pub returns-clause-ready : goal.returns-clause-ready
returns-clause-ready c goes = rw c.made.ensures
    (c.ready_with-counted.ensures ∙ ready_on _ _ _ _ _ c.requires.ready_counted _ (λ e. c.requires.not_registers_position (c.requires.position_value ∙ e))
    (λ e. goes (ap (λ (r : Plan). r.registers.position) c.made.ensures ∙ e)) c.effect_of-effect.result.change)

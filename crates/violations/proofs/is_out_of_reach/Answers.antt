use mathlib.Core.Path.{refl}
use Rattle.violations.proofs.Judging.{wire_reach, use_reach, access_reach, other_reach}
use Rattle.violations.proofs.is_out_of_reach.Goals as goal

pub returns-then-c-eq-WIRE : goal.returns-then-c-eq-WIRE
returns-then-c-eq-WIRE c = λ past s. wire_reach _ c.args.c past s _ _ _
    c.if-c-eq-WIRE.true c.flow_of-from.ensures
    c.flow_of-to.ensures c.ne.ensures

pub returns-then-uses_variable : goal.returns-then-uses_variable
returns-then-uses_variable c = λ past s. use_reach _ c.args.c past s
    c.if-c-eq-WIRE.false _ c.uses_variable.ensures
    c.if-uses_variable.true _ _ _ c.open_node-opened.ensures c.sees-seen.ensures refl

pub returns-then-is_access : goal.returns-then-is_access
returns-then-is_access c = λ past s.
    access_reach _ c.args.c past s
    c.if-c-eq-WIRE.false _
    c.uses_variable.ensures c.if-uses_variable.false _
    c.is_access.ensures c.if-is_access.true _ _ _ c.sees-seen-then-is_access.ensures
    c.is_shared-shared.ensures refl

pub returns : goal.returns
returns c = λ past s. other_reach _ c.args.c past s
    c.if-c-eq-WIRE.false _ c.uses_variable.ensures c.if-uses_variable.false _
    c.is_access.ensures c.if-is_access.false

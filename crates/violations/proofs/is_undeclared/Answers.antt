use mathlib.Core.Path.{◌≡◌, refl, sym, ◌∙◌}
use mathlib.Core.Bool.{◌&&◌, ◌||◌}
use lib.Dec.{eqb}
use Rattle.model.specs.Table.{NODE}
use Rattle.model.specs.Refusal.{names_nothing}
use Rattle.command.specs.Rows.{kind_of, kind_meant, is_handler_byte}
use Rattle.violations.specs.Tests.{counts_as}
use Rattle.violations.proofs.Judging.{undeclared-front, undeclared-single, undeclared-back}
use Rattle.violations.proofs.is_undeclared.Goals as goal
use Rattle.violations.proofs.is_undeclared.Goals.{Joined-is_handler-bodies, then-c-d, else-c-d, then-is_handler-bodies, else-is_handler-bodies}
use Rattle.violations.proofs.is_undeclared.Goals.{Joined-names_nothing-2, then-names_nothing-2, else-names_nothing-2}

-- what is joined of the tests before an operand, and of those up to the first one
early : (z : Joined-is_handler-bodies) → z.if-c-d.value
    ≡ ((eqb z.args.c.byte NODE && eqb z.counts_of-d.result.flows 0) || (is_handler_byte z.args.c.byte && eqb z.count_of-bodies.result 0))
early z = elim z.if-c-d.branch [
  | then-c-d w ↦ w.value-is ∙ rw w.if-c-d.true refl
  | else-c-d w ↦ w.value-is ∙ rw (w.if-c-d.false, w.is_handler.ensures) refl
]

front : (z : Joined-is_handler-bodies) → z.if-is_handler-bodies.value
    ≡ (z.if-c-d.value || names_nothing (counts_as z.counts_of-d.result) z.args.c.first (kind_meant (kind_of z.unpack-shape.result.first_kind)) z.args.c.first)
front z = elim z.if-is_handler-bodies.branch [
  | then-is_handler-bodies w ↦ w.value-is ∙ rw w.if-is_handler-bodies.true refl
  | else-is_handler-bodies w ↦ w.value-is ∙ rw (w.if-is_handler-bodies.false, w.names_nothing.ensures) refl
]

pub returns-then-names_nothing : goal.returns-then-names_nothing
returns-then-names_nothing c = λ past s. let z = (goal.at.returns-then-names_nothing c).Joined-is_handler-bodies in
    undeclared-front _ c.args.c past s _ _ _ c.requires c.unpack-shape.ensures c.counts_of-d.ensures c.count_of-bodies.ensures
    _ _ (early z) (front z) c.if-names_nothing.true

pub returns-else-shape : goal.returns-else-shape
returns-else-shape c = λ past s. let z = (goal.at.returns-else-shape c).Joined-is_handler-bodies in
    undeclared-single _ c.args.c past s _ _ _ c.requires c.unpack-shape.ensures c.counts_of-d.ensures c.count_of-bodies.ensures
    _ _ (early z) (front z) c.if-names_nothing.false c.if-shape.false

-- what is joined of the tests of the second and the third operand
middle : (z : Joined-names_nothing-2) → z.if-names_nothing-2.value
    ≡ (names_nothing (counts_as z.counts_of-d.result) z.args.c.first (kind_meant (kind_of z.unpack-shape.result.second_kind)) z.args.c.second
    || names_nothing (counts_as z.counts_of-d.result) z.args.c.first (kind_meant (kind_of z.unpack-shape.result.third_kind)) z.args.c.third)
middle z = elim z.if-names_nothing-2.branch [
  | then-names_nothing-2 w ↦ w.value-is ∙ rw (sym z.names_nothing-then-shape.ensures ∙ w.if-names_nothing-2.true) w.if-names_nothing-2.true
  | else-names_nothing-2 w ↦ w.value-is
      ∙ rw (sym z.names_nothing-then-shape.ensures ∙ w.if-names_nothing-2.false) w.names_nothing-else-names_nothing-2.ensures
]

pub returns-then-names_nothing-3 : goal.returns-then-names_nothing-3
returns-then-names_nothing-3 c = λ past s. let z = (goal.at.returns-then-names_nothing-3 c).Joined-is_handler-bodies in
    undeclared-back _ c.args.c past s _ _ _ c.requires c.unpack-shape.ensures c.counts_of-d.ensures c.count_of-bodies.ensures
    _ _ (early z) (front z) c.if-names_nothing.false _ _ (middle (goal.at.returns-then-names_nothing-3 c).Joined-names_nothing-2)
    (rw c.if-names_nothing-3.true refl)

pub returns-else-names_nothing-3 : goal.returns-else-names_nothing-3
returns-else-names_nothing-3 c = λ past s. let z = (goal.at.returns-else-names_nothing-3 c).Joined-is_handler-bodies in
    undeclared-back _ c.args.c past s _ _ _ c.requires c.unpack-shape.ensures c.counts_of-d.ensures c.count_of-bodies.ensures
    _ _ (early z) (front z) c.if-names_nothing.false _ _ (middle (goal.at.returns-else-names_nothing-3 c).Joined-names_nothing-2)
    (rw c.if-names_nothing-3.false c.names_nothing-else-names_nothing-3.ensures)

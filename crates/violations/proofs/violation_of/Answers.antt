use mathlib.Core.Path.{sym, ◌∙◌}
use borrow.Author.Tests.{lt-ltb, le-ltb}
use Rattle.violations.proofs.Judging.{violation_as}
use Rattle.violations.proofs.violation_of.Goals as goal

pub returns-then-group : goal.returns-then-group
returns-then-group c = λ past s plain.
    rw (
      violation_as _ c.args.c past s _ c.requires c.group.ensures,
      lt-ltb _ _ c.if-group.true,
    )

pub returns-then-exceeds_count : goal.returns-then-exceeds_count
returns-then-exceeds_count c = λ past s plain.
    rw (
      violation_as _ c.args.c past s _ c.requires c.group.ensures,
      le-ltb _ _ c.if-group.false,
      sym (c.exceeds_count.ensures past s) ∙ c.if-exceeds_count.true,
    )

pub returns-then-is_undeclared : goal.returns-then-is_undeclared
returns-then-is_undeclared c = λ past s plain.
    rw (
      violation_as _ c.args.c past s _ c.requires c.group.ensures,
      le-ltb _ _ c.if-group.false,
      sym (c.exceeds_count.ensures past s) ∙ c.if-exceeds_count.false,
      sym (c.is_undeclared.ensures past s) ∙ c.if-is_undeclared.true,
    )

pub returns : goal.returns
returns c = λ past s plain.
    rw (
      violation_as _ c.args.c past s _ c.requires c.group.ensures,
      le-ltb _ _ c.if-group.false,
      sym (c.exceeds_count.ensures past s) ∙ c.if-exceeds_count.false,
      sym (c.is_undeclared.ensures past s) ∙ c.if-is_undeclared.false,
    )
    (c.late_violation.ensures past s plain)

use mathlib.Core.Path.{◌∙◌}
use Rattle.tables.specs.Cells.{mark_at, put_half}
use Rattle.tables.specs.Writes.{made}
use Rattle.notes.proofs.Arms.{known_arm, rest_arm}
use Rattle.notes.proofs.note_content.Goals as goal

pub returns-in-2 : goal.returns-in-2
unfolding made
returns-in-2 c = known_arm _ c.args.c _ _ c.in-2.is c.note_node.ensures

pub returns-in-16 : goal.returns-in-16
unfolding made
returns-in-16 c = known_arm _ c.args.c _ _ c.in-16.is c.note_variable.ensures

pub returns-in-17 : goal.returns-in-17
unfolding made
returns-in-17 c = known_arm _ c.args.c _ _ c.in-17.is c.note_function.ensures

pub returns-in-18 : goal.returns-in-18
unfolding made
returns-in-18 c = known_arm _ c.args.c _ _ c.in-18.is c.note_reply.ensures

pub returns-in-32 : goal.returns-in-32
unfolding made mark_at
returns-in-32 c = known_arm _ c.args.c _ _ c.in-32.is c.mark.ensures

pub returns-in-48 : goal.returns-in-48
unfolding made mark_at
returns-in-48 c = known_arm _ c.args.c _ _ c.in-48.is c.mark-in-48.ensures

pub returns-in-49 : goal.returns-in-49
unfolding made put_half
returns-in-49 c = known_arm _ c.args.c _ _ c.in-49.is (rw c.in-49.is at c.note_range.ensures)

pub returns-in-50 : goal.returns-in-50
unfolding made mark_at
returns-in-50 c = known_arm _ c.args.c _ _ c.in-50.is c.mark-in-50.ensures

pub returns-in-51 : goal.returns-in-51
unfolding made mark_at
returns-in-51 c = known_arm _ c.args.c _ _ c.in-51.is c.mark-in-51.ensures

pub returns-in-52 : goal.returns-in-52
unfolding made put_half
returns-in-52 c = known_arm _ c.args.c _ _ c.in-52.is (rw c.in-52.is at c.note_range-in-52.ensures)

pub returns-in-64 : goal.returns-in-64
unfolding made
returns-in-64 c = known_arm _ c.args.c _ _ c.in-64.is c.note_body.ensures

pub returns-in-80 : goal.returns-in-80
unfolding made
returns-in-80 c = known_arm _ c.args.c _ _ c.in-80.is c.note_start.ensures

pub returns-in_default : goal.returns-in_default
returns-in_default c = c.note_handler.ensures
    ∙ rest_arm c.args.tables.now c.args.c c.in_default.in_default-own.rest.0.0.0.0.0.0.0.0.0.0.0.1 c.in_default.in_default-own.rest.0.0.0.0.0.0.0.0.0.0.1
    c.in_default.in_default-own.rest.0.0.0.0.0.0.0.0.0.1 c.in_default.in_default-own.rest.0.0.0.0.0.0.0.0.1 c.in_default.in_default-own.rest.0.0.0.0.0.0.0.1 c.in_default.in_default-own.rest.0.0.0.0.0.0.1
    c.in_default.in_default-own.rest.0.0.0.0.0.1 c.in_default.in_default-own.rest.0.0.0.0.1 c.in_default.in_default-own.rest.0.0.0.1 c.in_default.in_default-own.rest.0.0.1 c.in_default.in_default-own.rest.0.1 c.in_default.in_default-own.rest.1

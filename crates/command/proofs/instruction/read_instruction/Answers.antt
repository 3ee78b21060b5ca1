use mathlib.Core.Path.{◌≡◌, sym, ◌∙◌}
use lib.ListN.{get_or}
use borrow.Author.Rules.{rules}
use Rattle.command.proofs.Instructed.{read_behind, read-other, read_none, read_cut_off, read_instructed}
use Rattle.command.proofs.instruction.read_instruction.Goals as goal

pub returns-in_default : goal.returns-in_default
returns-in_default c = read_behind _ _ (search rules)

pub returns-then-not-is_handler : goal.returns-then-not-is_handler
returns-then-not-is_handler c =
    let e : get_or c.args.job.now c.args.at 0 ≡ c.in-Some.field-0.now = search rules in
    read-other _ _ (rw e (sym c.is_handler.ensures ∙ c.if-not-is_handler.true))

pub returns-in_default-row_of : goal.returns-in_default-row_of
returns-in_default-row_of c =
    let e : get_or c.args.job.now c.args.at 0 ≡ c.in-Some.field-0.now = search rules in
    read_none _ _ (rw e c.in_default-row_of.ensures)

pub returns-then-job-at : goal.returns-then-job-at
returns-then-job-at c =
    let e : get_or c.args.job.now c.args.at 0 ≡ c.in-Some.field-0.now = search rules in
    let handler = sym c.is_handler.ensures ∙ c.if-not-is_handler.false in
    read_cut_off _ _ _ (rw e c.in-Some-row_of.ensures) (rw e handler) _ c.unpack-shape.ensures c.if-job-at.true

pub returns : goal.returns
returns c =
    let e : get_or c.args.job.now c.args.at 0 ≡ c.in-Some.field-0.now = search rules in
    let handler = sym c.is_handler.ensures ∙ c.if-not-is_handler.false in
    c.instruction_of.ensures
    ∙ rw (← e) (read_instructed _ _ _ (rw e c.in-Some-row_of.ensures) (rw e handler) _ c.unpack-shape.ensures c.if-job-at.false _
    c.operand-x.ensures)

use mathlib.Core.Path.{refl, sym, ◌∙◌}
use native.Mathlib.Omega.{arith}
use Rattle.std.proofs.lemmas.Result.{err_from_is_err_and}
use Rattle.model.specs.Table.{TURN}
use Rattle.job.specs.Scheduling.{sizes_as}
use Rattle.job.proofs.Judged.{is-accepted, is-refused}
use Rattle.job.proofs.Buffered.{refused-first, refused-before, judged-behind}
use Rattle.job.proofs.buffers.judge_all.Goals as goal

pub returns-in_err-check_budget : goal.returns-in_err-check_budget
returns-in_err-check_budget c = let p = err_from_is_err_and c.from_residual.result c.from_residual.ensures.1 in rw (p.1, p.2)
    (refused-first c.args.schedule c.args.job.now (sizes_as c.args.lengths) _ _ c.in_err-check_budget.ensures)

pub returns-in_err-judge_commands : goal.returns-in_err-judge_commands
returns-in_err-judge_commands c = let q = c.from_residual-in_err-judge_commands in
    let p = err_from_is_err_and q.result q.ensures.1 in rw (p.1, p.2)
    (refused-before c.args.schedule c.args.job.now (sizes_as c.args.lengths) _ (sym c.in_ok-check_budget.ensures) _
    (is-refused _ _ _ c.in_err-judge_commands.ensures))

pub returns : goal.returns
returns c = let d = is-accepted _ _ _ c.in_ok-judge_commands.ensures in
    judged-behind c.args.schedule c.args.job.now (sizes_as c.args.lengths) _ (sym c.in_ok-check_budget.ensures) d.past d.decoded d.stands _
    (c.check_schedule.ensures c.args.job.now d.past d.decoded refl (sym (c.count_of-turns.ensures ∙ d.stands.counts TURN (omega arith))))

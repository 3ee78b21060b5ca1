use Rattle.std.proofs.lemmas.Result.{err_from_is_err_and}
use Rattle.uses.proofs.Noting.{uses-none}
use Rattle.job.proofs.Judged.{is-accepted, is-refused, refused-early, later_decide}
use Rattle.job.proofs.judge_commands.Goals as goal

pub walk-requires : goal.walk-requires
walk-requires c = uses-none

pub returns-in_err-walk : goal.returns-in_err-walk
returns-in_err-walk c = let p = err_from_is_err_and c.from_residual.result c.from_residual.ensures.1 in rw (p.1, p.2) (refused-early _ _ _ (is-refused _ _ _ c.in_err-walk.ensures.verdicts))

pub returns : goal.returns
returns c = later_decide _ _ _ c.check_later.result (is-accepted _ _ _ c.in_ok-walk.ensures.verdicts) c.in_ok-walk.ensures.uses
    c.check_later.ensures

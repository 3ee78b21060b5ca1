use Rattle.job.proofs.Judged.{settled}
use Rattle.job.proofs.decode.Goals as goal

pub returns : goal.returns
returns c = settled _ _ _ c.judge_commands-verdict.ensures _ _ c.settle.ensures.same c.settle.ensures.cleared

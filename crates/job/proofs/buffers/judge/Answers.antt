use Rattle.job.proofs.Judged.{settled}
use Rattle.job.proofs.buffers.judge.Goals as goal

pub returns : goal.returns
returns c = settled _ _ _ c.judge_all-verdict.ensures _ _ c.settle.ensures.same c.settle.ensures.cleared

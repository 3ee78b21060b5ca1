use Rattle.std.proofs.lemmas.Result.{err_from_is_err_and}
use Rattle.job.proofs.Going.{step-unread}
use Rattle.job.proofs.walk.advance.Goals as goal

pub returns-in_err-read : goal.returns-in_err-read
returns-in_err-read c = let p = err_from_is_err_and c.from_residual.result c.from_residual.ensures.1 in rw (p.1, p.2)
    (λ past stands uses valid short. step-unread _ _ c.requires.0 past _ c.in_err-read.ensures)

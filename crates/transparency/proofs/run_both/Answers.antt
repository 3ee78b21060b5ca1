use Rattle.std.proofs.Common.{rules}
use Rattle.transparency.proofs.Claims.{transparency}
use Rattle.transparency.proofs.run_both.Goals as goal

pub returns-clause-compared : goal.returns-clause-compared
returns-clause-compared c = transparency c.args.job.now _ _ (search rules) (search rules)

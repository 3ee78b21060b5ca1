use native.Mathlib.Omega.{arith}
use Rattle.model.specs.Declared.{handler_of}
use Rattle.job.proofs.Judged.{is-accepted}
use Rattle.tally.proofs.Told.{few-nodes, told_of, left_of}
use Rattle.tally.proofs.tally.Goals as goal

pub put_counts-requires : goal.put_counts-requires
put_counts-requires c = let job = is-accepted _ _ _ c.in_ok-decode.ensures.judged in
    omega (arith, few-nodes _ _ job _ c.count_of-nodes.ensures)

pub returns : goal.returns
returns c = let job = is-accepted _ _ _ c.in_ok-decode.ensures.judged in
    record {
      told = told_of c.args.job.now _ job _ c.count_of-nodes.ensures;
      counts = left_of c.args.job.now _ job _ c.count_of-nodes.ensures c.args.turns c.args.trace.now c.args.snapshot.now _ _ _ (c.put_counts.ensures (handler_of job.past));
    }

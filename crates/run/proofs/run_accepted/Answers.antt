use native.Mathlib.Omega.{arith}
use Rattle.run.specs.Answers.{buffers}
use Rattle.run.proofs.Delivering.{may_load, trace-fits, snapshot-fits, work-fits, good-budget, is-ready, hands-over}
use Rattle.run.proofs.run_accepted.Goals as goal

pub load-requires : goal.load-requires
load-requires c = may_load _ _ _ _ c.requires

pub run_turns-made-requires : goal.run_turns-made-requires
run_turns-made-requires c = record {
  loaded = is-ready _ _ _ _ c.requires c.args.work.now _ (work-fits _ _ _ _ c.requires) c.load.ensures;
  schedule_value = good-budget _ _ _ _ c.requires;
  tables_in_bounds = (trace-fits _ _ _ _ c.requires, snapshot-fits _ _ _ _ c.requires);
}

pub put_zeros-requires : goal.put_zeros-requires
put_zeros-requires c = omega (arith, work-fits _ _ _ _ c.requires)

pub returns : goal.returns
returns c = let b = buffers c.args.trace.now c.args.snapshot.now c.args.work.now in
    hands-over c.args.order.schedule c.args.job.now c.args.tables.now b c.requires c.args.order.monitored _ _ _ c.run_turns-made.ensures _ _
    (rw c.load.ensures at c.put_zeros.ensures)

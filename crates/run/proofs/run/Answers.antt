use Rattle.job.proofs.Judged.{is-accepted, is-refused}
use Rattle.run.specs.Answers.{buffers}
use Rattle.run.proofs.Delivering.{reports_refused, reports_ran}
use Rattle.run.proofs.run.Goals as goal

pub run_accepted-made-requires : goal.run_accepted-made-requires
run_accepted-made-requires c = let a = is-accepted _ _ _ c.in_default.ensures.judged in
    record { past = a.past; decoded = a.decoded; stands = a.stands }

pub returns-in-Err : goal.returns-in-Err
returns-in-Err c = let d = reports_refused c.args.order.schedule c.args.order.monitored c.args.job.now (buffers c.args.trace.now c.args.snapshot.now c.args.work.now) _
    (is-refused _ _ _ c.in-Err.ensures.judged) in
    let l = d.delivers.left in
    record {
      told = d.delivers.told;
      examined = d.examined;
      trace = l.trace;
      snapshot = l.snapshot;
      work = l.work;
    }

pub returns : goal.returns
returns c = let a = is-accepted _ _ _ c.in_default.ensures.judged in
    let d = reports_ran c.args.order.schedule c.args.order.monitored c.args.job.now (buffers c.args.trace.now c.args.snapshot.now c.args.work.now)
    (buffers _ _ _) _
    a.past a.decoded c.run_accepted-made.ensures in
    let l = d.delivers.left in
    record {
      told = d.delivers.told;
      examined = d.examined;
      trace = l.trace;
      snapshot = l.snapshot;
      work = l.work;
    }

use Prim.Native.Nat.{ℕ, ◌+◌, ◌<◌}
use mathlib.Core.Path.{◌≡◌, refl, sym, subst, ap}
use mathlib.Core.List.{List}
use native.Mathlib.Omega.{arith}
use borrow.Author.Rules.{rules}
use Rattle.model.specs.Command.{Command}
use Rattle.model.specs.Program.{program_of}
use Rattle.output.specs.Written.{entry_with, Narrow}
use Rattle.turns.specs.Runs.{Loaded, run_of, RunsAs}
use Rattle.turns.proofs.Given.{whole_run}
use Rattle.turns.proofs.Running.{Over, underway_none, from_low, counts-ready, ready-counted, underway_nobody}
use Rattle.turns.proofs.Running.{node-inside, node-among, examined-few, made_narrow, underway_next, underway_stopped, underway-over, turns_by_lem, turns-few, turn-left}
use Rattle.turns.proofs.Running.{nodes-few, variables-few, runs_as}
use Rattle.turns.proofs.run_turns.Goals as goal
use Rattle.turns.proofs.run_turns.Goals.{In-Some, Left-loop-k, else-loop-k-test, then-loop-k-test+in_default, then-loop-k-test+in-Some+in-Err}

-- the chosen node is one of the nodes
inside : (i : In-Some) → i.in-Some.n.0 < 32
inside i =
    let ready = i.requires.loaded in
    let m = turn-left i.args.order.schedule i.args.order.monitored ready i.requires.schedule_value i.loop-k-test.true i.turns_in-last.ensures in
    node-inside i.args.order.schedule i.args.order.monitored ready i.requires.schedule_value (i.loop-k.invariant.underway ready) m
    (rw i.in-Some.is at i.choice_of-choice.ensures)

pub start-state-requires : goal.start-state-requires
start-state-requires c = nodes-few c.args.order.schedule c.args.order.monitored c.requires.loaded c.requires.schedule_value

pub loop-k-init : goal.loop-k-init
loop-k-init c = record {
  out = refl;
  all = refl;
  underway = λ ready. underway_none c.args.order.schedule c.args.order.monitored ready c.requires.schedule_value _ _ c.start-state.ensures;
}

pub choice_of-choice-requires : goal.choice_of-choice-requires
choice_of-choice-requires c =
    let ready = c.requires.loaded in
    let u = c.loop-k.invariant.underway ready in
    let m = turn-left c.args.order.schedule c.args.order.monitored ready c.requires.schedule_value c.loop-k-test.true c.turns_in-last.ensures in
    record {
      tables_bound = nodes-few c.args.order.schedule c.args.order.monitored ready c.requires.schedule_value;
      from_bound = from_low c.args.order.schedule c.args.order.monitored ready c.requires.schedule_value u m;
      ready_value = ready-counted c.args.order.schedule c.args.order.monitored ready c.requires.schedule_value u m;
    }

pub overflow_add-examined : goal.overflow_add-examined
overflow_add-examined c =
    let ready = c.requires.loaded in
    let u = c.loop-k.invariant.underway ready in
    let m = turn-left c.args.order.schedule c.args.order.monitored ready c.requires.schedule_value c.loop-k-test.true c.turns_in-last.ensures in
    let few = examined-few c.args.order.schedule c.args.order.monitored ready c.requires.schedule_value u m c.choice_of-choice.result c.choice_of-choice.ensures in
    omega (arith, few, u.few, m, turns-few c.args.order.schedule c.args.order.monitored ready c.requires.schedule_value)

pub overflow_add-from : goal.overflow_add-from
overflow_add-from c = omega (arith, inside (goal.at.overflow_add-from c).In-Some)

pub bounds-state-n : goal.bounds-state-n
bounds-state-n c = inside (goal.at.bounds-state-n c).In-Some

pub turn-turned-requires : goal.turn-turned-requires
turn-turned-requires c =
    let ready = c.requires.loaded in
    let u = c.loop-k.invariant.underway ready in
    let m = turn-left c.args.order.schedule c.args.order.monitored ready c.requires.schedule_value c.loop-k-test.true c.turns_in-last.ensures in
    record {
      bounded_counts = u.bounded;
      among = node-among c.args.order.schedule c.args.order.monitored ready c.requires.schedule_value u m (rw c.in-Some.is at c.choice_of-choice.ensures);
      fact = c.fetch-fetched.ensures.countable;
      counts_ready = counts-ready c.args.order.schedule c.args.order.monitored ready c.requires.schedule_value u m;
    }

pub put_entry-at-requires : goal.put_entry-at-requires
put_entry-at-requires c =
    let ready = c.requires.loaded in
    let u = c.loop-k.invariant.underway ready in
    let m = turn-left c.args.order.schedule c.args.order.monitored ready c.requires.schedule_value c.loop-k-test.true c.turns_in-last.ensures in (
      omega (arith, m, u.place, u.size, c.requires.tables_in_bounds.0, turns_by_lem c.args.order.schedule c.args.order.monitored ready c.requires.schedule_value),
      subst Narrow (sym c.from.ensures)
          (made_narrow c.args.order.schedule c.args.order.monitored ready c.requires.schedule_value u m (rw c.in-Some.is at c.choice_of-choice.ensures)
          c.fetch-fetched.ensures.fetched c.turn-turned.ensures c.in-Ok.is),
    )

pub overflow_add-turns : goal.overflow_add-turns
overflow_add-turns c =
    let ready = c.requires.loaded in
    omega (arith, c.loop-k.invariant.all, turn-left c.args.order.schedule c.args.order.monitored ready c.requires.schedule_value c.loop-k-test.true c.turns_in-last.ensures, turns-few c.args.order.schedule c.args.order.monitored ready c.requires.schedule_value)

pub loop-k-preserved : goal.loop-k-preserved
loop-k-preserved c = record {
  out = c.loop-k.invariant.out;
  all = ap (λ (n : ℕ). n + 1) c.loop-k.invariant.all;
  underway = λ ready.
      let m = turn-left c.args.order.schedule c.args.order.monitored ready c.requires.schedule_value c.loop-k-test.true c.turns_in-last.ensures in
      underway_next c.args.order.schedule c.args.order.monitored ready c.requires.schedule_value (c.loop-k.invariant.underway ready) m
      (rw c.in-Some.is at c.choice_of-choice.ensures) c.fetch-fetched.ensures.fetched c.turn-turned.ensures c.in-Ok.is
      (entry_with c.from.result) c.from.ensures _ _
      (rw (← turns_by_lem c.args.order.schedule c.args.order.monitored ready c.requires.schedule_value) c.requires.tables_in_bounds.0)
      (search rules) c.put_entry-at.ensures;
}

-- after the loop the run is over
over : (i : Left-loop-k) → (ready : Loaded i.args.job.now i.args.tables.now i.args.work.now)
    → Over (whole_run i.args.order.schedule i.args.order.monitored ready.past) i.args.trace.now i.loop-k.trace i.loop-k-test.state
    (record { halt = i.loop-k-test.halt; turns = i.loop-k.turns }) i.loop-k-test.examined
over i ready =
    let way = i.args.order.schedule in
    let good = i.requires.schedule_value in
    let u = i.loop-k.invariant.underway ready in
    rw i.loop-k.invariant.all
    (elim i.loop-k-test.branch [
      | else-loop-k-test w ↦ rw (w.state-is, w.examined-is, w.halt-is, i.loop-k.invariant.out) (underway-over way i.args.order.monitored ready good
          (omega (arith, w.loop-k-test.false, i.loop-k.auto.k-end, i.turns_in-last.ensures, turns_by_lem way i.args.order.monitored ready good)) u)
      | then-loop-k-test+in_default w ↦ rw (w.state-is, w.examined-is, w.halt-is) (underway_nobody way i.args.order.monitored ready good u
          (turn-left way i.args.order.monitored ready good w.loop-k-test.true i.turns_in-last.ensures)
          (rw w.in_default.is at w.choice_of-choice.ensures))
      | then-loop-k-test+in-Some+in-Err w ↦ rw (w.state-is, w.examined-is, w.halt-is) (underway_stopped way i.args.order.monitored ready good u
          (turn-left way i.args.order.monitored ready good w.loop-k-test.true i.turns_in-last.ensures)
          (rw w.in-Some.is at w.choice_of-choice.ensures) w.fetch-fetched.ensures.fetched w.turn-turned.ensures _ w.in-Err.is)
    ])

pub put_state-requires : goal.put_state-requires
put_state-requires c =
    let ready = c.requires.loaded in
    let o = over (goal.at.put_state-requires c).Left-loop-k ready in
    record {
      room = c.requires.tables_in_bounds.1;
      few = (
        nodes-few c.args.order.schedule c.args.order.monitored ready c.requires.schedule_value,
        variables-few c.args.order.schedule c.args.order.monitored ready c.requires.schedule_value,
      );
      bounded_counts = o.bounded;
      narrow_positions = o.positions;
    }

pub returns : goal.returns
returns c past e = let same : c.requires.loaded.past ≡ past = cc in
    subst (λ (x : List Command). RunsAs (program_of x) (run_of c.args.order.schedule c.args.order.monitored x) c.args.trace.now c.args.snapshot.now c.loop-k.trace
    c.put_state.new.snapshot (record { ending = record { halt = c.loop-k-test.halt; turns = c.loop-k.turns }; examined = c.loop-k-test.examined })) same
    (runs_as c.args.order.schedule c.args.order.monitored c.requires.loaded c.requires.schedule_value _ _ c.loop-k-test.state _ c.loop-k-test.examined
    (over (goal.at.returns c).Left-loop-k c.requires.loaded) _ _ _ c.put_state.ensures)

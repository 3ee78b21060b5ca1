-- The loop over the turns of an accepted job: what it keeps, and what it comes to.
use Rattle.command.specs.declared.instruction.Instruction.{Instruction}
use Prim.Native.Nat.{ℕ, suc, ◌+◌, ◌*◌, ◌-◌, ◌≤◌, ◌<◌}
use mathlib.Core.Path.{◌≡◌, refl, sym, ap, subst, ◌∙◌}
use mathlib.Core.Bool.{Bool}
use mathlib.Core.List.{List, [], ◌∷◌, ◌++◌}
use Rattle.std.proofs.Common.{Option, Some, None, Result, Ok, Err}
use native.Mathlib.Omega.{arith}
use lib.ListN.{length, length-append, length-map}
use Rattle.model.specs.Table.{NODE, VAR}
use Rattle.model.specs.Command.{Command}
use Rattle.model.specs.Program.{Program, program_of}
use Rattle.model.specs.State.{State as Meant, position_at}
use Rattle.model.specs.Turn.{Entry as Numbered, Turned as Rule, completed, stopped}
use Rattle.model.specs.Run.{Run, Step, entries_of}
use Rattle.model.specs.Dispatch.{Choice as Meaning, ready_count, chosen, nobody, choose, Dispatched, examined_in}
use Rattle.model.specs.Output.{answer_in, entry_bytes, trace_bytes, trace_in, snapshot_bytes}
use Rattle.model.specs.Result.{written}
use Rattle.model.specs.Valid.{ValidJob}
use Rattle.model.proofs.Bounds.{length-trace}
use Rattle.model.proofs.Runs.{trace_snoc, entries_snoc}
use Rattle.model.proofs.Growth.{length-turns}
use Rattle.model.proofs.Valid.{job-valid, limits}
use Rattle.tables.specs.Tables.{count_in}
use Rattle.memory.specs.Queues.{BoundedCounts}
use Rattle.memory.specs.Ready.{ready_count_in, Among}
use Rattle.memory.proofs.Readying.{count-shown}
use Rattle.command.specs.Instructions.{fetched_of, command_in}
use Rattle.handlers.specs.Loading.{handlers_in}
use Rattle.job.specs.declared.schedule.Schedule.{Schedule}
use Rattle.job.specs.declared.schedule.Schedule.TheVariants as g
use Rattle.job.specs.Prepared.{Prepared}
use Rattle.job.specs.Scheduling.{budget_refusal, turns_by}
use Rattle.job.proofs.Prepared.{prepared}
use Rattle.job.proofs.Buffered.{budget-few}
use Rattle.command.specs.declared.numbers.NodeNum.{NodeNum}
use Rattle.chooser.specs.declared.Choice.{Choice}
use Rattle.chooser.specs.Choosing.{choice_with, choice_of}
use Rattle.chooser.proofs.Searching.{choose-shown}
use Rattle.entries.specs.declared.Entry.{Entry}
use Rattle.entries.specs.declared.Stop.{Stop}
use Rattle.entries.specs.Entries.{numbers_of, stop_number, attempted_by, turned_by, state_after, Comes, rule_of}
use Rattle.engine.specs.declared.State.{State}
use Rattle.engine.specs.declared.Turned.{Turned}
use Rattle.engine.specs.Engine.{view, CountsWaiting, CountsReady, Starts, Turns}
use Rattle.engine.specs.Accepted.{Led, at_start, after_turn, EngineMeets}
use Rattle.engine.proofs.Accepted.{engine_holds}
use Rattle.writing.specs.Writing.{Writes}
use Rattle.writing.proofs.Placing.{writes-on, writes_nothing, placed-front}
use Rattle.output.specs.Written.{Narrow, NarrowPositions, shown_bytes}
use Rattle.turns.specs.declared.ending.Ending.{Ending}
use Rattle.turns.specs.declared.ending.Halt.{Halt}
use Rattle.turns.specs.declared.ending.Halt.TheVariants as v
use Rattle.turns.specs.Endings.{stop_at, attempted_at, answer_of}
use Rattle.turns.specs.Runs.{choice_by, run_of, Loaded, RunsAs}
use Rattle.turns.proofs.Narrow.{NarrowSenders, initial_narrow, rule_narrow, rule-senders, placed_narrow}
use Rattle.turns.proofs.Given.{turns_for, choice_for, run_by, ahead, over_after, ahead_none, ahead-over, ahead-nobody, ahead-stopped}
use Rattle.turns.proofs.Given.{ahead-completed, examined_snoc, whole_run, whole_run_lem, Within, choice-within}

-- the run after k completed turns, whose entries stand at the front of the trace; the next choice goes round from `from` on
pub record Underway (schedule : Schedule) (monitored : Bool) (job t w : List ℕ) (past : List Command) (before : List ℕ) (s : State)
    (trace : List ℕ)
    (examined from at k : ℕ) : Type 0 where
  pub done : List Step
  pub choices : List Meaning
  pub count : length done ≡ k
  pub same : whole_run schedule monitored past ≡ ahead done choices
      (run_by (rule_of monitored (program_of past)) (choice_for schedule past) (turns_for schedule past - k) k from (view s))
  pub total : examined ≡ examined_in choices
  pub few : examined ≤ 32 * k
  pub low : from ≤ (program_of past).nodes
  pub writes : Writes (trace_bytes (entries_of done)) before 0 trace at
  pub place : at ≡ 7 * k
  pub size : length trace ≡ length before
  pub bounded : BoundedCounts s.waiting
  pub counts : CountsWaiting s
  pub led : Led job t w (program_of past).nodes s
  pub senders : NarrowSenders (view s)

-- the run is over: how it ended, the examined total, the trace, and the last state
pub record Over (d : Dispatched) (before after : List ℕ) (s : State) (x : Ending) (examined : ℕ) : Type 0 where
  pub answer : answer_of x ≡ answer_in d.run
  pub total : examined ≡ examined_in d.choices
  pub trace : after ≡ written (trace_in d.run) before
  pub state : view s ≡ d.run.final
  pub bounded : BoundedCounts s.waiting
  pub positions : NarrowPositions (view s)

-- what the loop keeps: every turn so far was completed, and the run is underway
pub record Going (schedule : Schedule) (monitored : Bool) (job t w : List ℕ) (before : List ℕ) (trace : List ℕ) (s : State) (halt : Halt)
    (turns examined from at k : ℕ) : Type 0 where
  pub out : halt ≡ v.RanOut
  pub all : turns ≡ k
  pub underway : (ready : Loaded job t w) → Underway schedule monitored job t w ready.past before s trace examined from at k

module _ (schedule : Schedule) (monitored : Bool) {job t w : List ℕ} (ready : Loaded job t w) (good : budget_refusal schedule ≡ None) where
  abbrev past : List Command
  past = ready.past

  abbrev P : Program
  P = program_of past

  abbrev rule : Meant → ℕ → Rule
  rule = rule_of monitored P

  valid : ValidJob past
  valid = job-valid job past ready.decoded

  prepares : Prepared job t ready.before w past
  prepares = subst (λ (x : List ℕ). Prepared job t ready.before x ready.past) (sym ready.holds)
      (prepared job t ready.before past ready.decoded ready.stands ready.long)

  meets : EngineMeets job t w past
  meets = subst (λ (x : List ℕ). EngineMeets job t x ready.past) (sym ready.holds)
      (engine_holds job t ready.before past ready.decoded ready.stands ready.long)

  -- the nodes and variables are those of the tables, and few
  nodes_in_lem : P.nodes ≡ count_in t NODE
  unfolding program_of
  nodes_in_lem = sym (ready.stands.counts NODE (omega arith))

  pub nodes-few : count_in t NODE ≤ 32
  nodes-few = omega (arith, ready.stands.counts NODE (omega arith), (limits past valid.commands).nodes)

  pub variables-few : count_in t VAR ≤ 64
  variables-few = omega (arith, ready.stands.counts VAR (omega arith), (limits past valid.commands).variables)

  -- so are the turns
  pub turns_by_lem : turns_by schedule t ≡ turns_for schedule past
  turns_by_lem = by_way schedule
    where
      by_way : (x : Schedule) → turns_by x t ≡ turns_for x past
      by_way g.Written = prepares.turns
      by_way (g.Dispatched budget) = refl

  -- a turn that is left is one of them
  pub turn-left : {k last : ℕ} → k < last → last ≡ turns_by schedule t → k < turns_for schedule past
  turn-left h e = omega (arith, h, e, turns_by_lem)

  pub turns-few : turns_for schedule past ≤ 4096
  turns-few = by_way schedule refl
    where
      by_way : (x : Schedule) → schedule ≡ x → turns_for x past ≤ 4096
      by_way g.Written e = omega (arith, length-turns past, (limits past valid.commands).turns)
      by_way (g.Dispatched budget) e = (budget-few schedule budget e good).1

  -- before the loop
  pub underway_none : (s : State) (before : List ℕ) → Starts t s → Underway schedule monitored job t w past before s before 0 0 0 0
  unfolding trace_bytes examined_in
  underway_none s before h =
      let e = meets.start s h in
      let all : turns_for schedule past ≡ turns_for schedule past - 0 = omega arith in
      record {
        done = [];
        choices = [];
        count = refl;
        same = sym (ahead_none (whole_run schedule monitored past))
            ∙ ap (λ (x : Meant). ahead [] [] (run_by rule (choice_for schedule past) (turns_for schedule past) 0 0 x)) (sym e)
            ∙ ap (λ (k : ℕ). ahead [] [] (run_by rule (choice_for schedule past) k 0 0 (view s))) all;
        total = refl;
        few = omega arith;
        low = omega arith;
        writes = writes_nothing before 0;
        place = omega arith;
        size = refl;
        bounded = h.bounded;
        counts = h.counts;
        led = at_start s h;
        senders = subst NarrowSenders (sym e) (initial_narrow P);
      }

  -- the run is over
  over :
      {before : List ℕ} {s : State} {trace : List ℕ} {examined from at k : ℕ}
      (u : Underway schedule monitored job t w past before s trace examined from at k) (s' : State) (halt : Halt) (cs : List Meaning) (total : ℕ)
      → whole_run schedule monitored past ≡ over_after u.done cs (stop_at halt) (attempted_at halt) (view s)
      → total ≡ examined_in cs
      → view s' ≡ view s → BoundedCounts s'.waiting
      → Over (whole_run schedule monitored past) before trace s' (record { halt = halt; turns = k }) total
  over {before} {s} {trace} {examined} {from} {at} {k} u s' halt cs total is sum same bounded =
      let count = u.count in
      record {
        answer = rw (is, count);
        total = rw is sum;
        trace = rw is (u.writes.buffer ∙ placed-front before (trace_bytes (entries_of u.done)));
        state = rw is same;
        bounded = bounded;
        positions = λ n. subst (λ (y : Meant). position_at y n < 256) (sym same)
            (placed_narrow past valid.commands (view s) (meets.placed s u.led) n);
      }

  -- turn k of the loop
  module _ {before : List ℕ} {s : State} {trace : List ℕ} {examined from at k : ℕ}
      (u : Underway schedule monitored job t w past before s trace examined from at k) (more : k < turns_for schedule past) where
    -- the choice may be asked for
    pub from_low : from ≤ count_in t NODE
    from_low = rw (← nodes_in_lem) u.low

    -- the ready count is that of the state
    pub counts-ready : CountsReady t s
    counts-ready = meets.ready s u.led ∙ ap (λ (m : ℕ). ready_count m (view s)) nodes_in_lem

    pub ready-counted : s.ready ≡ ready_count_in s.position s.waiting (count_in t NODE)
    ready-counted = counts-ready ∙ sym (count-shown s.position s.waiting (view s) (λ n. refl) u.counts (count_in t NODE))

    -- it is the model's
    shown : choice_by schedule job t k from s.position s.waiting ≡ choice_for schedule past k from (view s)
    shown = by_way schedule more
      where
        by_way : (x : Schedule) → k < turns_for x past → choice_by x job t k from s.position s.waiting ≡ choice_for x past k from (view
            s)
        by_way g.Written h = ap (λ (n : ℕ). chosen n 0) (prepares.turn k h)
        by_way (g.Dispatched budget) h =
            choose-shown s.position s.waiting (view s) (λ n. refl) u.counts (count_in t NODE) from
            ∙ ap (λ (m : ℕ). choose m from (view s)) (sym nodes_in_lem)

    left : turns_for schedule past - k ≡ suc (turns_for schedule past - (k + 1))
    left = omega arith

    unrolled : whole_run schedule monitored past
        ≡ ahead u.done u.choices (run_by rule (choice_for schedule past) (suc (turns_for schedule past - (k + 1))) k from (view s))
    unrolled = u.same ∙ ap (λ (m : ℕ). ahead u.done u.choices (run_by rule (choice_for schedule past) m k from (view s))) left

    within : Within P.nodes (choice_for schedule past k from (view s))
    within = choice-within schedule past valid.commands k from (view s) more u.low

    -- nobody is ready
    module _ {c : ℕ} (failed : nobody c ≡ choice_by schedule job t k from s.position s.waiting) where
      fails : choice_for schedule past k from (view s) ≡ nobody c
      fails = sym (failed ∙ shown)

      pub underway_nobody :
          Over (whole_run schedule monitored past) before trace s (record { halt = v.NobodyReady; turns = k }) (examined + c)
      underway_nobody =
          over u s v.NobodyReady (u.choices ++ (nobody c ∷ [])) (examined + c)
          (unrolled ∙ ahead-nobody rule (choice_for schedule past) u.done u.choices k from (view s) _ c fails)
          (sym (examined_snoc u.choices (nobody c) ∙ ap (λ (m : ℕ). m + c) (sym u.total))) refl u.bounded

    -- at most all nodes are examined
    pub examined-few : (x : Choice) → choice_of x ≡ choice_by schedule job t k from s.position s.waiting → x.examined ≤ 32
    examined-few x e = by_node x.node e
      where
        by_node : (node : Option NodeNum) → choice_with node x.examined ≡ choice_by schedule job t k from s.position s.waiting → x.examined ≤ 32
        by_node None q = let few : Within P.nodes (nobody x.examined) = rw (sym (q ∙ shown)) at within in omega (arith, few, nodes_in_lem, nodes-few)
        by_node (Some n) q =
            let few : Within P.nodes (chosen n.0 x.examined) = rw (sym (q ∙ shown)) at within in omega (arith, few.1, nodes_in_lem, nodes-few)

    -- node n is chosen
    module _ {n c : ℕ} (chose : chosen n c ≡ choice_by schedule job t k from s.position s.waiting) where
      chooses : choice_for schedule past k from (view s) ≡ chosen n c
      chooses = sym (chose ∙ shown)

      bounds : (n < P.nodes) × (c ≤ P.nodes)
      bounds = rw chooses at within

      pub node-inside : n < 32
      node-inside = omega (arith, bounds.0, nodes_in_lem, nodes-few)

      pub node-among : Among t n
      node-among = meets.among n bounds.0

      total : examined + c ≡ examined_in (u.choices ++ (chosen n c ∷ []))
      total = sym (examined_snoc u.choices (chosen n c) ∙ ap (λ (m : ℕ). m + c) (sym u.total))

      module _ {fetched : Option Instruction} (at_position : fetched_of fetched ≡ command_in (handlers_in job t w n) (position_at (view s) n))
          {turned : Turned} (turns : Turns t fetched n monitored s turned) where
        comes : Comes (view s) (rule (view s) n) turned.outcome (view turned.state)
        comes = meets.turn s fetched n monitored turned at_position turns

        module _ {x : Entry} (made : turned.outcome ≡ Ok x) where
          completes : completed (numbers_of x) (view turned.state) ≡ rule (view s) n
          completes = ap (λ (y : Result Entry Stop). turned_by y (view turned.state)) (sym made) ∙ comes.tells

          pub made_narrow : Narrow (numbers_of x)
          made_narrow = rw (← completes) at (rule_narrow past valid.commands (view s) u.senders n (omega (arith, node-inside))
              monitored)

          -- it made its entry
          pub underway_next :
              (shown : Numbered) → shown ≡ numbers_of x
              → (after : List ℕ) (next : ℕ) → 7 * turns_for schedule past ≤ length before → length after ≡ length trace
              → Writes (entry_bytes shown) trace at after next
              → Underway schedule monitored job t w past before turned.state after (examined + c) (n + 1) next (k + 1)
          underway_next shown is after next fits same q =
              let p = subst (λ (y : Numbered). Writes (entry_bytes y) trace at after next) is q in
              let step : Step = record { before = view s; made = numbers_of x } in
              let bytes : trace_bytes (entries_of (u.done ++ (step ∷ []))) ≡ trace_bytes (entries_of u.done) ++ entry_bytes
              (numbers_of x) = ap trace_bytes (entries_snoc u.done step) ∙ trace_snoc (entries_of u.done) (numbers_of x) in
              let long = length-trace (entries_of u.done) in
              let many = length-map u.done (λ (x : Step). x.made) in
              record {
                done = u.done ++ (step ∷ []);
                choices = u.choices ++ (chosen n c ∷ []);
                count = length-append u.done (step ∷ []) ∙ omega (arith, u.count);
                same = unrolled ∙ ahead-completed rule (choice_for schedule past) u.done u.choices k from (view s) _ n c chooses
                    (numbers_of x)
                    (view turned.state) (sym completes);
                total = total;
                few = omega (arith, u.few, bounds.1, nodes_in_lem, nodes-few);
                low = omega (arith, bounds.0);
                writes = rw bytes (writes-on (trace_bytes (entries_of u.done)) (entry_bytes (numbers_of x)) before 0 trace at after next
                    (omega (arith, long, many, u.count)) u.writes p);
                place = omega (arith, p.place, u.place);
                size = same ∙ u.size;
                bounded = turns.bounded;
                counts = turns.counts;
                led = after_turn s u.led fetched n monitored turned bounds.0 at_position turns;
                senders = rw (← completes) at (rule-senders past valid.commands (view s) u.senders n
                    (omega (arith, node-inside)) monitored);
              }

        -- it was stopped
        pub underway_stopped :
            (stop : Stop) → turned.outcome ≡ Err stop
            → Over (whole_run schedule monitored past) before trace turned.state (record { halt = v.Stopped stop; turns = k }) (examined + c)
        underway_stopped stop is =
            let e : rule (view s) n ≡ stopped (stop_number stop) (attempted_by stop) = sym comes.tells
            ∙ ap (λ (y : Result Entry Stop). turned_by y (view turned.state)) is in
            over u turned.state (v.Stopped stop) (u.choices ++ (chosen n c ∷ [])) (examined + c)
            (unrolled ∙ ahead-stopped rule (choice_for schedule past) u.done u.choices k from (view s) _ n c chooses (stop_number stop)
            (attempted_by stop) e)
            total (comes.leaves ∙ ap (state_after (view s)) e) turns.bounded

  -- after the last turn the run is over
  pub underway-over :
      {before : List ℕ} {s : State} {trace : List ℕ} {examined from at k : ℕ} → k ≡ turns_for schedule past
      → Underway schedule monitored job t w past before s trace examined from at k
      → Over (whole_run schedule monitored past) before trace s (record { halt = v.RanOut; turns = k }) examined
  underway-over {before} {s} {trace} {examined} {from} {at} {k} last u =
      let made : turns_for schedule past - k ≡ 0 = omega arith in
      over u s v.RanOut u.choices examined
      (u.same ∙ ap (λ (m : ℕ). ahead u.done u.choices (run_by rule (choice_for schedule past) m k from (view s))) made
      ∙ ahead-over rule (choice_for schedule past) u.done u.choices k from (view s))
      u.total refl u.bounded

  -- the snapshot shows what is declared
  shown-snapshot : (s : Meant) → shown_bytes s (count_in t NODE) (count_in t VAR) ≡ snapshot_bytes P s
  unfolding snapshot_bytes program_of
  shown-snapshot s = rw (ready.stands.counts NODE (omega arith), ready.stands.counts VAR (omega arith))

  -- the snapshot of the last state is written
  pub runs_as :
      (trace₀ trace₁ : List ℕ) (s : State) (x : Ending) (examined : ℕ) → Over (whole_run schedule monitored past) trace₀ trace₁ s x examined
      → (snapshot₀ snapshot₁ : List ℕ) (next : ℕ) → Writes (shown_bytes (view s) (count_in t NODE) (count_in t VAR)) snapshot₀ 0 snapshot₁ next
      → RunsAs P (run_of schedule monitored past) trace₀ snapshot₀ trace₁ snapshot₁ (record { ending = x; examined = examined })
  runs_as trace₀ trace₁ s x examined o snapshot₀ snapshot₁ next shows =
      let same = whole_run_lem schedule monitored past in
      record {
        answer = o.answer ∙ ap answer_in same.run;
        examined = o.total ∙ same.examined;
        trace = o.trace ∙ ap (λ (r : Run). written (trace_in r) trace₀) same.run;
        snapshot = shows.buffer ∙ placed-front snapshot₀ _
            ∙ ap (λ (l : List ℕ). written l snapshot₀)
            (shown-snapshot (view s) ∙ ap (snapshot_bytes P) (o.state ∙ ap (λ (r : Run). r.final) same.run));
      }

-- What a run delivers can be printed, and what is printed of it is the text of the model's result.
use Prim.Native.Nat.{ℕ, ◌+◌, ◌*◌, ◌≤◌}
use mathlib.Core.Path.{◌≡◌, refl, sym, ap, ap₂, ◌∙◌, subst}
use mathlib.Core.Bool.{Bool, true, false, cond}
use mathlib.Core.List.{List, [], ◌++◌, append-nil}
use native.Mathlib.Omega.{arith}
use lib.ListN.{length, drop, length-append, length-map}
use Rattle.std.proofs.Common.{Some, None, Ok, Err}
use Rattle.run.specs.Answers.{Answer, handed_for, Delivers}
use Rattle.writing.specs.Writing.{Writes, placed}
use Rattle.writing.proofs.Placing.{length-placed}
use Rattle.output.specs.Finding.{part_at}
use Rattle.output.proofs.Finding.{parts_of}
use Rattle.writing.proofs.Putting.{same_first}
use Rattle.tally.proofs.Filed.{filed_holds, filed_alone_holds}
use Rattle.lines.specs.Lines.{run_lines, tally_line, refused_line}
use Rattle.run.proofs.Delivering.{handed-ran, handed-refused, decoded_by}
use Rattle.model.specs.Table.{NODE, VAR}
use Rattle.model.specs.Command.{Command}
use Rattle.model.specs.Declared.{count_of, turns_of}
use Rattle.model.specs.Program.{Program, program_of}
use Rattle.model.specs.State.{State}
use Rattle.model.specs.Run.{Run, monitored_run, unmonitored_run, entries_of}
use Rattle.model.specs.Output.{Answer as Answered, answer_in, trace_in, nodes_bytes, variables_bytes, snapshot_bytes}
use Rattle.model.specs.Dispatch.{monitored_dispatch, unmonitored_dispatch}
use Rattle.model.specs.DispatchResult.{Handed, handed}
use Rattle.model.specs.DispatchConclusion.{DispatchEnds}
use Rattle.model.specs.Refusal.{Refusal, Decoded, accepted, rejected, decode_job, Sizes}
use Rattle.model.specs.Result.{Result, refused, ran, report, Buffers, sizes_of, written, trace_after, snapshot_after, work_after}
use Rattle.model.specs.Valid.{Bytes, Valid}
use Rattle.model.proofs.DispatchWalking.{walked}
use Rattle.model.proofs.DispatchConclusion.{dispatch_concludes}
use Rattle.model.proofs.Valid.{job-valid, limits}
use Rattle.model.proofs.Growth.{length-turns}
use Rattle.model.proofs.Bounds.{length-trace, length-variables, RunBounded, monitored-fits, unmonitored-fits, snapshot-fits}
use Rattle.command.specs.declared.refusal.Refusal.{Refusal as Refused}
use Rattle.command.specs.Refusals.{refusal_of}
use Rattle.model.specs.Refusal.{IsAccepted, commands_of}
use Rattle.tables.specs.Stands.{Stands}
use Rattle.std.proofs.Common.{Result as CodeResult}
use Rattle.command.specs.declared.refusal.Refusal.{Refusal as Refused}
use Rattle.job.specs.Decoding.{Decides}
use Rattle.job.specs.declared.schedule.Schedule.{Schedule}
use Rattle.job.specs.declared.schedule.Schedule.TheVariants as s
use Rattle.job.specs.Scheduling.{decode_by}
use Rattle.turns.specs.declared.ending.Ending.{Ending}
use Rattle.turns.specs.Endings.{answer_of}
use Rattle.turns.specs.Runs.{run_of}
use Rattle.printing.specs.Printing.{nodes_in, variables_in, tally_lines, ended_lines, total_lines, lines_by, text_size, said_by}
use Rattle.printing.specs.Printing.{said_of}
use Rattle.printing.proofs.Fronts.{parts_end, run-front}
use Rattle.printing.proofs.Short.{run_short, tallies_short}

-- the tables of an accepted job
pub stands_of : (d : Decoded) (t : List ℕ) (r : CodeResult (Unit {0}) Refused) → Decides d t r → IsAccepted d → Stands t (commands_of d)
stands_of (accepted past) t r h is = h.judged.tables past refl
stands_of (rejected q) t r h is = absurd is

-- an accepted job has at most 32 nodes
pub few_of : (job : List ℕ) (d : Decoded) → decode_job job ≡ d → IsAccepted d → count_of NODE (commands_of d) ≤ 32
few_of job (accepted past) e is = (limits past (job-valid job past e).commands).nodes
few_of job (rejected q) e is = absurd is

-- a refusal
pub refused-result : (r : Result) (before after : Buffers) (x : Answer) (q : Refused) → Delivers r before after x → x ≡ Err q → r ≡
    refused (refusal_of q)
refused-result (refused p) before after x q d e = let told = rw e at d.told in cc
refused-result (ran y trace snapshot) before after x q d e = let told = rw e at d.told in let w : ◌≡◌ {A = ℕ} 0 1 = cc in absurd (omega
    arith)

-- a run of a job's commands whose lines fit: at most 4,096 turns, and a snapshot of at most 3,136 bytes
pub record Shown (past : List Command) (r : Run) : Type 0 where
  pub steps : length r.steps ≤ 4096
  pub snapshot : length (snapshot_bytes (program_of past) r.final) ≤ 3136

-- both runs of written turns
bounded-shown : (past : List Command) → Valid past → (r : Run) → RunBounded (length (turns_of past)) r → Shown past r
bounded-shown past v r bounded = record {
  steps = omega (arith, bounded.steps, length-turns past, (limits past v).turns);
  snapshot = snapshot-fits past v (turns_of past) r.final bounded.final;
}

-- and of dispatched ones
ends-shown : (past : List Command) (budget : ℕ) (b : Sizes) (r : Run) → budget ≤ 4096 → DispatchEnds (program_of past) budget b r →
    Shown past r
ends-shown past budget b r few ends = record { steps = omega (arith, ends.turns); snapshot = ends.snapshot_length }

runs-shown : (schedule : Schedule) (m : Bool) (job : List ℕ) (b : Buffers) (past : List Command) → decode_by schedule job (sizes_of b) ≡
    accepted past
    → decode_job job ≡ accepted past → Shown past (run_of schedule m past).run
unfolding monitored_run unmonitored_run monitored_dispatch unmonitored_dispatch
runs-shown s.Written true job b past e d =
    let v = (job-valid job past d).commands in
    bounded-shown past v (run_of s.Written true past).run (monitored-fits past v (turns_of past))
runs-shown s.Written false job b past e d =
    let v = (job-valid job past d).commands in
    bounded-shown past v (run_of s.Written false past).run (unmonitored-fits past v (turns_of past))
runs-shown (s.Dispatched budget) true job b past e d =
    let a = rw e at (walked budget job (sizes_of b)) in
    ends-shown past budget (sizes_of b) _ a.has_budget.highest ((dispatch_concludes budget job b).runs past a).monitored_ends
runs-shown (s.Dispatched budget) false job b past e d =
    let a = rw e at (walked budget job (sizes_of b)) in
    ends-shown past budget (sizes_of b) _ a.has_budget.highest ((dispatch_concludes budget job b).runs past a).unmonitored_ends

-- a run that ended is the model's run of the commands of an accepted job
pub record EndedAs (schedule : Schedule) (m : Bool) (job : List ℕ) (before after : Buffers) (x : Ending) : Type 0 where
  pub past : List Command
  pub decoded : decode_job job ≡ accepted past
  pub hands_over : handed_for schedule m job (sizes_of before) ≡ handed (program_of past) (run_of schedule m past)
  pub answered : answer_of x ≡ answer_in (run_of schedule m past).run
  pub trace : after.trace ≡ written (trace_in (run_of schedule m past).run) before.trace
  pub snapshot : after.snapshot ≡ written (snapshot_bytes (program_of past) (run_of schedule m past).run.final) before.snapshot
  pub is_shown : Shown past (run_of schedule m past).run

pub ended_as :
    (schedule : Schedule) (m : Bool) (job : List ℕ) (before after : Buffers) (x : Answer) (y : Ending)
    → Delivers (handed_for schedule m job (sizes_of before)).result before after x → x ≡ Ok y → EndedAs schedule m job before after y
unfolding report
ended_as schedule m job before after x y d e = by_decoded (decode_by schedule job (sizes_of before)) refl
  where
    by_decoded : (f : Decoded) → decode_by schedule job (sizes_of before) ≡ f → EndedAs schedule m job before after y
    by_decoded (accepted past) p =
        let same = handed-ran schedule m job (sizes_of before) past p in
        let given : Delivers (report (program_of past) (run_of schedule m past).run) before after (Ok y) =
        subst (λ (z : Answer). Delivers (report (program_of past) (run_of schedule m past).run) before after z) e
        (subst (λ (h : Handed). Delivers h.result before after x) same d) in
        let told = given.told in
        let plain = decoded_by schedule job (sizes_of before) past p in
        record {
          past = past;
          decoded = plain;
          hands_over = same;
          answered = cc;
          trace = given.left.trace;
          snapshot = given.left.snapshot;
          is_shown = runs-shown schedule m job before past p plain;
        }
    by_decoded (rejected r) p =
        let same = handed-refused schedule m job (sizes_of before) r p in
        let given : Delivers (refused r) before after (Ok y) = subst (λ (z : Answer). Delivers (refused r) before after z) e (subst
        (λ (h : Handed). Delivers h.result before after x) same d) in
        let told = given.told in
        let w : ◌≡◌ {A = ℕ} 0 1 = cc in absurd (omega arith)

-- the snapshot of a state, by its parts
module _ (past : List Command) (s : State) where
  abbrev shown : List ℕ
  shown = snapshot_bytes (program_of past) s

  parts_fit : part_at shown (count_of NODE past) + 4 * count_of VAR past ≡ length shown
  unfolding snapshot_bytes program_of
  parts_fit =
      let nodes = nodes_bytes s (count_of NODE past) in
      let variables = variables_bytes s (count_of VAR past) in
      omega (arith, parts_of s (count_of NODE past) variables, length-append nodes variables, length-variables s (count_of VAR past))

-- bytes after those of a run change no line
tallies_front :
    (P : Program) (r : Run) (turns : ℕ) (more rest : List ℕ) (nodes : ℕ) → nodes ≤ P.nodes → turns ≡ length r.steps
    → tally_lines P turns (trace_in r ++ more) (snapshot_bytes P r.final ++ rest) nodes
    ≡ tally_lines P turns (trace_in r) (snapshot_bytes P r.final) nodes
tallies_front P r turns more rest nodes few same =
    rw same
    (same_first _ _ nodes
    (λ n h.
    let alone = rw (append-nil (snapshot_bytes P r.final)) at (filed_alone_holds P r (length r.steps) [] n (omega arith) (omega arith)) in
    ap (tally_line n) (filed_holds P r more rest n (omega arith) ∙ sym alone)))

nodes_of : (past : List Command) → count_of NODE past ≤ (program_of past).nodes
unfolding program_of
nodes_of past = omega arith

ended-front :
    (job : List ℕ) (past : List Command) (r : Run) (x : Answered) (more rest : List ℕ) → x.turns ≡ length r.steps
    → decode_job job ≡ accepted past
    → ended_lines job x (trace_in r ++ more) (snapshot_bytes (program_of past) r.final ++ rest)
    ≡ ended_lines job x (trace_in r) (snapshot_bytes (program_of past) r.final)
ended-front job past r x more rest turns e =
    let P = program_of past in
    let size = length-trace (entries_of r.steps) in
    let entries = length-map r.steps (λ t. t.made) in
    rw e
    (ap₂ (λ (l k : List ℕ). l ++ k)
    (run-front x (trace_in r) more (snapshot_bytes P r.final) rest (count_of NODE past) (count_of VAR past)
    (omega (arith, size, entries, turns)) (omega (arith, parts_fit past r.final)))
    (tallies_front P r x.turns more rest (count_of NODE past) (nodes_of past) turns))

-- what is printed of a run that ended
module _ (schedule : Schedule) (m : Bool) (job : List ℕ) (before after : Buffers) (x : Ending)
    (e : EndedAs schedule m job before after x) where
  abbrev past : List Command
  past = e.past

  abbrev run : Run
  run = (run_of schedule m past).run

  abbrev snapshot : List ℕ
  snapshot = snapshot_bytes (program_of past) run.final

  turns_same : x.turns ≡ length run.steps
  turns_same = ap (λ a. a.turns) e.answered

  trace-size : 7 * x.turns ≡ length (trace_in run)
  trace-size = omega (arith, turns_same, length-trace (entries_of run.steps), length-map run.steps (λ t. t.made))

  nodes-same : nodes_in job ≡ count_of NODE past
  nodes-same = ap (λ (d : Decoded). count_of NODE (commands_of d)) e.decoded

  variables-same : variables_in job ≡ count_of VAR past
  variables-same = ap (λ (d : Decoded). count_of VAR (commands_of d)) e.decoded

  pub is-accepted : IsAccepted (decode_job job)
  is-accepted = rw e.decoded tt

  pub trace-inside : 7 * x.turns ≤ length after.trace
  trace-inside = rw e.trace (omega (arith, trace-size, length-append (trace_in run) (drop (length (trace_in run)) before.trace)))

  parts : part_at after.snapshot (nodes_in job) + 4 * variables_in job ≡ length snapshot
  parts =
      let rest = drop (length snapshot) before.snapshot in
      let fits = parts_fit past run.final in
      let same = ap (λ (l : List ℕ). part_at l (nodes_in job)) e.snapshot ∙ ap (part_at (snapshot ++ rest)) nodes-same in
      omega (arith, same, variables-same, fits, parts_end snapshot rest (count_of NODE past) (count_of VAR past) (omega arith))

  pub snapshot-inside : part_at after.snapshot (nodes_in job) + 4 * variables_in job ≤ length after.snapshot
  snapshot-inside =
      omega (arith, parts, ap length e.snapshot, length-append snapshot (drop (length snapshot) before.snapshot))

  few-nodes : nodes_in job ≤ 32
  few-nodes = few_of job (decode_job job) refl is-accepted

  pub lines-short :
      Bytes after.trace → Bytes after.snapshot
      → length (ended_lines job (answer_of x) after.trace after.snapshot) + 30 ≤ text_size
  lines-short b c =
      let lines = run_lines (answer_of x) after.trace after.snapshot (nodes_in job) (variables_in job) in
      let P = program_of (commands_of (decode_job job)) in
      omega (
        arith,
        length-append lines (tally_lines P x.turns after.trace after.snapshot (nodes_in job)),
        run_short (answer_of x) after.trace after.snapshot b c (nodes_in job) (variables_in job),
        tallies_short P x.turns after.trace after.snapshot (nodes_in job),
        few-nodes,
        turns_same,
        e.is_shown.steps,
        parts,
        e.is_shown.snapshot,
      )

  pub lines_same : (examined : ℕ) → examined ≡ (handed_for schedule m job (sizes_of before)).examined
      → ended_lines job (answer_of x) after.trace after.snapshot ++ total_lines schedule examined
      ≡ lines_by schedule job (handed_for schedule m job (sizes_of before))
  unfolding report
  lines_same examined counted =
      let d = run_of schedule m past in
      let total = total_lines schedule examined in
      ap₂ (λ (t p : List ℕ). ended_lines job (answer_of x) t p ++ total) e.trace e.snapshot
      ∙ ap (λ (l : List ℕ). l ++ total)
      (ended-front job past run (answer_of x) (drop (length (trace_in run)) before.trace) (drop (length snapshot) before.snapshot)
      turns_same e.decoded)
      ∙ ap (λ (a : Answered). ended_lines job a (trace_in run) snapshot ++ total) e.answered
      ∙ ap (λ (k : ℕ). ended_lines job (answer_in run) (trace_in run) snapshot ++ total_lines schedule k)
      (counted ∙ ap (λ (h : Handed). h.examined) e.hands_over)
      ∙ sym (ap (lines_by schedule job) e.hands_over)

-- the lines of a refusal
pub refused-same : (schedule : Schedule) (job : List ℕ) (h : Handed) (r : Refusal) → h.result ≡ refused r
    → refused_line r.number r.place ≡ lines_by schedule job h
refused-same schedule job h r e = rw e (sym (append-nil (refused_line r.number r.place)))

-- a text is as long as it was
pub kept-length : (bytes before : List ℕ) (at : ℕ) (after : List ℕ) (next : ℕ) → Writes bytes before at after next
    → at + length bytes ≤ length before → length after ≡ length before
kept-length bytes before at after next w h = ap length w.buffer ∙ length-placed before at bytes h

-- what a call with room says and leaves: the lines of what is handed over, and its buffers
pub put_as :
    (room : Bool) (schedule : Schedule) (job text : List ℕ) (at : ℕ) (printed : List ℕ) (next : ℕ) (h : Handed) (before after : Buffers)
    (x : Answer)
    → room ≡ true → Writes (lines_by schedule job h) text at printed next → Delivers h.result before after x
    → (said_by (Some (record { end = next; answer = x })) ≡ cond room (Some (said_of at schedule job h)) None)
    × ((printed ≡ cond room (placed text at (lines_by schedule job h)) text)
    × ((after.trace ≡ cond room (trace_after h.result before.trace) before.trace)
    × ((after.snapshot ≡ cond room (snapshot_after h.result before.snapshot) before.snapshot)
    × (after.work ≡ cond room (work_after h.result before.work) before.work))))
put_as true schedule job text at printed next h before after x e w d =
    let place = w.place in
    let told = d.told in
    (cc, (w.buffer, (d.left.trace, (d.left.snapshot, d.left.work))))
put_as false schedule job text at printed next h before after x e w d = let z : ◌≡◌ {A = ℕ} 0 1 = cc in absurd (omega arith)

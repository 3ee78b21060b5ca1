use mathlib.Core.Path.{◌≡◌, sym, ◌∙◌}
use mathlib.Core.Bool.{true}
use mathlib.Core.List.{List}
use Prim.Native.Nat.{ℕ, ◌+◌, ◌≤◌}
use native.Mathlib.Omega.{arith}
use lib.ListN.{length}
use borrow.Author.Tests.{leb-true}
use Rattle.std.proofs.Common.{Ok, Err}
use Rattle.turns.specs.Endings.{answer_of}
use Rattle.model.specs.Result.{Buffers, sizes_of}
use Rattle.model.specs.DispatchResult.{Handed}
use Rattle.command.specs.Refusals.{refusal_of}
use Rattle.run.specs.Answers.{buffers, handed_for, Delivers}
use Rattle.writing.proofs.Placing.{writes-on}
use Rattle.run.proofs.Delivering.{delivers_by}
use Rattle.printing.specs.Printing.{text_size, has_room, ended_lines}
use Rattle.printing.proofs.Outcomes.{EndedAs, refused-result, ended_as, is-accepted, trace-inside, snapshot-inside, lines-short, lines_same}
use Rattle.printing.proofs.Outcomes.{refused-same, kept-length, put_as}
use Rattle.printing.proofs.Short.{refused-short, total-short}
use Rattle.printing.proofs.run_to_text.Goals as goal
use Rattle.printing.proofs.run_to_text.Goals.{In-Ok}

-- room is as many bytes as the text may take
large : (text : List ℕ) (at : ℕ) → has_room text at ≡ true → at + text_size ≤ length text
large text at room = leb-true (at + text_size) (length text) room

-- a run that ended: what it left, and how long its lines are
module _ (c : In-Ok) where
  abbrev before : Buffers
  before = buffers c.args.trace.now c.args.snapshot.now c.args.work.now

  abbrev left : Buffers
  left = buffers c.run-handed.new.trace c.run-handed.new.snapshot c.run-handed.new.work

  abbrev given : Handed
  given = handed_for c.args.order.schedule c.args.order.monitored c.args.job.now (sizes_of before)

  delivered : Delivers given.result before left c.run-handed.result.answer
  delivered =
      delivers_by given.result before left c.run-handed.result.answer c.run-handed.ensures.told c.run-handed.ensures.trace
      c.run-handed.ensures.snapshot c.run-handed.ensures.work

  ended : EndedAs c.args.order.schedule c.args.order.monitored c.args.job.now before left c.in-Ok.ending
  ended = ended_as c.args.order.schedule c.args.order.monitored c.args.job.now before left _ _ delivered c.in-Ok.is

  short : length (ended_lines c.args.job.now (answer_of c.in-Ok.ending) left.trace left.snapshot) + 30 ≤ text_size
  short = lines-short _ _ _ _ _ _ ended (λ i. omega (arith, c.slice_known-5-1.given i)) (λ i. omega (arith, c.slice_known-6-1.given i))

pub put_refusal-end-requires : goal.put_refusal-end-requires
put_refusal-end-requires c =
    omega (
      arith,
      large _ _ (sym c.has_room.ensures ∙ c.if-not-has_room.false),
      refused-short c.number-number.result c.in-Err.refusal.place,
    )

pub put_ended-next-requires : goal.put_ended-next-requires
put_ended-next-requires c =
    let i = (goal.at.put_ended-next-requires c).In-Ok in
    record {
      accepted = is-accepted _ _ _ _ _ _ (ended i);
      turns_in_bounds = trace-inside _ _ _ _ _ _ (ended i);
      job_in_bounds = snapshot-inside _ _ _ _ _ _ (ended i);
      snapshot_in_bounds = omega (arith, large _ _ (sym c.has_room.ensures ∙ c.if-not-has_room.false), short i);
    }

pub put_total-end-requires : goal.put_total-end-requires
put_total-end-requires c =
    let i = (goal.at.put_total-end-requires c).In-Ok in
    let wide = large _ _ (sym c.has_room.ensures ∙ c.if-not-has_room.false) in
    omega (
      arith,
      wide,
      short i,
      c.put_ended-next.ensures.place,
      kept-length _ _ _ _ _ c.put_ended-next.ensures (omega (arith, wide, short i)),
      total-short c.args.order.schedule c.run-handed.result.examined,
    )

pub returns-in-Err : goal.returns-in-Err
returns-in-Err c = let before = buffers c.args.trace.now c.args.snapshot.now c.args.work.now in
    let h = handed_for c.args.order.schedule c.args.order.monitored c.args.job.now (sizes_of before) in
    let d = delivers_by h.result before (buffers _ _ _) c.run-handed.result.answer c.run-handed.ensures.told c.run-handed.ensures.trace c.run-handed.ensures.snapshot c.run-handed.ensures.work in
    let same = refused-same c.args.order.schedule c.args.job.now h (refusal_of c.in-Err.refusal) (refused-result _ _ _ _ _ d c.in-Err.is) in
    let puts = rw (c.number-number.ensures, same) at c.put_refusal-end.ensures in
    let run = rw c.in-Err.is at d in
    let puts_all = put_as _ c.args.order.schedule c.args.job.now _ _ _ _ h before _ (Err c.in-Err.refusal)
    (sym c.has_room.ensures ∙ c.if-not-has_room.false) puts run in
    record {
      end = omega (arith, c.put_refusal-end.ensures.place, refused-short c.number-number.result c.in-Err.refusal.place);
      answer = puts_all.0;
      text = puts_all.1.0;
      trace = puts_all.1.1.0;
      snapshot = puts_all.1.1.1.0;
      work = puts_all.1.1.1.1;
    }

pub returns-in-Ok : goal.returns-in-Ok
returns-in-Ok c =
    let i = (goal.at.returns-in-Ok c).In-Ok in
    let room = sym c.has_room.ensures ∙ c.if-not-has_room.false in
    let wide = large _ _ room in
    let more = total-short c.args.order.schedule c.run-handed.result.examined in
    let both = writes-on _ _ _ _ _ _ _ _ (omega (arith, wide, short i, more)) c.put_ended-next.ensures c.put_total-end.ensures in
    let puts = rw (lines_same _ _ _ _ _ _ (ended i) c.run-handed.result.examined c.run-handed.ensures.examined) at both in
    let run = rw c.in-Ok.is at (delivered i) in
    let puts_all = put_as _ c.args.order.schedule c.args.job.now _ _ _ _ (given i) (before i) _ (Ok c.in-Ok.ending) room puts run in
    record {
      end = omega (arith, c.put_ended-next.ensures.place, c.put_total-end.ensures.place, short i, more);
      answer = puts_all.0;
      text = puts_all.1.0;
      trace = puts_all.1.1.0;
      snapshot = puts_all.1.1.1.0;
      work = puts_all.1.1.1.1;
    }

use mathlib.Core.Path.{sym, ◌∙◌}
use native.Mathlib.Omega.{arith}
use Rattle.model.proofs.Reading.{read_at}
use Rattle.command.proofs.Taken.{head_read}
use Rattle.job.proofs.Looking.{looking_start, looking_end, looking_reads, looking_behind, looking_found, looking_on}
use Rattle.job.proofs.later.check_later.Goals as goal

pub loop-at-init : goal.loop-at-init
loop-at-init c = λ all e stands uses. looking_start _ all e

pub returns-in_default : goal.returns-in_default
returns-in_default c = λ all e stands uses.
    looking_reads (c.loop-at.invariant all e stands uses) c.loop-at-test.true c.in_default.ensures

pub returns-then-c-gt-HANDLER_GROUP : goal.returns-then-c-gt-HANDLER_GROUP
returns-then-c-gt-HANDLER_GROUP c = let r = head_read _ _ _ c.in-Some.ensures in
    λ all e stands uses.
    c.refuse_unused.ensures
    ∙ sym (looking_behind (c.loop-at.invariant all e stands uses) c.loop-at-test.true r.command _ r.is_read
    (rw r.group at c.if-c-gt-HANDLER_GROUP.true))

pub returns-then-is_far : goal.returns-then-is_far
returns-then-is_far c = let r = head_read _ _ _ c.in-Some.ensures in
    λ all e stands uses.
    sym (looking_found (c.loop-at.invariant all e stands uses) c.loop-at-test.true r.command _ r.is_read _ _ _ r.byte
    r.group r.first _ stands _ _ c.length_of-len.ensures c.is_far.ensures c.if-is_far.true)

pub loop-at-smaller : goal.loop-at-smaller
loop-at-smaller c = let r = head_read _ _ _ c.in-Some.ensures in
    omega (arith, (read_at _ _ _ _ r.is_read).later, c.loop-at-test.true)

pub loop-at-preserved : goal.loop-at-preserved
loop-at-preserved c = let r = head_read _ _ _ c.in-Some.ensures in
    λ all e stands uses.
    looking_on (c.loop-at.invariant all e stands uses) c.loop-at-test.true r.command _ r.is_read _ _ _ r.byte r.group
    r.first _ stands _ _ c.length_of-len.ensures c.is_far.ensures
    c.if-is_far.false _ uses _ _ c.first_unused-unused.ensures
    c.open_after-opened.ensures

pub returns : goal.returns
returns c = λ all e stands uses. c.refuse_unused-2.ensures ∙ sym (looking_end (c.loop-at.invariant all e stands uses) c.loop-at-test.false)

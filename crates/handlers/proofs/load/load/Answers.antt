use native.Mathlib.Omega.{arith}
use Rattle.model.proofs.Reading.{read_at}
use Rattle.command.proofs.Taken.{head_read}
use Rattle.handlers.proofs.Keeping.{accepted-is, keeping_start, keeping_end, keeping_position}
use Rattle.handlers.proofs.Keeping.{keeping_reads, keeping_on, keeping_behind}
use Rattle.handlers.proofs.load.load.Goals as goal

pub loop-at-init : goal.loop-at-init
loop-at-init c = keeping_start _ _ _ (accepted-is _ c.requires)

pub returns-in_default : goal.returns-in_default
returns-in_default c = keeping_reads c.loop-at.invariant c.loop-at-test.true c.in_default.ensures

pub returns-then-c-gt-HANDLER_GROUP : goal.returns-then-c-gt-HANDLER_GROUP
returns-then-c-gt-HANDLER_GROUP c = let r = head_read _ _ _ c.in-Some.ensures in
    keeping_behind c.loop-at.invariant c.loop-at-test.true r.command _ r.is_read
    (rw r.group at c.if-c-gt-HANDLER_GROUP.true)

pub index_after-index-requires : goal.index_after-index-requires
index_after-index-requires c = omega (arith, keeping_position c.loop-at.invariant)

pub loop-at-smaller : goal.loop-at-smaller
loop-at-smaller c = let r = head_read _ _ _ c.in-Some.ensures in
    omega (arith, (read_at _ _ _ _ r.is_read).later, c.loop-at-test.true)

pub loop-at-preserved : goal.loop-at-preserved
loop-at-preserved c = let r = head_read _ _ _ c.in-Some.ensures in
    keeping_on c.loop-at.invariant c.loop-at-test.true r.command _ r.is_read _ _ r.byte r.first _ _ _
    c.keep.ensures c.index_after-index.ensures c.open_after-opened.ensures

pub returns : goal.returns
returns c = keeping_end c.loop-at.invariant c.loop-at-test.false

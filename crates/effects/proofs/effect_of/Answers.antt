use Rattle.std.proofs.Common.{◌+◌, sym, refl, ap, ◌∙◌, eq-eqb, ne_eqb}
use Rattle.model.specs.State.{accumulator_at, with_position, with_accumulator}
use Rattle.model.specs.Turn.{advanced}
use Rattle.effects.proofs.Carrying.{nexts, gets, adds, pluses, calls, sets, jumps}
use Rattle.memory.specs.declared.Registers.{Registers}
use Rattle.effects.proofs.effect_of.Goals as goal

pub returns-then-a-eq0 : goal.returns-then-a-eq0
returns-then-a-eq0 c = rw c.in-JumpZero.is
    (jumps _ _ _ _ _ _ c.continue_at-then-a-eq0.ensures (λ hs s n h.
    rw (eq-eqb _ _ (ap (λ (o : Registers). o.accumulator) h.own ∙ c.if-a-eq0.true))))

pub returns-in-Set : goal.returns-in-Set
returns-in-Set c = rw c.in-Set.is (sets _ _ _ _ _ _ c.continue_at.ensures (λ hs s n h. refl))

pub returns-in-Take : goal.returns-in-Take
returns-in-Take c = rw c.in-Take.is (sets _ _ _ _ _ _ c.continue_at-in-Take.ensures
    (λ hs s n h. ap (λ (o : Registers). advanced (with_accumulator s n o.message) n) h.own))

pub returns-in-Get : goal.returns-in-Get
returns-in-Get c = rw c.in-Get.is
    (gets _ _ _ _ _ c.continue_at-in-Get.ensures _ c.variable_at.ensures)

pub returns-in-Put : goal.returns-in-Put
returns-in-Put c = rw c.in-Put.is (nexts _ _ _ _ _ _ c.continue_at-in-Put.ensures (λ hs s n. refl)
    (λ hs s n _. tt))

pub returns-in-Add : goal.returns-in-Add
returns-in-Add c = rw c.in-Add.is
    (adds _ c.args.own _ _ _ c.continue_at-in-Add.ensures _
    c.wrapping_add_u32.ensures.value)

pub returns-in-Plus : goal.returns-in-Plus
returns-in-Plus c = rw c.in-Plus.is
    (pluses _ c.args.own _ _ _ c.continue_at-in-Plus.ensures _ _
    c.variable_at-value.ensures c.wrapping_add_u32-in-Plus.ensures.value)

pub returns-else-a-eq0 : goal.returns-else-a-eq0
returns-else-a-eq0 c = rw c.in-JumpZero.is
    (jumps _ _ _ _ _ _ c.continue_at-in-JumpZero.ensures (λ hs s n h.
    rw (ne_eqb (accumulator_at s n) 0 (λ e. c.if-a-eq0.false (sym (ap (λ (o : Registers). o.accumulator) h.own) ∙ e)))
    (ap (λ (o : Registers). with_position s n (o.position + 1)) h.own)))

pub returns-in-Jump : goal.returns-in-Jump
returns-in-Jump c = rw c.in-Jump.is (jumps _ _ _ _ _ _ c.continue_at-in-Jump.ensures (λ hs s n h. refl))

pub returns-in-Send : goal.returns-in-Send
returns-in-Send c = rw c.in-Send.is
    (nexts _ _ _ _ _ _ c.continue_at-in-Send.ensures (λ hs s n. refl) (λ hs s n e. e))

pub returns-in-Call : goal.returns-in-Call
returns-in-Call c = rw c.in-Call.is
    (calls _ c.args.own _ _ _ c.continue_at-in-Call.ensures _
    c.answer_of.ensures)

pub returns-in-Skip : goal.returns-in-Skip
returns-in-Skip c = rw c.in-Skip.is (nexts _ _ _ _ _ _ c.continue_at-in-Skip.ensures (λ hs s n. refl) (λ hs s n _. tt))

-- Plans for the four ways of a turn.
use Prim.Native.Nat.{ℕ, ◌≤◌, ◌<◌}
use mathlib.Core.Path.{◌≡◌, refl, sym, ◌∙◌, ap, subst}
use mathlib.Core.Bool.{Bool, true, false, not, ◌&&◌}
use Rattle.std.proofs.Common.{Ok, Err}
use native.Mathlib.Omega.{arith}
use lib.ListN.{length}
use Rattle.model.specs.Program.{Program}
use Rattle.model.specs.State.{Message, State, position_at, waiting_at}
use Rattle.model.specs.Declared.{Instruction}
use Rattle.model.specs.Turn.{Turned, entry, turn, oldest, begun, finished, executed, instruction_at}
use Rattle.model.proofs.Turns.{turn-unready, turn-begun, turn-executed, turn-finished}
use Rattle.command.specs.declared.numbers.NodeNum.{NodeNum}
use Rattle.entries.specs.declared.Event.TheVariants as e
use Rattle.entries.specs.declared.Stop.TheVariants as st
use Rattle.entries.specs.Entries.{rule_of}
use Rattle.memory.specs.declared.Registers.{Registers}
use Rattle.memory.specs.declared.Change.TheVariants as c
use Rattle.memory.specs.Changes.{registers, registers_at}
use Rattle.plans.specs.declared.Plan.{Plan}
use Rattle.plans.specs.Plans.{entry_by, plan, judged, Plans}
use Rattle.plans.proofs.Deciding.{rule-judged, judged-stopped, judged-made, stop-planned, made-planned}

-- an entry of a kind that needs no permission is forbidden to nobody
never : (monitored : Bool) → (monitored && not true) ≡ false
never true = refl
never false = refl

module _ (P : Program) (s : State) (node : NodeNum) (monitored : Bool) (l : Registers) (own : registers_at s node.0 ≡ l) where
  at : position_at s node.0 ≡ l.position
  at = ap (λ (x : Registers). x.position) own

  -- the turn, judged, from the turn without the lists
  ruled : (turned : Turned) → turn P s node.0 ≡ turned → rule_of monitored P s node.0 ≡ judged monitored P turned
  ruled turned h = rule-judged monitored P s node.0 ∙ ap (judged monitored P) h

  pub unready-planned : l.position ≡ 255 → waiting_at s node.0 ≡ 0
      → (ready : ℕ) → Plans P s node.0 (rule_of monitored P s node.0) (plan l c.Nothing (Err (st.Unready node)) ready)
  unready-planned p empty ready =
      stop-planned P s node l own _ 2 (entry node.0 0 0 0)
      (ruled _ (turn-unready P s node.0 (at ∙ p) empty) ∙ judged-stopped monitored P 2 (entry node.0 0 0 0))
      (Err (st.Unready node)) (λ after. refl) ready

  pub begun-planned :
      l.position ≡ 255 → ¬ (waiting_at s node.0 ≡ 0) → (first : Message) → oldest s node.0 ≡ first
      → (ready : ℕ) → Plans P s node.0 (rule_of monitored P s node.0)
      (plan (registers 0 0 first.value) c.Take (Ok (entry_by node (e.Begin first.sender first.value))) ready)
  begun-planned p waits first h ready =
      let m = oldest s node.0 in
      subst (λ (m : Message). Plans P s node.0 (rule_of monitored P s node.0)
      (plan (registers 0 0 m.value) c.Take (Ok (entry_by node (e.Begin m.sender m.value))) ready)) h
      (made-planned P s node (registers 0 0 m.value) c.Take _ (entry node.0 1 m.sender m.value) (begun s node.0)
      (ruled _ (turn-begun P s node.0 (at ∙ p) waits) ∙ judged-made monitored P (entry node.0 1 m.sender m.value)
      (begun s node.0) (never monitored))
      (e.Begin m.sender m.value) refl refl (omega (arith, waits)) ready)

  pub finished-planned :
      ¬ (l.position ≡ 255) → length (P.handler node.0) ≤ l.position
      → (ready : ℕ) → Plans P s node.0 (rule_of monitored P s node.0)
      (plan (registers 255 0 0) c.Nothing (Ok (entry_by node e.Finish)) ready)
  finished-planned p h ready =
      made-planned P s node (registers 255 0 0) c.Nothing _ (entry node.0 2 0 0) (finished s node.0)
      (ruled _ (turn-finished P s node.0 (λ q. p (sym at ∙ q)) (omega (arith, at)))
      ∙ judged-made monitored P (entry node.0 2 0 0) (finished s node.0) (never monitored))
      e.Finish refl refl tt ready

  pub executed-planned :
      ¬ (l.position ≡ 255) → l.position < length (P.handler node.0) → (i : Instruction) → i ≡ instruction_at P node.0 l.position
      → (p : Plan)
      → Plans P s node.0 (judged monitored P (executed P s node.0 i)) p → Plans P s node.0 (rule_of monitored P s node.0) p
  executed-planned q h i same p plans =
      subst (λ (x : Turned). Plans P s node.0 x p)
      (sym (ruled _ (turn-executed P s node.0 (λ r. q (sym at ∙ r)) (omega (arith, at)))
      ∙ ap (λ (j : Instruction). judged monitored P (executed P s node.0 j)) (ap (instruction_at P node.0) at ∙ sym same))) plans

-- What a turn comes to under the lists, and plans for it.
use Prim.Native.Nat.{ℕ}
use mathlib.Core.Path.{◌≡◌, refl, sym, ◌∙◌, ap, subst}
use mathlib.Core.Bool.{Bool, true, false, cond, not, ◌&&◌}
use mathlib.Core.List.{List}
use Rattle.std.proofs.Common.{Result, Ok, Err}
use Rattle.model.specs.Program.{Program}
use Rattle.model.specs.State.{State, waiting_at}
use Rattle.model.specs.Turn.{Entry as Meant, Turned, completed, stopped, entry_of, blocked, executed, performed, turn}
use Rattle.model.specs.Permission.{permitted, redacted, monitored_turn}
use Rattle.model.proofs.Logic.{true_false}
use Rattle.model.proofs.Turns.{some-agree, executed-full, executed-done}
use Rattle.command.specs.declared.numbers.NodeNum.{NodeNum}
use Rattle.command.specs.declared.instruction.Instruction.{Instruction}
use Rattle.command.specs.declared.instruction.Instruction.TheVariants as i
use Rattle.command.specs.Instructions.{instruction_of}
use Rattle.tables.specs.Tables.{wired_in}
use Rattle.tables.specs.Programs.{Handlers, program_in}
use Rattle.entries.specs.declared.Event.{Event}
use Rattle.entries.specs.declared.Entry.{Entry}
use Rattle.entries.specs.declared.Stop.{Stop}
use Rattle.entries.specs.declared.Stop.TheVariants as st
use Rattle.entries.specs.Entries.{entry_for, turned_by, state_after, rule_of}
use Rattle.entries.proofs.Names.{wired_by}
use Rattle.memory.specs.Queues.{count_at, full}
use Rattle.memory.specs.declared.Registers.{Registers}
use Rattle.memory.specs.declared.Change.{Change}
use Rattle.memory.specs.declared.Change.TheVariants as c
use Rattle.effects.specs.declared.Effect.{Effect}
use Rattle.effects.specs.Effects.{Does}
use Rattle.memory.specs.Changes.{registers_at, carried, Possible}
use Rattle.effects.proofs.Carrying.{stays}
use Rattle.plans.specs.Plans.{entry_by, plan, Waits, judged, Plans}

-- a full target by the tables and the counts is one of the program and the state
pub full_blocks : (t : List ℕ) (hs : Handlers) (ws : List ℕ) (s : State) (n port : ℕ) → Waits s ws
    → full (wired_in t n port) (count_at ws) ≡ blocked (program_in t hs) s n (instruction_of (i.Send port))
full_blocks t hs ws s n port h = some-agree _ _ (λ k. rw (wired_by t hs n port k, h k)) _

-- a command whose entry is not permitted is no send, so that no target is full
forbidden-goes : (P : Program) (s : State) (n : ℕ) (k : Instruction) → permitted P (entry_of P s n (instruction_of k)) ≡ false
    → blocked P s n (instruction_of k) ≡ false
forbidden-goes P s n (i.Set v) h = refl
forbidden-goes P s n i.Take h = refl
forbidden-goes P s n (i.Get x) h = refl
forbidden-goes P s n (i.Put x) h = refl
forbidden-goes P s n (i.Add v) h = refl
forbidden-goes P s n (i.Plus x) h = refl
forbidden-goes P s n (i.JumpZero target) h = refl
forbidden-goes P s n (i.Jump target) h = refl
forbidden-goes P s n (i.Send port) h = true_false h
forbidden-goes P s n (i.Call f) h = refl
forbidden-goes P s n i.Skip h = refl

-- the rule for one turn is the turn, judged
pub rule-judged : (monitored : Bool) (P : Program) (s : State) (n : ℕ) → rule_of monitored P s n ≡ judged monitored P (turn P s n)
unfolding monitored_turn
rule-judged true P s n = refl
rule-judged false P s n = refl

-- judging leaves a stop as it is, and a completed turn that the lists permit or nobody monitors
pub judged-stopped : (monitored : Bool) (P : Program) (k : ℕ) (x : Meant) → judged monitored P (stopped k x) ≡ stopped k x
judged-stopped true P k x = refl
judged-stopped false P k x = refl

pub judged-made : (monitored : Bool) (P : Program) (x : Meant) (s : State) → (monitored && not (permitted P x)) ≡ false
    → judged monitored P (completed x s) ≡ completed x s
judged-made true P x s h = by_permitted (permitted P x) h
  where
    by_permitted : (b : Bool) → not b ≡ false → cond b (completed x s) (stopped 1 (redacted x)) ≡ completed x s
    by_permitted true e = refl
    by_permitted false e = true_false e
judged-made false P x s h = refl

judged-forbidden : (monitored : Bool) (P : Program) (x : Meant) (s : State) → (monitored && not (permitted P x)) ≡ true
    → judged monitored P (completed x s) ≡ stopped 1 (redacted x)
judged-forbidden true P x s h = by_permitted (permitted P x) h
  where
    by_permitted : (b : Bool) → not b ≡ true → cond b (completed x s) (stopped 1 (redacted x)) ≡ stopped 1 (redacted x)
    by_permitted true e = true_false (sym e)
    by_permitted false e = refl
judged-forbidden false P x s h = true_false (sym h)

not-permitted : (monitored b : Bool) → (monitored && not b) ≡ true → b ≡ false
not-permitted true true h = true_false (sym h)
not-permitted true false h = refl
not-permitted false b h = true_false (sym h)

module _ (P : Program) (s : State) (node : NodeNum) where
  -- a plan that leaves everything as it is, for a stop
  pub stop-planned :
      (l : Registers) → registers_at s node.0 ≡ l → (turned : Turned) (k : ℕ) (x : Meant) → turned ≡ stopped k x → (outcome : Result Entry Stop)
      → ((after : State) → turned_by outcome after ≡ stopped k x)
      → (ready : ℕ) → Plans P s node.0 turned (plan l c.Nothing outcome ready)
  stop-planned l own turned k x e outcome tells ready =
      record {
        comes = record {
          tells = tells _ ∙ sym e;
          leaves = subst (λ (o : Registers). carried P s node.0 o c.Nothing ≡ s) own
              (stays P s node.0) ∙ ap (state_after s) (sym e);
        };
        possible = tt;
        stays = λ _. (sym own, refl);
      }

  -- a plan for a completed turn
  pub made-planned :
      (l : Registers) (change : Change) (turned : Turned) (x : Meant) (after : State) → turned ≡ completed x after → (event : Event)
      → entry_for node.0 event ≡ x → carried P s node.0 l change ≡ after
      → Possible (P.wired node.0) node.0 (waiting_at s) change
      → (ready : ℕ) → Plans P s node.0 turned (plan l change (Ok (entry_by node event)) ready)
  made-planned l change turned x after e event same leads can ready =
      record {
        comes = record { tells = rw (same, leads) (sym e); leaves = leads ∙ ap (state_after s) (sym e) };
        possible = can;
        stays = λ h.
            true_false (sym h);
      }

-- the turn of a node at a handler command, by the event that the command leaves
module _ (P : Program) (s : State) (node : NodeNum) (monitored : Bool) (k : Instruction) (event : Event)
    (left : entry_for node.0 event ≡ entry_of P s node.0 (instruction_of k)) where
  pub forbidden-planned :
      (l : Registers) → registers_at s node.0 ≡ l → (monitored && not (permitted P (entry_for node.0 event))) ≡ true → (shown : Event)
      → entry_for node.0 shown ≡ redacted (entry_for node.0 event)
      → (ready : ℕ) → Plans P s node.0 (judged monitored P (executed P s node.0 (instruction_of k)))
      (plan l c.Nothing (Err (st.Forbidden (entry_by node shown))) ready)
  forbidden-planned l own h shown same ready =
      let n = node.0 in
      let f : (monitored && not (permitted P (entry_of P s n (instruction_of k)))) ≡ true = rw (← left) h in
      let goes = forbidden-goes P s n k (not-permitted monitored _ f) in
      stop-planned P s node l own _ 1 (redacted (entry_of P s n (instruction_of k)))
      (ap (judged monitored P) (executed-done P s n (instruction_of k) goes)
      ∙ judged-forbidden monitored P _ (performed P s n (instruction_of k)) f)
      (Err (st.Forbidden (entry_by node shown))) (λ after. ap (stopped 1) (same ∙ ap redacted left)) ready

  pub full-planned :
      (l : Registers) → registers_at s node.0 ≡ l → blocked P s node.0 (instruction_of k) ≡ true
      → (ready : ℕ) → Plans P s node.0 (judged monitored P (executed P s node.0 (instruction_of k)))
      (plan l c.Nothing (Err (st.Full (entry_by node event))) ready)
  full-planned l own h ready =
      let n = node.0 in
      stop-planned P s node l own _ 3 (entry_of P s n (instruction_of k))
      (ap (judged monitored P) (executed-full P s n (instruction_of k) h) ∙ judged-stopped monitored P 3 (entry_of P s n (instruction_of k)))
      (Err (st.Full (entry_by node event))) (λ after. ap (stopped 3) left) ready

  pub made_by :
      (monitored && not (permitted P (entry_for node.0 event))) ≡ false → blocked P s node.0 (instruction_of k) ≡ false → (x : Effect)
      → Does P s node.0 (instruction_of k) x
      → (ready : ℕ) → Plans P s node.0 (judged monitored P (executed P s node.0 (instruction_of k)))
      (plan x.registers x.change (Ok (entry_by node event)) ready)
  made_by h goes x does ready =
      let n = node.0 in
      let f : (monitored && not (permitted P (entry_of P s n (instruction_of k)))) ≡ false = rw (← left) h in
      made-planned P s node x.registers x.change _ (entry_of P s n (instruction_of k)) (performed P s n (instruction_of k))
      (ap (judged monitored P) (executed-done P s n (instruction_of k) goes)
      ∙ judged-made monitored P (entry_of P s n (instruction_of k)) (performed P s n (instruction_of k)) f)
      event left does.state (does.possible goes) ready

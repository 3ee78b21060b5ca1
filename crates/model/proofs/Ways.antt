-- Every way that a turn goes: a property of its outcome follows from the property of each way.
use Prim.Native.Nat.{ℕ, ◌≤◌, ◌<◌}
use mathlib.Core.Path.{◌≡◌, refl}
use mathlib.Core.Bool.{Bool, true, false, cond, ◌||◌}
use lib.Dec.{ltb, eqb}
use lib.ListN.{length}
use borrow.Author.Tests.{ltb-true, ltb-false, eqb-true, eqb-false}
use Rattle.model.specs.Table.{SET, TAKE, GET, PUT, ADD, PLUS, JUMPZ, JUMP, SEND, CALL, max_nodes}
use Rattle.model.specs.Declared.{Instruction}
use Rattle.model.specs.Program.{Program, shared_in}
use Rattle.model.specs.State.{State, idle, position_at, accumulator_at, message_at, waiting_at, variable_at, with_position, with_accumulator}
use Rattle.model.specs.State.{message_from, with_queues, with_variable}
use Rattle.model.specs.Turn.{Entry, entry, Turned, completed, stopped, oldest, begun, finished, delivered, sum32, performed, advanced}
use Rattle.model.specs.Turn.{entry_of, blocked, instruction_at, turn}
use Rattle.model.specs.Permission.{permitted, redacted, enforced, monitored_turn}
use Rattle.model.proofs.Logic.{or_first, or_second}

-- by either outcome of a test
pub either : {A : Type 0} (Q : A → Type 0) (b : Bool) (x y : A) → (b ≡ true → Q x) → (b ≡ false → Q y) → Q (cond b x y)
either Q true x y p q = p refl
either Q false x y p q = q refl

-- two values by one test, where each outcome gives two that are related
pub either_two : {A : Type 0} (R : A → A → Type 0) (b : Bool) (x y x' y' : A) → (b ≡ true → R x x') → (b ≡ false → R y y')
    → R (cond b x y) (cond b x' y')
either_two R true x y x' y' p q = p refl
either_two R false x y x' y' p q = q refl

-- a completed turn leaves a state with this property
abbrev pub Keeps : (State → Type 0) → Turned → Type 0
Keeps Q (completed e s) = Q s
Keeps Q (stopped k e) = Unit {0}

-- a completed turn makes an entry with this property
abbrev pub Makes : (Entry → Type 0) → Turned → Type 0
Makes Q (completed e s) = Q e
Makes Q (stopped k e) = Unit {0}

-- the command is a jump
abbrev pub is_jump : Instruction → Bool
is_jump i = eqb i.byte JUMPZ || eqb i.byte JUMP

-- the values that a handler command may put into the accumulator have a property
pub record NewValues (R : ℕ → Type 0) (P : Program) (s : State) (n : ℕ) (i : Instruction) : Type 0 where
  pub operand : R i.operand
  pub message : R (message_at s n)
  pub variable : R (variable_at s i.operand)
  pub sum : (a b : ℕ) → R (sum32 a b)
  pub answer : R (P.answer i.operand (accumulator_at s n))

-- a handler command changes the node's accumulator, writes it to a variable, changes neither, jumps, or sends
pub performed_with :
    (R : ℕ → Type 0) (Q : State → Type 0) (P : Program) (s : State) (n : ℕ) (i : Instruction) → NewValues R P s n i
    → ((a : ℕ) → R a → Q (advanced (with_accumulator s n a) n))
    → ((x : ℕ) → Q (advanced (with_variable s x (accumulator_at s n)) n))
    → Q (advanced s n)
    → (is_jump i ≡ true → Q (with_position s n i.operand))
    → (eqb i.byte SEND ≡ true → Q (advanced (with_queues s (delivered (P.wired n i.operand) (message_from n (accumulator_at s n)) s.queue max_nodes))
    n))
    → Q (performed P s n i)
performed_with R Q P s n i new sets writes on jumps sends =
    either Q (eqb i.byte SET) _ _ (λ _. sets _ new.operand) λ _.
    either Q (eqb i.byte TAKE) _ _ (λ _. sets _ new.message) λ _.
    either Q (eqb i.byte GET) _ _ (λ _. sets _ new.variable) λ _.
    either Q (eqb i.byte PUT) _ _ (λ _. writes _) λ _.
    either Q (eqb i.byte ADD) _ _ (λ _. sets _ (new.sum _ _)) λ _.
    either Q (eqb i.byte PLUS) _ _ (λ _. sets _ (new.sum _ _)) λ _.
    either Q (eqb i.byte JUMPZ) _ _
    (λ e. either Q (eqb (accumulator_at s n) 0) _ _ (λ _. jumps (or_first (eqb i.byte JUMPZ) (eqb i.byte JUMP) e)) (λ _. on)) λ _.
    either Q (eqb i.byte JUMP) _ _ (λ e. jumps (or_second (eqb i.byte JUMPZ) (eqb i.byte JUMP) e)) λ _.
    either Q (eqb i.byte SEND) _ _ sends λ _.
    either Q (eqb i.byte CALL) _ _ (λ _. sets _ new.answer) (λ _. on)

-- the same, whatever the values
pub performed_by :
    (Q : State → Type 0) (P : Program) (s : State) (n : ℕ) (i : Instruction)
    → ((a : ℕ) → Q (advanced (with_accumulator s n a) n))
    → ((x : ℕ) → Q (advanced (with_variable s x (accumulator_at s n)) n))
    → Q (advanced s n)
    → (is_jump i ≡ true → Q (with_position s n i.operand))
    → (eqb i.byte SEND ≡ true → Q (advanced (with_queues s (delivered (P.wired n i.operand) (message_from n (accumulator_at s n)) s.queue max_nodes))
    n))
    → Q (performed P s n i)
performed_by Q P s n i sets = performed_with (λ a. Unit {0}) Q P s n i
    (record { operand = tt; message = tt; variable = tt; sum = λ a b. tt; answer = tt }) (λ a v. sets a)

-- a handler command leaves a read, a write, a call or a send, or nothing of these
pub left_by :
    (Q : Entry → Type 0) (P : Program) (s : State) (n : ℕ) (i : Instruction)
    → (eqb i.byte GET ≡ true → Q (entry n 3 i.operand (variable_at s i.operand)))
    → (eqb i.byte PLUS ≡ true → Q (entry n 3 i.operand (variable_at s i.operand)))
    → (eqb i.byte PUT ≡ true → Q (entry n 4 i.operand (accumulator_at s n)))
    → (eqb i.byte CALL ≡ true → Q (entry n 5 i.operand (accumulator_at s n)))
    → (eqb i.byte SEND ≡ true → Q (entry n 6 i.operand (accumulator_at s n)))
    → Q (entry n 0 0 0)
    → Q (entry_of P s n i)
left_by Q P s n i reads adds writes calls sends other =
    let shared = shared_in P i.operand in
    either Q (eqb i.byte GET) _ _ (λ e. either Q shared _ _ (λ _. reads e) (λ _. other)) λ _.
    either Q (eqb i.byte PLUS) _ _ (λ e. either Q shared _ _ (λ _. adds e) (λ _. other)) λ _.
    either Q (eqb i.byte PUT) _ _ (λ e. either Q shared _ _ (λ _. writes e) (λ _. other)) λ _.
    either Q (eqb i.byte CALL) _ _ calls λ _.
    either Q (eqb i.byte SEND) _ _ sends (λ _. other)

-- the node is not ready, takes a message, is stopped at a full target, carries out a command, or becomes idle
pub turn_by :
    (Q : Turned → Type 0) (P : Program) (s : State) (n : ℕ)
    → (position_at s n ≡ idle → waiting_at s n ≡ 0 → Q (stopped 2 (entry n 0 0 0)))
    → (position_at s n ≡ idle → ¬ (waiting_at s n ≡ 0) → Q (completed (entry n 1 (oldest s n).sender (oldest s n).value) (begun s n)))
    → (position_at s n < length (P.handler n) → blocked P s n (instruction_at P n (position_at s n)) ≡ true
    → Q (stopped 3 (entry_of P s n (instruction_at P n (position_at s n)))))
    → (position_at s n < length (P.handler n) → blocked P s n (instruction_at P n (position_at s n)) ≡ false
    → Q (completed (entry_of P s n (instruction_at P n (position_at s n))) (performed P s n (instruction_at P n (position_at s n)))))
    → (length (P.handler n) ≤ position_at s n → Q (completed (entry n 2 0 0) (finished s n)))
    → Q (turn P s n)
unfolding turn
turn_by Q P s n unready begins full does ends =
    either Q (eqb (position_at s n) idle) _ _
    (λ p. either Q (eqb (waiting_at s n) 0) (stopped 2 _) (completed _ _) (λ w. unready (eqb-true _ _ p) (eqb-true _ _ w))
    (λ w. begins (eqb-true _ _ p) (eqb-false (waiting_at s n) 0 w)))
    λ _.
    either Q (ltb (position_at s n) (length (P.handler n))) _ _
    (λ l. either Q (blocked P s n (instruction_at P n (position_at s n))) (stopped 3 _) (completed _ _) (full (ltb-true _ _ l))
    (does (ltb-true _ _ l)))
    (λ l. ends (ltb-false (position_at s n) (length (P.handler n)) l))

-- the lists leave an outcome as it is, or make it stop 1
pub enforced_by : (Q : Turned → Type 0) (P : Program) (t : Turned) → Q t → ((e : Entry) → Q (stopped 1 (redacted e))) → Q (enforced P t)
enforced_by Q P (completed e s) q one = either Q (permitted P e) (completed e s) (stopped 1 (redacted e)) (λ _. q) (λ _. one e)
enforced_by Q P (stopped k e) q one = q

pub monitored_by : (Q : Turned → Type 0) (P : Program) (s : State) (n : ℕ) → Q (turn P s n) → ((e : Entry) → Q (stopped 1 (redacted e)))
    → Q (monitored_turn P s n)
unfolding monitored_turn
monitored_by Q P s n q one = enforced_by Q P (turn P s n) q one

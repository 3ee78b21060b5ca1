-- A position never passes the end of its handler: jumps stay inside (test 9), and every other command moves on by one.
use Prim.Native.Nat.{ℕ, ◌+◌, ◌≤◌, ◌<◌}
use mathlib.Core.Path.{◌≡◌, refl}
use mathlib.Core.Bool.{Bool, true, false, cond, ◌||◌}
use mathlib.Core.List.{List, [], ◌∷◌}
use Rattle.std.proofs.Common.{Option, None, Some}
use mathlib.Core.Logic.{◌⊎◌, inl, inr}
use native.Mathlib.Omega.{arith}
use lib.Dec.{ltb}
use lib.ListN.{length, get_or, set}
use borrow.Author.Tests.{ltb-false, eqb-true}
use Rattle.model.specs.Table.{JUMPZ, JUMP, max_nodes}
use Rattle.model.specs.Command.{Command, is}
use Rattle.model.specs.Declared.{Instruction, instruction, is_handler, open_body, belongs, body_length, handler_of}
use Rattle.model.specs.Refusal.{Refusal, refuse, first_of, refuse_first, is_far_jump}
use Rattle.model.specs.Program.{Program, program_of}
use Rattle.model.specs.State.{State, idle, position_at, initial_state}
use Rattle.model.specs.Turn.{performed, instruction_at, turn}
use Rattle.model.specs.Permission.{monitored_turn}
use Rattle.model.specs.Valid.{ValidJob, AtPlace, Placed}
use Rattle.model.proofs.Logic.{and_right, and-rest}
use Rattle.model.proofs.Lists.{only-each, set-each, replicate-each}
use Rattle.model.proofs.Ways.{Keeps, is_jump, performed_by, turn_by, monitored_by}
use Rattle.model.proofs.Growth.{length-handler}

-- no refusal at the first command of two: none at either
or_else_none : (q r : Option Refusal) → first_of q r ≡ None → (q ≡ None) × (r ≡ None)
or_else_none None r e = (refl, e)
or_else_none (Some q) r e = let w : ◌≡◌ {A = ℕ} 0 1 = cc in absurd (omega arith)

-- a later test finds none: it finds not the latest command, nor one before it
pub first-none : (k : ℕ) (test : List Command → Command → Bool) (c : Command) (past : List Command) → refuse_first k test (c ∷ past) ≡ None
    → (refuse_first k test past ≡ None) × (test past c ≡ false)
unfolding refuse_first
first-none k test c past e =
    let h = or_else_none (refuse_first k test past) (cond (test past c) (Some (refuse k c.place)) None) e in
    (h.0, by_test (test past c) h.1)
  where
    by_test : (t : Bool) → cond t (Some (refuse k c.place)) None ≡ None → t ≡ false
    by_test true q = let w : ◌≡◌ {A = ℕ} 0 1 = cc in absurd (omega arith)
    by_test false q = refl

-- a jump of this byte and operand stays inside a handler of this length
abbrev pub StaysInside : ℕ → Instruction → Type 0
StaysInside size i = is_jump i ≡ true → i.operand ≤ size

-- every instruction of a handler stays inside the handler of all commands
pub jumps-inside :
    (all past : List Command) → refuse_first 9 (is_far_jump all) past ≡ None
    → (n i : ℕ) → i < length (handler_of past n) → StaysInside (body_length all n) (get_or (handler_of past n) i (instruction 0 0))
unfolding handler_of
jumps-inside all [] e n = λ i h. absurd (omega arith)
jumps-inside all (c ∷ past) e n =
    only-each (λ i. StaysInside (body_length all n)) (instruction 0 0) (handler_of past n) (belongs past c n)
    (instruction c.byte c.operands.first)
    (jumps-inside all past (first-none 9 (is_far_jump all) c past e).0 n) here
  where
    here : belongs past c n ≡ true → StaysInside (body_length all n) (instruction c.byte c.operands.first)
    here p j =
        let near : ltb (body_length all (open_body past)) c.operands.first ≡ false = and-rest (is JUMPZ c || is JUMP c) _ j
        (first-none 9 (is_far_jump all) c past e).1 in
        let node : open_body past ≡ n = eqb-true (open_body past) n (and_right (is_handler c) _ p) in
        ltb-false (body_length all n) c.operands.first (rw node at near)

-- a handler command that stays inside
module _ (P : Program) (s : State) (n : ℕ) (i : Instruction) (placed : Placed P s) (inside : position_at s n < length (P.handler n))
    (stays : StaysInside (length (P.handler n)) i) where
  moved : (p : ℕ) → p ≤ length (P.handler n) → (m : ℕ) → AtPlace P m (get_or (set s.position n p) m 0)
  moved p h = set-each (AtPlace P) 0 s.position n p (inr h) placed

  on : (m : ℕ) → AtPlace P m (get_or (set s.position n (position_at s n + 1)) m 0)
  on = moved (position_at s n + 1) (omega arith)

  performed-placed : Placed P (performed P s n i)
  performed-placed = performed_by (Placed P) P s n i (λ a. on) (λ x. on) on (λ j. moved i.operand (stays j)) (λ e. on)

-- every jump of the program stays inside its handler
abbrev pub JumpsInside : Program → Type 0
JumpsInside P = (n i : ℕ) → i < length (P.handler n) → StaysInside (length (P.handler n)) (instruction_at P n i)

pub turn-placed : (P : Program) → JumpsInside P → (s : State) (n : ℕ) → Placed P s → Keeps (Placed P) (turn P s n)
turn-placed P j s n placed =
    turn_by (Keeps (Placed P)) P s n (λ p w. tt) (λ p w. set-each (AtPlace P) 0 s.position n 0 (inr (omega arith)) placed)
    (λ l b. tt)
    (λ l b. performed-placed P s n (instruction_at P n (position_at s n)) placed l (j n (position_at s n) l))
    (λ l. set-each (AtPlace P) 0 s.position n idle (inl refl) placed)

pub monitored-placed : (P : Program) → JumpsInside P → (s : State) (n : ℕ) → Placed P s → Keeps (Placed P) (monitored_turn P s n)
monitored-placed P j s n placed = monitored_by (Keeps (Placed P)) P s n (turn-placed P j s n placed) (λ e. tt)

pub initial_placed : (P : Program) → Placed P (initial_state P)
unfolding initial_state
initial_placed P = replicate-each (AtPlace P) 0 max_nodes idle (λ m. inl refl) (λ m. inr (omega arith))

-- the jumps of every accepted job
pub program-jumps : (past : List Command) → ValidJob past → JumpsInside (program_of past)
unfolding program_of
program-jumps past v n i h = rw (length-handler past n) (jumps-inside past past v.jumps n i h)

-- a turn makes its node idle only at the end of its handler, where the handlers are short: no command leads to the position of an idle node
abbrev pub Idles : Program → State → ℕ → State → Type 0
Idles P s n s' = position_at s' n ≡ idle → (position_at s n ≡ idle) ⊎ (length (P.handler n) ≤ position_at s n)

module _ (P : Program) (s : State) (n : ℕ) (inside : JumpsInside P) (short : length (P.handler n) < idle) where
  module _ (here : position_at s n < length (P.handler n)) where
    -- a position inside is not that of an idle node
    busy : (p : ℕ) → p ≤ length (P.handler n) → ¬ (get_or (set s.position n p) n 0 ≡ idle)
    busy p h = set-each (λ i q. i ≡ n → ¬ (q ≡ idle)) 0 s.position n p (λ e q. omega arith)
        (λ i e q. let same : position_at s n ≡ idle = rw e at q in omega arith) n refl

    on-busy : ¬ (get_or (set s.position n (position_at s n + 1)) n 0 ≡ idle)
    on-busy = busy (position_at s n + 1) (omega arith)

    performed-busy : (i : Instruction) → StaysInside (length (P.handler n)) i → ¬ (position_at (performed P s n i) n ≡ idle)
    performed-busy i stays = performed_by (λ s'. ¬ (position_at s' n ≡ idle)) P s n i (λ a. on-busy) (λ x. on-busy) on-busy
        (λ j. busy i.operand (stays j)) (λ e. on-busy)

  pub turn_idles : Keeps (Idles P s n) (turn P s n)
  turn_idles =
      turn_by (Keeps (Idles P s n)) P s n (λ p w. tt) (λ p w e. inl p) (λ l b. tt)
      (λ l b e. absurd (performed-busy l (instruction_at P n (position_at s n)) (inside n (position_at s n) l) e)) (λ l e. inr l)

  pub monitored_idles : Keeps (Idles P s n) (monitored_turn P s n)
  monitored_idles = monitored_by (Keeps (Idles P s n)) P s n turn_idles (λ e. tt)

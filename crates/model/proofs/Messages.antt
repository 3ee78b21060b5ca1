-- What holds of every waiting message: at the start, after the oldest of a node is taken, after a send, and so after every turn.
use Prim.Native.Nat.{ℕ, zero, suc, ◌<◌}
use mathlib.Core.Path.{◌≡◌, refl}
use mathlib.Core.Bool.{Bool, true, false, cond}
use mathlib.Core.List.{List, [], ◌∷◌, ◌++◌, map}
use native.Mathlib.Omega.{arith}
use lib.Dec.{eqb}
use lib.ListN.{length, get_or, set, drop}
use borrow.Author.Tests.{eqb-true}
use Rattle.model.specs.Table.{SEND, max_nodes}
use Rattle.model.specs.Declared.{Instruction}
use Rattle.model.specs.Program.{Program}
use Rattle.model.specs.State.{Message, start_sender, message_from, no_message, State, position_at, accumulator_at, EachWaiting}
use Rattle.model.specs.State.{first_queue, initial_state}
use Rattle.model.specs.Turn.{Entry, entry, Turned, completed, stopped, delivered, entry_of, performed, instruction_at, turn}
use Rattle.model.specs.Permission.{monitored_turn}
use Rattle.model.proofs.Lists.{only-each, set-each, tabulate-each}
use Rattle.model.proofs.Ways.{performed_by, turn_by, monitored_by}

-- of every message of one queue
abbrev Each : (Message → Type 0) → List Message → Type 0
Each R q = (i : ℕ) → i < length q → R (get_or q i no_message)

-- a queue without its oldest
rest-each : (R : Message → Type 0) (q : List Message) → Each R q → Each R (drop 1 q)
rest-each R [] h i l = absurd (omega arith)
rest-each R (m ∷ q) h i l = h (suc i) (omega arith)

-- the first messages
map_each : (R : Message → Type 0) (vs : List ℕ) → ((i : ℕ) → i < length vs → R (message_from start_sender (get_or vs i 0)))
    → Each R (map (message_from start_sender) vs)
map_each R [] h i l = absurd (omega arith)
map_each R (v ∷ vs) h zero l = h zero (omega arith)
map_each R (v ∷ vs) h (suc i) l = map_each R vs (λ j b. h (suc j) (omega arith)) i (omega arith)

module _ (Q : ℕ → Message → Type 0) where
  -- the start
  pub each_first :
      (P : Program) → ((n i : ℕ) → i < length (P.first_messages n) → Q n (message_from start_sender (get_or (P.first_messages n) i 0)))
      → EachWaiting Q (initial_state P).queue
  unfolding initial_state
  each_first P h = tabulate-each (λ n. Each (Q n)) [] max_nodes (first_queue P) (λ n. map_each (Q n) (P.first_messages n) (h n))
      (λ n i l. absurd (omega arith))

  -- the oldest of a node is taken
  pub each-taken : (qs : List (List Message)) (n : ℕ) → EachWaiting Q qs → EachWaiting Q (set qs n (drop 1 (get_or qs n [])))
  each-taken qs n h = set-each (λ t. Each (Q t)) [] qs n (drop 1 (get_or qs n [])) (rest-each (Q n) (get_or qs n []) (h n)) h

  -- a message goes to each target
  pub each-delivered :
      (target : ℕ → Bool) (m : Message) (qs : List (List Message)) → ((t : ℕ) → target t ≡ true → Q t m) → EachWaiting Q qs
      → (k : ℕ) → EachWaiting Q (delivered target m qs k)
  unfolding delivered
  each-delivered target m qs new h zero = h
  each-delivered target m qs new h (suc k) = by_target (target k) refl (each-delivered target m qs new h k)
    where
      d : List (List Message)
      d = delivered target m qs k

      by_target : (b : Bool) → target k ≡ b → EachWaiting Q d → EachWaiting Q (cond b (set d k (get_or d k [] ++ (m ∷ []))) d)
      by_target false e ih = ih
      by_target true e ih = set-each (λ t. Each (Q t)) [] d k (get_or d k [] ++ (m ∷ []))
          (only-each (λ i. Q k) no_message (get_or d k []) true m (ih k) (λ _. new k e)) ih

-- a completed turn leaves queues of which each message has a property, by the turn's entry
abbrev pub Moves : (Entry → ℕ → Message → Type 0) → Turned → Type 0
Moves Q (completed e s) = EachWaiting (Q e) s.queue
Moves Q (stopped k e) = Unit {0}

-- it does, where every message before has the property, and every one that the node sends
module _ (Q : Entry → ℕ → Message → Type 0) (P : Program) (s : State) (n : ℕ) (old : (e : Entry) → EachWaiting (Q e) s.queue)
    (new : (port t : ℕ) → P.wired n port t ≡ true → Q (entry n 6 port (accumulator_at s n)) t (message_from n (accumulator_at s n))) where
  performed_moves : (i : Instruction) → EachWaiting (Q (entry_of P s n i)) (performed P s n i).queue
  performed_moves i =
      performed_by (λ s'. EachWaiting (Q (entry_of P s n i)) s'.queue) P s n i (λ a. old _) (λ x. old _) (old _) (λ j. old _)
      (λ e. each-delivered (Q (entry_of P s n i)) (P.wired n i.operand) (message_from n (accumulator_at s n)) s.queue (sends e) (old _)
      max_nodes)
    where
      sends : eqb i.byte SEND ≡ true → (t : ℕ) → P.wired n i.operand t ≡ true
          → Q (entry_of P s n i) t (message_from n (accumulator_at s n))
      sends e t w = rw (eqb-true i.byte SEND e) (new i.operand t w)

  pub turn_moves : Moves Q (turn P s n)
  turn_moves =
      turn_by (Moves Q) P s n (λ p w. tt) (λ p w. each-taken (Q _) s.queue n (old _)) (λ l b. tt)
      (λ l b. performed_moves (instruction_at P n (position_at s n))) (λ l. old _)

  pub monitored_moves : Moves Q (monitored_turn P s n)
  monitored_moves = monitored_by (Moves Q) P s n turn_moves (λ e. tt)

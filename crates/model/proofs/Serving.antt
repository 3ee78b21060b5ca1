-- One turn as the dispatcher needs it: its entry has the served node, the other nodes stay ready, and a ready node is not stopped by 2.
use Prim.Native.Nat.{ℕ, zero, suc, ◌+◌, ◌≤◌}
use mathlib.Core.Path.{◌≡◌, refl, sym, ap, ◌∙◌}
use mathlib.Core.Bool.{Bool, true, false, cond, ◌&&◌}
use mathlib.Core.List.{List, [], ◌∷◌, ◌++◌}
use native.Mathlib.Omega.{arith}
use lib.Dec.{eqb}
use lib.ListN.{length, get_or, set, drop, length-append}
use lib.Seq.{get_or-set_other}
use borrow.Author.Tests.{eqb-true, eq-eqb, not-false}
use Rattle.model.specs.Table.{max_nodes}
use Rattle.model.specs.Program.{Program}
use Rattle.model.specs.State.{Message, message_from, State, idle, position_at, accumulator_at, waiting_at, queue_at, with_position}
use Rattle.model.specs.State.{with_accumulator, with_queues, with_variable}
use Rattle.model.specs.Turn.{Turned, begun, finished, delivered, advanced, instruction_at, turn}
use Rattle.model.specs.Permission.{monitored_turn}
use Rattle.model.specs.Dispatch.{ready}
use Rattle.model.specs.Dispatching.{StaysReady}
use Rattle.model.proofs.Logic.{not-both, and_left, and_right}
use Rattle.model.proofs.Lists.{set-each}
use Rattle.model.proofs.Stops.{StopsBy, turn-stops, monitored-stops}
use Rattle.model.proofs.Ways.{Keeps, Makes, left_by, turn_by, performed_by, monitored_by}

-- an unready node is idle, and its queue is empty
module _ (s : State) (n : ℕ) where
  unready : position_at s n ≡ idle → waiting_at s n ≡ 0 → ready s n ≡ false
  unready p w = rw (eq-eqb (position_at s n) idle p, eq-eqb (waiting_at s n) 0 w)

  unready_way : ready s n ≡ false → (position_at s n ≡ idle) × (waiting_at s n ≡ 0)
  unready_way e =
      let p = eqb (position_at s n) idle in
      let w = eqb (waiting_at s n) 0 in
      let both = not-false (p && w) e in
      (eqb-true (position_at s n) idle (and_left p w both), eqb-true (waiting_at s n) 0 (and_right p w both))

-- a ready node's turn stops by 3 alone, and by 1 under the lists; a completed turn's entry has the served node
module _ (P : Program) (s : State) (n : ℕ) where
  pub ready-stops : (Q : ℕ → Type 0) → Q 3 → ready s n ≡ true → StopsBy Q (turn P s n)
  ready-stops Q three r = turn_by (StopsBy Q) P s n (λ p w. not-both r (unready s n p w)) (λ p w. tt) (λ l b. three) (λ l b. tt) (λ l. tt)

  pub ready-monitored-stops : (Q : ℕ → Type 0) → Q 1 → Q 3 → ready s n ≡ true → StopsBy Q (monitored_turn P s n)
  ready-monitored-stops Q one three r = monitored_by (StopsBy Q) P s n (ready-stops Q three r) (λ e. one)

  pub turn-serves : Makes (λ e. e.node ≡ n) (turn P s n)
  turn-serves =
      turn_by (Makes (λ e. e.node ≡ n)) P s n (λ p w. tt) (λ p w. refl) (λ l b. tt)
      (λ l b. left_by (λ e. e.node ≡ n) P s n (instruction_at P n (position_at s n)) (λ e. refl) (λ e. refl) (λ e. refl) (λ e. refl)
      (λ e. refl) refl)
      (λ l. refl)

  pub monitored-serves : Makes (λ e. e.node ≡ n) (monitored_turn P s n)
  monitored-serves = monitored_by (Makes (λ e. e.node ≡ n)) P s n turn-serves (λ e. tt)

-- a send takes no message away
delivered-more :
    (target : ℕ → Bool) (m : Message) (qs : List (List Message)) (k t : ℕ)
    → length (get_or qs t []) ≤ length (get_or (delivered target m qs k) t [])
unfolding delivered
delivered-more target m qs zero t = omega arith
delivered-more target m qs (suc k) t = by_target (target k) (delivered-more target m qs k)
  where
    d : List (List Message)
    d = delivered target m qs k

    by_target :
        (b : Bool) → ((j : ℕ) → length (get_or qs j []) ≤ length (get_or d j []))
        → length (get_or qs t []) ≤ length (get_or (cond b (set d k (get_or d k [] ++ (m ∷ []))) d) t [])
    by_target true ih =
        set-each (λ j (q : List Message). length (get_or qs j []) ≤ length q) [] d k (get_or d k [] ++ (m ∷ []))
        (omega (arith, length-append (get_or d k []) (m ∷ []), ih k)) ih t
    by_target false ih = ih t

-- a ready node stays ready by the turn of another node
module _ (P : Program) (s : State) (n m : ℕ) (other : ¬ (m ≡ n)) (r : ready s m ≡ true) where
  abbrev Still : State → Type 0
  Still s' = ready s' m ≡ true

  -- with the same position and no fewer messages
  still : (s' : State) → position_at s' m ≡ position_at s m → waiting_at s m ≤ waiting_at s' m → Still s'
  still s' p w = by_ready (ready s' m) refl
    where
      by_ready : (t : Bool) → ready s' m ≡ t → t ≡ true
      by_ready true e = refl
      by_ready false e = let u = unready_way s' m e in not-both r (unready s m (sym p ∙ u.0) (omega (arith, u.1)))

  moved : (p : ℕ) → get_or (set s.position n p) m 0 ≡ position_at s m
  moved p = get_or-set_other s.position n m p 0 other

  turn-keeps-ready : Keeps Still (turn P s n)
  turn-keeps-ready =
      let i = instruction_at P n (position_at s n) in
      let on = moved (position_at s n + 1) in
      let sent = delivered (P.wired n i.operand) (message_from n (accumulator_at s n)) s.queue max_nodes in
      turn_by (Keeps Still) P s n (λ p w. tt)
      (λ p w. still (begun s n) (moved 0) (omega (arith, ap length (get_or-set_other s.queue n m (drop 1 (queue_at s n)) [] other))))
      (λ l b. tt)
      (λ l b.
      performed_by Still P s n i
      (λ a. still (advanced (with_accumulator s n a) n) on (omega arith))
      (λ x. still (advanced (with_variable s x (accumulator_at s n)) n) on (omega arith))
      (still (advanced s n) on (omega arith))
      (λ j. still (with_position s n i.operand) (moved i.operand) (omega arith))
      (λ e. still (advanced (with_queues s sent) n) on
      (delivered-more (P.wired n i.operand) (message_from n (accumulator_at s n)) s.queue max_nodes m)))
      (λ l. still (finished s n) (moved idle) (omega arith))

  monitored-keeps-ready : Keeps Still (monitored_turn P s n)
  monitored-keeps-ready = monitored_by (Keeps Still) P s n turn-keeps-ready (λ e. tt)

module _ (P : Program) where
  pub turn-stays : StaysReady (turn P)
  turn-stays s n m other r e s' t = rw t at (turn-keeps-ready P s n m other r)

  pub monitored-stays : StaysReady (monitored_turn P)
  monitored-stays s n m other r e s' t = rw t at (monitored-keeps-ready P s n m other r)

-- a rule for one turn that serves: its stops are 1 to 3, a completed turn's entry has the served node, and the other nodes stay ready
pub record Serving (rule : State → ℕ → Turned) : Type 1 where
  pub stops : (Q : ℕ → Type 0) → Q 1 → Q 2 → Q 3 → (s : State) (n : ℕ) → StopsBy Q (rule s n)
  pub makes : (s : State) (n : ℕ) → Makes (λ e. e.node ≡ n) (rule s n)
  pub keeps : StaysReady rule

module _ (P : Program) where
  pub turn_serving : Serving (turn P)
  turn_serving = record { stops = λ Q one two three. turn-stops Q two three P; makes = turn-serves P; keeps = turn-stays P }

  pub monitored_serving : Serving (monitored_turn P)
  monitored_serving = record {
    stops = λ Q one two three. monitored-stops Q one two three P;
    makes = monitored-serves P;
    keeps = monitored-stays P;
  }

-- What a turn comes to, from the tests that lead there; sends by a loop over the targets.
use Prim.Native.Nat.{ℕ, zero, suc, ◌≤◌, ◌<◌}
use mathlib.Core.Path.{◌≡◌, refl, ap, ◌∙◌}
use mathlib.Core.Bool.{Bool, true, false, cond, ◌||◌, or-true}
use mathlib.Core.List.{List, [], ◌∷◌, ◌++◌}
use native.Mathlib.Omega.{arith}
use lib.Dec.{eqb}
use lib.ListN.{length, get_or, set, length-set}
use lib.Seq.{get_or-set_other}
use borrow.Author.Tests.{eqb-true, eqb-false, eq-eqb, ne_eqb, lt-ltb, le-ltb}
use Rattle.model.specs.Declared.{Instruction}
use Rattle.model.specs.Program.{Program}
use Rattle.model.specs.State.{Message, State, idle, position_at, waiting_at}
use Rattle.model.specs.Turn.{Entry, entry, completed, stopped, oldest, begun, finished, some_below, delivered, performed, entry_of}
use Rattle.model.specs.Turn.{blocked, executed, idle_turn, instruction_at, turn}
use Rattle.model.specs.Permission.{permitted, redacted, enforced, monitored_turn}
use Rattle.model.proofs.Logic.{or_left, or_right}

-- no number below k passes the test
pub some-none : (test : ℕ → Bool) (k : ℕ) → some_below test k ≡ false → (t : ℕ) → t < k → test t ≡ false
unfolding some_below
some-none test zero e t h = absurd (omega arith)
some-none test (suc k) e t h = by_last (eqb t k) refl (some-none test k (or_left (some_below test k) (test k) e) t)
  where
    by_last : (b : Bool) → eqb t k ≡ b → (t < k → test t ≡ false) → test t ≡ false
    by_last true p ih = rw (eqb-true t k p) (or_right (some_below test k) (test k) e)
    by_last false p ih = ih (omega (arith, eqb-false t k p))

-- a loop that finds none goes on
pub some_more : (test : ℕ → Bool) (k : ℕ) → some_below test k ≡ false → test k ≡ false → some_below test (suc k) ≡ false
unfolding some_below
some_more test k e f = rw (e, f)

-- a loop that finds one is done
pub some-found : (test : ℕ → Bool) (k t : ℕ) → t < k → test t ≡ true → some_below test k ≡ true
unfolding some_below
some-found test zero t h e = absurd (omega arith)
some-found test (suc k) t h e = by_last (eqb t k) refl (some-found test k t)
  where
    by_last : (b : Bool) → eqb t k ≡ b → (t < k → test t ≡ true → some_below test k ≡ true) → (some_below test k || test k) ≡ true
    by_last true p ih = let f : test k ≡ true = rw (eqb-true t k p) at e in rw f (or-true (some_below test k))
    by_last false p ih = rw (ih (omega (arith, eqb-false t k p)) e)

-- the loop of a send, at a target and at any other node
module _ (target : ℕ → Bool) (m : Message) (qs : List (List Message)) (k : ℕ) where
  pub delivered_target : target k ≡ true → delivered target m qs (suc k) ≡ set (delivered target m qs k) k
      (get_or (delivered target m qs k) k [] ++ (m ∷ []))
  unfolding delivered
  delivered_target e = rw e

  pub delivered-other : target k ≡ false → delivered target m qs (suc k) ≡ delivered target m qs k
  unfolding delivered
  delivered-other e = rw e

-- a send by the same targets, and a test with the same answers
pub delivered-agree : (target target' : ℕ → Bool) → ((t : ℕ) → target t ≡ target' t) → (m : Message) (qs : List (List Message)) (k : ℕ)
    → delivered target m qs k ≡ delivered target' m qs k
delivered-agree target target' e m qs k = λ i. delivered (λ t. e t i) m qs k

pub some-agree : (test test' : ℕ → Bool) → ((t : ℕ) → test t ≡ test' t) → (k : ℕ) → some_below test k ≡ some_below test' k
some-agree test test' e k = λ i. some_below (λ t. e t i) k

-- a send changes no number of queues
pub length-delivered : (target : ℕ → Bool) (m : Message) (qs : List (List Message)) (k : ℕ) → length (delivered target m qs k) ≡ length qs
unfolding delivered
length-delivered target m qs zero = refl
length-delivered target m qs (suc k) = by_target (target k) (length-delivered target m qs k)
  where
    by_target :
        (b : Bool) → length (delivered target m qs k) ≡ length qs
        → length (cond b (set (delivered target m qs k) k (get_or (delivered target m qs k) k [] ++ (m ∷ [])))
        (delivered target m qs k)) ≡ length qs
    by_target true h = length-set (delivered target m qs k) k _ ∙ h
    by_target false h = h

-- the queues from k on wait for their value
pub delivered-later : (target : ℕ → Bool) (m : Message) (qs : List (List Message)) (k t : ℕ) → k ≤ t
    → get_or (delivered target m qs k) t [] ≡ get_or qs t []
unfolding delivered
delivered-later target m qs zero t h = refl
delivered-later target m qs (suc k) t h = by_target (target k) (delivered-later target m qs k t (omega arith))
  where
    by_target :
        (b : Bool) → get_or (delivered target m qs k) t [] ≡ get_or qs t []
        → get_or (cond b (set (delivered target m qs k) k (get_or (delivered target m qs k) k [] ++ (m ∷ []))) (delivered target m qs k)) t
        [] ≡ get_or qs t []
    by_target true ih = get_or-set_other (delivered target m qs k) k t _ [] (λ e. omega arith) ∙ ih
    by_target false ih = ih

-- the four ways of a turn
module _ (P : Program) (s : State) (n : ℕ) where
  pub turn-unready : position_at s n ≡ idle → waiting_at s n ≡ 0 → turn P s n ≡ stopped 2 (entry n 0 0 0)
  unfolding turn
  turn-unready p w = rw (eq-eqb (position_at s n) idle p, eq-eqb (waiting_at s n) 0 w)

  pub turn-begun : position_at s n ≡ idle → ¬ (waiting_at s n ≡ 0) → turn P s n ≡ completed (entry n 1 (oldest s n).sender (oldest s n).value) (begun s n)
  unfolding turn
  turn-begun p w = rw (eq-eqb (position_at s n) idle p, ne_eqb (waiting_at s n) 0 w)

  pub turn-executed : ¬ (position_at s n ≡ idle) → position_at s n < length (P.handler n)
      → turn P s n ≡ executed P s n (instruction_at P n (position_at s n))
  unfolding turn
  turn-executed p l = rw (ne_eqb (position_at s n) idle p, lt-ltb (position_at s n) (length (P.handler n)) l)

  pub turn-finished : ¬ (position_at s n ≡ idle) → length (P.handler n) ≤ position_at s n
      → turn P s n ≡ completed (entry n 2 0 0) (finished s n)
  unfolding turn
  turn-finished p l = rw (ne_eqb (position_at s n) idle p, le-ltb (position_at s n) (length (P.handler n)) l)

  pub turn-started : position_at s n ≡ idle → turn P s n ≡ idle_turn s n
  unfolding turn
  turn-started p = rw (eq-eqb (position_at s n) idle p)

  -- a handler command: a send to a full target, and all else
  pub executed-full : (i : Instruction) → blocked P s n i ≡ true → executed P s n i ≡ stopped 3 (entry_of P s n i)
  executed-full i e = ap (λ (b : Bool). cond b (stopped 3 (entry_of P s n i)) (completed (entry_of P s n i) (performed P s n i))) e

  pub executed-done : (i : Instruction) → blocked P s n i ≡ false → executed P s n i ≡ completed (entry_of P s n i) (performed P s n i)
  executed-done i e = ap (λ (b : Bool). cond b (stopped 3 (entry_of P s n i)) (completed (entry_of P s n i) (performed P s n i))) e

  -- a turn under the lists
  pub monitored-permitted : (e : Entry) (s' : State) → turn P s n ≡ completed e s' → permitted P e ≡ true
      → monitored_turn P s n ≡ completed e s'
  unfolding monitored_turn
  monitored-permitted e s' t p = ap (enforced P) t ∙ ap (λ (b : Bool). cond b (completed e s') (stopped 1 (redacted e))) p

  pub monitored-forbidden : (e : Entry) (s' : State) → turn P s n ≡ completed e s' → permitted P e ≡ false
      → monitored_turn P s n ≡ stopped 1 (redacted e)
  unfolding monitored_turn
  monitored-forbidden e s' t p = ap (enforced P) t ∙ ap (λ (b : Bool). cond b (completed e s') (stopped 1 (redacted e))) p

  pub monitored-stopped : (k : ℕ) (e : Entry) → turn P s n ≡ stopped k e → monitored_turn P s n ≡ stopped k e
  unfolding monitored_turn
  monitored-stopped k e t = ap (enforced P) t

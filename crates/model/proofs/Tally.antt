-- Messages add up (S-12): one law for one turn, then by induction over the turns of any run.
use Prim.Native.Nat.{ℕ, zero, suc, ◌+◌, ◌<◌}
use mathlib.Core.Path.{◌≡◌, refl, sym, subst, ◌∙◌}
use mathlib.Core.Bool.{Bool, true, false, cond, ◌&&◌, and-true}
use mathlib.Core.List.{List, [], ◌∷◌, ◌++◌, map}
use native.Mathlib.Omega.{arith}
use lib.Dec.{leb, eqb}
use lib.ListN.{length, get_or, set, drop, get_or-eq_default}
use lib.Seq.{get_or-set_same, get_or-set_other}
use borrow.Author.Tests.{eqb-true, eqb-false, ne_eqb, leb-true, leb-false}
use Rattle.model.specs.Table.{SEND, START, max_nodes}
use Rattle.model.specs.Command.{is}
use Rattle.model.specs.Declared.{Instruction, starts_of}
use Rattle.model.specs.Program.{Program, program_of}
use Rattle.model.specs.State.{Message, start_sender, message_from, no_message, State, position_at, accumulator_at, queue_at, waiting_at}
use Rattle.model.specs.State.{first_queue, initial_state}
use Rattle.model.specs.Turn.{Entry, entry, Turned, completed, stopped, oldest, begun, finished, delivered, entry_of, performed}
use Rattle.model.specs.Turn.{instruction_at, turn}
use Rattle.model.specs.Permission.{monitored_turn}
use Rattle.model.specs.Run.{Run, entry_at, state_at}
use Rattle.model.specs.Following.{Follows}
use Rattle.model.specs.Dispatch.{chosen_in, monitored_dispatch, unmonitored_dispatch}
use Rattle.model.specs.Valid.{Sized}
use Rattle.model.specs.Tally.{count_entries, count_if, reaches, takes, started, started_from, AddUp, Tallied, unmonitored_turns, monitored_turns}
use Rattle.model.specs.Tally.{unmonitored_budget, monitored_budget, TallyHolds, StartedHolds}
use Rattle.model.proofs.Logic.{not-both}
use Rattle.model.proofs.Lists.{length-only, get_or-tabulate}
use Rattle.model.proofs.Counting.{bit, count-suc, count_nothing}
use Rattle.model.proofs.Ways.{Keeps, left_by, performed_by, turn_by, monitored_by}
use Rattle.model.proofs.Turns.{delivered-later, length-delivered, delivered_target, delivered-other}
use Rattle.model.proofs.Sizes.{initial_sized, turn_sized, monitored_sized}
use Rattle.model.proofs.Following.{demand2, no_entry_lem, last-state, at_each}
use Rattle.model.proofs.Dispatching.{dispatch_holds}

-- one element more, in front and behind; and all elements
count_cons : {A : Type 0} (test : A → Bool) (a : A) (l : List A) → count_if test (a ∷ l) ≡ bit (test a) + count_if test l
unfolding count_if
count_cons test a l = by_test (test a)
  where
    by_test : (b : Bool) → cond b (count_if test l + 1) (count_if test l) ≡ bit b + count_if test l
    by_test true = omega arith
    by_test false = omega arith

count_none : {A : Type 0} (test : A → Bool) → count_if test [] ≡ 0
unfolding count_if
count_none test = refl

count-last : {A : Type 0} (test : A → Bool) (l : List A) (a : A) → count_if test (l ++ (a ∷ [])) ≡ count_if test l + bit (test a)
count-last test [] a = omega (arith, count_cons test a [], count_none test)
count-last test (b ∷ l) a = omega (arith, count_cons test b (l ++ (a ∷ [])), count_cons test b l, count-last test l a)

count-all : {A : Type 0} (l : List A) → count_if (λ (a : A). true) l ≡ length l
unfolding count_if
count-all [] = refl
count-all (a ∷ l) = omega (arith, count-all l)

-- a test that fails counts nothing
none : (a b c : Bool) → b ≡ false → bit (a && (b && c)) ≡ 0
none true b c e = rw e
none false b c e = refl

-- the messages from the senders that pass a test
module _ (from : ℕ → Bool) where
  abbrev is_from : Message → Bool
  is_from m = from m.sender

  abbrev waits : List (List Message) → ℕ → ℕ
  waits qs t = count_if is_from (get_or qs t [])

  abbrev arrives : Program → ℕ → Entry → Bool
  arrives P t e = from e.node && reaches P t e

  abbrev leaves : ℕ → Entry → Bool
  leaves t e = from e.number && takes t e

  -- those that START puts there
  first-waits : (vs : List ℕ) → count_if is_from (map (message_from start_sender) vs) ≡ cond (from start_sender) (length vs) 0
  first-waits vs = by_test (from start_sender) refl vs
    where
      by_test : (b : Bool) → from start_sender ≡ b → (vs : List ℕ) → count_if is_from (map (message_from start_sender) vs) ≡ cond b (length vs) 0
      by_test true e [] = count_none is_from
      by_test false e [] = count_none is_from
      by_test true e (v ∷ vs) =
          let one : bit (from start_sender) ≡ 1 = rw e in
          omega (arith, count_cons is_from (message_from start_sender v) (map (message_from start_sender) vs), by_test true e vs)
      by_test false e (v ∷ vs) =
          let nothing : bit (from start_sender) ≡ 0 = rw e in
          omega (arith, count_cons is_from (message_from start_sender v) (map (message_from start_sender) vs), by_test false e vs)

  -- a send adds one to what waits at each target
  delivered-waits :
      (target : ℕ → Bool) (m : Message) (qs : List (List Message)) (k t : ℕ) → t < k → t < length qs
      → waits (delivered target m qs k) t ≡ waits qs t + bit (is_from m && target t)
  delivered-waits target m qs zero t h l = absurd (omega arith)
  delivered-waits target m qs (suc k) t h l = by_last (eqb t k) refl (target k) refl (λ i. delivered-waits target m qs k t i l)
    where
      d : List (List Message)
      d = delivered target m qs k

      more : List Message
      more = get_or d k [] ++ (m ∷ [])

      by_last :
          (b : Bool) → eqb t k ≡ b → (c : Bool) → target k ≡ c → (t < k → waits d t ≡ waits qs t + bit (is_from m && target t))
          → waits (delivered target m qs (suc k)) t ≡ waits qs t + bit (is_from m && target t)
      by_last true p true q ih =
          let same : t ≡ k = eqb-true t k p in
          rw (
            same,
            delivered_target target m qs k q,
            get_or-set_same d k more [] (omega (arith, length-delivered target m qs k)),
            delivered-later target m qs k k (omega arith),
            q,
            and-true (is_from m),
          )
          (count-last is_from (get_or qs k []) m)
      by_last true p false q ih =
          let same : t ≡ k = eqb-true t k p in
          rw (same, delivered-other target m qs k q, delivered-later target m qs k k (omega arith), q)
          (omega (arith, none (is_from m) false true refl))
      by_last false p true q ih =
          rw (delivered_target target m qs k q, get_or-set_other d k t more [] (eqb-false t k p)) (ih (omega (arith, eqb-false t k p)))
      by_last false p false q ih = rw (delivered-other target m qs k q) (ih (omega (arith, eqb-false t k p)))

  -- the law of one turn: what arrives at a node and what leaves is the change of what waits there
  abbrev Balance : Program → State → Entry → State → Type 0
  Balance P s e s' = (t : ℕ) → t < max_nodes → waits s.queue t + bit (arrives P t e) ≡ bit (leaves t e) + waits s'.queue t

  abbrev Balanced : Program → State → Turned → Type 0
  Balanced P s (completed e s') = Balance P s e s'
  Balanced P s (stopped k e) = Unit {0}

  -- a turn that changes no queue, and whose entry is neither a taking nor a send
  still : (P : Program) (s : State) (e : Entry) (s' : State) → s'.queue ≡ s.queue → eqb e.kind 6 ≡ false → eqb e.kind 1 ≡ false
      → Balance P s e s'
  still P s e s' q a b t h =
      let arriving : bit (arrives P t e) ≡ 0 = none (from e.node) (eqb e.kind 6) _ a in
      let leaving : bit (leaves t e) ≡ 0 = none (from e.number) (eqb e.kind 1) _ b in
      rw q (omega (arith, arriving, leaving))

  module _ (P : Program) (s : State) (n : ℕ) (sized : length s.queue ≡ max_nodes) where
    -- the oldest message is taken
    begun_balance : ¬ (waiting_at s n ≡ 0) → Balance P s (entry n 1 (oldest s n).sender (oldest s n).value) (begun s n)
    begun_balance w t h = by_node (eqb n t) refl
      where
        rest : List Message
        rest = drop 1 (queue_at s n)

        inside : n < length s.queue
        inside = by_range (leb (length s.queue) n) refl
          where
            by_range : (b : Bool) → leb (length s.queue) n ≡ b → n < length s.queue
            by_range true p = absurd (w (rw (get_or-eq_default s.queue [] (leb-true (length s.queue) n p))))
            by_range false p = leb-false (length s.queue) n p

        split : (q : List Message) → ¬ (length q ≡ 0) → count_if is_from q ≡ bit (is_from (get_or q 0 no_message)) + count_if is_from (drop 1 q)
        split [] some = absurd (some refl)
        split (m ∷ q) some = count_cons is_from m q

        by_node : (b : Bool) → eqb n t ≡ b
            → waits s.queue t + bit (from n && false) ≡ bit (from (oldest s n).sender && b) + waits (set s.queue n rest) t
        by_node true p =
            let same : n ≡ t = eqb-true n t p in
            rw (← same, get_or-set_same s.queue n rest [] inside, and-true (from (oldest s n).sender))
            (omega (arith, split (queue_at s n) w, none (from n) false true refl))
        by_node false p =
            rw (get_or-set_other s.queue n t rest [] (λ e. eqb-false n t p (sym e)))
            (omega (arith, none (from n) false true refl, none (from (oldest s n).sender) false true refl))

    -- a handler command: a send, and all else
    module _ (i : Instruction) where
      abbrev Quiet : Entry → Type 0
      Quiet e = (eqb e.kind 6 ≡ false) × (eqb e.kind 1 ≡ false)

      quiet : eqb i.byte SEND ≡ false → Quiet (entry_of P s n i)
      quiet f = left_by Quiet P s n i (λ _. (refl, refl)) (λ _. (refl, refl)) (λ _. (refl, refl)) (λ _. (refl, refl)) (λ e. not-both e f)
          (refl, refl)

      same-queues : eqb i.byte SEND ≡ false → (performed P s n i).queue ≡ s.queue
      same-queues f = performed_by (λ s'. s'.queue ≡ s.queue) P s n i (λ a. refl) (λ x. refl) refl (λ j. refl) (λ e. not-both e f)

      send_balance : i.byte ≡ SEND → Balance P s (entry_of P s n i) (performed P s n i)
      send_balance e t h =
          rw e
          (omega (
            arith,
            delivered-waits (P.wired n i.operand) (message_from n (accumulator_at s n)) s.queue max_nodes t h (rw sized h),
            none (from i.operand) false true refl,
          ))

      performed_balance : Balance P s (entry_of P s n i) (performed P s n i)
      performed_balance = by_byte (eqb i.byte SEND) refl
        where
          by_byte : (b : Bool) → eqb i.byte SEND ≡ b → Balance P s (entry_of P s n i) (performed P s n i)
          by_byte true p = send_balance (eqb-true i.byte SEND p)
          by_byte false p = still P s (entry_of P s n i) (performed P s n i) (same-queues p) (quiet p).0 (quiet p).1

    turn_balance : Balanced P s (turn P s n)
    turn_balance =
        turn_by (Balanced P s) P s n (λ p w. tt) (λ p w. begun_balance w) (λ l f. tt)
        (λ l f. performed_balance (instruction_at P n (position_at s n)))
        (λ l. still P s (entry n 2 0 0) (finished s n) refl refl refl)

    monitored_balance : Balanced P s (monitored_turn P s n)
    monitored_balance = monitored_by (Balanced P s) P s n turn_balance (λ e. tt)

-- a run from the start by a rule whose turns balance
module _
    (P : Program) (rule : State → ℕ → Turned) (sized : (s : State) (n : ℕ) → Sized s → Keeps Sized (rule s n))
    (balanced : (from : ℕ → Bool) (s : State) (n : ℕ) → length s.queue ≡ max_nodes → Balanced from P s (rule s n))
    (turns : List ℕ) (r : Run) (goes : Follows rule turns (initial_state P) r)
  where
    -- by the senders that pass a test
    module _ (from : ℕ → Bool) (t : ℕ) (h : t < max_nodes) where
      abbrev Balances : ℕ → State → Type 0
      Balances k s =
          cond (from start_sender) (started P t) 0 + count_entries (arrives from P t) (entry_at r) k
          ≡ count_entries (leaves from t) (entry_at r) k + waits from s.queue t

      one_more : (test : Entry → Bool) (k : ℕ) → count_entries test (entry_at r) (suc k) ≡ count_entries test (entry_at r) k + bit (test (entry_at r k))
      one_more test k = count-suc (λ j. test (entry_at r j)) k

      first : Balances 0 (initial_state P)
      unfolding initial_state
      first =
          rw (get_or-tabulate max_nodes t (first_queue P) [] h)
          (omega (
            arith,
            first-waits from (P.first_messages t),
            count_nothing (λ j. arrives from P t (entry_at r j)),
            count_nothing (λ j. leaves from t (entry_at r j)),
          ))

      stays : (k : ℕ) (s : State) → ¬ (k < length r.steps) → Sized s × Balances k s → Sized s × Balances (suc k) s
      stays k s beyond (z, a) =
          let arriving : bit (arrives from P t (entry_at r k)) ≡ 0 = rw (no_entry_lem r k beyond) (none (from 0) false true refl) in
          let leaving : bit (leaves from t (entry_at r k)) ≡ 0 = rw (no_entry_lem r k beyond) (none (from 0) false true refl) in
          (z, omega (arith, a, one_more (arrives from P t) k, one_more (leaves from t) k))

      next : (k : ℕ) → k < length r.steps → Sized (state_at r k) × Balances k (state_at r k)
          → Sized (state_at r (suc k)) × Balances (suc k) (state_at r (suc k))
      next k below (z, a) =
          let turned = goes.goes_on k below in
          let balance = subst (Balanced from P (state_at r k)) turned (balanced from (state_at r k) (get_or turns k 0) z.queue) t h in (
            subst (Keeps Sized) turned (sized (state_at r k) (get_or turns k 0) z),
            omega (arith, a, balance, one_more (arrives from P t) k, one_more (leaves from t) k),
          )

      adds : (k : ℕ) → Balances k (state_at r k)
      adds k = (at_each goes (λ j s. Sized s × Balances j s) (initial_sized P, first) stays next k).1

    add_up_lem : (k n : ℕ) → n < max_nodes → AddUp P (entry_at r) k (state_at r k) n
    add_up_lem k n h =
        record {
          in_all = rw (count-all (queue_at (state_at r k) n)) at (adds (λ m. true) n h k);
          from = λ m. adds (λ sender. eqb sender m) n h k;
          from_node =
              λ m l.
              let none-started : started_from P m n ≡ 0 = rw (ne_eqb start_sender m (λ e. l (sym e))) in
              omega (arith, adds (λ sender. eqb sender m) n h k);
        }

    pub tallied : Tallied P r
    tallied =
        record {
          always = add_up_lem;
          at_stop =
              λ n h.
              subst (λ (s : State). AddUp P (entry_at r) (length r.steps) s n) (last-state r (length r.steps) (λ l. omega arith))
              (add_up_lem (length r.steps) n h);
        }

-- every run of every program: a dispatched run has the entries and states of its choices as written turns
pub tally-holds : TallyHolds
tally-holds P _ (unmonitored_turns turns) =
    tallied P (turn P) (turn_sized P) (λ from. turn_balance from P) turns _ (demand2 P turns).unmonitored_follows
tally-holds P _ (monitored_turns turns) =
    tallied P (monitored_turn P) (monitored_sized P) (λ from. monitored_balance from P) turns _ (demand2 P turns).monitored_follows
tally-holds P _ (unmonitored_budget budget) =
    let t = tallied P (turn P) (turn_sized P) (λ from. turn_balance from P) (chosen_in (unmonitored_dispatch P budget).choices) _
    (dispatch_holds P budget).unmonitored_dispatches.follows in
    record { always = t.always; at_stop = t.at_stop }
tally-holds P _ (monitored_budget budget) =
    let t = tallied P (monitored_turn P) (monitored_sized P) (λ from. monitored_balance from P)
    (chosen_in (monitored_dispatch P budget).choices) _ (dispatch_holds P budget).monitored_dispatches.follows in
    record { always = t.always; at_stop = t.at_stop }

-- as many first messages as START commands
pub started-holds : StartedHolds
unfolding program_of starts_of count_if
started-holds [] n = refl
started-holds (c ∷ past) n =
    length-only (starts_of past n) (is START c && eqb c.operands.first n) c.operands.second ∙ rw (started-holds past n)

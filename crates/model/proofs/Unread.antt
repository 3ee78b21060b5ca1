-- A shared variable that no node may read: a monitored run from the same state but for that variable makes the same entries and choices,
-- and ends in the same state but for it.
use Prim.Native.Nat.{ℕ, zero, suc, ◌+◌}
use mathlib.Core.Path.{◌≡◌, refl, ap}
use mathlib.Core.Logic.{◌⊎◌, inr}
use mathlib.Core.Bool.{Bool, true, false, ◌&&◌, ◌||◌}
use mathlib.Core.List.{List, [], ◌∷◌}
use lib.Dec.{ltb, eqb}
use lib.ListN.{length, get_or, set}
use lib.Seq.{get_or-set_other, set-get_or, set-set, set_comm}
use borrow.Author.Tests.{eqb-true, eqb-false}
use Rattle.model.specs.Table.{SET, TAKE, GET, PUT, ADD, PLUS, JUMPZ, JUMP, SEND, CALL}
use Rattle.model.specs.Declared.{Instruction}
use Rattle.model.specs.Program.{Program, shared_in}
use Rattle.model.specs.State.{State, idle, position_at, accumulator_at, waiting_at, variable_at, with_variable}
use Rattle.model.specs.Turn.{Entry, entry, Turned, completed, stopped, oldest, begun, entry_of, blocked, performed, advanced, executed}
use Rattle.model.specs.Turn.{instruction_at, turn}
use Rattle.model.specs.Permission.{permitted, redacted, enforced, monitored_turn}
use Rattle.model.specs.Run.{Run, ended, proceed, run_from, entries_of}
use Rattle.model.specs.Dispatch.{Choice, chosen, nobody, choose, Dispatched, pursue, serve, dispatch_from}
use Rattle.model.proofs.Logic.{or_first, or_second, and_left, and_right, and-rest}
use Rattle.model.proofs.Ways.{either_two}

-- v, the variable's value in the second of two states: it is b where the first has a, or the same as in the first
abbrev pub Kept : ℕ → ℕ → ℕ → State → ℕ → Type 0
Kept x a b s v = ((variable_at s x ≡ a) × (v ≡ b)) ⊎ (v ≡ variable_at s x)

-- the second state is the first one with such a value of the variable
pub record Near (x a b : ℕ) (s s' : State) : Type 0 where
  pub value : ℕ
  pub same : s' ≡ with_variable s x value
  pub kept : Kept x a b s value

near : {x a b : ℕ} (v : ℕ) (s : State) → Kept x a b s v → Near x a b s (with_variable s x v)
near v s k = record { value = v; same = refl; kept = k }

-- two outcomes: the same entry, or the same stop and attempted entry
abbrev NearTurned : ℕ → ℕ → ℕ → Turned → Turned → Type 0
NearTurned x a b (completed e s) (completed e' s') = (e ≡ e') × Near x a b s s'
NearTurned x a b (completed e s) (stopped k e') = ⊥
NearTurned x a b (stopped k e) (completed e' s') = ⊥
NearTurned x a b (stopped k e) (stopped k' e') = (k ≡ k') × (e ≡ e')

-- the lists leave two completed turns with one entry as they are, or stop both
near-enforced : {x a b : ℕ} (P : Program) (e : Entry) (s₁ s₁' : State) → Near x a b s₁ s₁'
    → NearTurned x a b (enforced P (completed e s₁)) (enforced P (completed e s₁'))
near-enforced {x} {a} {b} P e s₁ s₁' q =
    either_two (NearTurned x a b) (permitted P e) (completed e s₁) (stopped 1 (redacted e)) (completed e s₁') (stopped 1 (redacted e))
    (λ _. (refl, q)) (λ _. (refl, refl))

-- two runs: the same entries, stop and attempted entry, and the same last state but for the variable
pub record NearRun (x a b : ℕ) (r r' : Run) : Type 0 where
  pub entries : entries_of r.steps ≡ entries_of r'.steps
  pub stop : r.stop ≡ r'.stop
  pub attempted : r.attempted ≡ r'.attempted
  pub final : Near x a b r.final r'.final

-- two dispatched runs: the same choices too
pub record NearDispatch (x a b : ℕ) (d d' : Dispatched) : Type 0 where
  pub run : NearRun x a b d.run d'.run
  pub choices : d.choices ≡ d'.choices

-- a run that ends at once
near-ended : {x a b : ℕ} (s : State) (v j : ℕ) (e : Entry) → Kept x a b s v → NearRun x a b (ended s j e) (ended (with_variable s x v) j e)
near-ended s v j e k = record { entries = refl; stop = refl; attempted = refl; final = near v s k }

-- the command reads a variable
abbrev reading : Instruction → Bool
reading i = eqb i.byte GET || eqb i.byte PLUS

module _ (P : Program) (x a b : ℕ) (shared : shared_in P x ≡ true) (unread : (n : ℕ) → P.may_read n x ≡ false) where
  module _ (s : State) (v n : ℕ) (i : Instruction) (k : Kept x a b s v) where
    -- the turn of a command, from both states
    abbrev Executes : Type 0
    Executes = NearTurned x a b (enforced P (executed P s n i)) (enforced P (executed P (with_variable s x v) n i))

    -- a command that does not read the variable leaves the same entry
    module _ (same_read : reading i ≡ true → variable_at (with_variable s x v) i.operand ≡ variable_at s i.operand) where
      got : eqb i.byte GET ≡ true → variable_at (with_variable s x v) i.operand ≡ variable_at s i.operand
      got e = same_read (or_first (eqb i.byte GET) (eqb i.byte PLUS) e)

      added : eqb i.byte PLUS ≡ true → variable_at (with_variable s x v) i.operand ≡ variable_at s i.operand
      added e = same_read (or_second (eqb i.byte GET) (eqb i.byte PLUS) e)

      same-entry : entry_of P s n i ≡ entry_of P (with_variable s x v) n i
      same-entry =
          either_two (◌≡◌ {A = Entry}) (eqb i.byte GET) _ _ _ _ (λ e. rw (got e)) λ _.
          either_two (◌≡◌ {A = Entry}) (eqb i.byte PLUS) _ _ _ _ (λ e. rw (added e)) (λ _. refl)

      -- and the same state but for the variable
      near-performed : Near x a b (performed P s n i) (performed P (with_variable s x v) n i)
      near-performed =
          either_two (Near x a b) (eqb i.byte SET) _ _ _ _ (λ _. near v _ k) λ _.
          either_two (Near x a b) (eqb i.byte TAKE) _ _ _ _ (λ _. near v _ k) λ _.
          either_two (Near x a b) (eqb i.byte GET) _ _ _ _ (λ e. rw (got e) (near v _ k)) λ _.
          either_two (Near x a b) (eqb i.byte PUT) _ _ _ _ (λ _. written (eqb x i.operand) refl) λ _.
          either_two (Near x a b) (eqb i.byte ADD) _ _ _ _ (λ _. near v _ k) λ _.
          either_two (Near x a b) (eqb i.byte PLUS) _ _ _ _ (λ e. rw (added e) (near v _ k)) λ _.
          either_two (Near x a b) (eqb i.byte JUMPZ) _ _ _ _
          (λ _. either_two (Near x a b) (eqb (accumulator_at s n) 0) _ _ _ _ (λ _. near v _ k) (λ _. near v _ k)) λ _.
          either_two (Near x a b) (eqb i.byte JUMP) _ _ _ _ (λ _. near v _ k) λ _.
          either_two (Near x a b) (eqb i.byte SEND) _ _ _ _ (λ _. near v _ k) λ _.
          either_two (Near x a b) (eqb i.byte CALL) _ _ _ _ (λ _. near v _ k) (λ _. near v _ k)
        where
          written : (t : Bool) → eqb x i.operand ≡ t
              → Near x a b (advanced (with_variable s i.operand (accumulator_at s n)) n)
              (advanced (with_variable (with_variable s x v) i.operand (accumulator_at s n)) n)
          written true p =
              let acc = accumulator_at s n in
              rw (← eqb-true x i.operand p)
              (record {
                value = get_or (set s.variable x acc) x 0;
                same = rw (set-set s.variable x v acc, set-get_or (set s.variable x acc) x 0);
                kept = inr refl;
              })
          written false p =
              let acc = accumulator_at s n in
              let other : ¬ (x ≡ i.operand) = eqb-false x i.operand p in
              record {
                value = v;
                same = rw (set_comm s.variable x i.operand v acc other);
                kept = rw (get_or-set_other s.variable i.operand x acc 0 other) k;
              }

      near-executed : Executes
      near-executed =
          either_two (λ t t'. NearTurned x a b (enforced P t) (enforced P t')) (blocked P s n i)
          (stopped 3 (entry_of P s n i)) (completed (entry_of P s n i) (performed P s n i))
          (stopped 3 (entry_of P (with_variable s x v) n i))
          (completed (entry_of P (with_variable s x v) n i) (performed P (with_variable s x v) n i))
          (λ _. (refl, same-entry))
          (λ _. rw (← same-entry)
          (near-enforced P (entry_of P s n i) (performed P s n i) (performed P (with_variable s x v) n i) near-performed))

    -- a command that reads it is stopped, and the entry does not show its value
    stopped-read : reading i ≡ true → i.operand ≡ x → Executes
    stopped-read r o = by_byte (eqb i.byte GET) refl r
      where
        by_byte : (b : Bool) → eqb i.byte GET ≡ b → (b || eqb i.byte PLUS) ≡ true → Executes
        by_byte true g q = rw (eqb-true i.byte GET g, o, shared, unread n) (refl, refl)
        by_byte false g q = rw (eqb-true i.byte PLUS q, o, shared, unread n) (refl, refl)

    any-executed : Executes
    any-executed = by_command (reading i && eqb i.operand x) refl
      where
        by_command : (b : Bool) → (reading i && eqb i.operand x) ≡ b → Executes
        by_command true p = stopped-read (and_left (reading i) _ p) (eqb-true i.operand x (and_right (reading i) _ p))
        by_command false p =
            near-executed (λ r. get_or-set_other s.variable x i.operand v 0 (eqb-false i.operand x (and-rest (reading i) _ r p)))

  abbrev Both : Turned → Turned → Type 0
  Both t t' = NearTurned x a b (enforced P t) (enforced P t')

  -- one monitored turn
  near-turn : (s : State) (v n : ℕ) → Kept x a b s v → NearTurned x a b (monitored_turn P s n) (monitored_turn P (with_variable s x v) n)
  unfolding monitored_turn turn
  near-turn s v n k =
      let e = entry n 1 (oldest s n).sender (oldest s n).value in
      either_two Both (eqb (position_at s n) idle) _ _ _ _
      (λ _. either_two Both (eqb (waiting_at s n) 0) (stopped 2 _) (completed e (begun s n)) (stopped 2 _)
      (completed e (begun (with_variable s x v) n)) (λ _. (refl, refl)) (λ _. (refl, near v _ k)))
      λ _.
      either_two Both (ltb (position_at s n) (length (P.handler n))) _ _ _ _
      (λ _. any-executed s v n (instruction_at P n (position_at s n)) k) (λ _. (refl, near v _ k))

  -- one more completed turn, and a stop
  near-proceed :
      (rest : State → Run) → ((s : State) (v : ℕ) → Kept x a b s v → NearRun x a b (rest s) (rest (with_variable s x v)))
      → (s : State) (v : ℕ) → Kept x a b s v → (t t' : Turned) → NearTurned x a b t t'
      → NearRun x a b (proceed rest s t) (proceed rest (with_variable s x v) t')
  near-proceed rest ih s v k (completed e s₁) (completed e' s₁') q =
      let r = ih s₁ q.1.value q.1.kept in
      rw (q.1.same, ← q.0)
      (record {
        entries = ap (λ (es : List Entry). e ∷ es) r.entries;
        stop = r.stop;
        attempted = r.attempted;
        final = r.final;
      })
  near-proceed rest ih s v k (completed e s₁) (stopped j e') q = absurd q
  near-proceed rest ih s v k (stopped j e) (completed e' s₁') q = absurd q
  near-proceed rest ih s v k (stopped j e) (stopped j' e') q =
      record { entries = refl; stop = q.0; attempted = q.1; final = near v s k }

  -- a monitored run of written turns
  pub near-run : (turns : List ℕ) (s : State) (v : ℕ) → Kept x a b s v
      → NearRun x a b (run_from (monitored_turn P) turns s) (run_from (monitored_turn P) turns (with_variable s x v))
  unfolding run_from
  near-run [] s v k = near-ended s v _ _ k
  near-run (n ∷ turns) s v k =
      near-proceed (run_from (monitored_turn P) turns) (near-run turns) s v k (monitored_turn P s n) (monitored_turn P (with_variable s x v) n)
      (near-turn s v n k)

  -- a dispatched one: a choice with its turn
  near-pursue :
      (rest : State → Dispatched) → ((s : State) (v : ℕ) → Kept x a b s v → NearDispatch x a b (rest s) (rest (with_variable s x v)))
      → (c : Choice) (s : State) (v : ℕ) → Kept x a b s v → (t t' : Turned) → NearTurned x a b t t'
      → NearDispatch x a b (pursue rest c s t) (pursue rest c (with_variable s x v) t')
  near-pursue rest ih c s v k (completed e s₁) (completed e' s₁') q =
      let d = ih s₁ q.1.value q.1.kept in
      rw q.1.same
      (record {
        run = near-proceed (λ s. (rest s).run) (λ s v k. (ih s v k).run) s v k (completed e s₁)
            (completed e' (with_variable s₁ x q.1.value)) (q.0, near q.1.value s₁ q.1.kept);
        choices = ap (λ (cs : List Choice). c ∷ cs) d.choices;
      })
  near-pursue rest ih c s v k (completed e s₁) (stopped j e') q = absurd q
  near-pursue rest ih c s v k (stopped j e) (completed e' s₁') q = absurd q
  near-pursue rest ih c s v k (stopped j e) (stopped j' e') q =
      record { run = near-proceed (λ s. (rest s).run) (λ s v k. (ih s v k).run) s v k (stopped j e) (stopped j' e') q; choices = refl }

  -- the same choice in both states
  near-serve :
      (rest : ℕ → State → Dispatched)
      → ((from : ℕ) (s : State) (v : ℕ) → Kept x a b s v → NearDispatch x a b (rest from s) (rest from (with_variable s x v)))
      → (s : State) (v : ℕ) → Kept x a b s v → (c : Choice)
      → NearDispatch x a b (serve (monitored_turn P) rest s c) (serve (monitored_turn P) rest (with_variable s x v) c)
  near-serve rest ih s v k (chosen n j) =
      near-pursue (rest (n + 1)) (ih (n + 1)) (chosen n j) s v k (monitored_turn P s n) (monitored_turn P (with_variable s x v) n)
      (near-turn s v n k)
  near-serve rest ih s v k (nobody j) =
      record { run = near-ended s v _ _ k; choices = refl }

  -- the choice looks at positions and queues, and at no variable
  same-choice : (nodes from : ℕ) (s : State) (v : ℕ) → choose nodes from (with_variable s x v) ≡ choose nodes from s
  unfolding choose
  same-choice nodes from s v = refl

  pub near_dispatch :
      (nodes budget from : ℕ) (s : State) (v : ℕ) → Kept x a b s v
      → NearDispatch x a b (dispatch_from (monitored_turn P) nodes budget from s)
      (dispatch_from (monitored_turn P) nodes budget from (with_variable s x v))
  unfolding dispatch_from
  near_dispatch nodes zero from s v k =
      record { run = near-ended s v _ _ k; choices = refl }
  near_dispatch nodes (suc budget) from s v k =
      rw (same-choice nodes from s v)
      (near-serve (dispatch_from (monitored_turn P) nodes budget) (near_dispatch nodes budget) s v k (choose nodes from s))

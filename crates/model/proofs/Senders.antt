-- Where messages come from (S-11).
use Prim.Native.Nat.{ℕ, suc, ◌≤◌, ◌<◌}
use mathlib.Core.Path.{◌≡◌, refl, sym, ap, subst, ◌∙◌}
use mathlib.Core.Bool.{true}
use mathlib.Core.List.{List}
use mathlib.Core.Logic.{◌⊎◌, inl, inr, ⊎_elim}
use native.Mathlib.Omega.{arith}
use native.Mathlib.Decide.{dec_lt}
use lib.ListN.{length, get_or}
use Rattle.model.specs.Declared.{turns_of}
use Rattle.model.specs.Program.{Program, program_of}
use Rattle.model.specs.State.{Message, message_from, State, position_at, accumulator_at, waiting_at}
use Rattle.model.specs.State.{EachWaiting, initial_state}
use Rattle.model.specs.Turn.{Entry, entry, Turned, oldest, instruction_at, turn}
use Rattle.model.specs.Permission.{monitored_turn}
use Rattle.model.specs.Run.{Run, entry_at, state_at, monitored_run, unmonitored_run}
use Rattle.model.specs.Following.{RanOut, Halted, Follows}
use Rattle.model.specs.Senders.{SentBy, ComesFrom, taken_by, Accounted, OriginsHold, HasSender, Attributed, SendersHold}
use Rattle.model.proofs.Ways.{Makes, left_by, turn_by, monitored_by}
use Rattle.model.proofs.Messages.{Moves, each_first, turn_moves, monitored_moves}
use Rattle.model.proofs.Following.{demand2, no_entry_lem, at_each}
use Rattle.model.proofs.Naming.{turns-inside}
use Rattle.model.proofs.Valid.{reads-valid}

-- an entry of kind 1 tells of the oldest message of its node
abbrev Takes : State → Entry → Type 0
Takes s e = e.kind ≡ 1 → (0 < waiting_at s e.node) × (oldest s e.node ≡ taken_by e)

turn-takes : (P : Program) (s : State) (n : ℕ) → Makes (Takes s) (turn P s n)
turn-takes P s n =
    turn_by (Makes (Takes s)) P s n (λ p w. tt) (λ p w k. (omega (arith, w), refl)) (λ l b. tt)
    (λ l b. left_by (Takes s) P s n (instruction_at P n (position_at s n)) (λ e k. absurd (omega arith)) (λ e k. absurd (omega arith))
    (λ e k. absurd (omega arith)) (λ e k. absurd (omega arith)) (λ e k. absurd (omega arith)) (λ k. absurd (omega arith)))
    (λ l k. absurd (omega arith))

monitored-takes : (P : Program) (s : State) (n : ℕ) → Makes (Takes s) (monitored_turn P s n)
monitored-takes P s n = monitored_by (Makes (Takes s)) P s n (turn-takes P s n) (λ e. tt)

-- a run by a rule for one turn whose turns move messages and take them as a turn does
module _
    (P : Program) (rule : State → ℕ → Turned)
    (moves : (Q : Entry → ℕ → Message → Type 0) (s : State) (n : ℕ) → ((e : Entry) → EachWaiting (Q e) s.queue)
    → ((port t : ℕ) → P.wired n port t ≡ true → Q (entry n 6 port (accumulator_at s n)) t (message_from n (accumulator_at s n)))
    → Moves Q (rule s n))
    (turns : List ℕ) (r : Run) (follows : Follows rule turns (initial_state P) r)
  where
    later : (k : ℕ) (n : ℕ) (m : Message) → ComesFrom P r k n m → ComesFrom P r (suc k) n m
    later k n m = ⊎_elim inl (λ b. inr (record { turn = b.turn; earlier = omega (arith, b.earlier); sent = b.sent }))

    all-waiting : (k : ℕ) → EachWaiting (ComesFrom P r k) (state_at r k).queue
    all-waiting =
        at_each follows (λ k s. EachWaiting (ComesFrom P r k) s.queue) start (λ k s h q n i l. later k n _ (q n i l)) next
      where
        start : EachWaiting (ComesFrom P r 0) (initial_state P).queue
        start = each_first (ComesFrom P r 0) P (λ n i h. inl (record { place = i; inside = h; same = refl }))

        next : (k : ℕ) → k < length r.steps → EachWaiting (ComesFrom P r k) (state_at r k).queue
            → EachWaiting (ComesFrom P r (suc k)) (state_at r (suc k)).queue
        next k h q n i l =
            ⊎_elim (later k n _) (λ b. inr (record { turn = k; earlier = omega arith; sent = b }))
            (moved n i l)
          where
            New : Entry → ℕ → Message → Type 0
            New e t m = ComesFrom P r k t m ⊎ SentBy P t m e

            moved : EachWaiting (New (entry_at r k)) (state_at r (suc k)).queue
            moved = subst (Moves New) (follows.goes_on k h) (moves New (state_at r k) (get_or turns k 0) (λ e t j b. inl (q t j b))
                (λ port t w. inr (record { kind = refl; node = refl; value = refl; wired = w })))

    completed-one : (k : ℕ) → (entry_at r k).kind ≡ 1 → k < length r.steps
    completed-one k e = by_place (dec_lt k (length r.steps))
      where
        by_place : Dec (k < length r.steps) → k < length r.steps
        by_place (yes h) = h
        by_place (no h) =
            let kind : ◌≡◌ {A = ℕ} 0 1 = sym (ap (λ (x : Entry). x.kind) (no_entry_lem r k h)) ∙ e in
            absurd (omega arith)

    module _ (takes : (s : State) (n : ℕ) → Makes (Takes s) (rule s n)) where
      -- what holds of the messages that wait holds of the one that is taken
      take-each : (Q : ℕ → Message → Type 0) (k : ℕ) → EachWaiting Q (state_at r k).queue → (entry_at r k).kind ≡ 1
          → Q (entry_at r k).node (taken_by (entry_at r k))
      take-each Q k q e =
          let told : Takes (state_at r k) (entry_at r k) =
          subst (Makes (Takes (state_at r k))) (follows.goes_on k (completed-one k e)) (takes (state_at r k) (get_or turns k 0)) in
          subst (Q (entry_at r k).node) (told e).1 (q (entry_at r k).node 0 (told e).0)

      pub accounted : Accounted P r
      accounted =
          record {
            waiting = all-waiting;
            taken = λ k. take-each (ComesFrom P r k) k (all-waiting k);
            sent = λ k e h. ⊎_elim (λ b. absurd (h (ap (λ (m : Message). m.sender) b.same))) (λ b. b)
                (take-each (ComesFrom P r k) k (all-waiting k) e);
          }

      -- every turn is one of a node
      pub attributed : ((k : ℕ) → k < length turns → get_or turns k 0 < P.nodes) → Attributed P r
      attributed inside = record { origins = accounted; waiting = known; taken = λ k. take-each (HasSender P) k (known k) }
        where
          few : length r.steps ≤ length turns
          few = ⊎_elim (λ (o : RanOut turns r). omega (arith, o.completed_all)) (λ (o : Halted rule turns r). omega (arith, o.next))
              follows.ends

          next : (k : ℕ) → k < length r.steps → EachWaiting (HasSender P) (state_at r k).queue
              → EachWaiting (HasSender P) (state_at r (suc k)).queue
          next k h q = subst (Moves (λ e. HasSender P)) (follows.goes_on k h)
              (moves (λ e. HasSender P) (state_at r k) (get_or turns k 0) (λ e. q)
              (λ port t w. inr (record { is_node = inside k (omega (arith, few)); port = port; wired = w })))

          known : (k : ℕ) → EachWaiting (HasSender P) (state_at r k).queue
          known =
              at_each follows (λ k s. EachWaiting (HasSender P) s.queue) (each_first (HasSender P) P (λ n i h. inl refl))
              (λ k s h q. q) next

pub origins_hold : OriginsHold
origins_hold P turns = (
  accounted P (monitored_turn P) (λ Q s n. monitored_moves Q P s n) turns (monitored_run P turns) (demand2 P turns).monitored_follows
      (monitored-takes P),
  accounted P (turn P) (λ Q s n. turn_moves Q P s n) turns (unmonitored_run P turns) (demand2 P turns).unmonitored_follows (turn-takes P),
)

pub senders_hold : SendersHold
unfolding program_of
senders_hold job b past a =
    let inside = turns-inside past (reads-valid a.reads) in
    let P = program_of past in
    let turns = turns_of past in
    let both = demand2 P turns in (
      attributed P (monitored_turn P) (λ Q s n. monitored_moves Q P s n) turns (monitored_run P turns) both.monitored_follows
          (monitored-takes P) inside,
      attributed P (turn P) (λ Q s n. turn_moves Q P s n) turns (unmonitored_run P turns) both.unmonitored_follows (turn-takes P) inside,
    )

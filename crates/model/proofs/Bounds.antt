-- How long the outputs are: 7 bytes an entry, at most one entry a turn, and a snapshot of at most 3,136 bytes after every run of an
-- accepted job.
use Prim.Native.Nat.{ℕ, zero, suc, ◌+◌, ◌*◌, ◌≤◌, ◌<◌, zero-le, suc-le-suc}
use mathlib.Core.Path.{◌≡◌, refl}
use mathlib.Core.Bool.{Bool, true, false, cond}
use mathlib.Core.List.{List, [], ◌∷◌, ◌++◌}
use native.Mathlib.Omega.{arith}
use lib.Dec.{eqb}
use lib.ListN.{length, get_or, set, drop, length-append, length-drop, length-map}
use borrow.Author.Tests.{leb-false}
use Rattle.model.specs.Table.{SEND, max_nodes, max_waiting}
use Rattle.model.specs.Command.{Command}
use Rattle.model.specs.Declared.{Instruction, starts_of}
use Rattle.model.specs.Program.{Program, program_of}
use Rattle.model.specs.State.{Message, message_from, start_sender, State, position_at, accumulator_at, queue_at, waiting_at}
use Rattle.model.specs.State.{variable_at, first_queue, initial_state}
use Rattle.model.specs.Turn.{Entry, Turned, completed, stopped, some_below, delivered, is_full, blocked, performed, instruction_at, turn}
use Rattle.model.specs.Permission.{monitored_turn}
use Rattle.model.specs.Run.{Run, Step, proceed, run_from, entries_of, monitored_run, unmonitored_run}
use Rattle.model.specs.Output.{bytes4, trace_bytes, messages_bytes, node_bytes, nodes_bytes, variables_bytes, snapshot_bytes, trace_in}
use Rattle.model.specs.Valid.{Valid, Bounded}
use Rattle.model.proofs.Logic.{and-rest}
use Rattle.model.proofs.Valid.{limits}
use Rattle.model.proofs.Lists.{set-each, tabulate-each}
use Rattle.model.proofs.Ways.{Keeps, performed_by, turn_by, monitored_by}
use Rattle.model.proofs.Naming.{starts-one}
use Rattle.model.proofs.Turns.{some-none, delivered-later}

-- 7 bytes an entry
pub length-trace : (es : List Entry) → length (trace_bytes es) ≡ 7 * length es
unfolding trace_bytes
length-trace [] = refl
length-trace (e ∷ es) = omega (arith, length-trace es)

pub length-trace_in : (r : Run) → length (trace_in r) ≡ 7 * length r.steps
length-trace_in r = omega (arith, length-trace (entries_of r.steps), length-map r.steps (λ (t : Step). t.made))

-- 5 bytes a waiting message
pub length-messages : (ms : List Message) → length (messages_bytes ms) ≡ 5 * length ms
unfolding messages_bytes
length-messages [] = refl
length-messages (m ∷ ms) = omega (arith, length-messages ms)

-- a node in the snapshot
pub length-node : (s : State) (n : ℕ) → length (node_bytes s n) ≡ 10 + 5 * waiting_at s n
length-node s n = omega (arith, length-messages (queue_at s n))

-- one node and one variable more in the snapshot
pub nodes-next : (s : State) (k : ℕ) → nodes_bytes s (suc k) ≡ nodes_bytes s k ++ node_bytes s k
unfolding nodes_bytes
nodes-next s k = refl

pub variables-next : (s : State) (k : ℕ) → variables_bytes s (suc k) ≡ variables_bytes s k ++ bytes4 (variable_at s k)
unfolding variables_bytes
variables-next s k = refl

-- the variables in the snapshot
pub length-variables : (s : State) (k : ℕ) → length (variables_bytes s k) ≡ 4 * k
unfolding variables_bytes
length-variables s zero = refl
length-variables s (suc k) = omega (arith, length-append (variables_bytes s k) (bytes4 (variable_at s k)), length-variables s k)

-- the nodes in the snapshot
pub length-nodes : (s : State) → Bounded s → (k : ℕ) → length (nodes_bytes s k) ≤ 90 * k
unfolding nodes_bytes
length-nodes s b zero = omega arith
length-nodes s b (suc k) = omega (arith, length-append (nodes_bytes s k) (node_bytes s k), length-node s k, b k, length-nodes s b k)

pub length-snapshot : (P : Program) (s : State) → P.nodes ≤ 32 → P.variables ≤ 64 → Bounded s → length (snapshot_bytes P s) ≤ 3136
unfolding snapshot_bytes
length-snapshot P s l m b =
    omega (
      arith,
      length-append (nodes_bytes s P.nodes) (variables_bytes s P.variables),
      length-nodes s b P.nodes,
      length-variables s
          P.variables,
    )

-- every queue is short
abbrev Short : List (List Message) → Type 0
Short qs = (t : ℕ) → length (get_or qs t []) ≤ max_waiting

-- one short list set among short lists
set-short : (qs : List (List Message)) (n : ℕ) (q : List Message) → length q ≤ max_waiting → Short qs → Short (set qs n q)
set-short qs n q = set-each (λ t (p : List Message). length p ≤ max_waiting) [] qs n q

-- delivery to targets with room
delivered-short :
    (target : ℕ → Bool) (m : Message) (qs : List (List Message)) → Short qs
    → (k : ℕ) → ((t : ℕ) → t < k → target t ≡ true → length (get_or qs t []) < 16) → Short (delivered target m qs k)
unfolding delivered
delivered-short target m qs b zero room = b
delivered-short target m qs b (suc k) room = by_target (target k) refl (delivered-short target m qs b k (λ t h. room t (omega arith)))
  where
    by_target :
        (t : Bool) → target k ≡ t → Short (delivered target m qs k)
        → Short (cond t (set (delivered target m qs k) k (get_or (delivered target m qs k) k [] ++ (m ∷ []))) (delivered target m qs k))
    by_target false e ih = ih
    by_target true e ih =
        let r : length (get_or qs k []) < 16 = room k (omega arith) e in
        let here : length (get_or (delivered target m qs k) k []) < 16 = rw (delivered-later target m qs k k (omega arith)) r in
        set-short (delivered target m qs k) k _ (omega (arith, length-append (get_or (delivered target m qs k) k []) (m ∷ []))) ih

-- a handler command that is not blocked
performed-bounded : (P : Program) (s : State) (n : ℕ) (i : Instruction) → Bounded s → blocked P s n i ≡ false → Bounded (performed P s n i)
performed-bounded P s n i b free =
    performed_by Bounded P s n i (λ a. b) (λ x. b) b (λ j. b)
    (λ e. delivered-short (P.wired n i.operand) (message_from n (accumulator_at s n)) s.queue b max_nodes (room e))
  where
    room : eqb i.byte SEND ≡ true → (t : ℕ) → t < 32 → P.wired n i.operand t ≡ true → waiting_at s t < 16
    room e t h w =
        let none : some_below (is_full P s n i.operand) 32 ≡ false = and-rest (eqb i.byte SEND) _ e free in
        leb-false 16 (waiting_at s t) (and-rest (P.wired n i.operand t) _ w (some-none (is_full P s n i.operand) 32 none t h))

-- a turn keeps the bound
pub turn-bounded : (P : Program) (s : State) (n : ℕ) → Bounded s → Keeps Bounded (turn P s n)
turn-bounded P s n b =
    turn_by (Keeps Bounded) P s n (λ p w. tt) (λ p w. set-short s.queue n (drop 1 (queue_at s n))
    (omega (arith, length-drop 1 (queue_at s n), b n)) b)
    (λ l f. tt)
    (λ l. performed-bounded P s n (instruction_at P n (position_at s n)) b)
    (λ l. b)

pub monitored-bounded : (P : Program) (s : State) (n : ℕ) → Bounded s → Keeps Bounded (monitored_turn P s n)
monitored-bounded P s n b = monitored_by (Keeps Bounded) P s n (turn-bounded P s n b) (λ e. tt)

-- a run keeps the bound and completes at most its turns
pub record RunBounded (k : ℕ) (r : Run) : Type 0 where
  pub final : Bounded r.final
  pub steps : length r.steps ≤ k

proceed-bounded :
    (k : ℕ) (rest : State → Run) (s : State) (t : Turned) → Bounded s → Keeps Bounded t
    → ((s' : State) → Bounded s' → RunBounded k (rest s')) → RunBounded (suc k) (proceed rest s t)
proceed-bounded k rest s (completed e s') b h ih = record { final = (ih s' h).final; steps = suc-le-suc (ih s' h).steps }
proceed-bounded k rest s (stopped n e) b h ih = record { final = b; steps = zero-le }

pub run-bounded :
    (rule : State → ℕ → Turned) → ((s : State) (n : ℕ) → Bounded s → Keeps Bounded (rule s n))
    → (turns : List ℕ) (s : State) → Bounded s → RunBounded (length turns) (run_from rule turns s)
unfolding run_from
run-bounded rule keeps [] s b = record { final = b; steps = zero-le }
run-bounded rule keeps (n ∷ turns) s b = proceed-bounded (length turns) (run_from rule turns) s (rule s n) b (keeps s n b)
    (run-bounded rule keeps turns)

-- the start of every accepted job
pub initial_bounded : (past : List Command) → Valid past → Bounded (initial_state (program_of past))
unfolding initial_state program_of
initial_bounded past v = tabulate-each (λ t (q : List Message). length q ≤ max_waiting) [] max_nodes (first_queue (program_of past))
    (λ t. omega (arith, starts-one past v t, length-map (starts_of past t) (message_from start_sender))) (λ t. zero-le)

-- both runs of every accepted job
module _ (past : List Command) (v : Valid past) (turns : List ℕ) where
  pub unmonitored-fits : RunBounded (length turns) (unmonitored_run (program_of past) turns)
  unfolding unmonitored_run
  unmonitored-fits = run-bounded (turn (program_of past)) (turn-bounded (program_of past)) turns (initial_state (program_of past))
      (initial_bounded past v)

  pub monitored-fits : RunBounded (length turns) (monitored_run (program_of past) turns)
  unfolding monitored_run
  monitored-fits = run-bounded (monitored_turn (program_of past)) (monitored-bounded (program_of past)) turns (initial_state (program_of past))
      (initial_bounded past v)

  pub snapshot-fits : (s : State) → Bounded s → length (snapshot_bytes (program_of past) s) ≤ 3136
  unfolding program_of
  snapshot-fits s b = length-snapshot (program_of past) s (limits past v).nodes (limits past v).variables b

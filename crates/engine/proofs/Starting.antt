-- The arrays at the start of a run are the model's start.
use Prim.Native.Nat.{ℕ}
use mathlib.Core.Path.{◌≡◌, refl, sym, ap, ◌∙◌}
use mathlib.Core.List.{List, [], map}
use native.Mathlib.Omega.{arith}
use lib.ListN.{length, get_or, replicate, length-map}
use Rattle.model.specs.Table.{NODE, max_nodes, max_variables}
use Rattle.model.specs.State.{start_sender, message_from, idle, tabulate, initial_state}
use Rattle.model.proofs.Lists.{length-tabulate}
use Rattle.tables.specs.Tables.{count_in, firsts_in, start_in}
use Rattle.tables.specs.Programs.{program_in}
use Rattle.memory.specs.Queues.{paired, queues, Holds, BringsOnly}
use Rattle.memory.specs.Ready.{ready_count_in}
use Rattle.memory.proofs.Pairing.{paired-one}
use Rattle.memory.proofs.Readying.{count-shown}
use Rattle.memory.proofs.Waiting.{length-queues, count_at_lem}
use Rattle.engine.specs.declared.State.{State}
use Rattle.engine.specs.Engine.{view, Starts}

-- the state with these counts, values, variables and ready count, and all else as it is at the start
abbrev pub first : List ℕ → List ℕ → List ℕ → ℕ → State
first ws slots xs ready =
    record {
      position = replicate 32 idle;
      accumulator = replicate 32 0;
      message = replicate 32 0;
      waiting = ws;
      queue = slots;
      sender = replicate 512 start_sender;
      variable = xs;
      ready = ready;
    }

pub started :
    (t ws slots xs : List ℕ) (nodes ready : ℕ) → length slots ≡ 512
    → Holds ws (map (message_from start_sender) slots) (tabulate max_nodes (λ n. map (message_from start_sender) (firsts_in t n)))
    → BringsOnly (λ n. message_from start_sender (get_or (firsts_in t n) 0 0)) (map (message_from start_sender) (replicate 512 0))
    (map (message_from start_sender) slots)
    → xs ≡ tabulate max_variables (start_in t) → nodes ≡ count_in t NODE → ready ≡ ready_count_in (replicate 32 idle) ws nodes
    → Starts t (first ws slots xs ready)
unfolding initial_state program_in
started t ws slots xs nodes ready long holds brings stored declared counted =
    let same : paired slots (replicate 512 start_sender) ≡ map (message_from start_sender) slots =
    ap (λ (k : ℕ). paired slots (replicate k start_sender)) (sym long) ∙ paired-one slots start_sender in
    let filled : length ws ≡ 32 =
    sym (length-queues ws (map (message_from start_sender) slots)) ∙ ap length holds.same ∙ length-tabulate max_nodes _ in
    let waits : (n : ℕ) → length (get_or (queues ws (map (message_from start_sender) slots)) n []) ≡ get_or ws n 0 =
    count_at_lem ws (map (message_from start_sender) slots) holds.bounded (omega (arith, length-map slots (message_from start_sender))) in
    record {
      bounded = holds.bounded;
      counts = rw same waits;
      ready = counted ∙ ap (ready_count_in (replicate 32 idle) ws) declared
          ∙ count-shown (replicate 32 idle) ws (view (first ws slots xs ready)) (λ n. refl) (rw same waits) (count_in t NODE);
      slots = rw same brings;
      start = λ hs. rw (same, holds.same, stored);
    }

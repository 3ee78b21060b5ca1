-- What is printed of bytes depends on those alone that are named: bytes after them change no line.
use Prim.Native.Nat.{ℕ, zero, suc, ◌+◌, ◌*◌, ◌≤◌, ◌<◌}
use mathlib.Core.Path.{◌≡◌, refl, ap, ap₂, ◌∙◌}
use mathlib.Core.List.{List, [], ◌∷◌, ◌++◌}
use native.Mathlib.Omega.{arith}
use lib.ListN.{length}
use Rattle.writing.specs.Writing.{joined}
use Rattle.writing.proofs.Putting.{same_first}
use Rattle.output.specs.Finding.{waiting_in, next_part, part_at}
use Rattle.output.proofs.Rereading.{number_front}
use Rattle.lines.specs.Lines.{entry_line, message_in, messages_at, node_line, part_line, variable_line, node_lines}
use Rattle.lines.specs.Lines.{snapshot_lines, run_lines}
use Rattle.lines.proofs.Parts.{part-inside}
use Rattle.model.specs.Output.{Answer}

module _ (xs ys : List ℕ) where
  -- the trace
  entry-front : (k : ℕ) → 7 * k + 7 ≤ length xs → entry_line (xs ++ ys) k ≡ entry_line xs k
  unfolding entry_line
  entry-front k h =
      rw (
        number_front xs ys (7 * k) 1 (omega arith),
        number_front xs ys (7 * k + 1) 1 (omega arith),
        number_front xs ys (7 * k + 2) 1 (omega arith),
        number_front xs ys (7 * k + 3) 4 (omega arith),
      )

  pub entries-front : (n : ℕ) → 7 * n ≤ length xs → joined (entry_line (xs ++ ys)) n ≡ joined (entry_line xs) n
  entries-front n h = same_first (entry_line (xs ++ ys)) (entry_line xs) n (λ k i. entry-front k (omega arith))

  -- the snapshot
  part-front : (n : ℕ) → part_at xs n ≤ length xs → part_at (xs ++ ys) n ≡ part_at xs n
  unfolding part_at
  part-front zero h = refl
  part-front (suc n) h =
      let same = part-front n (omega arith) in
      rw (same, number_front xs ys (part_at xs n + 9) 1 (omega arith))

  messages-front : (place count : ℕ) → place + 5 * count ≤ length xs → messages_at (xs ++ ys) place count ≡ messages_at xs place count
  unfolding messages_at
  messages-front place count h =
      same_first (message_in (xs ++ ys) place) (message_in xs place) count
      (λ k i.
      ap₂ (λ (v n : ℕ). v ∷ n ∷ []) (number_front xs ys (place + 5 * k) 4 (omega arith)) (number_front xs ys (place + 5 * k + 4) 1 (omega arith)))

  node-front : (place n : ℕ) → next_part xs place ≤ length xs → node_line (xs ++ ys) place n ≡ node_line xs place n
  unfolding node_line
  node-front place n h =
      rw (
        number_front xs ys place 1 (omega arith),
        number_front xs ys (place + 1) 4 (omega arith),
        number_front xs ys (place + 5) 4 (omega arith),
        number_front xs ys (place + 9) 1 (omega arith),
        messages-front (place + 10) (waiting_in xs place) (omega arith),
      )

  variable-front : (place x : ℕ) → place + 4 * x + 4 ≤ length xs → variable_line (xs ++ ys) place x ≡ variable_line xs place x
  unfolding variable_line
  variable-front place x h = rw (number_front xs ys (place + 4 * x) 4 (omega arith))

  module _ (nodes variables : ℕ) (fits : part_at xs nodes + 4 * variables ≤ length xs) where
    parts-front : (n : ℕ) → n < nodes → part_line (xs ++ ys) n ≡ part_line xs n
    parts-front n h =
        let inside = part-inside xs nodes variables n (part_at xs n) fits h refl in
        ap (λ (p : ℕ). node_line (xs ++ ys) p n) (part-front n (omega arith)) ∙ node-front (part_at xs n) n inside

    pub parts_end : part_at (xs ++ ys) nodes ≡ part_at xs nodes
    parts_end = part-front nodes (omega arith)

    pub snapshot-front : snapshot_lines (xs ++ ys) nodes variables ≡ snapshot_lines xs nodes variables
    unfolding snapshot_lines
    snapshot-front =
        ap (λ (l : List ℕ). l ++ joined (variable_line (xs ++ ys) (part_at (xs ++ ys) nodes)) variables)
        (same_first (part_line (xs ++ ys)) (part_line xs) nodes parts-front)
        ∙ ap (λ (p : ℕ). node_lines xs nodes ++ joined (variable_line (xs ++ ys) p) variables) parts_end
        ∙ ap (λ (l : List ℕ). node_lines xs nodes ++ l)
        (same_first (variable_line (xs ++ ys) (part_at xs nodes)) (variable_line xs (part_at xs nodes)) variables
        (λ x h. variable-front (part_at xs nodes) x (omega arith)))

-- a run
pub run-front :
    (a : Answer) (trace more snapshot rest : List ℕ) (nodes variables : ℕ)
    → 7 * a.turns ≤ length trace → part_at snapshot nodes + 4 * variables ≤ length snapshot
    → run_lines a (trace ++ more) (snapshot ++ rest) nodes variables ≡ run_lines a trace snapshot nodes variables
unfolding run_lines
run-front a trace more snapshot rest nodes variables h i =
    rw (entries-front trace more a.turns h, snapshot-front snapshot rest nodes variables i)

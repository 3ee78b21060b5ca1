-- The parts of a snapshot stand one behind the other (S-3).
use Prim.Native.Nat.{ℕ, zero, suc, ◌+◌, ◌-◌}
use mathlib.Core.Path.{◌≡◌, refl, ap, ◌∙◌}
use mathlib.Core.List.{List, ◌++◌, append_assoc}
use native.Mathlib.Omega.{arith}
use lib.ListN.{length, drop, length-append}
use lib.Seq.{slice, take-append_seam, drop-append_seam}
use Rattle.model.specs.State.{State}
use Rattle.model.specs.Output.{node_bytes, nodes_bytes, part_start, variables_bytes, snapshot_bytes}
use Rattle.model.specs.Parts.{PartsHold}
use Rattle.model.proofs.Bounds.{nodes-next}

module _ (s : State) where
  -- one part more
  pub start-next : (n : ℕ) → part_start s (suc n) ≡ part_start s n + length (node_bytes s n)
  start-next n = ap length (nodes-next s n) ∙ length-append (nodes_bytes s n) (node_bytes s n)

  pub start_first : part_start s 0 ≡ 0
  unfolding nodes_bytes
  start_first = refl

  nodes-behind : (k : ℕ) (rest : List ℕ) → nodes_bytes s (suc k) ++ rest ≡ nodes_bytes s k ++ (node_bytes s k ++ rest)
  nodes-behind k rest = ap (λ (l : List ℕ). l ++ rest) (nodes-next s k) ∙ append_assoc (nodes_bytes s k) (node_bytes s k) rest

  -- the last part, whatever follows
  last-stands : (n : ℕ) (rest : List ℕ) → slice (part_start s n) (part_start s (suc n)) (nodes_bytes s (suc n) ++ rest) ≡ node_bytes s n
  last-stands n rest =
      ap (drop (part_start s n)) (take-append_seam (nodes_bytes s (suc n)) rest ∙ nodes-next s n)
      ∙ drop-append_seam (nodes_bytes s n) (node_bytes s n)

  -- what holds of the first n parts, whatever follows them, holds if further parts do
  pub with_more : {A : Type 0} (f : List ℕ → A) (v : A) (n : ℕ) → ((rest : List ℕ) → f (nodes_bytes s n ++ rest) ≡ v)
      → (d k : ℕ) (rest : List ℕ) → k ≡ d + n → f (nodes_bytes s k ++ rest) ≡ v
  with_more f v n h zero k rest e = let same : k ≡ n = omega arith in rw same (h rest)
  with_more f v n h (suc d) zero rest e = absurd (omega arith)
  with_more f v n h (suc d) (suc k) rest e = ap f (nodes-behind k rest) ∙ with_more f v n h d k (node_bytes s k ++ rest) (omega arith)

pub parts_hold : PartsHold
unfolding snapshot_bytes
parts_hold P s =
    record {
      first = start_first s;
      next = start-next s;
      part = λ n h. with_more s (slice (part_start s n) (part_start s (suc n))) (node_bytes s n) (suc n) (last-stands s n)
          (P.nodes - suc n) P.nodes (variables_bytes s P.variables) (omega arith);
      variables = drop-append_seam (nodes_bytes s P.nodes) (variables_bytes s P.variables);
    }

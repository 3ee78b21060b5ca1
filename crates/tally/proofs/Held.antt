-- The entries that a trace holds; arrays of zeros; and the counts by two arrays, as those by the entries.
use Prim.Native.Nat.{ℕ, ◌*◌, ◌≤◌}
use mathlib.Core.Path.{◌≡◌, ap₂}
use mathlib.Core.List.{List, [], ◌∷◌}
use native.Mathlib.Omega.{arith}
use lib.ListN.{length, replicate, length-replicate, get_or-replicate}
use Rattle.model.specs.Table.{max_nodes}
use Rattle.model.specs.Program.{Program}
use Rattle.model.specs.Tally.{received, taken, started}
use Rattle.writing.specs.Writing.{joined}
use Rattle.writing.proofs.Putting.{same_first}
use Rattle.output.specs.Finding.{entry_from, waiting_in, part_at}
use Rattle.tally.specs.Counted.{Numbered, tally_by}
use Rattle.tally.specs.Tallies.{entries_held, tally_in}

-- no more than the trace has bytes for
pub held_fits : (turns : ℕ) (trace : List ℕ) → 7 * entries_held turns trace ≤ length trace
held_fits turns trace = omega arith

-- an array of zeros
pub counts_zeros : Numbered (λ n. 0) (replicate 32 0)
counts_zeros = record { size = length-replicate {A = ℕ} 32 0; each = λ n h. get_or-replicate 32 n 0 0 h }

-- the arrays have what the entries count
pub same-counts :
    (P : Program) (turns : ℕ) (trace snapshot arrivals takings : List ℕ)
    → Numbered (received P (entry_from trace) (entries_held turns trace)) arrivals
    → Numbered (taken (entry_from trace) (entries_held turns trace)) takings
    → (nodes : ℕ) → nodes ≤ max_nodes → joined (tally_by P arrivals takings snapshot) nodes ≡ joined (tally_in P turns trace snapshot) nodes
same-counts P turns trace snapshot arrivals takings a b nodes few =
    same_first (tally_by P arrivals takings snapshot) (tally_in P turns trace snapshot) nodes
    (λ n h.
    ap₂ (λ (x y : ℕ). started P n ∷ x ∷ y ∷ waiting_in snapshot (part_at snapshot n) ∷ []) (a.each n (omega arith)) (b.each n (omega arith)))

-- Where the parts of a snapshot begin, by its bytes.
use Prim.Native.Nat.{ℕ, zero, suc, ◌+◌, ◌-◌, ◌*◌, ◌<◌}
use mathlib.Core.Path.{◌≡◌, refl, ap, ◌∙◌}
use mathlib.Core.List.{List, ◌++◌, append_assoc}
use native.Mathlib.Numerals.{add-one}
use native.Mathlib.Omega.{arith}
use lib.Seq.{get_or-append-add}
use Rattle.model.specs.Program.{Program}
use Rattle.model.specs.State.{State, waiting_at}
use Rattle.model.specs.Output.{node_bytes, nodes_bytes, part_start, variables_bytes, snapshot_bytes}
use Rattle.model.proofs.Bounds.{length-node}
use Rattle.model.proofs.Parts.{start-next, with_more}
use Rattle.model.proofs.Reading.{number-one}
use Rattle.output.specs.Finding.{waiting_in, next_part, part_at, PartsFound}

-- the first part, and the next one
pub part_first : (snapshot : List ℕ) → part_at snapshot 0 ≡ 0
unfolding part_at
part_first snapshot = refl

pub part_next : (snapshot : List ℕ) (n place next : ℕ) → place ≡ part_at snapshot n → next ≡ next_part snapshot place
    → next ≡ part_at snapshot (n + 1)
unfolding part_at
part_next snapshot n place next e w = w ∙ rw (e, add-one)

-- behind the parts of the first k nodes of a state
pub parts_of : (s : State) (k : ℕ) (rest : List ℕ) → part_at (nodes_bytes s k ++ rest) k ≡ part_start s k
unfolding part_at nodes_bytes
parts_of s zero rest = refl
parts_of s (suc k) rest =
    let all = nodes_bytes s k ++ (node_bytes s k ++ rest) in
    let size = part_start s k in
    let waits : waiting_in all size ≡ waiting_at s k =
    number-one all (size + 9) ∙ get_or-append-add (nodes_bytes s k) (node_bytes s k ++ rest) 9 0 in
    ap (λ (l : List ℕ). part_at l (suc k)) (append_assoc (nodes_bytes s k) (node_bytes s k) rest)
    ∙ ap (next_part all) (parts_of s k (node_bytes s k ++ rest))
    ∙ ap (λ (w : ℕ). size + 10 + 5 * w) waits
    ∙ omega (arith, start-next s k, length-node s k)

pub parts_found : PartsFound
unfolding snapshot_bytes
parts_found P s rest n h =
    ap (λ (l : List ℕ). part_at l n) (append_assoc (nodes_bytes s P.nodes) (variables_bytes s P.variables) rest)
    ∙ with_more s (λ l. part_at l n) (part_start s n) n (parts_of s n) (P.nodes - n) P.nodes (variables_bytes s P.variables ++ rest)
    (omega arith)

-- the byte that tells how many messages wait at node n
pub waiting_found : (P : Program) (s : State) (rest : List ℕ) (n : ℕ) → n < P.nodes
    → waiting_in (snapshot_bytes P s ++ rest) (part_at (snapshot_bytes P s ++ rest) n) ≡ waiting_at s n
unfolding part_at
waiting_found P s rest n h =
    let all = snapshot_bytes P s ++ rest in
    let here = parts_found P s rest n (omega arith) in
    let next : next_part all (part_at all n) ≡ part_start s (suc n) = parts_found P s rest (suc n) (omega arith) in
    omega (arith, here, next, start-next s n, length-node s n)

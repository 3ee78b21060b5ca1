-- Request S-3: where the parts of a snapshot ("end picture") stand.
use Rattle.std.specs.Prelude.{ℕ, suc, ◌+◌, ◌<◌, ◌≡◌, length, drop}
use Rattle.std.proofs.Math.Seq.{slice}
use Rattle.model.specs.Program.{Program}
use Rattle.model.specs.State.{State}
use Rattle.model.specs.Output.{node_bytes, part_start, variables_bytes, snapshot_bytes, variables_start}

-- the first part begins at 0, each next one where the one before ends; from there to where the next begins stands the part of its node; and
-- the variables stand behind the parts of all nodes
pub record PartsStand (P : Program) (s : State) : Type 0 where
  pub first : part_start s 0 ≡ 0
  pub next : (n : ℕ) → part_start s (suc n) ≡ part_start s n + length (node_bytes s n)
  pub part : (n : ℕ) → n < P.nodes → slice (part_start s n) (part_start s (suc n)) (snapshot_bytes P s) ≡ node_bytes s n
  pub variables : drop (variables_start P s) (snapshot_bytes P s) ≡ variables_bytes s P.variables

-- it is so for every program and every state
abbrev pub PartsHold : Type 0
PartsHold = (P : Program) (s : State) → PartsStand P s

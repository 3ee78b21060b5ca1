use Prim.Native.Nat.{ℕ}
use mathlib.Core.Path.{ap, ◌∙◌}
use Rattle.model.specs.Dispatch.{chosen}
use Rattle.turns.proofs.choice_of.Goals as goal

pub choose-requires : goal.choose-requires
choose-requires c = rw c.count_of-nodes.ensures (record { nodes_bound = (c.requires.tables_bound, c.requires.from_bound); ready_value = c.requires.ready_value })

pub returns-in-Written : goal.returns-in-Written
returns-in-Written c = ap (λ (n : ℕ). chosen n 0) c.turn_at.ensures ∙ rw c.in-Written.is

pub returns-in-Dispatched : goal.returns-in-Dispatched
returns-in-Dispatched c = c.choose.ensures ∙ rw (c.count_of-nodes.ensures, c.in-Dispatched.is)

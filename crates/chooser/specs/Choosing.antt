-- The dispatcher's choice (S-2) by the arrays of a state.
use Rattle.std.specs.Prelude.{ℕ, cond, List, Option, Some, None, ltb}
use Rattle.model.specs.Dispatch.{going_round, first_from, Choice as Meant, chosen, nobody, choice_at}
use Rattle.command.specs.declared.numbers.NodeNum.{NodeNum}
use Rattle.memory.specs.Ready.{ready_in}
use Rattle.chooser.specs.declared.Choice.{Choice}

-- the first node that is ready by the positions of the nodes and the numbers of their waiting messages, going round from a number on
abbrev pub choose_in : List ℕ → List ℕ → ℕ → ℕ → Meant
choose_in position waiting nodes from = choice_at nodes from (first_from (λ i. ready_in position waiting (going_round nodes from i)) 0 nodes)

-- the model's choice of a node, or of nobody, for which so many nodes were examined
abbrev pub choice_with : Option NodeNum → ℕ → Meant
choice_with (Some n) examined = chosen n.0 examined
choice_with None examined = nobody examined

-- the model's choice that each of the code's stands for
abbrev pub choice_of : Choice → Meant
choice_of c = choice_with c.node c.examined

-- a number up to that of the nodes, as a node
abbrev pub wrapped_to : ℕ → ℕ → ℕ
wrapped_to nodes n = cond (ltb n nodes) n 0

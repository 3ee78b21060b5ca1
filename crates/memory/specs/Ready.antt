-- Which nodes are ready (S-2) and how many (S-4), by the positions of the nodes and the numbers of their waiting messages.
use Rattle.std.specs.Prelude.{ℕ, ◌≤◌, ◌<◌, ◌≡◌, Bool, true, not, ◌&&◌, List, eqb, length, get_or}
use Rattle.model.specs.Table.{NODE, max_nodes}
use Rattle.model.specs.State.{idle}
use Rattle.model.specs.Dispatch.{count_below}
use Rattle.tables.specs.Tables.{count_in, wired_in}
use Rattle.memory.specs.declared.Change.{Change}
use Rattle.memory.specs.declared.Change.TheVariants as c

-- a node is ready
abbrev pub ready_in : List ℕ → List ℕ → ℕ → Bool
ready_in position waiting n = not (eqb (get_or position n 0) idle && eqb (get_or waiting n 0) 0)

-- how many of so many nodes are ready
abbrev pub ready_count_in : List ℕ → List ℕ → ℕ → ℕ
ready_count_in position waiting nodes = count_below (ready_in position waiting) nodes

-- how many targets a message wakes: those that are not ready
abbrev pub woken_in : (ℕ → Bool) → List ℕ → List ℕ → ℕ
woken_in target position waiting = count_below (λ k. target k && not (ready_in position waiting k)) max_nodes

-- how many nodes a change wakes: a send its targets; `wired` is by port and target
abbrev pub woken_by : (ℕ → ℕ → Bool) → List ℕ → List ℕ → Change → ℕ
woken_by wired position waiting c.Nothing = 0
woken_by wired position waiting c.Take = 0
woken_by wired position waiting (c.Send port) = woken_in (wired port) position waiting
woken_by wired position waiting (c.Store x) = 0

-- node n is one of the nodes of the tables, of which there are at most 32, and its wires end at such nodes
pub record Among (t : List ℕ) (n : ℕ) : Type 0 where
  pub inside : n < count_in t NODE
  pub few : count_in t NODE ≤ max_nodes
  pub wires : (port k : ℕ) → wired_in t n port k ≡ true → k < count_in t NODE

-- before a turn of node n: arrays of 32 nodes, and the ready count, over the nodes of the tables
pub record ReadyCounted (t : List ℕ) (n : ℕ) (position waiting : List ℕ) (ready : ℕ) : Type 0 where
  pub among : Among t n
  pub positions : length position ≡ max_nodes
  pub counts : length waiting ≡ max_nodes
  pub count : ready ≡ ready_count_in position waiting (count_in t NODE)

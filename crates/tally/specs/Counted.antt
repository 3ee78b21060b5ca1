-- What counting leaves in an array of 32 numbers, one for each node.
use Rattle.std.specs.Prelude.{ℕ, ◌+◌, ◌<◌, ◌≡◌, Bool, cond, List, [], ◌∷◌, length, get_or}
use Rattle.model.specs.Table.{max_nodes}
use Rattle.model.specs.Program.{Program}
use Rattle.model.specs.Tally.{started}
use Rattle.output.specs.Finding.{waiting_in, part_at}

-- one more at each node that passes a test
pub record Adds (test : ℕ → Bool) (before after : List ℕ) : Type 0 where
  pub size : length after ≡ max_nodes
  pub each : (n : ℕ) → n < max_nodes → get_or after n 0 ≡ get_or before n 0 + cond (test n) 1 0

-- the array has 32 numbers, and at each node the one that is given
pub record Numbered (number : ℕ → ℕ) (array : List ℕ) : Type 0 where
  pub size : length array ≡ max_nodes
  pub each : (n : ℕ) → n < max_nodes → get_or array n 0 ≡ number n

-- the four counts of node n: started by the program, received and taken by two arrays, waiting by the snapshot ("picture")
abbrev pub tally_by : Program → List ℕ → List ℕ → List ℕ → ℕ → List ℕ
tally_by P arrivals takings snapshot n =
    started P n ∷ get_or arrivals n 0 ∷ get_or takings n 0 ∷ waiting_in snapshot (part_at snapshot n) ∷ []

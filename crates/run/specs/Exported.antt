-- The answer of the exported entry points: eight numbers; nine of the dispatched ones (S-2).
use Rattle.std.specs.Prelude.{ℕ, List, [], ◌∷◌, ◌++◌}
use Rattle.run.specs.Answers.{Told, refusal, answer}

-- what is told, as eight numbers: number and place of the refusal, stop, completed turns, and the attempted entry; 0 where there is none
abbrev pub numbers_in : Told → List ℕ
numbers_in (refusal r) = r.number ∷ r.place ∷ 0 ∷ 0 ∷ 0 ∷ 0 ∷ 0 ∷ 0 ∷ []
numbers_in (answer x) = 0 ∷ 0 ∷ x.stop ∷ x.turns ∷ x.attempted.node ∷ x.attempted.kind ∷ x.attempted.number ∷ x.attempted.value ∷
    []

-- the same and the examined total, as nine numbers
abbrev pub numbers_with : Told → ℕ → List ℕ
numbers_with told examined = numbers_in told ++ (examined ∷ [])

use Prim.Native.Nat.{ℕ}
use mathlib.Core.Path.{◌≡◌}
use mathlib.Core.List.{List, [], ◌∷◌}
use lib.ListN.{get_or}
use Rattle.run.specs.Answers.{Told, refusal, answer, told_by}
use Rattle.run.specs.Exported.{numbers_in, numbers_with}
use Rattle.run.proofs.exports.numbers_with.Goals as goal

-- the eight numbers of what is told, one by one, and the examined total
nine_numbers : (told : Told) (examined : ℕ) (n : List ℕ) → n ≡ numbers_in told
    → get_or n 0 0 ∷ get_or n 1 0 ∷ get_or n 2 0 ∷ get_or n 3 0 ∷ get_or n 4 0 ∷ get_or n 5 0 ∷ get_or n 6 0 ∷ get_or n 7 0 ∷ examined ∷ []
    ≡ numbers_with told examined
nine_numbers (refusal r) examined n e = rw e
nine_numbers (answer x) examined n e = rw e

pub returns : goal.returns
returns c = rw c.from-examined.ensures (nine_numbers (told_by c.args.handed.answer) _ _ c.numbers_in.ensures)

use mathlib.Core.Path.{refl}
use borrow.Author.Rules.{rules}
use Rattle.writing.proofs.Placing.{set-placed}
use Rattle.writing.proofs.put_one.Goals as goal

pub returns : goal.returns
returns g c = record { place = refl; buffer = set-placed _ _ _ (search rules) }

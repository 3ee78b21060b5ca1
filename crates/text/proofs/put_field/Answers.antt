use mathlib.Core.List.{[], ◌∷◌}
use native.Mathlib.Omega.{arith}
use borrow.Author.Rules.{rules}
use Rattle.writing.proofs.Placing.{writes-on}
use Rattle.text.specs.Text.{field}
use Rattle.text.proofs.put_field.Goals as goal

pub put_one-next-requires : goal.put_one-next-requires
unfolding field
put_one-next-requires c = omega (arith, c.requires)

pub put_decimal-requires : goal.put_decimal-requires
unfolding field
put_decimal-requires c = search rules

pub returns : goal.returns
unfolding field
returns c = writes-on (32 ∷ []) _ _ _ _ _ _ _ (omega (
  arith,
  c.requires,
)) c.put_one-next.ensures c.put_decimal.ensures

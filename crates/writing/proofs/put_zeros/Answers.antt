use Prim.Native.Nat.{ℕ}
use native.Mathlib.Omega.{arith}
use lib.ListN.{length-replicate}
use borrow.Author.Rules.{rules}
use Rattle.writing.specs.Writing.{placed}
use Rattle.writing.proofs.put_zeros.Goals as goal

pub returns : goal.returns
unfolding placed
returns c = record { place = omega (arith, length-replicate {A = ℕ} c.args.count 0); buffer = search rules }

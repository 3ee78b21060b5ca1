-- A handler command by its byte: the bytes that are left for SKIP, and that every named command is recognised.
use Prim.Native.Nat.{ℕ, suc, ◌≤◌}
use mathlib.Core.Path.{◌≡◌, refl}
use mathlib.Core.Bool.{Bool, true, false, cond, ◌&&◌}
use native.Mathlib.Omega.{arith}
use lib.Dec.{leb, eqb}
use borrow.Author.Tests.{leb-true, leb-false, le-leb, eqb-true}
use Rattle.model.specs.Table.{SET, TAKE, CALL, SKIP, operands_in, operands_of}
use Rattle.model.specs.Declared.{instruction}
use Rattle.model.specs.Valid.{NamedInstruction}
use Rattle.model.proofs.Logic.{and_left, and_right}
use Rattle.command.specs.Instructions.{recognised}

up : (b k : ℕ) → k ≤ b → ¬ (b ≡ k) → suc k ≤ b
up b k h n = omega arith

-- a named command is recognised
module _ (b x : ℕ) (named : NamedInstruction (instruction b x)) where
  low : SET ≤ b
  low = leb-true SET b (and_left (leb SET b) _ named.handler)

  absent-take : b ≡ TAKE → x ≡ 0
  unfolding operands_of operands_in
  absent-take e = rw e at named.operand

  absent_skip : b ≡ SKIP → x ≡ 0
  unfolding operands_of operands_in
  absent_skip e = rw e at named.operand

  pub named-recognised : recognised b x ≡ instruction b x
  named-recognised = by_take (eqb b TAKE) refl
    where
      by_call : (t : Bool) → leb b CALL ≡ t → cond t (instruction b x) (instruction SKIP 0) ≡ instruction b x
      by_call true e = refl
      by_call false e =
          let q : b ≡ SKIP = omega (arith, leb-false b CALL e, leb-true b SKIP (and_right (leb SET b) _ named.handler)) in
          rw (q, absent_skip q)

      by_take : (t : Bool) → eqb b TAKE ≡ t → cond t (instruction TAKE 0)
          (cond (leb SET b && leb b CALL) (instruction b x) (instruction SKIP 0)) ≡ instruction b x
      by_take true e = let q : b ≡ TAKE = eqb-true b TAKE e in rw (q, absent-take q)
      by_take false e = rw (le-leb SET b low) (by_call (leb b CALL) refl)

use borrow.Enum.Refused.{opened}
use Prim.Native.Nat.{◌≤◌}
use native.Mathlib.Omega.{arith}
use Rattle.model.proofs.Counting.{count_most}
use Rattle.tables.specs.Tables.{wired_in}
use Rattle.memory.proofs.Unchanged.{woken_none}
use Rattle.memory.proofs.ready.ready_with.Goals as goal

pub overflow_add-result : goal.overflow_add-result
overflow_add-result c = let few : c.woken.result ≤ 32 = rw c.woken.ensures (count_most _ 32) in
    omega (arith, c.requires)

pub returns : goal.returns
returns c = omega (arith, woken_none (wired_in c.args.tables.now c.args.n.0) c.args.position.now c.args.waiting.now c.args.change (opened c.in_default.in_default-own.keys2))

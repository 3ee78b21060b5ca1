-- Where a variable belongs.
use Rattle.std.specs.Prelude.{ℕ, cond, eqb}
use Rattle.declared.specs.declared.Scope.{Scope}
use Rattle.declared.specs.declared.Scope.TheVariants.{Node, Flow, Global}

-- the scope that a number stands for: 0 node, 1 flow, any other global
abbrev pub scope_of : ℕ → Scope
scope_of number = cond (eqb number 0) Node (cond (eqb number 1) Flow Global)

use mathlib.Core.Bool.{or-false}
use Rattle.model.specs.Refusal.{any_of}
use Rattle.uses.proofs.Arms.{known_sort, call_sort}
use Rattle.uses.proofs.is_unused.Goals as goal

pub returns-in-50 : goal.returns-in-50
unfolding any_of
returns-in-50 c = known_sort _ _ _ _ _ _ _ c.in-50.is c.marked.ensures (or-false _)

pub returns-in-51 : goal.returns-in-51
unfolding any_of
returns-in-51 c = known_sort _ _ _ _ _ _ _ c.in-51.is c.marked-in-51.ensures (or-false _)

pub returns-in_default : goal.returns-in_default
returns-in_default c = call_sort _ _ _ _ _ _ c.in_default.in_default-own.rest.0.1 c.in_default.in_default-own.rest.1 c.permits_call.ensures c.marked-in_default.ensures

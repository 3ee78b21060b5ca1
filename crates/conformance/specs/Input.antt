-- What the contracts on the input cite.
use Rattle.std.specs.Prelude.{◌≤◌}
use Rattle.conformance.specs.declared.input.Head.{Head}

-- the lengths of a run are at most the largest
pub record HeadFits (h : Head) : Type 0 where
  pub job : h.job ≤ 16400
  pub trace : h.lengths.trace ≤ 28800
  pub snapshot : h.lengths.snapshot ≤ 3200
  pub work : h.lengths.work ≤ 16500

use mathlib.Core.Path.{◌≡◌}
use Rattle.tables.specs.Items.{found_item}
use Rattle.tables.specs.Tables.{chain_in}
use Rattle.items.specs.Asking.{asked}
use Rattle.items.proofs.find.Given as goal

abbrev pub invariant-loop-at : goal.invariant-loop-at
invariant-loop-at l = found_item (asked l.q) (chain_in l.tables l.last l.last) ≡ found_item (asked l.q) (chain_in l.tables l.at l.at)

abbrev pub decreases-loop-at : goal.decreases-loop-at
decreases-loop-at l = l.at

-- The search along a chain of items, from the last one back.
use Prim.Native.Nat.{ℕ, ◌-◌, ◌<◌}
use mathlib.Core.Path.{◌≡◌, ap, ◌∙◌}
use mathlib.Core.Bool.{Bool, true, false, cond}
use mathlib.Core.List.{List}
use Rattle.std.proofs.Common.{None, Some}
use lib.Dec.{ltb}
use Rattle.tables.specs.Items.{Item, found_item}
use Rattle.tables.specs.Tables.{item_in, before_in, chain_in}
use Rattle.tables.proofs.Chains.{chain_first, chain_rest}

module _ (t : List ℕ) (test : Item → Bool) (at : ℕ) where
  found_along : 0 < at
      → found_item test (chain_in t at at) ≡ cond (test (item_in t (at - 1))) (Some (item_in t (at - 1)))
      (found_item test (chain_in t (at - 1) (before_in t (at - 1))))
  unfolding found_item
  found_along h = rw (chain_first t at h)

  -- this item fits; it does not, and the search goes on at the one before; none is left
  pub found_hit : 0 < at → test (item_in t (at - 1)) ≡ true → found_item test (chain_in t at at) ≡ Some (item_in t (at - 1))
  found_hit h e = found_along h ∙ rw e

  pub found_miss :
      0 < at → test (item_in t (at - 1)) ≡ false → (next : ℕ) → next ≡ cond (ltb (before_in t (at - 1)) at) (before_in t (at - 1)) 0
      → found_item test (chain_in t at at) ≡ found_item test (chain_in t next next)
  found_miss h e next q = rw (found_along h, e) (ap (found_item test) (chain_rest t at (before_in t (at - 1)) next h q))

  pub found_none : at ≡ 0 → found_item test (chain_in t at at) ≡ None
  unfolding found_item chain_in
  found_none e = rw e

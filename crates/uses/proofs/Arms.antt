-- What is noted and asked, by the byte of a command.
use Prim.Native.Nat.{ℕ}
use mathlib.Core.Path.{◌≡◌, sym, ◌∙◌}
use mathlib.Core.Logic.{◌⊎◌, inl, inr}
use mathlib.Core.Bool.{Bool, not, ◌&&◌, ◌||◌, or-false, and-or_distrib_right}
use mathlib.Core.List.{List}
use lib.Dec.{eqb}
use borrow.Author.Tests.{ne_eqb}
use Rattle.model.specs.Table.{ANY, ARG, READ, WRITE, SPAN, GET, PUT, PLUS, CALL, is_among}
use Rattle.model.specs.Refusal.{any_of}
use Rattle.tables.specs.declared.cells.Section.{Section}
use Rattle.tables.specs.Cells.{mark_in}
use Rattle.tables.specs.Writes.{made, written}
use Rattle.uses.specs.Uses.{call_uses, use_writes, unused_in}

module _ (u : List ℕ) (b n x : ℕ) where
  -- where the byte is known, or one of two that use alike, it is computed which write is made
  pub known_use : (k : ℕ) (v : List ℕ) → b ≡ k → v ≡ written u (use_writes u n k x) → v ≡ written u (use_writes u n b x)
  known_use k v e h = rw e h

  pub known-either :
      (k l : ℕ) (v : List ℕ) → (b ≡ k) ⊎ (b ≡ l) → v ≡ written u (use_writes u n k x)
      → written u (use_writes u n k x) ≡ written u (use_writes u n l x) → v ≡ written u (use_writes u n b x)
  known-either k l v (inl e) h same = known_use k v e h
  known-either k l v (inr e) h same = known_use l v e (h ∙ same)

  -- none of these bytes: nothing is used
  pub no_use : ¬ (b ≡ GET) → ¬ (b ≡ PLUS) → ¬ (b ≡ PUT) → ¬ (b ≡ CALL) → u ≡ written u (use_writes u n b x)
  unfolding made is_among
  no_use n₁ n₂ n₃ n₄ = rw (ne_eqb b GET n₁, ne_eqb b PLUS n₂, ne_eqb b PUT n₃, ne_eqb b CALL n₄)

  -- a permission of a known sort goes by the marks of a section
  pub known_sort : (k : ℕ) (s : Section) (m : Bool) → b ≡ k → m ≡ mark_in u s n x → unused_in u k n x ≡ not (mark_in u s n x)
      → not m ≡ unused_in u b n x
  known_sort k s m e h q = rw (h, e) (sym q)

  -- one that is neither READ nor WRITE goes by the calls, if it permits one
  pub call_sort : (c m : Bool) → ¬ (b ≡ READ) → ¬ (b ≡ WRITE) → c ≡ (eqb b ANY || (eqb b ARG || eqb b SPAN)) → m ≡ mark_in u call_uses n x
      → (c && not m) ≡ unused_in u b n x
  unfolding any_of
  call_sort c m n₁ n₂ e h =
      let free = not (mark_in u call_uses n x) in
      rw (e, h, ne_eqb b READ n₁, ne_eqb b WRITE n₂)
      (and-or_distrib_right (eqb b ANY) (eqb b ARG || eqb b SPAN) free
      ∙ rw (and-or_distrib_right (eqb b ARG) (eqb b SPAN) free, or-false (eqb b SPAN && free)))

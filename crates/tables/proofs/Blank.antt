-- Cells of which none is noted stand for no command.
use Prim.Native.Nat.{ℕ, ◌+◌, ◌*◌, ◌/◌, ◌%◌, ◌≤◌, zero-le}
use mathlib.Core.Path.{◌≡◌, refl, sym, ◌∙◌}
use mathlib.Core.Bool.{Bool, true, false, cond, and-false}
use mathlib.Core.List.{[]}
use Rattle.std.proofs.Common.{None, is_some}
use native.Mathlib.Omega.{arith}
use lib.Dec.{ltb, eqb}
use lib.ListN.{replicate, length-replicate, get_or-replicate}
use borrow.Author.Tests.{ltb-true, ltb-false, le-ltb}
use Rattle.model.specs.Table.{ARG, SPAN, group_of}
use Rattle.model.specs.Declared.{count_of, occurs, in_span, declared, reply_of, open_body, body_length, starts_of, started_in}
use Rattle.model.specs.Refusal.{group_falls}
use Rattle.tables.specs.declared.cells.Section.{Section}
use Rattle.tables.specs.Cells.{cell_count, entry_in, flag_in, is_mark_place, mark_cell, mark_in, half_in, blank}
use Rattle.tables.specs.Tables.{count_cells, progress_cells, last_reply_cells, first_cells, wire_cells, last_range_cells, range_place}
use Rattle.tables.specs.Tables.{last_range_in, chain_in, ranges_in, reply_in}
use Rattle.tables.specs.Bits.{half_of}
use Rattle.tables.specs.Items.{Item, item, found_item, holds, is_this}
use Rattle.tables.specs.Writes.{tables_of}
use Rattle.tables.specs.Stands.{Stands}
use Rattle.tables.proofs.Setting.{bit_zero}
use Rattle.tables.proofs.Writing.{entry-inside, entry_outside}

-- cells that are all 0
module _ (count : ℕ) (s : Section) (h : s.0 + s.1 ≤ count) where
  entry_zero : (i : ℕ) → entry_in (replicate count 0) s i ≡ 0
  entry_zero i = by_range (ltb i s.1) refl
    where
      by_range : (t : Bool) → ltb i s.1 ≡ t → entry_in (replicate count 0) s i ≡ 0
      by_range true e =
          let l = ltb-true i s.1 e in
          entry-inside (replicate count 0) s i l ∙ get_or-replicate {A = ℕ} count (s.0 + i) 0 0 (omega arith)
      by_range false e = entry_outside (replicate count 0) s i (ltb-false i s.1 e)

  pub mark_zero : (r x : ℕ) → mark_in (replicate count 0) s r x ≡ false
  unfolding mark_in
  mark_zero r x = rw (entry_zero (mark_cell r x), bit_zero (x % 32)) (and-false (is_mark_place r x))

-- those of the tables
entry-blank : (s : Section) (i : ℕ) → s.0 + s.1 ≤ cell_count → entry_in blank s i ≡ 0
unfolding blank
entry-blank s i h = entry_zero cell_count s h i

flag-blank : (s : Section) (i : ℕ) → s.0 + s.1 ≤ cell_count → flag_in blank s i ≡ false
unfolding flag_in
flag-blank s i h = rw (entry-blank s i h)

mark_blank : (s : Section) (r x : ℕ) → s.0 + s.1 ≤ cell_count → mark_in blank s r x ≡ false
unfolding blank
mark_blank s r x h = mark_zero cell_count s h r x

-- no node has a range for a function
last-blank : (n f : ℕ) → last_range_in blank n f ≡ 0
unfolding half_in half_of
last-blank n f = by_function (ltb f 32)
  where
    by_half : (b : Bool) → ◌≡◌ {A = ℕ} (cond b 0 0) 0
    by_half true = refl
    by_half false = refl

    by_function : (b : Bool) → cond b (half_in blank last_range_cells (range_place n f)) 0 ≡ 0
    by_function true = rw (entry-blank last_range_cells (range_place n f / 2) (omega arith)) (by_half (eqb (range_place n f % 2) 0))
    by_function false = refl

some-blank : (test : Item → Bool) (n f : ℕ) → is_some (found_item test (ranges_in blank n f)) ≡ false
unfolding chain_in found_item
some-blank test n f = rw (last-blank n f)

-- no function has a reply
reply-blank : (f v : ℕ) → reply_in blank f v ≡ None
unfolding chain_in found_item
reply-blank f v = rw (entry-blank last_reply_cells f (omega arith))

pub stands-blank : Stands blank []
unfolding group_falls count_of occurs declared reply_of open_body body_length starts_of started_in in_span blank tables_of
stands-blank =
    record {
      size = length-replicate {A = ℕ} cell_count 0;
      counts = λ b h. entry-blank count_cells b (omega arith);
      group = λ c. rw (entry-blank progress_cells 0 (omega arith)) (sym (le-ltb (group_of c.byte) 0 zero-le));
      opened = entry-blank progress_cells 1 (omega arith);
      flow = λ n. entry-blank _ n (omega arith);
      scope = λ x. entry-blank _ x (omega arith);
      owner = λ x. entry-blank _ x (omega arith);
      start_value = λ x. entry-blank _ x (omega arith);
      fun_answer = λ f. entry-blank _ f (omega arith);
      lengths = λ n. entry-blank _ n (omega arith);
      bodies = λ n. flag-blank _ n (omega arith);
      started = λ f. flag-blank _ f (omega arith);
      firsts = λ n. rw (flag-blank first_cells n (omega arith));
      wires = λ n p m. rw (mark_blank wire_cells (n * 4 + p) m (omega arith)) (and-false (ltb p 4));
      reads = λ n x. mark_blank _ n x (omega arith);
      writes = λ n x. mark_blank _ n x (omega arith);
      anys = λ n f. mark_blank _ n f (omega arith);
      item_count = entry-blank progress_cells 2 (omega arith);
      last_ranges = λ n f. rw (last-blank n f) zero-le;
      arguments = λ n f v. some-blank (is_this (item ARG v v)) n f;
      spans = λ n f low high. some-blank (is_this (item SPAN low high)) n f;
      calls = λ n f v. some-blank (holds v) n f;
      last_replies = λ f. rw (entry-blank last_reply_cells f (omega arith)) zero-le;
      replies = reply-blank;
      cells = refl;
    }

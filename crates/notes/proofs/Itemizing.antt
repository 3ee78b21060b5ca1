-- Ranges and replies, the items, with one more command.
use Prim.Native.Nat.{ℕ, ◌+◌, ◌/◌, ◌≤◌, ◌<◌}
use mathlib.Core.Path.{◌≡◌, refl, sym, ◌∙◌}
use mathlib.Core.Bool.{Bool, true, false, cond, ◌&&◌, ◌||◌, and_assoc}
use mathlib.Core.List.{List, ◌∷◌}
use Rattle.std.proofs.Common.{Option, Some, is_some}
use native.Mathlib.Omega.{arith}
use lib.Dec.{ltb, eqb}
use borrow.Author.Tests.{eqb-true}
use Rattle.model.specs.Table.{REPLY, ARG, SPAN, BODY, operands_in, operands_of}
use Rattle.model.specs.Command.{Command, is, quaternary, ternary}
use Rattle.model.specs.Declared.{is_reply, reply_of, count_of, occurs, in_span}
use Rattle.model.proofs.Growth.{occurs-next, span-next, reply-next}
use Rattle.model.proofs.Logic.{true_false, or_first, or_second, and_left}
use Rattle.model.proofs.Valid.{limits}
use Rattle.tables.specs.Cells.{entry_in, halves_with}
use Rattle.tables.specs.Tables.{progress_cells, link_cells, last_range_cells, last_reply_cells, item_first_cells, item_second_cells, item_count_in}
use Rattle.tables.specs.Tables.{range_place, last_range_in, ranges_in, listed_in, in_range_in, last_reply_in, replies_in, reply_in}
use Rattle.tables.specs.Items.{Item, item, is_range, range_of, reply_item_of, is_item, found_item, holds, is_this, is_to, second_of}
use Rattle.tables.specs.Writes.{one_more}
use Rattle.tables.proofs.Cases.{this_first}
use Rattle.notes.proofs.Kept.{ItemWritten, replies_for, last_range_next, last-reply-next, ranges-next, replies-next, found-next}
use Rattle.notes.proofs.Kept.{some_next}
use Rattle.notes.proofs.Same.{by_range, is_of, argument_same, span_same, call_same}
use Rattle.notes.proofs.After.{more, where_on, after, Admitted, in_section, named_as}

module _ {t : List ℕ} {past : List Command} {c : Command} (one : Admitted t past c) where
  -- a range names a node and a function; an ARG has no fourth operand; a REPLY names a function
  range_range : is_range c ≡ true → (c.operands.first < 32) × (c.operands.second < 32)
  unfolding operands_of operands_in
  range_range =
      by_range c (λ p q. (p || q) ≡ true → (c.operands.first < 32) × (c.operands.second < 32))
      (λ e u. let r = named_as one ARG e in (r.first, r.second))
      (λ e u. let r = named_as one SPAN e in (r.first, r.second)) (λ u. true_false (sym u))

  arg_range : is ARG c ≡ true → c.operands.fourth ≡ 0
  unfolding operands_of operands_in
  arg_range e = (named_as one ARG e).fourth

  reply_range : is REPLY c ≡ true → c.operands.first < 32
  unfolding operands_of operands_in
  reply_range e = (named_as one REPLY e).first

  -- how many items there are
  items_next : count_of REPLY (c ∷ past) + (count_of ARG (c ∷ past) + count_of SPAN (c ∷ past)) ≡ cond (is_item c) (item_count_in t + 1)
      (item_count_in t)
  unfolding count_of
  items_next = by_reply (is REPLY c) refl
    where
      by_reply : (b : Bool) → is REPLY c ≡ b
          → cond b (count_of REPLY past + 1) (count_of REPLY past)
          + (cond (is ARG c) (count_of ARG past + 1) (count_of ARG past) + cond (is SPAN c) (count_of SPAN past + 1) (count_of SPAN past))
          ≡ cond (b || is_range c) (item_count_in t + 1) (item_count_in t)
      by_reply true e = rw (eqb-true c.byte REPLY e) (omega (arith, one.stands.item_count))
      by_reply false e = by_range c
          (λ p q. count_of REPLY past
          + (cond p (count_of ARG past + 1) (count_of ARG past) + cond q (count_of SPAN past + 1) (count_of SPAN past))
          ≡ cond (p || q) (item_count_in t + 1) (item_count_in t))
          (λ e. omega (arith, one.stands.item_count)) (λ e. omega (arith, one.stands.item_count)) (sym one.stands.item_count)

  item_room : is_item c ≡ true → item_count_in t < 384
  item_room e =
      let n : count_of REPLY (c ∷ past) + (count_of ARG (c ∷ past) + count_of SPAN (c ∷ past)) ≡ item_count_in t + 1 = items_next ∙ rw e in
      omega (arith, (limits (c ∷ past) one.valid).ranges, (limits (c ∷ past) one.valid).replies)

  item-more : is_item c ≡ true → one_more (item_count_in t) ≡ item_count_in t + 1
  item-more e = more (item_count_in t) (omega (arith, item_room e))

  -- what is counted and written for an item
  pub item-count-next : item_count_in (after t c) ≡ count_of REPLY (c ∷ past) + (count_of ARG (c ∷ past) + count_of SPAN (c ∷ past))
  item-count-next =
      in_section one progress_cells (omega arith) refl 2
      ∙ this_first (is BODY c) (is_item c) c.operands.first (one_more (item_count_in t)) (item_count_in t)
      ∙ where_on (λ b z. cond b z (item_count_in t)) (is_item c) _ _ item-more refl ∙ sym items_next

  written-item : ItemWritten t (after t c) c
  written-item =
      record {
        first = in_section one item_first_cells (omega arith) refl;
        second = in_section one item_second_cells (omega arith) refl;
        linked = in_section one link_cells (omega arith) refl;
        last_range = λ i. in_section one last_range_cells (omega arith) refl i
            ∙ where_on (λ b z. cond (b && (eqb (range_place c.operands.first c.operands.second / 2) i && ltb i 512))
            (halves_with t last_range_cells (range_place c.operands.first c.operands.second) z) (entry_in t last_range_cells i))
            (is_range c)
            _ _ (λ e. item-more (or_second (is REPLY c) (is_range c) e)) refl;
        last_reply = λ f. in_section one last_reply_cells (omega arith) refl f
            ∙ where_on (λ b z. cond (b && (eqb c.operands.first f && ltb f 32)) z (last_reply_in t f)) (is REPLY c)
            _ _ (λ e. item-more (or_first (is REPLY c) (is_range c) e)) refl;
        room = item_room;
        inside = range_range;
        function = reply_range;
        last_ranges = one.stands.last_ranges;
        last_replies = one.stands.last_replies;
      }

  -- the last item of a chain is one of those counted
  last-counted : (b here : Bool) (h : ℕ) → (here ≡ true → b ≡ true) → h ≤ item_count_in t
      → cond here (item_count_in t + 1) h ≤ cond b (item_count_in t + 1) (item_count_in t)
  last-counted true true h e l = omega arith
  last-counted true false h e l = omega arith
  last-counted false true h e l = true_false (sym (e refl))
  last-counted false false h e l = l

  pub last-ranges-next : (n f : ℕ) → last_range_in (after t c) n f ≤ item_count_in (after t c)
  last-ranges-next n f =
      rw (last_range_next t (after t c) c written-item n f, item-count-next, items_next)
      (last-counted (is_item c) (is_of c n f) (last_range_in t n f) (λ e. or_second (is REPLY c) (is_range c) (and_left (is_range c) _ e))
      (one.stands.last_ranges n f))

  pub last-replies-next : (f : ℕ) → last_reply_in (after t c) f ≤ item_count_in (after t c)
  last-replies-next f =
      rw (last-reply-next t (after t c) c written-item f, item-count-next, items_next)
      (last-counted (is_item c) (replies_for c f) (last_reply_in t f) (λ e. or_first (is REPLY c) (is_range c) (and_left (is REPLY c) _ e))
      (one.stands.last_replies f))

  -- a test of the ranges of a node and a function
  some_range : (test : Item → Bool) (n f : ℕ)
      → is_some (found_item test (ranges_in (after t c) n f))
      ≡ ((is_of c n f && test (range_of c)) || is_some (found_item test (ranges_in t n f)))
  some_range test n f = rw (ranges-next t (after t c) c written-item n f) (some_next test (is_of c n f) (range_of c) (ranges_in t n f))

  pub arguments-next : (n f w : ℕ) → listed_in (after t c) ARG n f w w ≡ occurs ARG (ternary n f w) (c ∷ past)
  arguments-next n f w =
      some_range (is_this (item ARG w w)) n f
      ∙ rw (one.stands.arguments n f w, argument_same c n f w arg_range, occurs-next c past ARG (ternary n f w))

  pub spans-next : (n f low high : ℕ) → listed_in (after t c) SPAN n f low high ≡ occurs SPAN (quaternary n f low high) (c ∷ past)
  spans-next n f low high =
      some_range (is_this (item SPAN low high)) n f
      ∙ rw (one.stands.spans n f low high, span_same c n f low high, occurs-next c past SPAN (quaternary n f low high))

  pub calls-next : (n f w : ℕ) → in_range_in (after t c) n f w ≡ (occurs ARG (ternary n f w) (c ∷ past) || in_span n f w (c ∷ past))
  calls-next n f w =
      some_range (holds w) n f
      ∙ rw (one.stands.calls n f w, occurs-next c past ARG (ternary n f w), span-next c past n f w)
      (call_same c n f w (occurs ARG (ternary n f w) past) (in_span n f w past) arg_range)

  pub replies-after : (f w : ℕ) → reply_in (after t c) f w ≡ reply_of (c ∷ past) f w
  replies-after f w =
      rw (
        replies-next t (after t c) c written-item f,
        found-next (is_to w) (replies_for c f) (reply_item_of c) (replies_in t f),
        reply-next c past f w,
        ← one.stands.replies f w,
        and_assoc (is REPLY c) (eqb c.operands.first f) (eqb c.operands.second w),
      )
      (found (is_reply f w c) (found_item (is_to w) (replies_in t f)))
    where
      found : (b : Bool) (o : Option Item)
          → second_of (cond b (Some (reply_item_of c)) o) ≡ cond b (Some c.operands.third) (second_of o)
      found true o = refl
      found false o = refl

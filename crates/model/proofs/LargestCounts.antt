-- Every largest count over the whole job is kept, and passing it is refused by 5.
use Prim.Native.Nat.{ℕ, ◌≤◌}
use mathlib.Core.Path.{◌≡◌, refl, sym, ◌∙◌}
use mathlib.Core.Bool.{Bool, true, false, ◌||◌, or-false}
use mathlib.Core.List.{List, [], ◌∷◌}
use Rattle.std.proofs.Common.{None, Some}
use Rattle.std.proofs.lemmas.Option.{none-some}
use native.Mathlib.Omega.{arith}
use lib.Dec.{leb, eqb}
use borrow.Author.Tests.{leb-true, le-leb, lt-leb, eqb-true, ne_eqb}
use Rattle.model.specs.Table.{FLOW, NODE, VAR, FUN, REPLY, ARG, SPAN, TURN, SET, SKIP, Limit, limit, is_among, largest_in, largest_of}
use Rattle.model.specs.Command.{Command}
use Rattle.model.specs.Declared.{count_among, is_handler}
use Rattle.model.specs.Refusal.{any_of, exceeds_count, violation}
use Rattle.model.specs.LargestCounts.{Limited, LargestCountsHold, ReplyLimitHolds, RangeLimitHolds}
use Rattle.model.proofs.Logic.{and_left, and_right}

-- a handler command has no largest count over the whole job
none_largest : (b : ℕ) → SET ≤ b → b ≤ SKIP → largest_of b ≡ None
unfolding largest_of largest_in is_among
none_largest b l h =
    rw (
      ne_eqb b FLOW (λ e. omega arith),
      ne_eqb b NODE (λ e. omega arith),
      ne_eqb b VAR (λ e. omega arith),
      ne_eqb b FUN (λ e. omega arith),
      ne_eqb b REPLY (λ e. omega arith),
      ne_eqb b ARG (λ e. omega arith),
      ne_eqb b SPAN (λ e. omega arith),
      ne_eqb b TURN (λ e. omega arith),
    )

module _ (past : List Command) (c : Command) (l : Limit) (e : largest_of c.byte ≡ Some l) where
  no_handler : (t : Bool) → is_handler c ≡ t → t ≡ false
  no_handler false p = refl
  no_handler true p =
      let from = leb-true SET c.byte (and_left (leb SET c.byte) _ p) in
      let to = leb-true c.byte SKIP (and_right (leb SET c.byte) _ p) in
      absurd (none-some l (sym (none_largest c.byte from to) ∙ e))

  -- the count by which test 5 goes
  exceeded : exceeds_count past c ≡ leb l.most (count_among l.bytes past)
  unfolding any_of
  exceeded = rw (e, no_handler (is_handler c) refl, or-false (leb l.most (count_among l.bytes past)))

  limited : Limited l past c
  unfolding violation
  limited =
      record {
        below = λ h. exceeded ∙ lt-leb l.most (count_among l.bytes past) h;
        reached = λ h g. rw (g, exceeded, le-leb l.most (count_among l.bytes past) h);
      }

pub largest_counts_lem : LargestCountsHold
largest_counts_lem = limited

pub reply-limit : ReplyLimitHolds
unfolding largest_of largest_in is_among
reply-limit past c e = limited past c (limit (REPLY ∷ []) 128) (rw e)

pub range_limit : RangeLimitHolds
unfolding largest_of largest_in is_among
range_limit past c = by_byte (eqb c.byte ARG) refl
  where
    by_byte : (t : Bool) → eqb c.byte ARG ≡ t → (t || eqb c.byte SPAN) ≡ true → Limited (limit (ARG ∷ SPAN ∷ []) 256) past c
    by_byte true p e = limited past c (limit (ARG ∷ SPAN ∷ []) 256) (rw (eqb-true c.byte ARG p))
    by_byte false p e = limited past c (limit (ARG ∷ SPAN ∷ []) 256) (rw (eqb-true c.byte SPAN e))

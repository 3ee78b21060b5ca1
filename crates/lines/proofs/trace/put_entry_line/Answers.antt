use Prim.Native.Nat.{ℕ, ◌+◌, ◌≤◌}
use mathlib.Core.Path.{◌≡◌, refl}
use mathlib.Core.List.{List, [], ◌∷◌}
use mathlib.Core.Logic.{inl, inr}
use lib.ListN.{length}
use borrow.Author.Rules.{rules}
use Rattle.text.specs.Text.{decimal, line}
use Rattle.text.proofs.Lining.{first-room, numbers-room, feed_room, line-put}
use Rattle.lines.specs.Lines.{entry_line}
use Rattle.lines.proofs.Texts.{entry-same}
use Rattle.lines.proofs.trace.put_entry_line.Goals as goal
use Rattle.lines.proofs.trace.put_entry_line.Goals.{After-operand-value}

-- the line by the numbers that are read, and room for it
abbrev three : After-operand-value → List ℕ
three r = r.operand-kind.result ∷ r.operand-number.result ∷ r.operand-value.result ∷ []

same : (r : After-operand-value) → entry_line r.args.trace.now r.args.k ≡ line (decimal r.operand-node.result) (three r)
same r =
    entry-same r.args.trace.now r.args.k _ _ _ _ r.operand-node.ensures r.operand-kind.ensures r.operand-number.ensures r.operand-value.ensures

fits : (r : After-operand-value) → r.args.at + length (line (decimal r.operand-node.result) (three r)) ≤ length r.args.text.now
fits r = rw (same r) at r.requires.k_in_bounds_2

pub operand-node-requires : goal.operand-node-requires
operand-node-requires c = (search rules, inr (inl refl))

pub operand-kind-requires : goal.operand-kind-requires
operand-kind-requires c = (search rules, inr (inl refl))

pub operand-number-requires : goal.operand-number-requires
operand-number-requires c = (search rules, inr (inl refl))

pub operand-value-requires : goal.operand-value-requires
operand-value-requires c = (search rules, inl refl)

pub put_decimal-first-requires : goal.put_decimal-first-requires
put_decimal-first-requires c = let r = (goal.at.put_decimal-first-requires c).After-operand-value in
    first-room (decimal c.operand-node.result) (three r) c.args.text.now c.args.at (fits r)

pub put_fields-end-requires : goal.put_fields-end-requires
put_fields-end-requires c = let r = (goal.at.put_fields-end-requires c).After-operand-value in
    numbers-room (decimal c.operand-node.result) (three r) c.args.text.now c.args.at (fits r) _ _ c.put_decimal-first.ensures

pub put_one-requires : goal.put_one-requires
put_one-requires c = let r = (goal.at.put_one-requires c).After-operand-value in
    feed_room (decimal c.operand-node.result) (three r) c.args.text.now c.args.at (fits r) _ _ c.put_decimal-first.ensures _ _
    c.put_fields-end.ensures

pub returns : goal.returns
returns c = let r = (goal.at.returns c).After-operand-value in
    rw (same r)
    (line-put (decimal c.operand-node.result) (three r) c.args.text.now c.args.at (fits r) _ _ c.put_decimal-first.ensures _ _
    c.put_fields-end.ensures _ _ c.put_one.ensures)

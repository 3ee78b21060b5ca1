use mathlib.Core.Path.{refl}
use mathlib.Core.Logic.{inl, inr}
use native.Mathlib.Omega.{arith}
use borrow.Author.Rules.{rules}
use Rattle.lines.proofs.Texts.{Node, word_room, five-room, messages-room, end_room, node_put}
use Rattle.lines.proofs.snapshot.put_node_line.Goals as goal
use Rattle.lines.proofs.snapshot.put_node_line.Goals.{After-operand-waiting}

-- what is read of the node's part
node :
    (r : After-operand-waiting) → Node r.args.snapshot.now r.args.place r.args.n r.operand-position.result r.operand-accumulator.result
    r.operand-message.result r.operand-waiting.result r.args.text.now r.args.at
node r =
    record {
      here = r.requires.place_value;
      position_read = r.operand-position.ensures;
      accumulator_read = r.operand-accumulator.ensures;
      message_read = r.operand-message.ensures;
      waiting_read = r.operand-waiting.ensures;
      room = r.requires.n_in_bounds;
    }

pub operand-position-requires : goal.operand-position-requires
operand-position-requires c = (search rules, inr (inl refl))

pub operand-accumulator-requires : goal.operand-accumulator-requires
operand-accumulator-requires c = (search rules, inl refl)

pub operand-message-requires : goal.operand-message-requires
operand-message-requires c = (search rules, inl refl)

pub operand-waiting-requires : goal.operand-waiting-requires
operand-waiting-requires c = (search rules, inr (inl refl))

pub put_all-first-requires : goal.put_all-first-requires
put_all-first-requires c = word_room (node (goal.at.put_all-first-requires c).After-operand-waiting)

pub put_fields-messages-requires : goal.put_fields-messages-requires
put_fields-messages-requires c = five-room (node (goal.at.put_fields-messages-requires c).After-operand-waiting) c.put_all-first.ensures

pub put_messages-end-requires : goal.put_messages-end-requires
put_messages-end-requires c = record {
  count_in_bounds = omega (arith, c.requires.place_in_bounds, c.operand-waiting.ensures);
  count_in_bounds_2 = messages-room (node (goal.at.put_messages-end-requires c).After-operand-waiting) c.put_all-first.ensures
      c.put_fields-messages.ensures;
}

pub put_one-requires : goal.put_one-requires
put_one-requires c = end_room (node (goal.at.put_one-requires c).After-operand-waiting) c.put_all-first.ensures c.put_fields-messages.ensures
    c.put_messages-end.ensures

pub returns : goal.returns
returns c = node_put (node (goal.at.returns c).After-operand-waiting) c.put_all-first.ensures c.put_fields-messages.ensures
    c.put_messages-end.ensures c.put_one.ensures

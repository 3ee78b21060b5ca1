use Prim.Native.Nat.{◌+◌, ◌*◌, ◌≤◌}
use mathlib.Core.Path.{◌≡◌, sym, ◌∙◌}
use native.Mathlib.Omega.{arith}
use lib.ListN.{length}
use borrow.Author.Rules.{rules}
use Rattle.memory.specs.Queues.{paired}
use Rattle.memory.proofs.Pairing.{length-paired}
use Rattle.writing.proofs.Placing.{writes-on}
use Rattle.output.proofs.Parts.{length-waiting, waiting-put, node_put}
use Rattle.output.proofs.snapshot.put_node.Goals as goal

pub returns : goal.returns
returns c = let slots : length c.args.state.now.queue ≡ 512 = search rules in
    let beside : length c.args.state.now.sender ≡ 512 = search rules in
    let few = c.requires.bounded_counts.0 c.args.n in
    let inside : c.args.n * 16 + 16 ≤ length (paired c.args.state.now.queue c.args.state.now.sender) =
    omega (arith, c.requires.n_lt_max_nodes.0, slots, length-paired c.args.state.now.queue c.args.state.now.sender (slots ∙ sym beside)) in
    let long = length-waiting c.args.state.now c.args.n c.requires.bounded_counts.1 few inside in
    let put = node_put c.args.state.now c.args.n c.requires.bounded_counts.1 few inside c.args.at c.requires.at_value _ _ _
    (writes-on _ _ _ _ _ _ _ _ (omega (arith, c.requires.n_lt_max_nodes.1, long, few))
    (writes-on _ _ _ _ _ _ _ _ (omega (arith, c.requires.n_lt_max_nodes.1))
    (writes-on _ _ _ _ _ _ _ _ (omega (arith, c.requires.n_lt_max_nodes.1))
    (writes-on _ _ _ _ _ _ _ _ (omega (arith, c.requires.n_lt_max_nodes.1)) c.put_one-second.ensures c.put_word-third.ensures)
    c.put_word-fourth.ensures)
    c.put_one-messages.ensures)
    (waiting-put c.args.state.now c.args.n c.requires.bounded_counts.1 few inside _ (omega (arith, c.from.ensures)) _ _ _ _
    c.put_messages.ensures)) in
    record {
      part = put.part;
      place = put.place;
    }

use Prim.Native.Nat.{◌≤◌}
use mathlib.Core.Path.{◌≡◌, refl}
use native.Mathlib.Omega.{arith}
use lib.ListN.{length}
use Rattle.writing.proofs.Putting.{none-put, room, one-put, all-put}
use Rattle.output.specs.Finding.{next_part, part_at}
use Rattle.lines.proofs.Parts.{part-inside, nodes-room, Behind, variables-room, snapshot-put}
use Rattle.lines.proofs.snapshot.put_snapshot_lines.Goals as goal
use Rattle.lines.proofs.snapshot.put_snapshot_lines.Goals.{In-loop-n, After-loop-n}

pub loop-n-init : goal.loop-n-init
unfolding part_at
loop-n-init c = (refl, none-put _ _ _)

-- the part of the node at hand lies inside the snapshot
inside : (i : In-loop-n) → next_part i.args.snapshot.now i.loop-n.place ≤ length i.args.snapshot.now
inside i =
    part-inside i.args.snapshot.now i.args.nodes i.args.variables i.loop-n.n i.loop-n.place i.requires.variables_in_bounds i.loop-n-test.true
    i.loop-n.invariant.0

pub put_node_line-next-requires : goal.put_node_line-next-requires
put_node_line-next-requires c = record {
  place_value = c.loop-n.invariant.0;
  place_in_bounds = inside (goal.at.put_node_line-next-requires c).In-loop-n;
  n_in_bounds = room _ _ _ _ (nodes-room _ _ _ _ _ c.requires.variables_in_bounds_2) c.loop-n.n c.loop-n-test.true _ _ c.loop-n.invariant.1;
}

pub next_part-place-requires : goal.next_part-place-requires
next_part-place-requires c = record {
  place_value = c.loop-n.invariant.0;
  place_bound = omega (arith, inside (goal.at.next_part-place-requires c).In-loop-n);
}

pub loop-n-preserved : goal.loop-n-preserved
loop-n-preserved c = (
  c.next_part-place.ensures.value,
  one-put _ _ _ _ (nodes-room _ _ _ _ _ c.requires.variables_in_bounds_2) c.loop-n.n c.loop-n-test.true _ _ c.loop-n.invariant.1 _ _
      c.put_node_line-next.ensures,
)

-- behind the nodes
behind :
    (l : After-loop-n) → Behind l.args.snapshot.now l.args.nodes l.args.variables l.args.text.now l.args.at l.loop-n.place l.loop-n.text
    l.loop-n.next
behind l =
    let all : l.loop-n.n ≡ l.args.nodes = omega (arith, l.loop-n.auto.n-end, l.loop-n-test.false) in
    record {
      fits = l.requires.variables_in_bounds_2;
      here = rw all at l.loop-n.invariant.0;
      shown = all-put _ _ _ _ l.loop-n.n _ _ l.loop-n.auto.n-end l.loop-n-test.false l.loop-n.invariant.1;
    }

pub put_variable_lines-requires : goal.put_variable_lines-requires
put_variable_lines-requires c = let b = behind (goal.at.put_variable_lines-requires c).After-loop-n in
    record {
      place_value = b.here;
      variables_in_bounds = omega (arith, b.here, c.requires.variables_in_bounds);
      variables_in_bounds_2 = variables-room b;
    }

pub returns : goal.returns
returns c = snapshot-put (behind (goal.at.returns c).After-loop-n) c.put_variable_lines.ensures

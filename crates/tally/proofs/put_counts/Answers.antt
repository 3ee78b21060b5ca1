use native.Mathlib.Omega.{arith}
use borrow.Author.Rules.{rules}
use Rattle.tables.specs.Programs.{program_in}
use Rattle.tally.proofs.Held.{held_fits, counts_zeros, same-counts}
use Rattle.tally.proofs.put_counts.Goals as goal

pub count_entries-requires : goal.count_entries-requires
count_entries-requires c = record {
  turns_in_bounds = omega (arith, c.entries_held-held.ensures, held_fits c.args.turns c.args.trace.now);
  numbered = (counts_zeros, counts_zeros);
}

pub put_nodes-requires : goal.put_nodes-requires
put_nodes-requires c = record { nodes_le_max_nodes = (c.requires, search (rules, arith)) }

pub returns : goal.returns
returns c hs = let e = rw c.entries_held-held.ensures at c.count_entries.ensures in
    let same = same-counts (program_in c.args.tables.now hs) c.args.turns c.args.trace.now c.args.snapshot.now _ _ (e.received hs) e.taken c.args.nodes c.requires in
    rw same at (c.put_nodes.ensures hs)

use mathlib.Core.List.{[]}
use Rattle.tables.specs.Programs.{Handlers, program_in}
use Rattle.printing.proofs.Tallying.{same_tallies}
use Rattle.printing.proofs.put_tallies.Goals as goal

pub put_tally_lines-requires-clause-nodes_in_bounds_2 : goal.put_tally_lines-requires-clause-nodes_in_bounds_2
put_tally_lines-requires-clause-nodes_in_bounds_2 c = let hs : Handlers = λ n. [] in
    let P = program_in c.args.tables.now hs in
    rw (same_tallies P c.args.turns c.args.trace.now c.args.snapshot.now c.args.nodes _ _ _ (c.put_counts.ensures hs)) (c.requires.nodes_in_bounds hs)

pub returns : goal.returns
returns c hs = let P = program_in c.args.tables.now hs in
    let same = same_tallies P c.args.turns c.args.trace.now c.args.snapshot.now c.args.nodes _ _ _ (c.put_counts.ensures hs) in
    rw same at c.put_tally_lines.ensures

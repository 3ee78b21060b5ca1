use mathlib.Core.Path.{refl, ap, ◌∙◌}
use mathlib.Core.List.{[]}
use native.Mathlib.Omega.{arith}
use Rattle.model.specs.Table.{NODE, VAR}
use Rattle.model.specs.Output.{Answer}
use Rattle.turns.specs.Endings.{answer_of}
use Rattle.lines.specs.Lines.{run_lines}
use Rattle.printing.specs.Printing.{nodes_in, variables_in}
use Rattle.writing.proofs.Putting.{front-room, back-room, two_put}
use Rattle.printing.proofs.Tallying.{tabled_tallies}
use Rattle.printing.proofs.Outcomes.{stands_of, few_of}
use Rattle.printing.proofs.put_ended.Goals as goal

pub put_run-next-requires : goal.put_run-next-requires
put_run-next-requires c = let stands = stands_of _ _ _ c.decode.ensures c.requires.accepted in
    let nodes = c.count_of-nodes.ensures ∙ stands.counts NODE (omega arith) in
    let variables = c.count_of-variables.ensures ∙ stands.counts VAR (omega arith) in
    let x = answer_of c.args.ending in
    let lines = run_lines x c.args.trace.now c.args.snapshot.now (nodes_in c.args.job.now) (variables_in c.args.job.now) in
    let fits = front-room lines _ c.args.text.now c.args.at c.requires.snapshot_in_bounds in
    record {
      turns_in_bounds = rw (ap (λ (a : Answer). a.turns) c.from-answer.ensures) c.requires.turns_in_bounds;
      variables_in_bounds = rw (nodes, variables) c.requires.job_in_bounds;
      variables_in_bounds_2 = rw (nodes, variables, c.from-answer.ensures) fits;
    }

pub put_tallies-requires : goal.put_tallies-requires
put_tallies-requires c = let stands = stands_of _ _ _ c.decode.ensures c.requires.accepted in
    let nodes = c.count_of-nodes.ensures ∙ stands.counts NODE (omega arith) in
    let variables = c.count_of-variables.ensures ∙ stands.counts VAR (omega arith) in
    let run = rw (nodes, variables, c.from-answer.ensures) at c.put_run-next.ensures in
    record {
      nodes_le_max_nodes = rw nodes (few_of c.args.job.now _ refl c.requires.accepted);
      nodes_in_bounds = λ hs.
          rw (nodes, c.from-turns.ensures, tabled_tallies _ _ stands hs c.args.ending.turns c.args.trace.now c.args.snapshot.now _)
          (back-room _ _ _ _ c.requires.snapshot_in_bounds _ _ run);
    }

pub returns : goal.returns
returns c = let stands = stands_of _ _ _ c.decode.ensures c.requires.accepted in
    let nodes = c.count_of-nodes.ensures ∙ stands.counts NODE (omega arith) in
    let variables = c.count_of-variables.ensures ∙ stands.counts VAR (omega arith) in
    let run = rw (nodes, variables, c.from-answer.ensures) at c.put_run-next.ensures in
    let tallies = rw (nodes, c.from-turns.ensures, tabled_tallies _ _ stands (λ n. []) c.args.ending.turns c.args.trace.now c.args.snapshot.now _) at
    (c.put_tallies.ensures (λ n. [])) in
    two_put _ _ _ _ c.requires.snapshot_in_bounds _ _ run _ _ tallies

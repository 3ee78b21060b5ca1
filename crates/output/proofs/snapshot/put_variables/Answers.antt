use mathlib.Core.Path.{◌≡◌}
use native.Mathlib.Omega.{arith}
use lib.ListN.{length}
use borrow.Author.Rules.{rules}
use Rattle.engine.specs.Engine.{view}
use Rattle.output.proofs.Parts.{variables_put}
use Rattle.output.proofs.snapshot.put_variables.Goals as goal

pub returns : goal.returns
returns c = let long : length c.args.state.now.variable ≡ 64 = search rules in
    let put = variables_put (view c.args.state.now) c.args.nodes c.args.variables
    (omega (arith, c.requires.variables_le_max_variables.0, long)) c.args.at c.requires.at_value _ _ _ c.put_words.ensures in
    record {
      part = put.part;
      place = put.place;
    }

use lib.ListN.{length}
use mathlib.Core.Path.{◌≡◌}
use borrow.Author.Rules.{rules}
use Rattle.std.proofs.Common.{ap, replicate, ◌∙◌}
use Rattle.tables.specs.Cells.{blank, cell_count}
use Rattle.tables.proofs.cells.clear.Goals as goal

pub returns : goal.returns
unfolding blank
returns c =
    let size : length c.args.tables.now ≡ cell_count = search rules in
    c.fill.ensures.after (λ y e. e) ∙ ap (λ n. replicate n 0) size

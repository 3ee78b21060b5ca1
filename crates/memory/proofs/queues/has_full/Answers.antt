use mathlib.Core.Path.{refl, ◌∙◌}
use borrow.Author.Rules.{rules}
use borrow.Author.Tests.{tests}
use Rattle.std.proofs.lemmas.Iterator.{YieldsList-from_range}
use Rattle.std.proofs.lemmas.Iterator.Search.{any_from_yields_List}
use Rattle.tables.specs.Tables.{wired_in}
use Rattle.memory.proofs.Sending.{held, any-below}
use Rattle.memory.proofs.queues.has_full.Goals as goal

pub returns : goal.returns
returns c =
    let test = held (wired_in c.args.tables.now c.args.n.0 c.args.port) c.args.waiting.now in
    any_from_yields_List test _ _ c.any.result c.any.ensures.ran (YieldsList-from_range 0 32 32 (cc) refl) (λ x b q k. search (rules, tests)) ∙ any-below test 32

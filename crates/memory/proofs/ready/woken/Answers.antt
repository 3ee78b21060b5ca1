use mathlib.Core.Bool.{not}
use mathlib.Core.Logic.{inl}
use mathlib.Core.Path.{refl, ap, ◌∙◌}
use native.Mathlib.Omega.{arith}
use borrow.Author.Rules.{rules}
use borrow.Author.Tests.{tests}
use Rattle.std.proofs.lemmas.Iterator.Adapters.{serves_from_places}
use Rattle.std.proofs.lemmas.Iterator.Consumers.{YieldsList-from_first, YieldsList-from_filter, count_from_yields_List}
use Rattle.tables.specs.Bits.{places}
use Rattle.tables.specs.declared.bits.Places.{Places}
use Rattle.tables.specs.Tables.{wired_in}
use Rattle.tables.proofs.Places.{places-few, places-below}
use Rattle.memory.specs.Ready.{ready_in}
use Rattle.memory.proofs.Readying.{woken-places}
use Rattle.memory.proofs.ready.woken.Goals as goal

pub count-requires-clause-can : goal.count-requires-clause-can
count-requires-clause-can c = (
  tt,
  tt,
  serves_from_places (YieldsList-from_first (λ x. x) (λ s. places s.0) _ refl) (λ x q h. search rules)
      (λ x k h e. let below = places-below c.filter.result.iter.0 k x h in search (rules, arith)),
)

pub count-requires-clause-fits : goal.count-requires-clause-fits
count-requires-clause-fits c = inl (omega (arith, places-few c.filter.result.iter.0))

pub overflow_cast-result : goal.overflow_cast-result
overflow_cast-result c = omega (arith, c.count.ensures.bound, places-few c.filter.result.iter.0)

pub returns : goal.returns
returns c =
    count_from_yields_List _ c.count.result c.count.ensures.ran
    (YieldsList-from_filter _ (λ k. not (ready_in c.args.position.now c.args.waiting.now k)) (YieldsList-from_first (λ x. x) (λ s. places s.0) (places c.targets_of.result)
    (ap (λ (s : Places). places s.0) c.filter.ensures.source))
    c.filter.ensures.closure (λ x r q k. search (rules, tests)))
    ∙ woken-places _ (wired_in c.args.tables.now c.args.n.0 c.args.port) c.args.position.now c.args.waiting.now c.targets_of.ensures

use mathlib.Core.Path.{refl, sym, ap, ◌∙◌}
use mathlib.Core.Logic.{inl, inr}
use Rattle.std.proofs.Common.{Some}
use native.Mathlib.Omega.{arith}
use borrow.Author.Rules.{rules}
use Rattle.handlers.proofs.Fetched.{handlers-inside, handlers-after}
use Rattle.handlers.proofs.fetch.fetch.Goals as goal

pub returns-then-position-length_of : goal.returns-then-position-length_of
returns-then-position-length_of c = record {
  fetched = ap Some c.read_slot.ensures
      ∙ sym (handlers-inside c.args.job.now c.args.tables.now c.args.work.now c.args.n.0 c.args.position
      (omega (arith, c.if-position-length_of.true, c.length_of.ensures)));
  countable = inr (search rules);
}

pub returns : goal.returns
returns c = record {
  fetched = sym (handlers-after c.args.job.now c.args.tables.now c.args.work.now c.args.n.0 c.args.position
      (omega (arith, c.if-position-length_of.false, c.length_of.ensures)));
  countable = inl refl;
}

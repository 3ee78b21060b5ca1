use Prim.Native.Nat.{ℕ, ◌+◌, ◌*◌}
use mathlib.Core.Path.{ap, ◌∙◌}
use borrow.Author.Rules.{rules}
use native.Mathlib.Omega.{arith}
use Rattle.output.proofs.Finding.{part_next}
use Rattle.output.proofs.places.next_part.Goals as goal

pub returns : goal.returns
returns c = let same = ap (λ (w : ℕ). c.args.place + 10 + 5 * w) (c.from.ensures ∙ c.waiting_in-waiting.ensures) in
    record {
      value = part_next c.args.snapshot.now c.args.n c.args.place _ c.requires.place_value same;
      upper_bound = search (rules, arith);
    }

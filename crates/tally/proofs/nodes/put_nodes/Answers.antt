use Prim.Native.Nat.{ℕ, ◌+◌, ◌*◌, ◌≤◌}
use mathlib.Core.Path.{◌≡◌, refl, sym, ap, ◌∙◌}
use mathlib.Core.List.{List, []}
use native.Mathlib.Omega.{arith}
use lib.ListN.{length}
use Rattle.writing.specs.Writing.{Writes, joined}
use Rattle.writing.proofs.Putting.{none-put, room, one-put, all-put}
use Rattle.tables.specs.Programs.{Handlers, program_in}
use Rattle.output.specs.Finding.{waiting_in}
use Rattle.output.proofs.Finding.{part_first}
use Rattle.tally.specs.Counted.{tally_by}
use Rattle.tally.proofs.Fours.{length_fours}
use Rattle.tally.proofs.nodes.put_nodes.Goals as goal

-- the counts of all nodes fit
fits : (f : ℕ → List ℕ) → ((n : ℕ) → length (f n) ≡ 4) → (nodes : ℕ) (before : List ℕ) → 4 * nodes ≤ length before
    → 0 + length (joined f nodes) ≤ length before
fits f four nodes before h = omega (arith, length_fours f four nodes)

pub loop-n-init : goal.loop-n-init
loop-n-init c = (sym (part_first _), omega arith, λ hs. none-put _ _ _)

pub waiting_in-requires : goal.waiting_in-requires
waiting_in-requires c = omega (arith, c.loop-n-test.true, c.loop-n.invariant.1, c.requires.nodes_le_max_nodes.0)

pub put_all-at-requires : goal.put_all-at-requires
put_all-at-requires c = let hs : Handlers = λ n. [] in
    room _ _ _ _ (fits _ (λ n. refl) _ c.args.counts.now c.requires.nodes_le_max_nodes.1) c.loop-n.n c.loop-n-test.true _ _ (c.loop-n.invariant.2 hs)

pub next_part-place-requires : goal.next_part-place-requires
next_part-place-requires c = record {
  place_value = c.loop-n.invariant.0;
  place_bound = omega (arith, c.loop-n-test.true, c.loop-n.invariant.1, c.requires.nodes_le_max_nodes.0);
}

pub loop-n-preserved : goal.loop-n-preserved
loop-n-preserved c = (
  c.next_part-place.ensures.value,
  omega (arith, c.next_part-place.ensures.upper_bound, c.loop-n.invariant.1),
  λ hs.
      let f = tally_by (program_in c.args.tables.now hs) c.args.arrivals.now c.args.takings.now c.args.snapshot.now in
      let waiting = c.from-waiting.ensures ∙ c.waiting_in.ensures ∙ ap (waiting_in c.args.snapshot.now) c.loop-n.invariant.0 in
      let four : Writes (f c.loop-n.n) _ _ _ _ = rw (c.count_started-started.ensures hs, waiting) at c.put_all-at.ensures in
      one-put f _ 0 _ (fits f (λ n. refl) _ c.args.counts.now c.requires.nodes_le_max_nodes.1) c.loop-n.n c.loop-n-test.true _ _ (c.loop-n.invariant.2 hs) _ _ four,
)

pub returns : goal.returns
returns c hs = all-put _ _ _ _ c.loop-n.n _ _ c.loop-n.auto.n-end c.loop-n-test.false (c.loop-n.invariant.2 hs)

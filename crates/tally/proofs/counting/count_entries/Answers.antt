use Prim.Native.Nat.{◌^◌, ◌<◌}
use mathlib.Core.Path.{◌≡◌}
use mathlib.Core.List.{[]}
use native.Mathlib.Omega.{arith}
use lib.ListN.{length}
use borrow.Author.Rules.{rules}
use Rattle.model.specs.Tally.{reaches, takes}
use Rattle.tables.specs.Programs.{program_in}
use Rattle.output.specs.Finding.{entry_from}
use Rattle.tally.proofs.Adding.{counts-first, counts-next, counts-room}
use Rattle.tally.proofs.counting.count_entries.Goals as goal

pub loop-k-init : goal.loop-k-init
loop-k-init c = let entries = entry_from c.args.trace.now in (
  (λ hs. counts-first (reaches (program_in c.args.tables.now hs)) entries _ c.requires.numbered.0),
  counts-first takes entries _ c.requires.numbered.1,
)

pub add_sent-requires : goal.add_sent-requires
add_sent-requires c = let a = c.loop-k.invariant.0 (λ n. []) in
    let entries = entry_from c.args.trace.now in
    let large : length c.args.trace.now < 2 ^ 64 = search rules in
    record {
      k_in_bounds = omega (arith, c.loop-k-test.true, c.requires.turns_in_bounds);
      by_index = counts-room (reaches (program_in c.args.tables.now (λ n. []))) entries c.loop-k.k _ a (omega (arith, c.loop-k-test.true, c.requires.turns_in_bounds));
    }

pub add_taken-requires : goal.add_taken-requires
add_taken-requires c = let entries = entry_from c.args.trace.now in
    let large : length c.args.trace.now < 2 ^ 64 = search rules in
    record {
      k_in_bounds = omega (arith, c.loop-k-test.true, c.requires.turns_in_bounds);
      by_index = counts-room takes entries c.loop-k.k _ c.loop-k.invariant.1 (omega (arith, c.loop-k-test.true, c.requires.turns_in_bounds));
    }

pub loop-k-preserved : goal.loop-k-preserved
loop-k-preserved c = let entries = entry_from c.args.trace.now in (
  (λ hs. counts-next (reaches (program_in c.args.tables.now hs)) entries c.loop-k.k _ _ (c.loop-k.invariant.0 hs) (c.add_sent.ensures hs)),
  counts-next takes entries c.loop-k.k _ _ c.loop-k.invariant.1 c.add_taken.ensures,
)

pub returns : goal.returns
returns c = let all : c.loop-k.k ≡ c.args.turns = omega (arith, c.loop-k.auto.k-end, c.loop-k-test.false) in
    rw (← all) (record { received = c.loop-k.invariant.0; taken = c.loop-k.invariant.1 })

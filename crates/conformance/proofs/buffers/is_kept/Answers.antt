-- Every byte from the place on is compared.
use Rattle.std.proofs.Common.{rules}
use Rattle.std.specs.Bool.{Decides}
use Rattle.std.proofs.iter.runs.Made.{chains}
use Rattle.conformance.proofs.Tests.{AllKept, kept_is}
use Rattle.conformance.proofs.buffers.is_kept.Goals as goal

pub returns : goal.returns
returns c =
    let z = c.args in
    let all : Decides c.all.result (AllKept z.buffer.now z.from z.seed) = search (rules, chains) in
    kept_is z.buffer.now z.from z.seed c.all.result all

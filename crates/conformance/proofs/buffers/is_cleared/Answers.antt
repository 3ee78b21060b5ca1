-- Every byte of the front is compared.
use Rattle.std.proofs.Common.{rules}
use Rattle.std.specs.Bool.{Decides}
use Rattle.std.proofs.iter.runs.Made.{chains}
use Rattle.conformance.proofs.Tests.{AllCleared, cleared_is}
use Rattle.conformance.proofs.buffers.is_cleared.Goals as goal

pub returns : goal.returns
returns c =
    let all : Decides c.all.result (AllCleared c.args.work.now) = search (rules, chains) in
    cleared_is c.args.work.now c.all.result all

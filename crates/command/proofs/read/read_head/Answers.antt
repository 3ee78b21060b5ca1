use borrow.Author.Rules.{rules}
use Rattle.command.specs.Reading.{Reaches}
use Rattle.command.proofs.Taken.{read_first}
use Rattle.command.proofs.read.read_head.Goals as goal

pub returns : goal.returns
returns c =
    let extent = c.in_ok-extent.extent in
    let reaches : Reaches c.args.job.now c.args.at extent.row extent.next = search rules in
    read_first _ _ _ _ reaches _ c.unpack-shape.ensures _ c.operand-first.ensures

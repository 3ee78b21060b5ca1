use Rattle.lines.specs.Lines.{examined_line}
use Rattle.lines.proofs.put_examined.Goals as goal

pub put_line-requires : goal.put_line-requires
unfolding examined_line
put_line-requires c = c.requires

pub returns : goal.returns
unfolding examined_line
returns c = c.put_line.ensures

use Rattle.lines.specs.Lines.{end_line}
use Rattle.lines.proofs.put_end.Goals as goal

pub put_line-requires : goal.put_line-requires
unfolding end_line
put_line-requires c = c.requires

pub returns : goal.returns
unfolding end_line
returns c = c.put_line.ensures

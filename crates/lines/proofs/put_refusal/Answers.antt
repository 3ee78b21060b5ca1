use Rattle.lines.specs.Lines.{refused_line}
use Rattle.lines.proofs.put_refusal.Goals as goal

pub put_line-requires : goal.put_line-requires
unfolding refused_line
put_line-requires c = c.requires

pub returns : goal.returns
unfolding refused_line
returns c = c.put_line.ensures

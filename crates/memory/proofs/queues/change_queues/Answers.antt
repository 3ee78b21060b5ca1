use Prim.Native.Nat.{◌*◌}
use mathlib.Core.Path.{◌∙◌}
use Rattle.memory.proofs.Waiting.{copied-shifted}
use Rattle.memory.proofs.queues.change_queues.Goals as goal

pub returns-in-Take-clause-values : goal.returns-in-Take-clause-values
returns-in-Take-clause-values c = rw c.in-Take.is (c.copy_within.ensures.after ∙ copied-shifted c.args.queue.now (c.args.n.0 * 16))

pub returns-in-Take-clause-senders : goal.returns-in-Take-clause-senders
returns-in-Take-clause-senders c = rw c.in-Take.is (c.copy_within-in-Take.ensures.after ∙ copied-shifted c.args.sender.now (c.args.n.0 * 16))

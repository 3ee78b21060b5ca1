use Prim.Native.Nat.{◌-◌, ◌*◌}
use mathlib.Core.Path.{◌≡◌, sym, ◌∙◌}
use lib.ListN.{length}
use Rattle.model.specs.Table.{TURN}
use Rattle.model.specs.Declared.{count_of}
use Rattle.job.specs.Scheduling.{sizes_as}
use Rattle.job.proofs.Buffered.{turn-found, turn-none}
use Rattle.job.proofs.buffers.check_schedule.Goals as goal

pub returns-then-turns-ne0 : goal.returns-then-turns-ne0
returns-then-turns-ne0 c job past decoded long counted = let place : length job - 2 * count_of TURN past ≡ c.args.size - 2 * c.args.turns = rw (long, counted) in
    rw (c.saturating_sub.ensures, ← place)
    (turn-found c.args.schedule _ c.in-Dispatched.is job (sizes_as c.args.lengths) past decoded
    (λ e. c.if-turns-ne0.true (sym counted ∙ e)))

pub returns-else-turns-ne0 : goal.returns-else-turns-ne0
returns-else-turns-ne0 c job past decoded long counted = turn-none c.args.schedule _ c.in-Dispatched.is job (sizes_as c.args.lengths) past
    (counted ∙ c.if-turns-ne0.false) _ (c.check_buffers-in-Dispatched.ensures job long)

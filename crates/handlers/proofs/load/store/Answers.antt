use Rattle.handlers.proofs.Slots.{store_writes}
use Rattle.handlers.proofs.load.store.Goals as goal

pub returns-then-at-work : goal.returns-then-at-work
returns-then-at-work c = store_writes c.args.work.now c.args.n.0 c.args.i c.args.place _ c.slot_of-at.ensures _ _
    c.if-at-work.true (rw c.to_le_bytes.ensures at c.put_all.ensures)

use Rattle.handlers.proofs.Fetched.{from_part}
use Rattle.handlers.proofs.fetch.read_slot.Goals as goal

pub returns : goal.returns
returns c = let part = c.in-Some-len2.ensures.lookup.0 in
    from_part c.args.job.now c.args.work.now c.args.n.0 c.args.position _ _ _ c.slot_of-at.ensures part.1 part.2
    (rw (c.from.ensures, c.from_le_bytes-place.ensures) at c.read_instruction.ensures)

use Rattle.text.proofs.Decimals.{decimal-taken}
use Rattle.text.proofs.put_decimal.Goals as goal

pub put_all-requires : goal.put_all-requires
put_all-requires c = rw (decimal-taken _ _ _ c.ranges.number.fits c.decimal-count.ensures.len c.decimal-count.ensures.digits)
    c.requires

pub returns : goal.returns
returns c = rw (decimal-taken _ _ _ c.ranges.number.fits c.decimal-count.ensures.len
    c.decimal-count.ensures.digits) at c.put_all.ensures

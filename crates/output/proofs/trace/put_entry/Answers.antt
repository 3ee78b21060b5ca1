use native.Mathlib.Omega.{arith}
use Rattle.writing.proofs.Placing.{writes-on}
use Rattle.output.specs.Written.{entry_with}
use Rattle.output.proofs.Entries.{entry_bytes_lem}
use Rattle.output.proofs.trace.put_entry.Goals as goal

pub returns : goal.returns
returns c = let e = entry_bytes_lem (entry_with c.args.x) c.requires.1 in
    rw (← e)
    (writes-on _ _ _ _ _ _ _ _ (omega (arith, c.requires.0))
    (writes-on _ _ _ _ _ _ _ _ (omega (arith, c.requires.0))
    (writes-on _ _ _ _ _ _ _ _ (omega (arith, c.requires.0)) c.put_one-kind.ensures c.put_one-number.ensures)
    c.put_one-value.ensures)
    c.put_word.ensures)

use Rattle.model.specs.Tally.{received, taken}
use Rattle.tables.specs.Programs.{Handlers, program_in}
use Rattle.output.specs.Finding.{entry_from}
use Rattle.tally.specs.Counted.{Numbered}
use Rattle.tally.proofs.counting.count_entries.Given as goal

abbrev pub invariant-loop-k : goal.invariant-loop-k
invariant-loop-k l = ((hs : Handlers) → Numbered (received (program_in l.tables hs) (entry_from l.trace) l.k) l.arrivals) × Numbered (taken (entry_from l.trace) l.k) l.takings

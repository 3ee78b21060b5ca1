-- How a run ends, in document 01's numbers.
use Rattle.std.specs.Prelude.{ℕ}
use Rattle.model.specs.Turn.{Entry, entry}
use Rattle.model.specs.Output.{Answer}
use Rattle.entries.specs.Entries.{stop_number, attempted_by}
use Rattle.turns.specs.declared.ending.Ending.{Ending}
use Rattle.turns.specs.declared.ending.Halt.{Halt}
use Rattle.turns.specs.declared.ending.Halt.TheVariants as h

-- the number of the stop: 0 if the turns ran out, 4 if nobody was ready, and else that of the turn's stop
abbrev pub stop_at : Halt → ℕ
stop_at h.RanOut = 0
stop_at (h.Stopped x) = stop_number x
stop_at h.NobodyReady = 4

-- the attempted entry: all 0, if no turn was stopped
abbrev pub attempted_at : Halt → Entry
attempted_at h.RanOut = entry 0 0 0 0
attempted_at (h.Stopped x) = attempted_by x
attempted_at h.NobodyReady = entry 0 0 0 0

-- the answer of a run: stop, completed turns and attempted entry
abbrev pub answer_of : Ending → Answer
answer_of x = record { stop = stop_at x.halt; turns = x.turns; attempted = attempted_at x.halt }

-- The tests of a job whose turns are given in either way: as its TURN commands, or by the dispatcher with a budget (S-2).
use Rattle.std.specs.Prelude.{ℕ, cond, List, Option, None, Some}
use Rattle.model.specs.Table.{TURN}
use Rattle.model.specs.Command.{Command}
use Rattle.model.specs.Refusal.{Refusal, refuse, Decoded, first_of, Sizes, sizes, short_buffer, short_buffer_for, decode_for}
use Rattle.model.specs.DispatchResult.{bad_budget, written_turn, decode_dispatch}
use Rattle.tables.specs.Tables.{count_in}
use Rattle.job.specs.declared.buffers.Lengths.{Lengths}
use Rattle.job.specs.declared.schedule.Schedule.{Schedule}
use Rattle.job.specs.declared.schedule.Schedule.TheVariants as s

-- the lengths of the three buffers
abbrev pub sizes_as : Lengths → Sizes
sizes_as b = sizes b.trace b.snapshot b.work

-- the commands of a job after all tests, or its refusal
abbrev pub decode_by : Schedule → List ℕ → Sizes → Decoded
decode_by s.Written job b = decode_for job b
decode_by (s.Dispatched budget) job b = decode_dispatch budget job b

-- 13, which is tested before all others
abbrev pub budget_refusal : Schedule → Option Refusal
budget_refusal s.Written = None
budget_refusal (s.Dispatched budget) = cond (bad_budget budget) (Some (refuse 13 0)) None

-- 14 and 10 to 12, which are tested after all others
abbrev pub schedule_refusal : Schedule → List ℕ → Sizes → List Command → Option Refusal
schedule_refusal s.Written job b past = short_buffer job b past
schedule_refusal (s.Dispatched budget) job b past = first_of (written_turn past) (short_buffer_for job b budget)

-- how many turns a run may make: those of the job that the tables stand for, or the budget
abbrev pub turns_by : Schedule → List ℕ → ℕ
turns_by s.Written t = count_in t TURN
turns_by (s.Dispatched budget) t = budget

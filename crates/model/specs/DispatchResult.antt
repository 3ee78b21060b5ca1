-- What a dispatched entry point hands over (S-2): its refusals, and its results.
use Rattle.std.specs.Prelude.{ℕ, Bool, cond, ◌||◌, List, eqb, ltb, Option}
use Rattle.model.specs.Table.{TURN, max_turns}
use Rattle.model.specs.Command.{Command, is}
use Rattle.model.specs.Program.{Program, program_of}
use Rattle.model.specs.Refusal.{Refusal, refuse, Decoded, accepted, rejected, and_then, refuse_first, decode_job, Sizes, short_buffer_for}
use Rattle.model.specs.Result.{Result, refused, report}
use Rattle.model.specs.Dispatch.{Dispatched, examined_in, unmonitored_dispatch, monitored_dispatch}

-- a budget that is 0 or above 4,096
abbrev pub bad_budget : ℕ → Bool
bad_budget budget = eqb budget 0 || ltb max_turns budget

-- 14: at the first TURN of the job
abbrev pub written_turn : List Command → Option Refusal
written_turn past = refuse_first 14 (λ before c. is TURN c) past

-- the commands of a job after the tests that come after 13: 1 to 9, 15 and 19, then 14, then 10 to 12 for as many turns as the budget has
unfoldable pub decode_under : ℕ → List ℕ → Sizes → Decoded
decode_under budget job b = and_then (λ past. short_buffer_for job b budget) (and_then written_turn (decode_job job))

-- the commands of a dispatched job after all tests, or its refusal; 13: the budget, tested first, place 0
unfoldable pub decode_dispatch : ℕ → List ℕ → Sizes → Decoded
decode_dispatch budget job b = cond (bad_budget budget) (rejected (refuse 13 0)) (decode_under budget job b)

-- a refusal or what a run hands over, and the examined total
pub record Handed : Type 0 where
  pub result : Result
  pub examined : ℕ

-- what a dispatched run hands over: the examined total is the sum over its choices
abbrev pub handed : Program → Dispatched → Handed
handed P d = record { result = report P d.run; examined = examined_in d.choices }

-- what is handed over for a job, by the way it is dispatched; nothing is examined for a refusal
abbrev pub handed_by : (Program → Dispatched) → Decoded → Handed
handed_by dispatch (accepted past) = handed (program_of past) (dispatch (program_of past))
handed_by dispatch (rejected r) = record { result = refused r; examined = 0 }

-- the monitored ("watched") dispatched run of a job, with a budget and buffers of these lengths
unfoldable pub dispatch_monitored : ℕ → List ℕ → Sizes → Handed
dispatch_monitored budget job b = handed_by (λ P. monitored_dispatch P budget) (decode_dispatch budget job b)

-- the unmonitored ("bare") dispatched run of a job, with a budget and buffers of these lengths
unfoldable pub dispatch_unmonitored : ℕ → List ℕ → Sizes → Handed
dispatch_unmonitored budget job b = handed_by (λ P. unmonitored_dispatch P budget) (decode_dispatch budget job b)

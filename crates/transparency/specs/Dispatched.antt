-- The dispatched calls of the code (S-2): the monitored ("watched") and the unmonitored ("bare") one compared, and what each tells and
-- leaves.
use Rattle.std.specs.Prelude.{ℕ, ◌+◌, ◌*◌, ◌≤◌, ◌<◌, ◌≡◌, true, cond, List, ◌↔◌, ◌⊎◌, eqb, length, get_or}
use Rattle.model.specs.Table.{max_job}
use Rattle.model.specs.Command.{Command}
use Rattle.model.specs.Program.{Program, program_of}
use Rattle.model.specs.Turn.{Entry}
use Rattle.model.specs.Run.{state_at}
use Rattle.model.specs.Refusal.{Refusal}
use Rattle.model.specs.Output.{Answer}
use Rattle.model.specs.Result.{Buffers, sizes_of}
use Rattle.model.specs.Transparency.{AllPermitted, FirstForbidden}
use Rattle.model.specs.Dispatch.{ready, Dispatched, unmonitored_dispatch, monitored_dispatch}
use Rattle.model.specs.DispatchResult.{Handed, handed, dispatch_monitored, dispatch_unmonitored}
use Rattle.model.specs.Dispatching.{UnmonitoredStop, MonitoredStop, handed_at}
use Rattle.model.specs.DispatchConclusion.{DispatchRefuses, DispatchAccepts, with_choices, refused_with}
use Rattle.run.specs.Answers.{Told, refusal, answer, told_in, BuffersAfter, Call, call, Gives, Monitored, Unmonitored}
use Rattle.run.specs.Exported.{numbers_with}

-- a call of a dispatched entry point: the buffers before and after it, what it tells, and the examined total that it tells besides
pub record DispatchCall : Type 0 where
  pub call : Call
  pub examined : ℕ

-- what a call tells, the buffers after it and the examined total are those handed over
pub record Hands (h : Handed) (c : DispatchCall) : Type 0 where
  pub gives : Gives h.result c.call
  pub examined : c.examined ≡ h.examined

-- the clauses of a dispatched entry point as one record
abbrev pub MonitoredUnder : ℕ → List ℕ → DispatchCall → Type 0
MonitoredUnder budget job c = Hands (dispatch_monitored budget job (sizes_of c.call.before)) c

abbrev pub UnmonitoredUnder : ℕ → List ℕ → DispatchCall → Type 0
UnmonitoredUnder budget job c = Hands (dispatch_unmonitored budget job (sizes_of c.call.before)) c

-- both calls of a job with this program; `d` is the dispatched run that the turn rules make, permissions ignored
pub record DispatchCallsRun (P : Program) (d : Dispatched) (monitored_call unmonitored_call : DispatchCall) : Type 0 where
  -- the unmonitored call hands that run over
  pub unmonitored_runs : Hands (handed P d) unmonitored_call
  -- that run has a first forbidden turn, or it has none
  pub decided : ((n : ℕ) × FirstForbidden P d.run n) ⊎ AllPermitted P d.run
  -- if it has none, the monitored call hands over the same: every field of the answer, trace, snapshot and examined total
  pub identical : AllPermitted P d.run → Hands (handed P d) monitored_call
  -- if it has one, the monitored call hands over that run stopped there, with the examined total of the choices up to and with that one
  pub stops : (n : ℕ) → FirstForbidden P d.run n → Hands (handed_at P d n) monitored_call
  -- the two part at turn n exactly if the monitored call tells stop 1 and n turns
  pub parts : (n : ℕ) → FirstForbidden P d.run n ↔
      ((e : Entry) × (monitored_call.call.told ≡ answer (record { stop = 1; turns = n; attempted = e })))

-- the two calls of a job with one budget, each with buffers of its own, whatever they held before
pub record DispatchTransparent (budget : ℕ) (job : List ℕ) (m u : DispatchCall) : Type 0 where
  -- each refuses the job exactly for the first test that it fails, and then leaves its buffers as they were
  pub monitored_refuses : (r : Refusal) → Hands (refused_with r) m ↔ DispatchRefuses budget job (sizes_of m.call.before) r
  pub unmonitored_refuses : (r : Refusal) → Hands (refused_with r) u ↔ DispatchRefuses budget job (sizes_of u.call.before) r
  -- with equal buffer lengths both refuse alike, by number and place
  pub refuse_alike : sizes_of m.call.before ≡ sizes_of u.call.before → (r : Refusal) → Hands (refused_with r) m ↔ Hands
      (refused_with r) u
  -- if the job is accepted with the buffers of both, both run
  pub both_run : (past : List Command) → DispatchAccepts budget job (sizes_of m.call.before) past
      → DispatchAccepts budget job (sizes_of u.call.before) past
      → DispatchCallsRun (program_of past) (unmonitored_dispatch (program_of past) budget) m u

-- demand 3 of the code under the dispatcher: every job and budget, and any two calls as the two entry points promise them
abbrev pub DispatchTransparencyHolds : Type 0
DispatchTransparencyHolds =
    (budget : ℕ) (job : List ℕ) (m u : DispatchCall) → MonitoredUnder budget job m → UnmonitoredUnder budget job u
    → DispatchTransparent budget job m u

-- the same of the exported entry points, which write nine numbers and leave the three buffers as a result has them
abbrev pub DispatchExportsTransparent : Type 0
DispatchExportsTransparent =
    (budget : ℕ) (job : List ℕ) (before after before' after' : Buffers) (numbers numbers' : List ℕ)
    → numbers ≡ numbers_with (told_in (dispatch_monitored budget job (sizes_of before)).result) (dispatch_monitored budget job (sizes_of
    before)).examined
    → BuffersAfter (dispatch_monitored budget job (sizes_of before)).result before after
    → numbers' ≡ numbers_with (told_in (dispatch_unmonitored budget job (sizes_of before')).result)
    (dispatch_unmonitored budget job (sizes_of before')).examined
    → BuffersAfter (dispatch_unmonitored budget job (sizes_of before')).result before' after'
    → (m : DispatchCall) × (u : DispatchCall) × (numbers ≡ numbers_with m.call.told m.examined)
    × (numbers' ≡ numbers_with u.call.told u.examined) × (m.call ≡ call before after m.call.told)
    × (u.call ≡ call before' after' u.call.told) × DispatchTransparent budget job m u

-- what is told of the same run with written turns: stop 0 where nobody was ready
abbrev pub written_told : Told → Told
written_told (refusal r) = refusal r
written_told (answer x) = answer (record { stop = cond (eqb x.stop 4) 0 x.stop; turns = x.turns; attempted = x.attempted })

-- a dispatched call hands over a run, stopped by one of these stops, after at most as many turns as the budget has
pub record DispatchTells (Stops : ℕ → Type 0) (P : Program) (budget : ℕ) (d : Dispatched) (c : DispatchCall) : Type 0 where
  pub hands : Hands (handed P d) c
  -- the stop and the turns that are told
  pub stops : (x : Answer) → c.call.told ≡ answer x → Stops x.stop
  pub turns : (x : Answer) → c.call.told ≡ answer x → x.turns ≤ budget
  -- at most all nodes are examined for each choice, of which there is at most one a turn of the budget
  pub few : c.examined ≤ P.nodes * budget
  -- none are for the fruitless choice of a run that ends by stop 4 (S-4), so that only its turns count
  pub turns_only : (x : Answer) → c.call.told ≡ answer x → x.stop ≡ 4 → c.examined ≤ P.nodes * x.turns
  -- nobody waits longer than a round, as the trace's bytes show: entry j begins at byte 7 * j, with its node
  pub fair : (x : Answer) → c.call.told ≡ answer x
      → (k node : ℕ) → node < P.nodes → ready (state_at d.run k) node ≡ true → k + P.nodes ≤ x.turns
      → (j : ℕ) × (k ≤ j) × (j < k + P.nodes) × (get_or c.call.after.trace (7 * j) 0 ≡ node)

-- a call with written turns leaves the same buffers as a dispatched one and tells the same, with stop 0 for 4
pub record SameWritten (c : DispatchCall) (w : Call) : Type 0 where
  pub buffers : w.after ≡ c.call.after
  pub told : w.told ≡ written_told c.call.told

-- the dispatched calls of an accepted job with this budget, as the entry points promise them; and, if the job with the choices written out
-- after it is short enough, a call of that longer job with its written turns, with the same buffers before
pub record DispatchCalls (budget : ℕ) (job : List ℕ) (past : List Command) (c : DispatchCall) : Type 0 where
  pub monitored_tells : MonitoredUnder budget job c
      → DispatchTells MonitoredStop (program_of past) budget (monitored_dispatch (program_of past) budget) c
  pub unmonitored_tells : UnmonitoredUnder budget job c
      → DispatchTells UnmonitoredStop (program_of past) budget (unmonitored_dispatch (program_of past) budget) c
  pub monitored_written : MonitoredUnder budget job c → (w : Call)
      → Monitored (with_choices job (monitored_dispatch (program_of past) budget)) w
      → length (with_choices job (monitored_dispatch (program_of past) budget)) ≤ max_job → w.before ≡ c.call.before → SameWritten c w
  pub unmonitored_written : UnmonitoredUnder budget job c → (w : Call)
      → Unmonitored (with_choices job (unmonitored_dispatch (program_of past) budget)) w
      → length (with_choices job (unmonitored_dispatch (program_of past) budget)) ≤ max_job → w.before ≡ c.call.before → SameWritten c w

-- it is so for every accepted job and every budget
abbrev pub DispatchCallsHold : Type 0
DispatchCallsHold =
    (budget : ℕ) (job : List ℕ) (past : List Command) (c : DispatchCall) → DispatchAccepts budget job (sizes_of c.call.before) past
    → DispatchCalls budget job past c

-- Demand 3 of the code: the monitored ("watched") and the unmonitored ("bare") call of a job compared ("Watched beside bare").
use Rattle.std.specs.Prelude.{ℕ, ◌≡◌, List, ◌↔◌, ◌⊎◌}
use Rattle.model.specs.Command.{Command}
use Rattle.model.specs.Program.{program_of}
use Rattle.model.specs.Turn.{Entry}
use Rattle.model.specs.Refusal.{Refusal}
use Rattle.model.specs.Result.{refused, report, monitored, unmonitored, Buffers, sizes_of}
use Rattle.model.specs.Conclusion.{Refuses, Accepts, unmonitored_of}
use Rattle.model.specs.Transparency.{AllPermitted, FirstForbidden, stopped_at}
use Rattle.run.specs.Answers.{Told, answer, told_in, BuffersAfter, Call, call, Gives, Monitored, Unmonitored}
use Rattle.run.specs.Exported.{numbers_in}

-- both calls of a job with these commands; `unmonitored_of past` is the run that the turn rules make, permissions ignored
pub record CallsRun (past : List Command) (m u : Call) : Type 0 where
  -- the unmonitored call hands that run over
  pub unmonitored_runs : Gives (report (program_of past) (unmonitored_of past)) u
  -- that run has a first forbidden turn, or it has none
  pub decided : ((n : ℕ) × FirstForbidden (program_of past) (unmonitored_of past) n) ⊎ AllPermitted (program_of past) (unmonitored_of past)
  -- if it has none, the monitored call hands over the same: every field of the answer, trace and snapshot
  pub identical : AllPermitted (program_of past) (unmonitored_of past) → Gives (report (program_of past) (unmonitored_of past)) m
  -- if it has one, the monitored call hands over that run stopped there
  pub stops : (n : ℕ) → FirstForbidden (program_of past) (unmonitored_of past) n → Gives (stopped_at (program_of past) (unmonitored_of past) n) m
  -- the two part at turn n exactly if the monitored call tells stop 1 and n turns
  pub parts : (n : ℕ) → FirstForbidden (program_of past) (unmonitored_of past) n ↔
      ((e : Entry) × (m.told ≡ answer (record { stop = 1; turns = n; attempted = e })))

-- the two calls of a job, each with buffers of its own, whatever they held before
pub record Transparent (job : List ℕ) (m u : Call) : Type 0 where
  -- each refuses the job exactly for the first test that it fails, and then leaves its buffers as they were
  pub monitored_refuses : (r : Refusal) → Gives (refused r) m ↔ Refuses job (sizes_of m.before) r
  pub unmonitored_refuses : (r : Refusal) → Gives (refused r) u ↔ Refuses job (sizes_of u.before) r
  -- with equal buffer lengths both refuse alike, by number and place
  pub refuse_alike : sizes_of m.before ≡ sizes_of u.before → (r : Refusal) → Gives (refused r) m ↔ Gives (refused r) u
  -- if the job is accepted with the buffers of both, both run
  pub both_run : (past : List Command) → Accepts job (sizes_of m.before) past → Accepts job (sizes_of u.before) past → CallsRun past m u

-- demand 3 of the code: every job, and any two calls as the two entry points promise them
abbrev pub TransparencyHolds : Type 0
TransparencyHolds = (job : List ℕ) (m u : Call) → Monitored job m → Unmonitored job u → Transparent job m u

-- the same of the exported entry points, which write eight numbers and leave the three buffers as a result has them
abbrev pub ExportsTransparent : Type 0
ExportsTransparent =
    (job : List ℕ) (before after before' after' : Buffers) (numbers numbers' : List ℕ)
    → numbers ≡ numbers_in (told_in (monitored job (sizes_of before))) → BuffersAfter (monitored job (sizes_of before)) before after
    → numbers' ≡ numbers_in (told_in (unmonitored job (sizes_of before'))) → BuffersAfter (unmonitored job (sizes_of before')) before' after'
    → (m : Told) × (u : Told) × (numbers ≡ numbers_in m) × (numbers' ≡ numbers_in u)
    × Transparent job (call before after m) (call before' after' u)

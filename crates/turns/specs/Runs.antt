-- The run of an accepted job in the code.
use Rattle.std.specs.Prelude.{ℕ, ◌≤◌, ◌≡◌, Bool, List, [], length}
use Rattle.model.specs.Table.{NODE}
use Rattle.model.specs.Command.{Command}
use Rattle.model.specs.Declared.{turns_of}
use Rattle.model.specs.Program.{Program, program_of}
use Rattle.model.specs.State.{initial_state}
use Rattle.model.specs.Run.{run_from}
use Rattle.model.specs.Dispatch.{Choice, chosen, Dispatched, dispatch_from, examined_in}
use Rattle.model.specs.Output.{answer_in, trace_in, snapshot_bytes}
use Rattle.model.specs.Refusal.{accepted, decode_job, work_size}
use Rattle.model.specs.Result.{written}
use Rattle.handlers.specs.Loading.{loaded}
use Rattle.tables.specs.Tables.{count_in}
use Rattle.tables.specs.Stands.{Stands}
use Rattle.job.specs.declared.schedule.Schedule.{Schedule}
use Rattle.job.specs.declared.schedule.Schedule.TheVariants as s
use Rattle.job.specs.Prepared.{turn_in}
use Rattle.chooser.specs.Choosing.{choose_in}
use Rattle.entries.specs.Entries.{rule_of}
use Rattle.turns.specs.declared.ending.CountedEnding.{CountedEnding}
use Rattle.turns.specs.Endings.{answer_of}

-- whose turn k is: the node of the job's TURN k, or the dispatcher's choice (S-2) by the arrays of the state, going round from a number on
abbrev pub choice_by : Schedule → List ℕ → List ℕ → ℕ → ℕ → List ℕ → List ℕ → Choice
choice_by s.Written job t k from position waiting = chosen (turn_in job t k) 0
choice_by (s.Dispatched budget) job t k from position waiting = choose_in position waiting (count_in t NODE) from

-- the run of a job's commands, monitored ("watched") or not ("bare"), with its choices: of its written turns, for which none is made, or
-- dispatched
abbrev pub run_of : Schedule → Bool → List Command → Dispatched
run_of s.Written monitored past =
    record { run = run_from (rule_of monitored (program_of past)) (turns_of past) (initial_state (program_of past)); choices = [] }
run_of (s.Dispatched budget) monitored past =
    dispatch_from (rule_of monitored (program_of past)) (program_of past).nodes budget 0 (initial_state (program_of past))

-- the job is accepted, the tables stand for its commands, and the work buffer holds the places of its handler commands
pub record Loaded (job t w : List ℕ) : Type 0 where
  pub past : List Command
  pub decoded : decode_job job ≡ accepted past
  pub stands : Stands t past
  pub before : List ℕ
  pub long : work_size ≤ length before
  pub holds : w ≡ loaded before past

-- the code's run of a program is the model's: how it ended, the examined total, and what trace and snapshot buffer hold afterwards, by what
-- they held before
pub record RunsAs (P : Program) (d : Dispatched) (trace₀ snapshot₀ trace₁ snapshot₁ : List ℕ) (x : CountedEnding) : Type 0 where
  pub answer : answer_of x.ending ≡ answer_in d.run
  pub examined : x.examined ≡ examined_in d.choices
  pub trace : trace₁ ≡ written (trace_in d.run) trace₀
  pub snapshot : snapshot₁ ≡ written (snapshot_bytes P d.run.final) snapshot₀

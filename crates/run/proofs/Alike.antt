-- Two jobs that are the same but for the start of a variable that nobody may read (S-13), with their turns given in either way.
use Prim.Native.Nat.{ℕ}
use mathlib.Core.Path.{◌≡◌, refl}
use mathlib.Core.Bool.{true}
use mathlib.Core.List.{List}
use Rattle.model.specs.Command.{Command}
use Rattle.model.specs.Program.{program_of}
use Rattle.model.specs.Run.{monitored_run}
use Rattle.model.specs.Dispatch.{monitored_dispatch}
use Rattle.model.specs.Refusal.{Refusal, Decoded, accepted, rejected, Sizes, decode_for}
use Rattle.model.specs.Secrecy.{SameBut, Secret, DispatchesAlike, Alike, both_refused, both_accepted}
use Rattle.model.proofs.Secrecy.{secrecy_holds, dispatch_secrecy_holds}
use Rattle.job.specs.declared.schedule.Schedule.{Schedule}
use Rattle.job.specs.declared.schedule.Schedule.TheVariants as s
use Rattle.job.specs.Scheduling.{decode_by}
use Rattle.turns.specs.Runs.{run_of}

-- what is alike of the commands of two jobs, if both are accepted
abbrev pub CommandsAlike : Schedule → ℕ → List Command → List Command → Type 0
CommandsAlike schedule x past past' =
    DispatchesAlike x (program_of past) (program_of past') (run_of schedule true past) (run_of schedule true past')

-- what is alike where something else is
pub alike-on :
    (Runs Others : List Command → List Command → Type 0) (d d' : Decoded) → Alike Runs d d'
    → ((past past' : List Command) → d ≡ accepted past → d' ≡ accepted past' → Runs past past' → Others past past') → Alike Others d d'
alike-on Runs Others _ _ (both_refused r) follows = both_refused r
alike-on Runs Others _ _ (both_accepted past past' a) follows = both_accepted past past' (follows past past' refl refl a)

pub alike : (schedule : Schedule) (job job' : List ℕ) (x at : ℕ) → Secret job x at → SameBut at job job' → (b : Sizes)
    → Alike (CommandsAlike schedule x) (decode_by schedule job b) (decode_by schedule job' b)
unfolding monitored_run monitored_dispatch
alike s.Written job job' x at S same b =
    alike-on _ (CommandsAlike s.Written x) (decode_for job b) (decode_for job' b) (secrecy_holds job job' x at S same b)
    (λ past past' e e' a. record { runs = a; choices = refl; examined = refl })
alike (s.Dispatched budget) job job' x at S same b = dispatch_secrecy_holds job job' x at S same budget b

-- by either case
pub by_alike :
    (Runs : List Command → List Command → Type 0) (d d' : Decoded) → Alike Runs d d' → (Q : Type 0)
    → ((r : Refusal) → d ≡ rejected r → d' ≡ rejected r → Q)
    → ((past past' : List Command) → d ≡ accepted past → d' ≡ accepted past' → Runs past past' → Q) → Q
by_alike Runs _ _ (both_refused r) Q refuses runs = refuses r refl refl
by_alike Runs _ _ (both_accepted past past' a) Q refuses runs = runs past past' refl refl a

-- where one is refused
pub both-refused : (Runs : List Command → List Command → Type 0) (r : Refusal) (d' : Decoded) → Alike Runs (rejected r) d'
    → d' ≡ rejected r
both-refused Runs r _ (both_refused _) = refl

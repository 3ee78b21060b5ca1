-- What the code's steps and verdicts say, in the model's words.
use Rattle.std.specs.Prelude.{ℕ, suc, ◌≤◌, ◌<◌, ◌≡◌, List, ◌∷◌, length, Option, None, Some, Result, Ok, Err}
use Rattle.model.specs.Command.{Command}
use Rattle.model.specs.Refusal.{Refusal, refuse, Decoded, accepted, rejected, decode_from}
use Rattle.model.specs.Valid.{Valid}
use Rattle.command.specs.declared.refusal.Refusal.{Refusal as Refused}
use Rattle.command.specs.Refusals.{refusal_of}
use Rattle.tables.specs.Cells.{blank}
use Rattle.tables.specs.Stands.{Stands}
use Rattle.uses.specs.Uses.{Uses}

-- the refusal that a verdict of the code stands for; none if it accepts
abbrev pub verdict_of : Result (Unit {0}) Refused → Option Refusal
verdict_of (Ok x) = None
verdict_of (Err r) = Some (refusal_of r)

-- the refusal of a job whose first unused permission stands at this place; none if there is none
abbrev pub unused_at : Option ℕ → Option Refusal
unused_at None = None
unused_at (Some place) = Some (refuse 19 place)

-- the refusal of a job; none if it is accepted
abbrev pub refusal_in : Decoded → Option Refusal
refusal_in (accepted past) = None
refusal_in (rejected r) = Some r

-- one command further: the tables stand for it too, what it uses is noted, and decoding goes on after it
pub record Onward (job : List ℕ) (place : ℕ) (past : List Command) (t u : List ℕ) (next : ℕ) : Type 0 where
  pub command : Command
  pub stands : Stands t (command ∷ past)
  pub uses : Uses u (command ∷ past)
  pub valid : Valid (command ∷ past)
  pub later : place < next
  pub inside : next ≤ length job
  pub same : (fuel : ℕ) → decode_from (suc fuel) job place past ≡ decode_from fuel job next (command ∷ past)

-- a step from a place: one command further, or the refusal of the job
abbrev pub Continues : List ℕ → ℕ → List Command → List ℕ → List ℕ → Result ℕ Refused → Type 0
Continues job place past t u (Ok next) = Onward job place past t u next
Continues job place past t u (Err r) = (fuel : ℕ) → decode_from (suc fuel) job place past ≡ rejected (refusal_of r)

-- the verdict is the model's, and the tables stand for the commands of an accepted job
pub record Verdicts (d : Decoded) (t : List ℕ) (r : Result (Unit {0}) Refused) : Type 0 where
  pub verdict : verdict_of r ≡ refusal_in d
  pub tables : (past : List Command) → d ≡ accepted past → Stands t past

-- the same, and the cells of the uses say what the handlers of an accepted job use
pub record Walks (d : Decoded) (t u : List ℕ) (r : Result (Unit {0}) Refused) : Type 0 where
  pub verdicts : Verdicts d t r
  pub uses : (past : List Command) → d ≡ accepted past → Uses u past

-- the verdict is the model's, and a refused job leaves blank tables
pub record Decides (d : Decoded) (t : List ℕ) (r : Result (Unit {0}) Refused) : Type 0 where
  pub judged : Verdicts d t r
  pub cleared : (q : Refusal) → d ≡ rejected q → t ≡ blank

-- Request S-13 of the printed text: for two jobs that are the same but for the start of a variable that nobody may read, all lines of their
-- monitored ("watched") runs are equal but the variable's.
use Rattle.std.specs.Prelude.{ℕ, ◌≡◌, true, List, [], ◌∷◌, ◌++◌}
use Rattle.text.specs.Text.{line}
use Rattle.lines.specs.Lines.{var_word}
use Rattle.model.specs.Command.{Command}
use Rattle.model.specs.Refusal.{Refusal, accepted, rejected, Sizes}
use Rattle.model.specs.Secrecy.{SameBut, Secret}
use Rattle.model.specs.Valid.{Bytes}
use Rattle.job.specs.declared.schedule.Schedule.{Schedule}
use Rattle.job.specs.Scheduling.{decode_by}
use Rattle.run.specs.Answers.{handed_for}
use Rattle.printing.specs.Printing.{lines_by}

-- two texts are the same but for the value in the line of variable x
pub record SameButLine (x : ℕ) (text text' : List ℕ) : Type 0 where
  pub front : List ℕ
  pub value : ℕ
  pub value' : ℕ
  pub back : List ℕ
  pub first : text ≡ front ++ (line var_word (x ∷ value ∷ []) ++ back)
  pub second : text' ≡ front ++ (line var_word (x ∷ value' ∷ []) ++ back)

-- what is printed for a job run monitored, its turns given in this way
abbrev pub lines_monitored : Schedule → List ℕ → Sizes → List ℕ
lines_monitored schedule job b = lines_by schedule job (handed_for schedule true job b)

-- the lines of two jobs: of a refusal they are equal, of a run they are equal but for that line
pub record PrintsAlike (schedule : Schedule) (x : ℕ) (job job' : List ℕ) (b : Sizes) : Type 0 where
  pub refused : (r : Refusal) → decode_by schedule job b ≡ rejected r → lines_monitored schedule job b ≡ lines_monitored schedule job' b
  pub ran :
      (past : List Command) → decode_by schedule job b ≡ accepted past
      → SameButLine x (lines_monitored schedule job b) (lines_monitored schedule job' b)

-- it is so for every two such jobs of bytes, with their written turns or with one budget for both
abbrev pub SecretLinesHold : Type 0
SecretLinesHold =
    (schedule : Schedule) (job job' : List ℕ) (x at : ℕ) → Secret job x at → SameBut at job job' → Bytes job → Bytes job'
    → (b : Sizes) → PrintsAlike schedule x job job' b

-- Request S-1: "A call whose argument has a REPLY gets that answer. Every other call gets FUN's", of every job.
use Rattle.std.specs.Prelude.{ℕ, ◌≡◌, true, false, List}
use Rattle.model.specs.Table.{REPLY}
use Rattle.model.specs.Command.{Command, ternary}
use Rattle.model.specs.Declared.{occurs, fun_answer_of}
use Rattle.model.specs.Program.{program_of}
use Rattle.model.specs.Conclusion.{Reads}

-- the answer of a call, as the turn asks for it: if some REPLY has its function and argument, the answer there, wherever it stands among
-- the commands; else FUN's
pub record Recorded (past : List Command) (f argument : ℕ) : Type 0 where
  pub given : (answer : ℕ) → occurs REPLY (ternary f argument answer) past ≡ true → (program_of past).answer f argument ≡ answer
  pub otherwise :
      ((answer : ℕ) → occurs REPLY (ternary f argument answer) past ≡ false) → (program_of past).answer f argument ≡ fun_answer_of past f

-- the claim: the commands of every job, as far as they are accepted
abbrev pub RecordedHolds : Type 0
RecordedHolds =
    (job : List ℕ) (place : ℕ) (past : List Command) → Reads job place past → (f argument : ℕ) → Recorded past f argument

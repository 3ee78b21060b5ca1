-- Request S-5: what its sentences say of every job, where a row of `Readings` would show one case.
use Rattle.std.specs.Prelude.{ℕ, ◌≡◌, true, false, List}
use Rattle.model.specs.Command.{Command}
use Rattle.model.specs.Refusal.{repeated, empty_span}
use Rattle.model.specs.Conclusion.{Reads}

-- the claim: 8 and 15 never both refuse one command: a SPAN that repeats one before it has its low and high, and that one passed test 15
abbrev pub NeverBoth : Type 0
NeverBoth =
    (job : List ℕ) (place : ℕ) (past : List Command) (c : Command)
    → Reads job place past → repeated past c ≡ true → empty_span c ≡ false

-- Refusals of the code, in the numbers of document 01, and of S-2 (13 and 14), S-5 (15) and S-7 (19).
use Rattle.std.specs.Prelude.{ℕ}
use Rattle.model.specs.Refusal.{Refusal as RefusedFor, refuse}
use Rattle.command.specs.declared.refusal.Reason.{Reason}
use Rattle.command.specs.declared.refusal.Reason.TheVariants as r
use Rattle.command.specs.declared.refusal.Refusal.{Refusal}

-- the number of each test that turns a job away
abbrev pub number_of : Reason → ℕ
number_of r.Length = 1
number_of r.UnknownByte = 2
number_of r.CutShort = 3
number_of r.LowerGroup = 4
number_of r.CountExceeded = 5
number_of r.Undeclared = 6
number_of r.OutOfReach = 7
number_of r.Repeated = 8
number_of r.FarJump = 9
number_of r.ShortTrace = 10
number_of r.ShortSnapshot = 11
number_of r.ShortWork = 12
number_of r.BadBudget = 13
number_of r.WrittenTurn = 14
number_of r.EmptySpan = 15
number_of r.UnusedPermission = 19

-- the model's refusal that a refusal of the code stands for
abbrev pub refusal_of : Refusal → RefusedFor
refusal_of x = refuse (number_of x.reason) x.place

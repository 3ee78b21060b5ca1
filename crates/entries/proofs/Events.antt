-- What commands leave, by the tables.
use Prim.Native.Nat.{ℕ}
use mathlib.Core.Path.{◌≡◌, refl}
use mathlib.Core.Bool.{Bool, true, false, cond}
use mathlib.Core.List.{List}
use lib.ListN.{get_or}
use Rattle.model.specs.Program.{shared_in as is_shared}
use Rattle.model.specs.State.{State, accumulator_at, variable_at}
use Rattle.model.specs.Turn.{entry}
use Rattle.model.specs.Permission.{redacted}
use Rattle.command.specs.declared.numbers.VarNum.{VarNum}
use Rattle.tables.specs.Tables.{shared_in}
use Rattle.tables.specs.Programs.{Handlers, program_in}
use Rattle.entries.specs.declared.Event.{Event}
use Rattle.entries.specs.declared.Event.TheVariants as e
use Rattle.entries.specs.Entries.{entry_for}
use Rattle.entries.proofs.Names.{shared_by}

module _ (t : List ℕ) (hs : Handlers) (s : State) (n : ℕ) (x : VarNum) where
  -- an access to a variable leaves an entry if the variable is shared
  accessed : (b : Bool) (kind value : ℕ) (shown : Event) → entry_for n shown ≡ entry n kind x.0 value
      → entry_for n (cond b shown e.Other) ≡ cond b (entry n kind x.0 value) (entry n 0 0 0)
  accessed true kind value shown h = h
  accessed false kind value shown h = refl

  pub read_left : (xs : List ℕ) → s.variable ≡ xs → entry_for n (cond (shared_in t x.0) (e.Read x (get_or xs x.0 0)) e.Other) ≡ cond
      (is_shared (program_in t hs) x.0) (entry n 3 x.0 (variable_at s x.0)) (entry n 0 0 0)
  read_left xs h = rw (← h, shared_by t hs x.0) (accessed (shared_in t x.0) 3 (variable_at s x.0)
      (e.Read x (variable_at s x.0)) refl)

  pub write-left : (a : ℕ) → accumulator_at s n ≡ a → entry_for n (cond (shared_in t x.0) (e.Write x a) e.Other) ≡ cond
      (is_shared (program_in t hs) x.0) (entry n 4 x.0 (accumulator_at s n)) (entry n 0 0 0)
  write-left a h = rw (← h, shared_by t hs x.0) (accessed (shared_in t x.0) 4 (accumulator_at s n) (e.Write x (accumulator_at s n)) refl)

-- a stop shows every event but a read as it is
pub shown-same : (n : ℕ) (x : Event) → ((y : VarNum) (v : ℕ) → ¬ (x ≡ e.Read y v)) → entry_for n x ≡ redacted (entry_for n x)
shown-same n e.Other h = refl
shown-same n (e.Begin sender v) h = refl
shown-same n e.Finish h = refl
shown-same n (e.Read x v) h = absurd (h x v refl)
shown-same n (e.Write x v) h = refl
shown-same n (e.Call f v) h = refl
shown-same n (e.Send port v) h = refl

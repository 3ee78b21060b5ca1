-- Changes that leave the queues, those that wake nobody, and those that leave the variables.
use Prim.Native.Nat.{ℕ}
use mathlib.Core.Path.{◌≡◌, refl}
use mathlib.Core.Bool.{Bool}
use mathlib.Core.List.{List, [], ◌∷◌}
use types.Run.{OneOf}
use denote.Enum.Declared.{tag_of}
use Rattle.command.proofs.Keys.{one_of}
use Rattle.memory.specs.declared.Change.{Change}
use Rattle.memory.specs.declared.Change.TheVariants as k
use Rattle.memory.specs.Changes.{slots_after, counts_after, variables_after}
use Rattle.memory.specs.Ready.{woken_by}
use Rattle.memory.specs.contracts.Change.{the_type}

-- the changes that send no message, and those that do not store
abbrev sendless : List ℕ
sendless = 0 ∷ 1 ∷ 3 ∷ []

abbrev storeless : List ℕ
storeless = 0 ∷ 1 ∷ 2 ∷ []

pub slots-left : (wired : ℕ → ℕ → Bool) (n x : ℕ) (ws slots : List ℕ) (y : Change) → ¬ (y ≡ k.Take) → ((port : ℕ) → ¬ (y ≡ k.Send port))
    → slots ≡ slots_after wired n x ws slots y
slots-left wired n x ws slots k.Nothing t s = refl
slots-left wired n x ws slots k.Take t s = absurd (t refl)
slots-left wired n x ws slots (k.Send port) t s = absurd (s port refl)
slots-left wired n x ws slots (k.Store y) t s = refl

pub counts-left : (wired : ℕ → ℕ → Bool) (n : ℕ) (ws : List ℕ) (y : Change) → ¬ (y ≡ k.Take) → ((port : ℕ) → ¬ (y ≡ k.Send port))
    → ws ≡ counts_after wired n ws y
counts-left wired n ws k.Nothing t s = refl
counts-left wired n ws k.Take t s = absurd (t refl)
counts-left wired n ws (k.Send port) t s = absurd (s port refl)
counts-left wired n ws (k.Store y) t s = refl

pub woken_none : (wired : ℕ → ℕ → Bool) (position ws : List ℕ) (y : Change) → OneOf sendless (tag_of the_type y)
    → woken_by wired position ws y ≡ 0
woken_none wired position ws k.Nothing h = refl
woken_none wired position ws k.Take h = refl
woken_none wired position ws (k.Send port) h = absurd (one_of sendless 2 h)
woken_none wired position ws (k.Store y) h = refl

pub variables-left : (value : ℕ) (xs : List ℕ) (x : Change) → OneOf storeless (tag_of the_type x) → xs ≡ variables_after value xs x
variables-left value xs k.Nothing h = refl
variables-left value xs k.Take h = refl
variables-left value xs (k.Send port) h = refl
variables-left value xs (k.Store x) h = absurd (one_of storeless 3 h)

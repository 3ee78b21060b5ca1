-- The bytes of an entry.
use Prim.Native.Nat.{◌%◌}
use mathlib.Core.Path.{◌≡◌}
use mathlib.Core.List.{◌∷◌}
use native.Mathlib.Nat.{mod-eq_of_lt}
use Rattle.model.specs.Turn.{Entry}
use Rattle.model.specs.Output.{bytes4, entry_bytes}
use Rattle.output.specs.Written.{Narrow}

-- node, kind and number are bytes already
pub entry_bytes_lem : (e : Entry) → Narrow e → e.node % 256 ∷ e.kind % 256 ∷ e.number % 256 ∷ bytes4 e.value ≡ entry_bytes e
entry_bytes_lem e h = rw (mod-eq_of_lt h.0, mod-eq_of_lt h.1, mod-eq_of_lt h.2)

-- Waiting messages in the snapshot, one after the other.
use Prim.Native.Nat.{ℕ, ◌+◌, ◌*◌, ◌≤◌}
use mathlib.Core.Path.{◌≡◌, refl, ap, ◌∙◌}
use mathlib.Core.List.{List, [], ◌∷◌, ◌++◌}
use native.Mathlib.Omega.{arith}
use lib.ListN.{length, get_or}
use Rattle.model.specs.Output.{bytes4, messages_bytes}
use Rattle.model.proofs.Bounds.{length-messages}
use Rattle.memory.specs.Queues.{paired}
use Rattle.memory.proofs.Pairing.{length-paired}
use Rattle.writing.specs.Writing.{joined, Writes}
use Rattle.writing.proofs.Placing.{writes-on}
use Rattle.writing.proofs.Putting.{first_shift}

-- the bytes of message i: value and sender
abbrev pub message_bytes : List ℕ → List ℕ → ℕ → List ℕ
message_bytes values senders i = bytes4 (get_or values i 0) ++ (get_or senders i 0 ∷ [])

-- messages one by one
pub messages-each : (values senders : List ℕ) → length senders ≡ length values
    → joined (message_bytes values senders) (length values) ≡ messages_bytes (paired values senders)
unfolding joined messages_bytes
messages-each [] senders e = refl
messages-each (v ∷ values) [] e = absurd (omega arith)
messages-each (v ∷ values) (n ∷ senders) e =
    first_shift (message_bytes (v ∷ values) (n ∷ senders)) (length values)
    ∙ ap (λ (l : List ℕ). (bytes4 v ++ (n ∷ [])) ++ l) (messages-each values senders (omega arith))

-- room for them
pub messages-room : (values senders before : List ℕ) (at : ℕ) → length senders ≡ length values → at + 5 * length values ≤ length before
    → at + length (joined (message_bytes values senders) (length values)) ≤ length before
messages-room values senders before at e fits =
    let same : length values ≡ length senders = omega arith in
    rw (messages-each values senders e)
    (omega (arith, length-messages (paired values senders), length-paired values senders same, fits))

-- one message: its value, then its sender
pub message-put :
    (values senders : List ℕ) (i v n : ℕ) → v ≡ get_or values i 0 → n ≡ get_or senders i 0
    → (before : List ℕ) (at : ℕ) (between : List ℕ) (next : ℕ) (after : List ℕ) (last : ℕ) → at + 5 ≤ length before
    → Writes (bytes4 v) before at between next → Writes (n ∷ []) between next after last
    → Writes (message_bytes values senders i) before at after last
message-put values senders i v n e f before at between next after last fits p q =
    rw (← e, ← f) (writes-on (bytes4 v) (n ∷ []) before at between next after last (omega arith) p q)

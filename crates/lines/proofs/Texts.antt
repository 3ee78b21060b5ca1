-- The lines by the numbers that the code reads for them: room for each part, and the whole line.
use Prim.Native.Nat.{ℕ, ◌+◌, ◌*◌, ◌≤◌, ◌<◌}
use mathlib.Core.Path.{◌≡◌, refl, sym, ap, ◌∙◌}
use mathlib.Core.List.{List, [], ◌∷◌, ◌++◌, append_assoc}
use native.Mathlib.Omega.{arith}
use lib.ListN.{length}
use Rattle.text.specs.Text.{decimal, fields, line}
use Rattle.writing.specs.Writing.{joined, Writes}
use Rattle.writing.proofs.Putting.{front-room, back-room, two_put, room-first, room-second, room-third, three_put}
use Rattle.text.proofs.Putting.{fields-append, fields-joined}
use Rattle.model.specs.Command.{number_at}
use Rattle.output.specs.Finding.{waiting_in, part_at}
use Rattle.lines.specs.Lines.{node_word, var_word, tally_word, tally_line, entry_line, message_in, messages_at, node_line, part_line, variable_line}

-- an entry
pub entry-same :
    (trace : List ℕ) (k node kind number value : ℕ)
    → node ≡ number_at trace (7 * k) 1 → kind ≡ number_at trace (7 * k + 1) 1 → number ≡ number_at trace (7 * k + 2) 1
    → value ≡ number_at trace (7 * k + 3) 4
    → entry_line trace k ≡ line (decimal node) (kind ∷ number ∷ value ∷ [])
unfolding entry_line
entry-same trace k node kind number value e₁ e₂ e₃ e₄ = rw (e₁, e₂, e₃, e₄)

-- the fields of message i: value and sender
abbrev pub message_fields : List ℕ → ℕ → ℕ → List ℕ
message_fields snapshot place i = fields (message_in snapshot place i)

pub messages-each : (snapshot : List ℕ) (place count : ℕ) → joined (message_fields snapshot place) count ≡ fields
    (messages_at snapshot place count)
unfolding messages_at
messages-each snapshot place count = sym (fields-joined (message_in snapshot place) count)

-- what the code has of the part of node n: its place, four numbers read there, and room for its line
pub record Node (snapshot : List ℕ) (place n position accumulator message waiting : ℕ) (before : List ℕ) (at : ℕ) : Type 0 where
  pub here : place ≡ part_at snapshot n
  pub position_read : position ≡ number_at snapshot place 1
  pub accumulator_read : accumulator ≡ number_at snapshot (place + 1) 4
  pub message_read : message ≡ number_at snapshot (place + 5) 4
  pub waiting_read : waiting ≡ waiting_in snapshot place
  pub room : at + length (part_line snapshot n) ≤ length before

-- its line: the word, five numbers, the messages with the line feed
module _ {snapshot : List ℕ} {place n position accumulator message waiting : ℕ} {before : List ℕ} {at : ℕ}
    (node : Node snapshot place n position accumulator message waiting before at) where
  abbrev five : List ℕ
  five = n ∷ position ∷ accumulator ∷ message ∷ waiting ∷ []

  abbrev messages : List ℕ
  messages = messages_at snapshot (place + 10) waiting

  abbrev back : List ℕ
  back = fields messages ++ (10 ∷ [])

  same : part_line snapshot n ≡ node_word ++ (fields five ++ back)
  unfolding node_line
  same =
      rw (← node.here, ← node.position_read, ← node.accumulator_read, ← node.message_read, ← node.waiting_read)
      (ap (λ (l : List ℕ). node_word ++ (l ++ (10 ∷ []))) (fields-append five messages)
      ∙ ap (λ (l : List ℕ). node_word ++ l) (append_assoc (fields five) (fields messages) (10 ∷ [])))

  fits : at + length (node_word ++ (fields five ++ back)) ≤ length before
  fits = rw same at node.room

  pub word_room : at + 4 ≤ length before
  word_room = room-first node_word (fields five) back before at fits

  module _ {second : List ℕ} {two : ℕ} (p : Writes node_word before at second two) where
    pub five-room : two + length (fields five) ≤ length second
    five-room = room-second node_word (fields five) back before at fits second two p

    module _ {third : List ℕ} {three : ℕ} (q : Writes (fields five) second two third three) where
      rest : three + length back ≤ length third
      rest = room-third node_word (fields five) back before at fits second two p third three q

      pub messages-room : three + length (fields messages) ≤ length third
      messages-room = front-room (fields messages) (10 ∷ []) third three rest

      module _ {fourth : List ℕ} {four : ℕ} (r : Writes (fields messages) third three fourth four) where
        pub end_room : four < length fourth
        end_room = omega (arith, back-room (fields messages) (10 ∷ []) third three rest fourth four r)

        pub node_put : {after : List ℕ} {last : ℕ} → Writes (10 ∷ []) fourth four after last
            → Writes (part_line snapshot n) before at after last
        node_put {after} {last} w =
            rw same
            (three_put node_word (fields five) back before at fits second two p third three q after last
            (two_put (fields messages) (10 ∷ []) third three rest fourth four r after last w))

-- a variable
pub variable-same :
    (snapshot : List ℕ) (place x value : ℕ) → value ≡ number_at snapshot (place + 4 * x) 4
    → variable_line snapshot place x ≡ line var_word (x ∷ value ∷ [])
unfolding variable_line
variable-same snapshot place x value e = rw e

-- a tally
pub tally-same : (n : ℕ) (counts : List ℕ) → tally_line n counts ≡ line tally_word (n ∷ counts)
unfolding tally_line
tally-same n counts = refl

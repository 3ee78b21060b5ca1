-- All queues in one flat array, 16 slots a node, with the senders in a second one beside it.
use Rattle.std.specs.Prelude.{ℕ, zero, suc, ◌+◌, ◌*◌, ◌≤◌, ◌<◌, ◌≡◌, Bool, true, cond, ◌&&◌, List, [], ◌∷◌, leb, length, take, drop, get_or, set}
use Rattle.std.proofs.Math.Seq.{paste}
use Rattle.model.specs.Table.{max_nodes, max_waiting}
use Rattle.model.specs.State.{Message, message_from, no_message}
use Rattle.model.specs.Turn.{some_below}

-- the messages in slots with these values and these senders
abbrev pub paired : List ℕ → List ℕ → List Message
paired [] senders = []
paired (v ∷ values) [] = []
paired (v ∷ values) (n ∷ senders) = message_from n v ∷ paired values senders

-- the queues that slots hold: of each node as many messages as wait, from its first slot on, oldest first
abbrev pub queues : List ℕ → List Message → List (List Message)
queues [] slots = []
queues (w ∷ ws) slots = take w slots ∷ queues ws (drop 16 slots)

-- how many messages wait at a node
abbrev pub count_at : List ℕ → ℕ → ℕ
count_at ws n = get_or ws n 0

-- no more messages wait at a node than it has slots
abbrev pub BoundedCounts : List ℕ → Type 0
BoundedCounts ws = (n : ℕ) → count_at ws n ≤ max_waiting

-- the slots hold these queues, and no more messages wait than there are slots
pub record Holds (ws : List ℕ) (slots : List Message) (qs : List (List Message)) : Type 0 where
  pub bounded : BoundedCounts ws
  pub same : queues ws slots ≡ qs

-- all slots, free ones too, pass a test
abbrev pub AllPass : (Message → Bool) → List Message → Type 0
AllPass test slots = (i : ℕ) → i < length slots → test (get_or slots i no_message) ≡ true

-- only these messages are brought into slots, free ones too: a test that they and all slots before pass, all slots afterwards pass
abbrev pub BringsOnly : (ℕ → Message) → List Message → List Message → Type 0
BringsOnly messages slots slots' =
    (test : Message → Bool) → ((k : ℕ) → test (messages k) ≡ true) → AllPass test slots → AllPass test slots'

-- at some target 16 messages wait, where `waiting` says how many wait at each node
abbrev pub full : (ℕ → Bool) → (ℕ → ℕ) → Bool
full target waiting = some_below (λ k. target k && leb max_waiting (waiting k)) max_nodes

-- the queues without the oldest message of a node
abbrev pub without_oldest : List (List Message) → ℕ → List (List Message)
without_oldest qs n = set qs n (drop 1 (get_or qs n []))

-- the slots with the k that follow a place moved down by one
unfoldable pub shifted : {A : Type 0} → List A → ℕ → ℕ → List A
shifted slots base k = paste slots base (drop (base + 1) slots) k

-- the slots with this number in the first free one of each target below k, where `ws` says how many messages wait at each node
unfoldable pub stored : (ℕ → Bool) → List ℕ → ℕ → List ℕ → ℕ → List ℕ
stored target ws x slots zero = slots
stored target ws x slots (suc k) =
    let d = stored target ws x slots k in
    cond (target k) (set d (k * 16 + get_or ws k 0) x) d

-- how many messages wait, with one more at each target below k
unfoldable pub counted : (ℕ → Bool) → List ℕ → ℕ → List ℕ
counted target ws zero = ws
counted target ws (suc k) =
    let d = counted target ws k in
    cond (target k) (set d k (get_or ws k 0 + 1)) d

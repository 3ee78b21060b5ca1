-- Request S-11: who sent a message. Every message that waits or is taken is a START value or was sent by an earlier turn.
use Rattle.std.specs.Prelude.{ℕ, ◌<◌, ◌≡◌, true, List, ◌⊎◌, length, get_or}
use Rattle.model.specs.Command.{Command}
use Rattle.model.specs.Program.{Program, program_of}
use Rattle.model.specs.State.{Message, start_sender, message_from, EachWaiting}
use Rattle.model.specs.Turn.{Entry}
use Rattle.model.specs.Run.{Run, entry_at, state_at, monitored_run, unmonitored_run}
use Rattle.model.specs.Refusal.{Sizes}
use Rattle.model.specs.Conclusion.{Accepts, monitored_of, unmonitored_of}

-- the message is a START value of node n
pub record Started (P : Program) (n : ℕ) (m : Message) : Type 0 where
  pub place : ℕ
  pub inside : place < length (P.first_messages n)
  pub same : m ≡ message_from start_sender (get_or (P.first_messages n) place 0)

-- the entry is a send of the message to node n: kind 6, of its sender, with its value, on a port that is wired to n
pub record SentBy (P : Program) (n : ℕ) (m : Message) (e : Entry) : Type 0 where
  pub kind : e.kind ≡ 6
  pub node : e.node ≡ m.sender
  pub value : e.value ≡ m.value
  pub wired : P.wired m.sender e.number n ≡ true

-- an entry before entry k of a run is a send of the message to node n
pub record SentBefore (P : Program) (r : Run) (k n : ℕ) (m : Message) : Type 0 where
  pub turn : ℕ
  pub earlier : turn < k
  pub sent : SentBy P n m (entry_at r turn)

-- the message is a START value of node n, or was sent to it before entry k
abbrev pub ComesFrom : Program → Run → ℕ → ℕ → Message → Type 0
ComesFrom P r k n m = Started P n m ⊎ SentBefore P r k n m

-- the message that an entry of kind 1 tells of: the entry's number is its sender
abbrev pub taken_by : Entry → Message
taken_by e = message_from e.number e.value

-- where the messages of a run come from
pub record Accounted (P : Program) (r : Run) : Type 0 where
  -- those that wait when turn k begins, and at the end
  pub waiting : (k : ℕ) → EachWaiting (ComesFrom P r k) (state_at r k).queue
  -- those that are taken
  pub taken : (k : ℕ) → (entry_at r k).kind ≡ 1 → ComesFrom P r k (entry_at r k).node (taken_by (entry_at r k))
  -- so a kind 1 entry with another number than 255 has an earlier kind 6 entry of the node of that number, with the same value, on a port
  -- that is wired to the node that takes
  pub sent :
      (k : ℕ) → (entry_at r k).kind ≡ 1 → ¬ ((entry_at r k).number ≡ start_sender)
      → SentBefore P r k (entry_at r k).node (taken_by (entry_at r k))

-- it is so in both runs of any turns of every program
abbrev pub OriginsHold : Type 0
OriginsHold = (P : Program) (turns : List ℕ) → Accounted P (monitored_run P turns) × Accounted P (unmonitored_run P turns)

-- the sender is a node, and some port of it is wired to node n
pub record WiredNode (P : Program) (n : ℕ) (m : Message) : Type 0 where
  pub is_node : m.sender < P.nodes
  pub port : ℕ
  pub wired : P.wired m.sender port n ≡ true

-- the sender is 255 or such a node
abbrev pub HasSender : Program → ℕ → Message → Type 0
HasSender P n m = (m.sender ≡ start_sender) ⊎ WiredNode P n m

-- who sent the messages of a run: where each comes from, and that each that waits, and each that is taken, has such a sender
pub record Attributed (P : Program) (r : Run) : Type 0 where
  pub origins : Accounted P r
  pub waiting : (k : ℕ) → EachWaiting (HasSender P) (state_at r k).queue
  pub taken : (k : ℕ) → (entry_at r k).kind ≡ 1 → HasSender P (entry_at r k).node (taken_by (entry_at r k))

-- it is so in both runs of every accepted job
abbrev pub SendersHold : Type 0
SendersHold =
    (job : List ℕ) (b : Sizes) (past : List Command) → Accepts job b past
    → Attributed (program_of past) (monitored_of past) × Attributed (program_of past) (unmonitored_of past)

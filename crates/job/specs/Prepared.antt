-- What tables and work buffer hold of an accepted job, and what they stand for together with it.
use Rattle.std.specs.Prelude.{ℕ, ◌+◌, ◌*◌, ◌≤◌, ◌-◌, ◌<◌, ◌≡◌, List, map, length, get_or}
use Rattle.model.specs.Table.{TURN}
use Rattle.model.specs.Command.{Command}
use Rattle.model.specs.Declared.{turns_of}
use Rattle.model.specs.Program.{program_of}
use Rattle.model.specs.Turn.{instruction_at}
use Rattle.model.specs.Refusal.{accepted, decode_job, work_size}
use Rattle.tables.specs.Tables.{count_in}
use Rattle.tables.specs.Stands.{Stands}
use Rattle.tables.specs.Programs.{program_in}
use Rattle.command.specs.Instructions.{instruction_from}
use Rattle.handlers.specs.Loading.{places_of, place_in, slot_in, handlers_in, loaded}

-- turn k of a job, counted from 0: the turns are the last commands of a job, 2 bytes each
abbrev pub turn_in : List ℕ → List ℕ → ℕ → ℕ
turn_in job t k = get_or job (length job - 2 * count_in t TURN + 2 * k + 1) 0

-- what decoding and loading leave of an accepted job, and what it stands for: its program; `before` is the work buffer before loading, `w`
-- the one after it
pub record Prepared (job t before w : List ℕ) (past : List Command) : Type 0 where
  pub program : program_in t (handlers_in job t w) ≡ program_of past
  -- the slot of command i of node n's handler holds the place of that command; what is read there is the command
  pub held : (n i : ℕ) → i < length ((program_of past).handler n) → place_in w n i ≡ get_or (places_of past n) i 0
  pub read : (n : ℕ) → map (instruction_from job) (places_of past n) ≡ (program_of past).handler n
  pub fetched : (n i : ℕ) → i < length ((program_of past).handler n) → slot_in job w n i ≡ instruction_at (program_of past) n i
  -- its turns
  pub turns : count_in t TURN ≡ length (turns_of past)
  pub turn : (k : ℕ) → k < length (turns_of past) → turn_in job t k ≡ get_or (turns_of past) k 0
  -- the bytes after the slots stay
  pub size : length w ≡ length before
  pub beyond : (i : ℕ) → work_size ≤ i → get_or w i 0 ≡ get_or before i 0

-- the claim: for every accepted job, with tables that stand for its commands and a work buffer that is long enough
abbrev pub PreparedHolds : Type 0
PreparedHolds =
    (job t w : List ℕ) (past : List Command) → decode_job job ≡ accepted past → Stands t past → work_size ≤ length w
    → Prepared job t w (loaded w past) past

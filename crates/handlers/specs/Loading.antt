-- Where the commands of handlers lie: the work buffer has a slot for each, which holds its place in the job (S-9).
use Rattle.std.specs.Prelude.{ℕ, ◌+◌, ◌*◌, ◌/◌, ◌%◌, cond, List, [], ◌∷◌, ◌++◌, leb, length}
use Rattle.model.specs.Table.{SKIP}
use Rattle.model.specs.Command.{Command, number_at}
use Rattle.model.specs.Declared.{Instruction, instruction, is_handler, open_body, belongs, body_length, only}
use Rattle.model.specs.State.{tabulate}
use Rattle.command.specs.Instructions.{instruction_from}
use Rattle.writing.specs.Writing.{placed}
use Rattle.tables.specs.Tables.{length_in}
use Rattle.tables.specs.Programs.{Handlers}

-- the slot of a node's command: 64 commands a node, 2 bytes a command
abbrev pub slot_of : ℕ → ℕ → ℕ
slot_of n i = (n * 64 + i) * 2

-- a place in a job as 2 bytes, lowest byte first
abbrev pub bytes2 : ℕ → List ℕ
bytes2 v = v % 256 ∷ v / 256 % 256 ∷ []

-- the bytes with a place stored in a slot; as they were where it does not fit
abbrev pub stored : List ℕ → ℕ → ℕ → List ℕ
stored w at place = cond (leb (at + 2) (length w)) (placed w at (bytes2 place)) w

-- the bytes with the places of the handler commands of a job, each in the slot of its node and position
unfoldable pub loaded : List ℕ → List Command → List ℕ
loaded w [] = w
loaded w (c ∷ past) = cond (is_handler c) (stored (loaded w past) (slot_of (open_body past) (body_length past (open_body past))) c.place)
    (loaded w past)

-- the places of the commands of a node's handler, the first one first
unfoldable pub places_of : List Command → ℕ → List ℕ
places_of [] n = []
places_of (c ∷ past) n = places_of past n ++ only (belongs past c n) c.place

-- what a slot holds: a place in the job
abbrev pub place_in : List ℕ → ℕ → ℕ → ℕ
place_in w n i = number_at w (slot_of n i) 2

-- what a slot stands for: the command of a node at a position, which is the handler command at that place of the job; SKIP where there is
-- no slot
abbrev pub slot_in : List ℕ → List ℕ → ℕ → ℕ → Instruction
slot_in job w n i = cond (leb (slot_of n i + 2) (length w)) (instruction_from job (place_in w n i)) (instruction SKIP 0)

-- the handlers in the job and the work buffer `w`, as long as the tables `t` say
abbrev pub handlers_in : List ℕ → List ℕ → List ℕ → Handlers
handlers_in job t w n = tabulate (length_in t n) (slot_in job w n)

-- The jobs worked by hand ("Jobs worked by hand"): K1 to K11, and 32 and 33 nodes, as rows of one list that is claimed once; 4,096 and
-- 4,097 turns beside them.
-- What is expected is written in bytes, so that no definition of the outputs stands on both sides.
use Rattle.std.specs.Prelude.{ℕ, zero, suc, ◌≡◌, Bool, true, false, cond, List, [], ◌∷◌, ◌++◌, map}
use Rattle.model.specs.Turn.{Entry, entry}
use Rattle.model.specs.Refusal.{refuse, Sizes, sizes}
use Rattle.model.specs.Result.{Result, refused, ran, monitored, unmonitored}

-- a row: a job, the lengths of the buffers, whether it is run monitored ("watched"), and what is expected
pub record Example : Type 0 where
  pub job : List ℕ
  pub buffers : Sizes
  pub is_monitored : Bool
  pub expected : Result

-- what the definitions give
unfoldable pub outcome : Example → Result
outcome e = cond e.is_monitored (monitored e.job e.buffers) (unmonitored e.job e.buffers)

-- the definitions give what every row expects
abbrev pub RowsHold : List Example → Type 0
RowsHold rows = map outcome rows ≡ map (λ (e : Example). e.expected) rows

-- buffers that are long enough for every job
unfoldable pub enough : Sizes
enough = sizes 28672 3136 4096

-- a monitored and an unmonitored row with long buffers
unfoldable pub monitored_row : List ℕ → Result → Example
monitored_row job expected = record { job = job; buffers = enough; is_monitored = true; expected = expected }

unfoldable pub unmonitored_row : List ℕ → Result → Example
unmonitored_row job expected = record { job = job; buffers = enough; is_monitored = false; expected = expected }

-- the bytes repeated
unfoldable pub times : ℕ → List ℕ → List ℕ
times zero bytes = []
times (suc k) bytes = bytes ++ times k bytes

-- K1 with these bytes for its READ command, this START value and this node for its first turn
unfoldable pub k1 : List ℕ → List ℕ → ℕ → List ℕ
k1 read start first =
    0x01 ∷ 0x02 ∷ 0x02 ∷ []
    ++ 0x10 ∷ 0x02 ∷ 0x00 ∷ 0x05 ∷ 0x00 ∷ 0x00 ∷ 0x00 ∷ []
    ++ 0x11 ∷ 0x09 ∷ 0x00 ∷ 0x00 ∷ 0x00 ∷ []
    ++ 0x20 ∷ 0x00 ∷ 0x00 ∷ 0x01 ∷ []
    ++ read
    ++ 0x31 ∷ 0x01 ∷ 0x00 ∷ 0x07 ∷ 0x00 ∷ 0x00 ∷ 0x00 ∷ []
    ++ 0x40 ∷ 0x00 ∷ 0x42 ∷ 0x46 ∷ 0x00 ∷ 0x49 ∷ 0x00 ∷ []
    ++ 0x40 ∷ 0x01 ∷ 0x42 ∷ 0x4A ∷ 0x00 ∷ []
    ++ 0x50 ∷ 0x00 ∷ start
    ++ 0x60 ∷ first ∷ []
    ++ times 4 (0x60 ∷ 0x00 ∷ [])
    ++ times 4 (0x60 ∷ 0x01 ∷ [])

-- the READ command of K1
unfoldable pub k1_read : List ℕ
k1_read = 0x32 ∷ 0x00 ∷ 0x00 ∷ []

-- K7
unfoldable pub k7 : List ℕ
k7 =
    0x01 ∷ 0x02 ∷ []
    ++ 0x20 ∷ 0x00 ∷ 0x00 ∷ 0x00 ∷ []
    ++ 0x40 ∷ 0x00 ∷ 0x49 ∷ 0x00 ∷ 0x48 ∷ 0x00 ∷ []
    ++ 0x50 ∷ 0x00 ∷ 0x01 ∷ 0x00 ∷ 0x00 ∷ 0x00 ∷ []
    ++ times 34 (0x60 ∷ 0x00 ∷ [])

-- the 4 bytes of a number below 256
unfoldable pub four : ℕ → List ℕ
four v = v ∷ 0 ∷ 0 ∷ 0 ∷ []

-- the 7 bytes of an entry whose value is below 256
unfoldable pub traced : ℕ → ℕ → ℕ → ℕ → List ℕ
traced n kind number v = n ∷ kind ∷ number ∷ four v

-- a node at a position, with accumulator and message below 256 and this count of waiting messages, as it stands in the snapshot
unfoldable pub node_part : ℕ → ℕ → ℕ → ℕ → List ℕ
node_part position accumulator message waiting = position ∷ four accumulator ++ four message ++ (waiting ∷ [])

-- an idle node with no waiting message
unfoldable pub idle_node : List ℕ
idle_node = node_part 255 0 0 0

-- a waiting message from this sender with a value below 256, as it stands in the snapshot
unfoldable pub waits : ℕ → ℕ → List ℕ
waits sender v = four v ++ (sender ∷ [])

-- a run: stop, turns, attempted entry, trace and snapshot
unfoldable pub ends : ℕ → ℕ → Entry → List ℕ → List ℕ → Result
ends stop turns e trace snapshot = ran (record { stop = stop; turns = turns; attempted = e }) trace snapshot

-- the attempted entry of stop 0
unfoldable pub no_entry : Entry
no_entry = entry 0 0 0 0

-- the trace of K1 with this START value and this value sent: the turns of node 0, those of node 1 up to its call, and the last two
unfoldable pub k1_first : List ℕ → ℕ → List ℕ
k1_first start sent = 0 ∷ 1 ∷ 255 ∷ start ++ traced 0 0 0 0 ++ traced 0 3 0 5 ++ traced 0 6 0 sent ++ traced 0 2 0 0 ++ traced 1 1 0 sent ++
    traced 1 0 0 0

unfoldable pub k1_last : ℕ → List ℕ
k1_last sent = traced 1 5 0 sent ++ traced 1 2 0 0

-- K1 to K11, and 32 and 33 nodes
unfoldable pub examples : List Example
examples =
    -- K1
    monitored_row (k1 k1_read (four 2) 0) (ends 0 9 no_entry (k1_first (four 2) 7 ++ k1_last 7) (idle_node ++ idle_node ++ four 5))
    -- K2
    ∷ monitored_row (k1 k1_read (four 3) 0) (ends 1 7 (entry 1 5 0 8) (k1_first (four 3) 8) (idle_node ++ node_part 1 8 8 0 ++ four 5))
    -- K3
    ∷ unmonitored_row (k1 k1_read (four 3) 0) (ends 0 9 no_entry (k1_first (four 3) 8 ++ k1_last 8) (idle_node ++ idle_node ++ four 5))
    -- K4
    ∷ monitored_row (k1 [] (four 2) 0) (ends 1 2 (entry 0 3 0 0) (traced 0 1 255 2 ++ traced 0 0 0 0) (node_part 1 2 2 0 ++ idle_node ++ four 5))
    -- K5
    ∷ monitored_row (k1 k1_read (four 2) 1) (ends 2 0 (entry 1 0 0 0) [] (node_part 255 0 0 1 ++ waits 255 2 ++ idle_node ++ four 5))
    -- K6
    ∷ monitored_row (k1 k1_read (0xFE ∷ 0xFF ∷ 0xFF ∷ 0xFF ∷ []) 0)
    (ends 1 7 (entry 1 5 0 3) (k1_first (0xFE ∷ 0xFF ∷ 0xFF ∷ 0xFF ∷ []) 3) (idle_node ++ node_part 1 3 3 0 ++ four 5))
    -- K7
    ∷ monitored_row k7 (ends 3 33 (entry 0 6 0 0) (traced 0 1 255 1 ++ times 16 (traced 0 6 0 0 ++ traced 0 0 0 0))
    (node_part 0 0 1 16 ++ times 16 (waits 0 0)))
    -- K8
    ∷ monitored_row [] (refused (refuse 1 0))
    -- K9
    ∷ monitored_row (0x02 ∷ []) (refused (refuse 6 0))
    -- K10
    ∷ monitored_row (0x01 ∷ 0x10 ∷ []) (refused (refuse 3 1))
    -- K11
    ∷ monitored_row (0x01 ∷ 0x02 ∷ 0x40 ∷ 0x00 ∷ 0x48 ∷ 0x01 ∷ []) (ends 0 0 no_entry [] idle_node)
    ∷ monitored_row (0x01 ∷ 0x02 ∷ 0x40 ∷ 0x00 ∷ 0x48 ∷ 0x02 ∷ []) (refused (refuse 9 4))
    -- 32 and 33 nodes
    ∷ monitored_row (0x01 ∷ times 32 (0x02 ∷ [])) (ends 0 0 no_entry [] (times 32 idle_node))
    ∷ monitored_row (0x01 ∷ times 33 (0x02 ∷ [])) (refused (refuse 5 33))
    ∷ []

-- one flow with one node, and this many turns of the node
unfoldable pub many_turns : ℕ → List ℕ
many_turns k = 0x01 ∷ 0x02 ∷ times k (0x60 ∷ 0x00 ∷ [])

-- 4,096 turns are accepted, and the first of them stops; 4,097 are refused by 5 at the last TURN
pub record TurnLimit : Type 0 where
  pub reached : monitored (many_turns 4096) enough ≡ ends 2 0 (entry 0 0 0 0) [] idle_node
  pub passed : monitored (many_turns 4097) enough ≡ refused (refuse 5 8194)

-- every row holds
abbrev pub ExamplesHold : Type 0
ExamplesHold = RowsHold examples

-- How the definitions read what the paper leaves open or what is easily misread (docs/DECISIONS.md), as rows of one list, claimed once.
use Rattle.std.specs.Prelude.{ℕ, ◌+◌, true, List, [], ◌∷◌, ◌++◌}
use Rattle.model.specs.Turn.{Entry, entry}
use Rattle.model.specs.Refusal.{refuse, Sizes, sizes}
use Rattle.model.specs.Result.{Result, refused}
use Rattle.model.specs.Examples.{Example, RowsHold, monitored_row, unmonitored_row, times, four, traced, node_part, idle_node, ends}
use Rattle.model.specs.Examples.{waits, no_entry}

-- a monitored row with buffers of these lengths
unfoldable pub within : Sizes → List ℕ → Result → Example
within buffers job expected = record { job = job; buffers = buffers; is_monitored = true; expected = expected }

-- one flow with this many nodes
unfoldable pub nodes : ℕ → List ℕ
nodes k = 0x01 ∷ times k (0x02 ∷ [])

-- a global variable with this start
unfoldable pub global : ℕ → List ℕ
global start = 0x10 ∷ 0x02 ∷ 0x00 ∷ four start

-- this many turns of a node
unfoldable pub turns : ℕ → ℕ → List ℕ
turns k n = times k (0x60 ∷ n ∷ [])

-- the order of the tests
unfoldable pub order_rows : List Example
order_rows =
    -- 2: an unknown last byte
    monitored_row (nodes 1 ++ (0xFF ∷ [])) (refused (refuse 2 2))
    -- 3 before 5: the 65th variable, cut off
    ∷ monitored_row (times 64 (global 0) ++ (0x10 ∷ 0x02 ∷ [])) (refused (refuse 3 448))
    -- 3 before 4: a command of a lower group that is cut off
    ∷ monitored_row (nodes 1 ++ turns 1 0 ++ (0x20 ∷ 0x00 ∷ [])) (refused (refuse 3 4))
    -- 4 before 6: a lower group and an undeclared node
    ∷ monitored_row (nodes 1 ++ turns 1 0 ++ (0x20 ∷ 0x05 ∷ 0x00 ∷ 0x00 ∷ [])) (refused (refuse 4 4))
    -- 5 before 6: the 65th variable, of scope 9
    ∷ monitored_row (times 64 (global 0) ++ 0x10 ∷ 0x09 ∷ 0x00 ∷ four 0) (refused (refuse 5 448))
    -- 6 before 7: a variable that is not declared, and so not seen
    ∷ monitored_row (nodes 2 ++ (0x40 ∷ 0x01 ∷ 0x43 ∷ 0x00 ∷ [])) (refused (refuse 6 5))
    -- 6: a handler command before every BODY
    ∷ monitored_row (nodes 1 ++ (0x42 ∷ [])) (refused (refuse 6 2))
    -- 8 before 9: a jump out of its body, then a second BODY
    ∷ monitored_row (nodes 1 ++ (0x40 ∷ 0x00 ∷ 0x48 ∷ 0x05 ∷ 0x40 ∷ 0x00 ∷ [])) (refused (refuse 8 6))
    -- 9 at the first of two such jumps
    ∷ monitored_row (nodes 1 ++ (0x40 ∷ 0x00 ∷ 0x48 ∷ 0x05 ∷ 0x47 ∷ 0x06 ∷ [])) (refused (refuse 9 4))
    -- an unmonitored run refuses alike
    ∷ unmonitored_row (nodes 1 ++ (0x32 ∷ 0x00 ∷ 0x00 ∷ [])) (refused (refuse 6 2))
    -- 10, 11 and 12 in this order, at the job's length
    ∷ within (sizes 6 3135 4095) (nodes 1 ++ turns 1 0) (refused (refuse 10 4))
    ∷ within (sizes 7 3135 4095) (nodes 1 ++ turns 1 0) (refused (refuse 11 4))
    ∷ within (sizes 7 3136 4095) (nodes 1 ++ turns 1 0) (refused (refuse 12 4))
    -- with no turns the trace buffer may be empty
    ∷ within (sizes 0 3136 4096) (nodes 1) (ends 0 0 no_entry [] idle_node)
    ∷ []

-- a variable of this scope and owner, with start 0
unfoldable pub variable : ℕ → ℕ → List ℕ
variable scope owner = 0x10 ∷ scope ∷ owner ∷ four 0

-- 6: what is not declared before, and numbers that are not allowed
unfoldable pub undeclared_rows : List Example
undeclared_rows =
    -- the owner of a variable: a node that is declared after it, and 1 for a global one; scope 3
    monitored_row (0x01 ∷ variable 0 0 ++ (0x02 ∷ [])) (refused (refuse 6 1))
    ∷ monitored_row (nodes 2 ++ variable 2 1) (refused (refuse 6 3))
    ∷ monitored_row (nodes 1 ++ variable 3 0) (refused (refuse 6 2))
    -- a function, in a permission and in a handler
    ∷ monitored_row (nodes 1 ++ (0x30 ∷ 0x00 ∷ 0x00 ∷ [])) (refused (refuse 6 2))
    ∷ monitored_row (nodes 1 ++ (0x40 ∷ 0x00 ∷ 0x4A ∷ 0x00 ∷ [])) (refused (refuse 6 4))
    -- the node of a BODY, of a START and of a TURN
    ∷ monitored_row (nodes 1 ++ (0x40 ∷ 0x01 ∷ [])) (refused (refuse 6 2))
    ∷ monitored_row (nodes 1 ++ 0x50 ∷ 0x01 ∷ four 0) (refused (refuse 6 2))
    ∷ monitored_row (nodes 1 ++ turns 1 1) (refused (refuse 6 2))
    -- port 4, though there is a node 4, of a wire and of a SEND
    ∷ monitored_row (nodes 5 ++ (0x20 ∷ 0x00 ∷ 0x04 ∷ 0x00 ∷ [])) (refused (refuse 6 6))
    ∷ monitored_row (nodes 5 ++ (0x40 ∷ 0x00 ∷ 0x49 ∷ 0x04 ∷ [])) (refused (refuse 6 8))
    ∷ []

-- what a node sees
unfoldable pub sight_rows : List Example
sight_rows =
    -- 7: a wire into another flow, either way
    monitored_row (nodes 1 ++ nodes 1 ++ (0x20 ∷ 0x00 ∷ 0x00 ∷ 0x01 ∷ [])) (refused (refuse 7 4))
    ∷ monitored_row (nodes 1 ++ nodes 1 ++ (0x20 ∷ 0x01 ∷ 0x00 ∷ 0x00 ∷ [])) (refused (refuse 7 4))
    -- 7: GET, PUT and PLUS of another node's variable
    ∷ monitored_row (nodes 2 ++ variable 2 0 ++ variable 0 1 ++ (0x40 ∷ 0x00 ∷ 0x43 ∷ 0x01 ∷ [])) (refused (refuse 7 19))
    ∷ monitored_row (nodes 2 ++ variable 2 0 ++ variable 0 1 ++ (0x40 ∷ 0x00 ∷ 0x44 ∷ 0x01 ∷ [])) (refused (refuse 7 19))
    ∷ monitored_row (nodes 2 ++ variable 2 0 ++ variable 0 0 ++ (0x40 ∷ 0x01 ∷ 0x46 ∷ 0x01 ∷ [])) (refused (refuse 7 19))
    -- 7: READ and WRITE of another flow's variable
    ∷ monitored_row (nodes 1 ++ nodes 1 ++ variable 2 0 ++ variable 1 0 ++ (0x32 ∷ 0x01 ∷ 0x01 ∷ [])) (refused (refuse 7 18))
    ∷ monitored_row (nodes 1 ++ nodes 1 ++ variable 2 0 ++ variable 1 0 ++ (0x33 ∷ 0x01 ∷ 0x01 ∷ [])) (refused (refuse 7 18))
    -- 7: READ of the node's own variable, which is not shared
    ∷ monitored_row (nodes 1 ++ variable 2 0 ++ variable 0 0 ++ (0x32 ∷ 0x00 ∷ 0x01 ∷ [])) (refused (refuse 7 16))
    -- the variable of the second flow, read by its node
    ∷ monitored_row
    (nodes 1 ++ nodes 1 ++ variable 1 1 ++ 0x32 ∷ 0x01 ∷ 0x00 ∷ 0x40 ∷ 0x01 ∷ 0x43 ∷ 0x00 ∷ 0x50 ∷ 0x01 ∷ four 5 ++ turns 2 1)
    (ends 0 2 no_entry (traced 1 1 255 5 ++ traced 1 3 0 0) (idle_node ++ node_part 1 0 5 0 ++ four 0))
    ∷ []

-- what is declared
unfoldable pub declared_rows : List Example
declared_rows =
    -- 64 commands a body, and 65
    monitored_row (nodes 1 ++ 0x40 ∷ 0x00 ∷ times 64 (0x4B ∷ [])) (ends 0 0 no_entry [] idle_node)
    ∷ monitored_row (nodes 1 ++ 0x40 ∷ 0x00 ∷ times 65 (0x4B ∷ [])) (refused (refuse 5 68))
    -- 8 flows, and 9
    ∷ monitored_row (times 8 (0x01 ∷ [])) (ends 0 0 no_entry [] [])
    ∷ monitored_row (times 9 (0x01 ∷ [])) (refused (refuse 5 8))
    -- 33 functions
    ∷ monitored_row (times 33 (0x11 ∷ four 9)) (refused (refuse 5 160))
    -- one global variable is a job
    ∷ monitored_row (global 5) (ends 0 0 no_entry [] (four 5))
    -- ARG beside ANY and beside ARG with another argument is no repetition
    ∷ monitored_row
    (nodes 1 ++ 0x11 ∷ four 0 ++ 0x30 ∷ 0x00 ∷ 0x00 ∷ 0x31 ∷ 0x00 ∷ 0x00 ∷ four 1 ++ 0x31 ∷ 0x00 ∷ 0x00 ∷ four 2 ++
    (0x40 ∷ 0x00 ∷ 0x4A ∷ 0x00 ∷ []))
    (ends 0 0 no_entry [] idle_node)
    -- 8: the same WIRE, ANY, ARG, READ or WRITE again
    ∷ monitored_row (nodes 1 ++ times 2 (0x20 ∷ 0x00 ∷ 0x03 ∷ 0x00 ∷ [])) (refused (refuse 8 6))
    ∷ monitored_row (nodes 1 ++ 0x11 ∷ four 0 ++ times 2 (0x30 ∷ 0x00 ∷ 0x00 ∷ [])) (refused (refuse 8 10))
    ∷ monitored_row (nodes 1 ++ 0x11 ∷ four 0 ++ times 2 (0x31 ∷ 0x00 ∷ 0x00 ∷ four 1)) (refused (refuse 8 14))
    ∷ monitored_row (nodes 1 ++ global 0 ++ times 2 (0x32 ∷ 0x00 ∷ 0x00 ∷ [])) (refused (refuse 8 12))
    ∷ monitored_row (nodes 1 ++ global 0 ++ times 2 (0x33 ∷ 0x00 ∷ 0x00 ∷ [])) (refused (refuse 8 12))
    -- a START in each of two flows
    ∷ monitored_row
    (nodes 1 ++ nodes 1 ++ 0x50 ∷ 0x00 ∷ four 1 ++ 0x50 ∷ 0x01 ∷ four 2)
    (ends 0 0 no_entry [] (node_part 255 0 0 1 ++ waits 255 1 ++ node_part 255 0 0 1 ++ waits 255 2))
    -- a second START in the flow, of another node
    ∷ monitored_row (nodes 2 ++ 0x50 ∷ 0x00 ∷ four 1 ++ 0x50 ∷ 0x01 ∷ four 2) (refused (refuse 8 9))
    ∷ []

-- what a turn does
unfoldable pub turn_rows : List Example
turn_rows =
    -- numbers in trace and snapshot, lowest byte first
    monitored_row
    (nodes 1 ++ 0x50 ∷ 0x00 ∷ 0x01 ∷ 0x02 ∷ 0x03 ∷ 0x04 ∷ turns 1 0)
    (ends 0 1 no_entry (0 ∷ 1 ∷ 255 ∷ 1 ∷ 2 ∷ 3 ∷ 4 ∷ []) (0 ∷ four 0 ++ (1 ∷ 2 ∷ 3 ∷ 4 ∷ 0 ∷ [])))
    -- a node variable: GET, PUT and PLUS leave kind 0 and need no permission
    ∷ monitored_row
    (nodes 1 ++ 0x10 ∷ 0x00 ∷ 0x00 ∷ four 5 ++ 0x40 ∷ 0x00 ∷ 0x43 ∷ 0x00 ∷ 0x44 ∷ 0x00 ∷ 0x46 ∷ 0x00 ∷ 0x50 ∷ 0x00 ∷ four 1 ++ turns 4 0)
    (ends 0 4 no_entry (traced 0 1 255 1 ++ times 3 (traced 0 0 0 0)) (node_part 3 10 1 0 ++ four 5))
    -- a flow variable that the node may read and write
    ∷ monitored_row
    (nodes 1 ++ 0x10 ∷ 0x01 ∷ 0x00 ∷ four 5 ++ 0x32 ∷ 0x00 ∷ 0x00 ∷ 0x33 ∷ 0x00 ∷ 0x00 ∷ 0x40 ∷ 0x00 ∷ 0x43 ∷ 0x00 ∷ 0x45 ∷ four 1 ++ 0x44 ∷
    0x00 ∷ 0x50 ∷ 0x00 ∷ four 1 ++ turns 4 0)
    (ends 0 4 no_entry (traced 0 1 255 1 ++ traced 0 3 0 5 ++ traced 0 0 0 0 ++ traced 0 4 0 6) (node_part 3 6 1 0 ++ four 6))
    -- a call that ANY permits: the accumulator becomes the answer
    ∷ monitored_row
    (nodes 1 ++ 0x11 ∷ four 9 ++ 0x30 ∷ 0x00 ∷ 0x00 ∷ 0x40 ∷ 0x00 ∷ 0x42 ∷ 0x4A ∷ 0x00 ∷ 0x50 ∷ 0x00 ∷ four 5 ++ turns 3 0)
    (ends 0 3 no_entry (traced 0 1 255 5 ++ traced 0 0 0 0 ++ traced 0 5 0 5) (node_part 2 9 5 0))
    -- JUMPZ with 3, which goes on, and with 0, which jumps over the last SET
    ∷ monitored_row
    (nodes 1 ++ 0x40 ∷ 0x00 ∷ 0x41 ∷ four 3 ++ 0x47 ∷ 0x04 ∷ 0x41 ∷ four 0 ++ 0x47 ∷ 0x05 ∷ 0x41 ∷ four 9 ++ 0x45 ∷ four 4 ++
    0x50 ∷ 0x00 ∷ four 1 ++ turns 6 0)
    (ends 0 6 no_entry (traced 0 1 255 1 ++ times 5 (traced 0 0 0 0)) (node_part 6 4 1 0))
    -- a forbidden write: the attempted entry shows the accumulator, and the variable is not written
    ∷ monitored_row
    (nodes 1 ++ global 5 ++ 0x32 ∷ 0x00 ∷ 0x00 ∷ 0x40 ∷ 0x00 ∷ 0x41 ∷ four 7 ++ 0x44 ∷ 0x00 ∷ 0x43 ∷ 0x00 ∷ 0x50 ∷ 0x00 ∷ four 1 ++
    turns 3 0)
    (ends 1 2 (entry 0 4 0 7) (traced 0 1 255 1 ++ traced 0 0 0 0) (node_part 1 7 1 0 ++ four 5))
    -- a send to two targets, and one to a port that is not wired
    ∷ monitored_row
    (nodes 3 ++ 0x20 ∷ 0x00 ∷ 0x02 ∷ 0x01 ∷ 0x20 ∷ 0x00 ∷ 0x02 ∷ 0x02 ∷ 0x40 ∷ 0x00 ∷ 0x42 ∷ 0x49 ∷ 0x02 ∷ 0x49 ∷ 0x03 ∷ 0x50 ∷ 0x00 ∷ four
    9 ++ turns 4 0)
    (ends 0 4 no_entry (traced 0 1 255 9 ++ traced 0 0 0 0 ++ traced 0 6 2 9 ++ traced 0 6 3 9)
    (node_part 3 9 9 0 ++ times 2 (node_part 255 0 0 1 ++ waits 0 9)))
    -- the oldest message is taken first
    ∷ monitored_row
    (nodes 2 ++ 0x20 ∷ 0x00 ∷ 0x00 ∷ 0x01 ∷ 0x40 ∷ 0x00 ∷ 0x49 ∷ 0x00 ∷ 0x42 ∷ 0x49 ∷ 0x00 ∷ 0x50 ∷ 0x00 ∷ four 9 ++ turns 4 0 ++ turns 1 1)
    (ends 0 5 no_entry (traced 0 1 255 9 ++ traced 0 6 0 0 ++ traced 0 0 0 0 ++ traced 0 6 0 9 ++ traced 1 1 0 0)
    (node_part 3 9 9 0 ++ node_part 0 0 0 1 ++ waits 0 9))
    -- a send whose second target is full delivers to nobody
    ∷ monitored_row
    (nodes 2 ++ 0x20 ∷ 0x00 ∷ 0x00 ∷ 0x00 ∷ 0x20 ∷ 0x00 ∷ 0x00 ∷ 0x01 ∷ 0x20 ∷ 0x00 ∷ 0x01 ∷ 0x01 ∷ 0x40 ∷ 0x00 ∷ times 16
    (0x49 ∷ 0x01 ∷ []) ++ 0x42 ∷ 0x49 ∷ 0x00 ∷ 0x50 ∷ 0x00 ∷ four 3 ++ turns 19 0)
    (ends 3 18 (entry 0 6 0 3) (traced 0 1 255 3 ++ times 16 (traced 0 6 1 0) ++ traced 0 0 0 0)
    (node_part 17 3 3 0 ++ node_part 255 0 0 16 ++ times 16 (waits 0 0)))
    ∷ []

-- one node that calls function f with its first message, given by its 4 bytes; function 0 has FUN's answer 9; the lists are what is
-- declared and permitted besides, and what follows the call
unfoldable pub calling_then : ℕ → List ℕ → List ℕ → List ℕ → List ℕ
calling_then f others more message =
    nodes 1 ++ 0x11 ∷ four 9 ++ others ++ 0x40 ∷ 0x00 ∷ 0x42 ∷ 0x4A ∷ f ∷ more ++ 0x50 ∷ 0x00 ∷ message ++ turns 3 0

-- likewise, with nothing after the call
unfoldable pub calling_of : ℕ → List ℕ → List ℕ → List ℕ
calling_of f others = calling_then f others []

-- likewise, of function 0
unfoldable pub calling : List ℕ → List ℕ → List ℕ
calling = calling_of 0

-- a SPAN of node 0 and function 0 from low to high, both below 256
unfoldable pub span : ℕ → ℕ → List ℕ
span low high = 0x34 ∷ 0x00 ∷ 0x00 ∷ four low ++ four high

-- an ARG of node 0 and function 0
unfoldable pub arg : ℕ → List ℕ
arg value = 0x31 ∷ 0x00 ∷ 0x00 ∷ four value

-- what such a job gives if the function is called with this argument and has this answer
unfoldable pub answered : ℕ → ℕ → ℕ → Result
answered f v answer = ends 0 3 no_entry (traced 0 1 255 v ++ traced 0 0 0 0 ++ traced 0 5 f v) (node_part 2 answer v 0)

-- what it gives if function 0 is called with this argument and has FUN's answer, and if the call is forbidden
unfoldable pub called : ℕ → Result
called v = answered 0 v 9

unfoldable pub forbidden : ℕ → Result
forbidden v = ends 1 2 (entry 0 5 0 v) (traced 0 1 255 v ++ traced 0 0 0 0) (node_part 1 v v 0)

-- ranges of arguments (S-5)
unfoldable pub span_rows : List Example
span_rows =
    -- both ends of a range are permitted; one below and one above are not
    monitored_row (calling (span 10 20) (four 10)) (called 10)
    ∷ monitored_row (calling (span 10 20) (four 20)) (called 20)
    ∷ monitored_row (calling (span 10 20) (four 9)) (forbidden 9)
    ∷ monitored_row (calling (span 10 20) (four 21)) (forbidden 21)
    -- an unmonitored run makes the call
    ∷ unmonitored_row (calling (span 10 20) (four 21)) (called 21)
    -- low = high permits one argument
    ∷ monitored_row (calling (span 10 10) (four 10)) (called 10)
    ∷ monitored_row (calling (span 10 10) (four 11)) (forbidden 11)
    -- 0 to 2^32-1 permits 2^32-1
    ∷ monitored_row (calling (0x34 ∷ 0x00 ∷ 0x00 ∷ four 0 ++ times 4 (0xFF ∷ [])) (times 4 (0xFF ∷ [])))
    (ends 0 3 no_entry (0 ∷ 1 ∷ 255 ∷ times 4 (0xFF ∷ []) ++ traced 0 0 0 0 ++ 0 ∷ 5 ∷ 0 ∷ times 4 (0xFF ∷ []))
    (2 ∷ four 9 ++ times 4 (0xFF ∷ []) ++ (0 ∷ [])))
    -- accepted: ranges that overlap or touch, or have the same low or high; ARG inside a range, and beside the range of its argument alone
    ∷ monitored_row
    (calling (span 10 20 ++ span 15 30 ++ span 31 40 ++ span 10 19 ++ span 11 20 ++ arg 12 ++ arg 50 ++ span 50 50) (four 25))
    (called 25)
    -- a range of another function, and one of another node, permit nothing here
    ∷ monitored_row (calling_then 0 (0x11 ∷ four 9 ++ 0x34 ∷ 0x00 ∷ 0x01 ∷ four 10 ++ four 20) (0x4A ∷ 0x01 ∷ []) (four 15)) (forbidden 15)
    ∷ monitored_row (0x01 ∷ 0x02 ∷ calling_then 0 (0x34 ∷ 0x01 ∷ 0x00 ∷ four 10 ++ four 20) (0x40 ∷ 0x01 ∷ 0x4A ∷ 0x00 ∷ []) (four 15))
    (ends 1 2 (entry 0 5 0 15) (traced 0 1 255 15 ++ traced 0 0 0 0) (node_part 1 15 15 0 ++ idle_node))
    -- 3: the last byte of high is missing
    ∷ monitored_row (nodes 1 ++ 0x11 ∷ four 9 ++ 0x34 ∷ 0x00 ∷ 0x00 ∷ four 10 ++ (20 ∷ 0 ∷ 0 ∷ [])) (refused (refuse 3 7))
    -- 8: the same SPAN again
    ∷ monitored_row (nodes 1 ++ 0x11 ∷ four 9 ++ span 10 20 ++ span 10 20) (refused (refuse 8 18))
    -- 15: low above high, monitored and unmonitored
    ∷ monitored_row (nodes 1 ++ 0x11 ∷ four 9 ++ span 11 10) (refused (refuse 15 7))
    ∷ unmonitored_row (nodes 1 ++ 0x11 ∷ four 9 ++ span 11 10) (refused (refuse 15 7))
    -- 4 before 15: a range of low above high, after a TURN
    ∷ monitored_row (nodes 1 ++ 0x11 ∷ four 9 ++ turns 1 0 ++ span 11 10) (refused (refuse 4 9))
    -- 6 before 15: low above high, of an undeclared function
    ∷ monitored_row (nodes 1 ++ span 11 10) (refused (refuse 6 2))
    -- 8 at a command before 15 at a later one, and 15 before 8 likewise
    ∷ monitored_row (nodes 1 ++ 0x11 ∷ four 9 ++ times 2 (span 10 20) ++ span 11 10) (refused (refuse 8 18))
    ∷ monitored_row (nodes 1 ++ 0x11 ∷ four 9 ++ span 10 20 ++ span 11 10 ++ span 10 20) (refused (refuse 15 18))
    -- 15 before 2 of a later command, and before 9
    ∷ monitored_row (nodes 1 ++ 0x11 ∷ four 9 ++ span 11 10 ++ (0xFF ∷ [])) (refused (refuse 15 7))
    ∷ monitored_row (nodes 1 ++ 0x11 ∷ four 9 ++ span 11 10 ++ (0x40 ∷ 0x00 ∷ 0x48 ∷ 0x05 ∷ [])) (refused (refuse 15 7))
    ∷ []

-- a REPLY of a function to an argument, with its answer, all below 256
unfoldable pub reply : ℕ → ℕ → ℕ → List ℕ
reply f v answer = 0x12 ∷ f ∷ four v ++ four answer

-- the permission to call a function with every argument
unfoldable pub any : ℕ → List ℕ
any f = 0x30 ∷ 0x00 ∷ f ∷ []

-- three replies of function 0, and the permission to call it
unfoldable pub replies : List ℕ
replies = reply 0 5 7 ++ reply 0 6 8 ++ reply 0 7 6 ++ any 0

-- recorded replies (S-1)
unfoldable pub reply_rows : List Example
reply_rows =
    -- an argument with a REPLY has its answer, whichever of several it is; another argument has FUN's
    monitored_row (calling replies (four 5)) (answered 0 5 7)
    ∷ monitored_row (calling replies (four 6)) (answered 0 6 8)
    ∷ monitored_row (calling replies (four 7)) (answered 0 7 6)
    ∷ monitored_row (calling replies (four 8)) (called 8)
    -- unmonitored likewise, where nothing is permitted
    ∷ unmonitored_row (calling (reply 0 5 7) (four 5)) (answered 0 5 7)
    -- an answer that is asked for next: 5 gives 7, and 7 gives 6
    ∷ monitored_row
    (nodes 1 ++ 0x11 ∷ four 9 ++ replies ++ 0x40 ∷ 0x00 ∷ 0x42 ∷ 0x4A ∷ 0x00 ∷ 0x4A ∷ 0x00 ∷ 0x50 ∷ 0x00 ∷ four 5 ++ turns 4 0)
    (ends 0 4 no_entry (traced 0 1 255 5 ++ traced 0 0 0 0 ++ traced 0 5 0 5 ++ traced 0 5 0 7) (node_part 3 6 5 0))
    -- accepted: a reply with FUN's answer, and one before a variable and another function
    ∷ monitored_row (calling (reply 0 5 9 ++ any 0) (four 5)) (called 5)
    ∷ monitored_row (nodes 1 ++ 0x11 ∷ four 9 ++ reply 0 5 7 ++ global 3 ++ 0x11 ∷ four 8) (ends 0 0 no_entry [] (idle_node ++ four 3))
    -- the same argument of two functions, each with its own answer; and a reply of another function alone
    ∷ monitored_row (calling (0x11 ∷ four 8 ++ reply 0 5 7 ++ reply 1 5 6 ++ any 0) (four 5)) (answered 0 5 7)
    ∷ monitored_row (calling_of 1 (0x11 ∷ four 8 ++ reply 0 5 7 ++ reply 1 5 6 ++ any 1) (four 5)) (answered 1 5 6)
    ∷ monitored_row (calling (0x11 ∷ four 8 ++ reply 1 5 6 ++ any 0) (four 5)) (called 5)
    -- arguments are compared whole: 2^32-1 has a reply, 255 has none
    ∷ monitored_row (calling (0x12 ∷ 0x00 ∷ times 4 (0xFF ∷ []) ++ four 7 ++ any 0) (times 4 (0xFF ∷ [])))
    (ends 0 3 no_entry (0 ∷ 1 ∷ 255 ∷ times 4 (0xFF ∷ []) ++ traced 0 0 0 0 ++ 0 ∷ 5 ∷ 0 ∷ times 4 (0xFF ∷ []))
    (2 ∷ four 7 ++ times 4 (0xFF ∷ []) ++ (0 ∷ [])))
    ∷ monitored_row (calling (0x12 ∷ 0x00 ∷ times 4 (0xFF ∷ []) ++ four 7 ++ any 0) (four 255)) (called 255)
    -- the list goes by what is asked, and not by the reply
    ∷ monitored_row (calling (reply 0 5 7 ++ arg 7) (four 5)) (forbidden 5)
    -- 3: the last byte of the answer is missing
    ∷ monitored_row (nodes 1 ++ 0x11 ∷ four 9 ++ 0x12 ∷ 0x00 ∷ four 5 ++ (7 ∷ 0 ∷ 0 ∷ [])) (refused (refuse 3 7))
    -- 4: after a permission; 4 before 8
    ∷ monitored_row (nodes 1 ++ 0x11 ∷ four 9 ++ reply 0 5 7 ++ any 0 ++ reply 0 5 7) (refused (refuse 4 20))
    -- 6: no function, and a function that is declared after its REPLY
    ∷ monitored_row (nodes 1 ++ reply 0 5 7) (refused (refuse 6 2))
    ∷ monitored_row (nodes 1 ++ 0x11 ∷ four 9 ++ reply 1 5 7 ++ 0x11 ∷ four 8) (refused (refuse 6 7))
    -- 8: the same function and argument again, with another answer and with the same; unmonitored alike
    ∷ monitored_row (nodes 1 ++ 0x11 ∷ four 9 ++ reply 0 5 7 ++ reply 0 6 7 ++ reply 0 5 8) (refused (refuse 8 27))
    ∷ monitored_row (nodes 1 ++ 0x11 ∷ four 9 ++ times 2 (reply 0 5 7)) (refused (refuse 8 17))
    ∷ unmonitored_row (nodes 1 ++ 0x11 ∷ four 9 ++ reply 0 5 7 ++ reply 0 5 8) (refused (refuse 8 17))
    ∷ []

-- a READ of node 0 and variable 0
unfoldable pub read : List ℕ
read = 0x32 ∷ 0x00 ∷ 0x00 ∷ []

-- a WRITE of node 0 and variable 0
unfoldable pub write : List ℕ
write = 0x33 ∷ 0x00 ∷ 0x00 ∷ []

-- one node, a global variable that starts with 5 and a function, with these permissions, at place 14, and this handler
unfoldable pub handling : List ℕ → List ℕ → List ℕ
handling permissions handler = nodes 1 ++ global 5 ++ 0x11 ∷ four 9 ++ permissions ++ 0x40 ∷ 0x00 ∷ handler

-- what such a job gives if it is accepted
unfoldable pub rests : Result
rests = ends 0 0 no_entry [] (idle_node ++ four 5)

-- permissions that the handler has no command for (S-7)
unfoldable pub unused_rows : List Example
unused_rows =
    -- used: READ by GET and by PLUS, WRITE by PUT, ANY, ARG and SPAN by CALL
    monitored_row (handling read (0x43 ∷ 0x00 ∷ [])) rests
    ∷ monitored_row (handling read (0x46 ∷ 0x00 ∷ [])) rests
    ∷ monitored_row (handling write (0x44 ∷ 0x00 ∷ [])) rests
    ∷ monitored_row (handling (any 0) (0x4A ∷ 0x00 ∷ [])) rests
    ∷ monitored_row (handling (arg 7) (0x4A ∷ 0x00 ∷ [])) rests
    ∷ monitored_row (handling (span 7 8) (0x4A ∷ 0x00 ∷ [])) rests
    -- unused: READ with only PUT, WRITE with only GET and PLUS, each other sort in a handler without CALL; unmonitored alike
    ∷ monitored_row (handling read (0x44 ∷ 0x00 ∷ 0x4A ∷ 0x00 ∷ [])) (refused (refuse 19 14))
    ∷ monitored_row (handling write (0x43 ∷ 0x00 ∷ 0x46 ∷ 0x00 ∷ 0x4A ∷ 0x00 ∷ [])) (refused (refuse 19 14))
    ∷ monitored_row (handling (any 0) (0x43 ∷ 0x00 ∷ 0x44 ∷ 0x00 ∷ 0x46 ∷ 0x00 ∷ [])) (refused (refuse 19 14))
    ∷ monitored_row (handling (arg 7) (0x43 ∷ 0x00 ∷ 0x44 ∷ 0x00 ∷ 0x46 ∷ 0x00 ∷ [])) (refused (refuse 19 14))
    ∷ monitored_row (handling (span 7 8) (0x43 ∷ 0x00 ∷ 0x44 ∷ 0x00 ∷ 0x46 ∷ 0x00 ∷ [])) (refused (refuse 19 14))
    ∷ unmonitored_row (handling read (0x44 ∷ 0x00 ∷ [])) (refused (refuse 19 14))
    -- used: a command that is never reached, and arguments that do not come up, beside ANY
    ∷ monitored_row (handling read (0x48 ∷ 0x02 ∷ 0x43 ∷ 0x00 ∷ [])) rests
    ∷ monitored_row (handling (any 0 ++ arg 7 ++ span 7 8) (0x41 ∷ four 1 ++ (0x4A ∷ 0x00 ∷ []))) rests
    -- a command with another variable, and one with another function
    ∷ monitored_row (nodes 1 ++ global 5 ++ global 5 ++ read ++ (0x40 ∷ 0x00 ∷ 0x43 ∷ 0x01 ∷ [])) (refused (refuse 19 16))
    ∷ monitored_row (nodes 1 ++ times 2 (0x11 ∷ four 9) ++ any 0 ++ (0x40 ∷ 0x00 ∷ 0x4A ∷ 0x01 ∷ [])) (refused (refuse 19 12))
    -- the command is in another node's handler; each node's own, whichever handler comes first
    ∷ monitored_row (nodes 2 ++ global 5 ++ read ++ (0x40 ∷ 0x01 ∷ 0x43 ∷ 0x00 ∷ 0x40 ∷ 0x00 ∷ 0x4B ∷ [])) (refused (refuse 19 10))
    ∷ monitored_row
    (nodes 2 ++ global 5 ++ read ++ 0x33 ∷ 0x01 ∷ 0x00 ∷ 0x40 ∷ 0x01 ∷ 0x44 ∷ 0x00 ∷ 0x40 ∷ 0x00 ∷ 0x43 ∷ 0x00 ∷ [])
    (ends 0 0 no_entry [] (idle_node ++ idle_node ++ four 5))
    -- a node without BODY uses nothing
    ∷ monitored_row (nodes 1 ++ global 5 ++ read) (refused (refuse 19 9))
    -- 19 at the first of two that are unused, after one that is used
    ∷ monitored_row (handling (read ++ write ++ any 0) (0x43 ∷ 0x00 ∷ [])) (refused (refuse 19 17))
    -- used by the last of 64 commands
    ∷ monitored_row (handling read (times 63 (0x4B ∷ []) ++ (0x43 ∷ 0x00 ∷ []))) rests
    -- 6, 8, 15 and 9 before 19, at later commands; 19 before 10
    ∷ monitored_row (handling read [] ++ turns 1 1) (refused (refuse 6 19))
    ∷ monitored_row (handling (read ++ read) []) (refused (refuse 8 17))
    ∷ monitored_row (handling (read ++ span 8 7) []) (refused (refuse 15 17))
    ∷ monitored_row (handling read (0x48 ∷ 0x02 ∷ [])) (refused (refuse 9 19))
    ∷ within (sizes 6 3135 4095) (handling read [] ++ turns 1 0) (refused (refuse 19 14))
    ∷ []

-- three nodes: 0 sends its first message, 9, to 1 and 2; 1 sends v to 2; with what is declared besides, the handler of 2, and the turns
-- after theirs
unfoldable pub two_senders : List ℕ → ℕ → List ℕ → List ℕ → List ℕ
two_senders others v handler more =
    nodes 3 ++ others ++ 0x20 ∷ 0x00 ∷ 0x00 ∷ 0x01 ∷ 0x20 ∷ 0x00 ∷ 0x00 ∷ 0x02 ∷ 0x20 ∷ 0x01 ∷ 0x00 ∷ 0x02 ∷ 0x40 ∷ 0x00 ∷ 0x42 ∷ 0x49 ∷ 0x00 ∷
    0x40 ∷ 0x01 ∷ 0x41 ∷ four v ++ 0x49 ∷ 0x00 ∷ 0x40 ∷ 0x02 ∷ handler ++ 0x50 ∷ 0x00 ∷ four 9 ++ turns 3 0 ++ turns 3 1 ++ more

-- what such a job gives after these turns more: stop, attempted entry, their entries, and the part of node 2
unfoldable pub sent_both : ℕ → ℕ → ℕ → Entry → List ℕ → List ℕ → Result
sent_both v stop count attempted more part =
    ends stop (6 + count) attempted
    (traced 0 1 255 9 ++ traced 0 0 0 0 ++ traced 0 6 0 9 ++ traced 1 1 0 9 ++ traced 1 0 0 0 ++ traced 1 6 0 v ++ more)
    (node_part 2 9 9 0 ++ node_part 2 v 9 0 ++ part)

-- a node 1 that sends 6 to itself, with this many turns of it
unfoldable pub self_sender : ℕ → List ℕ
self_sender k = nodes 2 ++ 0x20 ∷ 0x01 ∷ 0x00 ∷ 0x01 ∷ 0x40 ∷ 0x01 ∷ 0x41 ∷ four 6 ++ 0x49 ∷ 0x00 ∷ 0x50 ∷ 0x01 ∷ four 4 ++ turns k 1

-- who sent it (S-11)
unfoldable pub sender_rows : List Example
sender_rows =
    -- messages of two senders wait in order at one node, and are taken in order
    monitored_row (two_senders [] 7 [] []) (sent_both 7 0 0 no_entry [] (node_part 255 0 0 2 ++ waits 0 9 ++ waits 1 7))
    ∷ monitored_row (two_senders [] 7 [] (turns 1 2)) (sent_both 7 0 1 no_entry (traced 2 1 0 9) (node_part 0 0 9 1 ++ waits 1 7))
    ∷ monitored_row (two_senders [] 7 [] (turns 3 2))
    (sent_both 7 0 3 no_entry (traced 2 1 0 9 ++ traced 2 2 0 0 ++ traced 2 1 1 7) (node_part 0 0 7 0))
    -- the same value from both
    ∷ monitored_row (two_senders [] 9 [] (turns 3 2))
    (sent_both 9 0 3 no_entry (traced 2 1 0 9 ++ traced 2 2 0 0 ++ traced 2 1 1 9) (node_part 0 0 9 0))
    -- a forbidden call while one waits; unmonitored it is made
    ∷ monitored_row (two_senders (0x11 ∷ four 5) 7 (0x4A ∷ 0x00 ∷ []) (turns 2 2))
    (sent_both 7 1 1 (entry 2 5 0 0) (traced 2 1 0 9) (node_part 0 0 9 1 ++ waits 1 7))
    ∷ unmonitored_row (two_senders (0x11 ∷ four 5) 7 (0x4A ∷ 0x00 ∷ []) (turns 2 2))
    (sent_both 7 0 2 no_entry (traced 2 1 0 9 ++ traced 2 5 0 0) (node_part 1 5 9 1 ++ waits 1 7))
    -- a node that sends to itself: the message waits, and is taken
    ∷ monitored_row (self_sender 4)
    (ends 0 4 no_entry (traced 1 1 255 4 ++ traced 1 0 0 0 ++ traced 1 6 0 6 ++ traced 1 2 0 0)
    (idle_node ++ node_part 255 0 0 1 ++ waits 1 6))
    ∷ monitored_row (self_sender 5)
    (ends 0 5 no_entry (traced 1 1 255 4 ++ traced 1 0 0 0 ++ traced 1 6 0 6 ++ traced 1 2 0 0 ++ traced 1 1 1 6)
    (idle_node ++ node_part 0 0 6 0))
    ∷ []

-- every row holds
abbrev pub ReadingsHold : Type 0
ReadingsHold =
    RowsHold (order_rows ++ undeclared_rows ++ sight_rows ++ declared_rows ++ turn_rows ++ span_rows ++ reply_rows ++ unused_rows ++ sender_rows)

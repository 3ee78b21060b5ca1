-- Dispatched jobs worked by hand (S-2), as rows of one list that is claimed once: K1, K2 and K7 without their turns, three nodes, and the
-- refusals; and ready counts (S-4).
-- What is expected is written in bytes, as in Examples.
use Rattle.std.specs.Prelude.{ℕ, ◌≡◌, Bool, true, false, cond, List, [], ◌∷◌, ◌++◌, map, take}
use Rattle.model.specs.Program.{program_of}
use Rattle.model.specs.Turn.{entry}
use Rattle.model.specs.Refusal.{refuse, Decoded, accepted, rejected, decode_job, Sizes, sizes}
use Rattle.model.specs.Result.{Result, refused}
use Rattle.model.specs.Examples.{enough, times, k1, k1_read, k7, four, traced, node_part, idle_node, waits, ends, no_entry}
use Rattle.model.specs.Dispatch.{ready_count, monitored_dispatch}
use Rattle.model.specs.DispatchResult.{Handed, dispatch_monitored, dispatch_unmonitored}
use Rattle.model.specs.Dispatching.{states_in}

-- a row: a budget, a job, the lengths of the buffers, whether it is dispatched monitored ("watched"), and what is expected
pub record DispatchExample : Type 0 where
  pub budget : ℕ
  pub job : List ℕ
  pub buffers : Sizes
  pub is_monitored : Bool
  pub expected : Handed

-- what the definitions give
unfoldable pub dispatch_outcome : DispatchExample → Handed
dispatch_outcome e =
    cond e.is_monitored (dispatch_monitored e.budget e.job e.buffers) (dispatch_unmonitored e.budget e.job e.buffers)

-- the definitions give what every row expects
abbrev pub DispatchRowsHold : List DispatchExample → Type 0
DispatchRowsHold rows = map dispatch_outcome rows ≡ map (λ (e : DispatchExample). e.expected) rows

-- a row, its expectation given by the result and the examined total
unfoldable pub row_with : Bool → Sizes → ℕ → List ℕ → Result → ℕ → DispatchExample
row_with is_monitored buffers budget job result examined =
    record {
      budget = budget;
      job = job;
      buffers = buffers;
      is_monitored = is_monitored;
      expected = record { result = result; examined = examined };
    }

-- a monitored row with long buffers, and one that is refused
unfoldable pub dispatched_row : ℕ → List ℕ → Result → ℕ → DispatchExample
dispatched_row = row_with true enough

unfoldable pub refused_row : ℕ → List ℕ → ℕ → ℕ → DispatchExample
refused_row budget job number place = dispatched_row budget job (refused (refuse number place)) 0

-- K1 with this START value, without its turns: its first 47 bytes
unfoldable pub k1_front : ℕ → List ℕ
k1_front start = take 47 (k1 k1_read (four start) 0)

-- its trace up to the first turn of node 1; from there to the call of node 1, with node 0's last turn; the call, and the last turn
unfoldable pub served_first : ℕ → ℕ → List ℕ
served_first start sent = traced 0 1 255 start ++ traced 0 0 0 0 ++ traced 0 3 0 5 ++ traced 0 6 0 sent ++ traced 1 1 0 sent

unfoldable pub served_next : List ℕ
served_next = traced 0 2 0 0 ++ traced 1 0 0 0

unfoldable pub served_last : ℕ → List ℕ
served_last sent = traced 1 5 0 sent ++ traced 1 2 0 0

-- three nodes, each in a flow of its own with a message
unfoldable pub three_ready : List ℕ
three_ready = times 3 (0x01 ∷ 0x02 ∷ []) ++ (0x50 ∷ 0 ∷ four 7) ++ (0x50 ∷ 1 ∷ four 8) ++ (0x50 ∷ 2 ∷ four 9)

-- the rows
unfoldable pub dispatch_rows : List DispatchExample
dispatch_rows =
    -- K1: node 0, with its message taken and an empty queue, is ready and is served on; after nine turns nobody is ready, and no node is
    -- examined to find that (S-4)
    dispatched_row 12 (k1_front 2)
    (ends 4 9 no_entry (served_first 2 7 ++ served_next ++ served_last 7) (idle_node ++ idle_node ++ four 5)) 14
    -- nine turns: no tenth choice; five, with a trace buffer for five; one
    ∷ dispatched_row 9 (k1_front 2)
    (ends 0 9 no_entry (served_first 2 7 ++ served_next ++ served_last 7) (idle_node ++ idle_node ++ four 5)) 14
    ∷ row_with true (sizes 35 3136 4096) 5 (k1_front 2)
    (ends 0 5 no_entry (served_first 2 7) (node_part 3 7 2 0 ++ node_part 0 0 7 0 ++ four 5)) 8
    ∷ dispatched_row 1 (k1_front 2) (ends 0 1 no_entry (traced 0 1 255 2) (node_part 0 0 2 0 ++ idle_node ++ four 5)) 1
    -- K2: the stopped choice is counted; unmonitored it is made
    ∷ dispatched_row 12 (k1_front 3)
    (ends 1 7 (entry 1 5 0 8) (served_first 3 8 ++ served_next) (idle_node ++ node_part 1 8 8 0 ++ four 5)) 12
    ∷ row_with false enough 12 (k1_front 3)
    (ends 4 9 no_entry (served_first 3 8 ++ served_next ++ served_last 8) (idle_node ++ idle_node ++ four 5)) 14
    -- K7 without its turns: its first 18 bytes
    ∷ dispatched_row 40 (take 18 k7)
    (ends 3 33 (entry 0 6 0 0) (traced 0 1 255 1 ++ times 16 (traced 0 6 0 0 ++ traced 0 0 0 0))
    (node_part 0 0 1 16 ++ times 16 (waits 0 0)))
    34
    -- three nodes with a message each, which are served by rising number and then from node 0 again; and three of which the last alone is
    -- ready, so that all are examined for each choice
    ∷ dispatched_row 4 three_ready
    (ends 0 4 no_entry (traced 0 1 255 7 ++ traced 1 1 255 8 ++ traced 2 1 255 9 ++ traced 0 2 0 0)
    (idle_node ++ node_part 0 0 8 0 ++ node_part 0 0 9 0))
    4
    ∷ dispatched_row 2 (0x01 ∷ 0x02 ∷ 0x02 ∷ 0x02 ∷ 0x50 ∷ 2 ∷ four 9)
    (ends 0 2 no_entry (traced 2 1 255 9 ++ traced 2 2 0 0) (idle_node ++ idle_node ++ idle_node)) 6
    -- no node
    ∷ dispatched_row 12 (0x01 ∷ []) (ends 4 0 no_entry [] []) 0
    -- 13 before 1
    ∷ refused_row 0 [] 13 0
    ∷ refused_row 4097 [] 13 0
    ∷ refused_row 1 [] 1 0
    -- 14 at the first TURN; 6, 9 and 19 before it
    ∷ refused_row 5 (k1 k1_read (four 2) 0) 14 47
    ∷ refused_row 5 (0x01 ∷ 0x02 ∷ 0x60 ∷ 0x01 ∷ []) 6 2
    ∷ refused_row 5 (0x01 ∷ 0x02 ∷ 0x40 ∷ 0x00 ∷ 0x48 ∷ 0x02 ∷ 0x60 ∷ 0x00 ∷ []) 9 4
    ∷ refused_row 5 (0x01 ∷ 0x02 ∷ 0x10 ∷ 0x02 ∷ 0x00 ∷ four 5 ++ k1_read ++ (0x60 ∷ 0x00 ∷ [])) 19 9
    -- 10 for the budgeted turns, made or not, at the job's length; 14 before it
    ∷ row_with true (sizes 13 3136 4096) 2 (0x01 ∷ []) (refused (refuse 10 1)) 0
    ∷ row_with true (sizes 34 3136 4096) 5 (k1_front 2) (refused (refuse 10 47)) 0
    ∷ row_with true (sizes 34 3136 4096) 5 (k1 k1_read (four 2) 0) (refused (refuse 14 47)) 0
    ∷ []

-- the ready counts (S-4) in the states of a job's monitored dispatched run
abbrev pub counts_over : ℕ → Decoded → List ℕ
counts_over budget (accepted past) = map (ready_count (program_of past).nodes) (states_in (monitored_dispatch (program_of past) budget).run)
counts_over budget (rejected r) = []

-- K1: node 0; after its send node 1 too; after its last turn node 1 alone; at last nobody. And three nodes, of which node 0 finishes first
abbrev pub ReadyCountExamplesHold : Type 0
ReadyCountExamplesHold =
    (counts_over 12 (decode_job (k1_front 2)) ≡ 1 ∷ 1 ∷ 1 ∷ 1 ∷ 2 ∷ 2 ∷ 1 ∷ 1 ∷ 1 ∷ 0 ∷ [])
    × (counts_over 4 (decode_job three_ready) ≡ 3 ∷ 3 ∷ 3 ∷ 3 ∷ 2 ∷ [])

-- every row holds
abbrev pub DispatchExamplesHold : Type 0
DispatchExamplesHold = map dispatch_outcome dispatch_rows ≡ map (λ (e : DispatchExample). e.expected) dispatch_rows

-- Request S-13 worked by hand: pairs of jobs that are the same but for the start of one variable, 5 and 6, as rows; and what the request
-- does not say, each with such a pair whose traces differ.
use Rattle.std.specs.Prelude.{ℕ, ◌≡◌, true, false, List, [], ◌∷◌, ◌++◌}
use Rattle.model.specs.Program.{Program, shared_in, program_of}
use Rattle.model.specs.Turn.{entry}
use Rattle.model.specs.Refusal.{refuse, commands_of, decode_job, Sizes}
use Rattle.model.specs.Result.{Result, refused, ran, monitored, unmonitored}
use Rattle.model.specs.Examples.{Example, RowsHold, enough, monitored_row, unmonitored_row, times, k1_read, four, traced, node_part}
use Rattle.model.specs.Examples.{idle_node, waits, ends, no_entry}
use Rattle.model.specs.DispatchExamples.{DispatchExample, DispatchRowsHold, dispatched_row, refused_row}
use Rattle.model.specs.Secrecy.{SameBut, Secret}

-- two nodes and a variable of this scope with owner 0 (node 0, flow 0, or no owner of a global one), with these lists, this many turns of
-- node 0, and this start of the variable, whose four bytes stand from place 6 on: node 0 takes its START value, reads the variable, and
-- sends what it has read to node 1
unfoldable pub reader : ℕ → List ℕ → ℕ → ℕ → List ℕ
reader scope lists turns start =
    0x01 ∷ 0x02 ∷ 0x02 ∷ []
    ++ 0x10 ∷ scope ∷ 0x00 ∷ four start
    ++ 0x20 ∷ 0x00 ∷ 0x00 ∷ 0x01 ∷ []
    ++ lists
    ++ 0x40 ∷ 0x00 ∷ 0x43 ∷ 0x00 ∷ 0x49 ∷ 0x00 ∷ []
    ++ 0x50 ∷ 0x00 ∷ four 1
    ++ times turns (0x60 ∷ 0x00 ∷ [])

-- that job with a flow variable, which nobody may read, and three turns
abbrev pub card_reader : ℕ → List ℕ
card_reader = reader 1 [] 3

-- a node that may write such a variable, and puts 9 into it, as its entry shows
unfoldable pub card_writer : ℕ → List ℕ
card_writer start =
    0x01 ∷ 0x02 ∷ []
    ++ 0x10 ∷ 0x01 ∷ 0x00 ∷ four start
    ++ 0x33 ∷ 0x00 ∷ 0x00 ∷ []
    ++ 0x40 ∷ 0x00 ∷ 0x41 ∷ four 9 ++ 0x44 ∷ 0x00 ∷ []
    ++ 0x50 ∷ 0x00 ∷ four 1
    ++ times 3 (0x60 ∷ 0x00 ∷ [])

-- stopped at the forbidden read: that it was tried is shown, the value is not; only the last four bytes of the snapshot ("picture") have
-- the start
unfoldable pub stopped_read : ℕ → Result
stopped_read start = ends 1 1 (entry 0 3 0 0) (traced 0 1 255 1) (node_part 0 0 1 0 ++ idle_node ++ four start)

-- the value is read, with this entry, and sent
unfoldable pub read_and_sent : List ℕ → ℕ → Result
read_and_sent reading start =
    ends 0 3 no_entry (traced 0 1 255 1 ++ reading ++ traced 0 6 0 start)
    (node_part 2 start 1 0 ++ node_part 255 0 0 1 ++ waits 0 start ++ four start)

-- the value is overwritten, so that nothing of the start is left
unfoldable pub overwritten : Result
overwritten = ends 0 3 no_entry (traced 0 1 255 1 ++ traced 0 0 0 0 ++ traced 0 4 0 9) (node_part 2 9 1 0 ++ four 9)

-- the rows
unfoldable pub secrecy_rows : List Example
secrecy_rows =
    -- a shared variable that nobody may read, of a flow and global, monitored ("watched")
    monitored_row (card_reader 5) (stopped_read 5)
    ∷ monitored_row (card_reader 6) (stopped_read 6)
    ∷ monitored_row (reader 2 [] 3 5) (stopped_read 5)
    ∷ monitored_row (reader 2 [] 3 6) (stopped_read 6)
    -- refused alike: a WRITE that no handler uses, at its place
    ∷ monitored_row (reader 1 (0x33 ∷ 0x00 ∷ 0x00 ∷ []) 3 5) (refused (refuse 19 14))
    ∷ monitored_row (reader 1 (0x33 ∷ 0x00 ∷ 0x00 ∷ []) 3 6) (refused (refuse 19 14))
    -- one that nobody may read and one node may write
    ∷ monitored_row (card_writer 5) overwritten
    ∷ monitored_row (card_writer 6) overwritten
    -- not said: the unmonitored ("bare") run, which reads
    ∷ unmonitored_row (card_reader 5) (read_and_sent (traced 0 3 0 5) 5)
    ∷ unmonitored_row (card_reader 6) (read_and_sent (traced 0 3 0 6) 6)
    -- not said: a node's own variable, which it reads without a list
    ∷ monitored_row (reader 0 [] 3 5) (read_and_sent (traced 0 0 0 0) 5)
    ∷ monitored_row (reader 0 [] 3 6) (read_and_sent (traced 0 0 0 0) 6)
    -- not said: a variable that one node may read
    ∷ monitored_row (reader 1 k1_read 3 5) (read_and_sent (traced 0 3 0 5) 5)
    ∷ monitored_row (reader 1 k1_read 3 6) (read_and_sent (traced 0 3 0 6) 6)
    ∷ []

-- the first pair without its turns, dispatched with one budget: one node is examined, and then two for the choice that is stopped; and with
-- its turns, for which it is refused
unfoldable pub secrecy_dispatch_rows : List DispatchExample
secrecy_dispatch_rows =
    dispatched_row 5 (reader 1 [] 0 5) (stopped_read 5) 3
    ∷ dispatched_row 5 (reader 1 [] 0 6) (stopped_read 6) 3
    ∷ refused_row 5 (card_reader 5) 14 26
    ∷ refused_row 5 (card_reader 6) 14 26
    ∷ []

-- every row holds
abbrev pub SecrecyExamplesHold : Type 0
SecrecyExamplesHold = RowsHold secrecy_rows × DispatchRowsHold secrecy_dispatch_rows

-- the trace that is handed over; none for a refusal
abbrev pub trace_handed : Result → List ℕ
trace_handed (refused r) = []
trace_handed (ran a trace snapshot) = trace

-- a run tells the start: two jobs that are the same but for it leave traces that differ
pub record Reveals (run : List ℕ → Sizes → Result) (jobs : ℕ → List ℕ) : Type 0 where
  pub same_but : SameBut 6 (jobs 5) (jobs 6)
  pub differ : ¬ (trace_handed (run (jobs 5) enough) ≡ trace_handed (run (jobs 6) enough))

-- the program of an accepted job
abbrev pub program_of_job : List ℕ → Program
program_of_job job = program_of (commands_of (decode_job job))

-- what the request does not say: three of its conditions, each with a pair of jobs that lacks it
pub record NotSaid : Type 0 where
  -- a monitored ("watched") run: of a variable that nobody may read, the unmonitored ("bare") run tells the start
  pub is_secret : Secret (card_reader 5) 0 6
  pub unmonitored_reveals : Reveals unmonitored card_reader
  -- a shared variable: of a node's own, for which there is no READ either, the monitored run does
  pub own_unread : (n : ℕ) → (program_of_job (reader 0 [] 3 5)).may_read n 0 ≡ false
  pub own_reveals : Reveals monitored (reader 0 [] 3)
  -- no READ: of a shared variable that one node may read the monitored run does
  pub readable_shared : shared_in (program_of_job (reader 1 k1_read 3 5)) 0 ≡ true
  pub readable_reveals : Reveals monitored (reader 1 k1_read 3)

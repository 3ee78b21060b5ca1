-- Tallies worked by hand (S-12), as rows of one list that is claimed once: runs that end by each of the stops 0 to 4, and tallies by
-- sender.
use Rattle.std.specs.Prelude.{ℕ, ◌≡◌, List, [], ◌∷◌, ◌++◌, map, length}
use Rattle.model.specs.Command.{Command}
use Rattle.model.specs.Program.{Program, program_of}
use Rattle.model.specs.State.{tabulate}
use Rattle.model.specs.Run.{Run, entry_at}
use Rattle.model.specs.Refusal.{Decoded, accepted, rejected, decode_job}
use Rattle.model.specs.Conclusion.{monitored_of, unmonitored_of}
use Rattle.model.specs.Dispatch.{monitored_dispatch}
use Rattle.model.specs.Examples.{times, k1, k1_read, k7, four}
use Rattle.model.specs.DispatchExamples.{k1_front}
use Rattle.model.specs.Tally.{tally_of, started_from, sent_to, taken_from, waiting_from}

-- the four counts of each node at the stop of a run
abbrev pub tallies_at_stop : Program → Run → List (List ℕ)
tallies_at_stop P r = tabulate P.nodes (tally_of P (entry_at r) (length r.steps) r.final)

-- the four counts of each node by the sender m
abbrev pub tallies_from : ℕ → Program → Run → List (List ℕ)
tallies_from m P r =
    let k = length r.steps in
    tabulate P.nodes λ n. started_from P m n ∷ sent_to P (entry_at r) k m n ∷ taken_from (entry_at r) k m n ∷ waiting_from r.final m n ∷ []

-- a row: a job, how its commands are run, what is counted, and what is expected
pub record TallyExample : Type 0 where
  pub job : List ℕ
  pub runs : List Command → Run
  pub counts : Program → Run → List (List ℕ)
  pub expected : List (List ℕ)

-- what the definitions give
abbrev pub outcome_in : TallyExample → Decoded → List (List ℕ)
outcome_in e (accepted past) = e.counts (program_of past) (e.runs past)
outcome_in e (rejected r) = []

unfoldable pub tally_outcome : TallyExample → List (List ℕ)
tally_outcome e = outcome_in e (decode_job e.job)

-- the counts of a node
unfoldable pub four_counts : ℕ → ℕ → ℕ → ℕ → List ℕ
four_counts started received taken waiting = started ∷ received ∷ taken ∷ waiting ∷ []

-- a monitored row of written turns, by what is counted; and of the four counts at the stop
unfoldable pub row_of : (Program → Run → List (List ℕ)) → List ℕ → List (List ℕ) → TallyExample
row_of counts job expected = record { job = job; runs = monitored_of; counts = counts; expected = expected }

unfoldable pub stop_row : List ℕ → List (List ℕ) → TallyExample
stop_row = row_of tallies_at_stop

-- three nodes: port 0 of node 0 is wired to the nodes 1 and 2, port 1 of node 1 to node 2. Node 0 takes its START value and sends; node 1
-- takes that, sends on port 0 to nobody and on port 1; node 2 takes node 0's message
unfoldable pub three_wired : List ℕ
three_wired =
    0x01 ∷ 0x02 ∷ 0x02 ∷ 0x02 ∷ []
    ++ 0x20 ∷ 0x00 ∷ 0x00 ∷ 0x01 ∷ 0x20 ∷ 0x00 ∷ 0x00 ∷ 0x02 ∷ 0x20 ∷ 0x01 ∷ 0x01 ∷ 0x02 ∷ []
    ++ 0x40 ∷ 0x00 ∷ 0x49 ∷ 0x00 ∷ []
    ++ 0x40 ∷ 0x01 ∷ 0x49 ∷ 0x00 ∷ 0x49 ∷ 0x01 ∷ []
    ++ 0x50 ∷ 0x00 ∷ four 7
    ++ times 2 (0x60 ∷ 0x00 ∷ []) ++ times 3 (0x60 ∷ 0x01 ∷ []) ++ (0x60 ∷ 0x02 ∷ [])

-- the rows
unfoldable pub tally_rows : List TallyExample
tally_rows =
    -- K1, stop 0: `tally 0 1 0 1 0` and `tally 1 0 1 1 0`
    stop_row (k1 k1_read (four 2) 0) (four_counts 1 0 1 0 ∷ four_counts 0 1 1 0 ∷ [])
    -- K2, stop 1 at node 1's call; K3, the same unmonitored, stop 0
    ∷ stop_row (k1 k1_read (four 3) 0) (four_counts 1 0 1 0 ∷ four_counts 0 1 1 0 ∷ [])
    ∷ record {
      job = k1 k1_read (four 3) 0;
      runs = unmonitored_of;
      counts = tallies_at_stop;
      expected = four_counts 1 0 1 0 ∷ four_counts 0 1 1 0 ∷ [];
    }
    -- K4, stop 1 before node 0 sends
    ∷ stop_row (k1 [] (four 2) 0) (four_counts 1 0 1 0 ∷ four_counts 0 0 0 0 ∷ [])
    -- K5, stop 2: the START value is never taken
    ∷ stop_row (k1 k1_read (four 2) 1) (four_counts 1 0 0 1 ∷ four_counts 0 0 0 0 ∷ [])
    -- K7, stop 3: the send that is stopped counts nowhere
    ∷ stop_row k7 (four_counts 1 16 1 16 ∷ [])
    -- K1 without its turns, dispatched, stop 4
    ∷ record {
      job = k1_front 2;
      runs = λ past. (monitored_dispatch (program_of past) 12).run;
      counts = tallies_at_stop;
      expected = four_counts 1 0 1 0 ∷ four_counts 0 1 1 0 ∷ [];
    }
    -- one entry is received by each of two targets, and one by nobody
    ∷ stop_row three_wired (four_counts 1 0 1 0 ∷ four_counts 0 1 1 0 ∷ four_counts 0 2 1 1 ∷ [])
    -- from START, from node 0 and from node 1
    ∷ row_of (tallies_from 255) three_wired (four_counts 1 0 1 0 ∷ four_counts 0 0 0 0 ∷ four_counts 0 0 0 0 ∷ [])
    ∷ row_of (tallies_from 0) three_wired (four_counts 0 0 0 0 ∷ four_counts 0 1 1 0 ∷ four_counts 0 1 1 0 ∷ [])
    ∷ row_of (tallies_from 1) three_wired (four_counts 0 0 0 0 ∷ four_counts 0 0 0 0 ∷ four_counts 0 1 0 1 ∷ [])
    ∷ []

-- every row holds
abbrev pub TallyExamplesHold : Type 0
TallyExamplesHold = map tally_outcome tally_rows ≡ map (λ (e : TallyExample). e.expected) tally_rows

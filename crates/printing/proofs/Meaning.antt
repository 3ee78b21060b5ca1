-- The printed lines are those of the run's entries and last state: what is written of a run is read back unchanged.
use Prim.Native.Nat.{ℕ, zero, suc, ◌+◌, ◌*◌, ◌^◌, ◌≤◌, ◌<◌}
use mathlib.Core.Path.{◌≡◌, refl, sym, ap, ap₂, subst, ◌∙◌}
use mathlib.Core.List.{List, [], ◌∷◌, ◌++◌, append_assoc, append-nil}
use native.Mathlib.Omega.{arith}
use lib.ListN.{length, get_or, length-append, length-map, get_or-eq_default}
use lib.Seq.{get_or-append_seam}
use Rattle.writing.specs.Writing.{joined}
use Rattle.writing.proofs.Putting.{first_shift, same_first}
use Rattle.output.specs.Finding.{waiting_in}
use Rattle.output.proofs.Finding.{parts_of}
use Rattle.output.proofs.Rereading.{number_front, number_past, element, entry_part, entry_byte}
use Rattle.tally.specs.Tallies.{tally_in}
use Rattle.tally.proofs.Filed.{filed_alone_holds}
use Rattle.lines.specs.Lines.{entry_line, message_in, messages_at, node_line, variable_line, node_lines, snapshot_lines, run_lines, tally_line}
use Rattle.lines.proofs.Texts.{entry-same, variable-same}
use Rattle.model.specs.Command.{Command, number_at}
use Rattle.model.specs.Declared.{Instruction, turns_of}
use Rattle.model.specs.Program.{Program, program_of}
use Rattle.model.specs.State.{Message, no_message, State, position_at, accumulator_at, message_at, queue_at, waiting_at, variable_at}
use Rattle.model.specs.Turn.{Entry, entry, Turned, entry_of, instruction_at, turn}
use Rattle.model.specs.Permission.{monitored_turn}
use Rattle.model.specs.Run.{Run, entries_of, states_of, entry_at, state_at, monitored_run, unmonitored_run}
use Rattle.model.specs.Output.{answer_in, bytes4, trace_bytes, trace_in}
use Rattle.model.specs.Output.{messages_bytes, node_bytes, nodes_bytes, variables_bytes, snapshot_bytes}
use Rattle.model.specs.Refusal.{Decoded, accepted, rejected, decode_job, Sizes, short_buffer, decode_for}
use Rattle.model.specs.Result.{report, result_of, monitored, unmonitored}
use Rattle.model.specs.Conclusion.{Refuses, Accepts}
use Rattle.model.specs.Following.{Follows}
use Rattle.model.specs.Tally.{tally_of}
use Rattle.model.specs.Valid.{Fits}
use Rattle.model.proofs.Reading.{number-one}
use Rattle.model.proofs.Bounds.{length-messages, length-variables}
use Rattle.model.proofs.Following.{demand2}
use Rattle.model.proofs.Results.{and_then_accepted}
use Rattle.model.proofs.Walking.{Decides, decode_for_walked}
use Rattle.model.proofs.Ways.{Makes, left_by, turn_by, monitored_by}
use Rattle.model.proofs.Words.{unmonitored_words, monitored_words, bytes_spell}
use Rattle.printing.specs.Printing.{tally_lines, result_lines}
use Rattle.printing.specs.Meaning.{line_of_entry, message_numbers, line_of_node, line_of_variable}
use Rattle.printing.specs.Meaning.{lines_of_entries, lines_of_state, lines_of_run, lines_of_tallies, lines_of_ended, lines_of_job, LinesHold}

-- the 4 bytes of a number, first of what stands past the first bytes
word_past : (xs ys : List ℕ) (at v : ℕ) → at ≡ length xs → v < 2 ^ 32 → number_at (xs ++ (bytes4 v ++ ys)) at 4 ≡ v
word_past xs ys at v e h =
    let here : at ≡ length xs + 0 = omega arith in
    ap (λ (p : ℕ). number_at (xs ++ (bytes4 v ++ ys)) p 4) here
    ∙ number_past xs (bytes4 v ++ ys) 0 4 ∙ number_front (bytes4 v) ys 0 4 (omega arith) ∙ bytes_spell v h

-- an entry
module _ (es : List Entry) (k : ℕ) (h : k < length es) where
  abbrev e : Entry
  e = get_or es k (entry 0 0 0 0)

  entry_read : e.value < 2 ^ 32 → entry_line (trace_bytes es) k ≡ line_of_entry e
  unfolding line_of_entry
  entry_read small =
      let first : 7 * k ≡ 7 * k + 0 = omega arith in
      entry-same (trace_bytes es) k e.node e.kind e.number e.value
      (sym (ap (λ (p : ℕ). number_at (trace_bytes es) p 1) first ∙ entry_byte es k h 0 (omega arith)))
      (sym (entry_byte es k h 1 (omega arith)))
      (sym (entry_byte es k h 2 (omega arith)))
      (sym (entry_part es k h 3 4 (omega arith) ∙ word_past (e.node ∷ e.kind ∷ e.number ∷ []) [] 3 e.value refl small))

-- a node
messages_cons : (m : Message) (ms : List Message) → messages_bytes (m ∷ ms) ≡ bytes4 m.value ++ (m.sender ∷ []) ++ messages_bytes ms
unfolding messages_bytes
messages_cons m ms = refl

-- the numbers of messages one by one
numbers-each : (q : List Message) → joined (λ i. (get_or q i no_message).value ∷ (get_or q i no_message).sender ∷ []) (length q) ≡ message_numbers q
unfolding joined
numbers-each [] = refl
numbers-each (m ∷ q) =
    first_shift (λ i. (get_or (m ∷ q) i no_message).value ∷ (get_or (m ∷ q) i no_message).sender ∷ []) (length q)
    ∙ ap (λ (l : List ℕ). m.value ∷ m.sender ∷ l) (numbers-each q)

messages-read :
    (xs : List ℕ) (q : List Message) (rest : List ℕ) (place : ℕ) → place ≡ length xs
    → ((i : ℕ) → i < length q → (get_or q i no_message).value < 2 ^ 32)
    → messages_at (xs ++ (messages_bytes q ++ rest)) place (length q) ≡ message_numbers q
unfolding messages_at
messages-read xs q rest place e small =
    same_first (message_in all place) (λ i. (get_or q i no_message).value ∷ (get_or q i no_message).sender ∷ []) (length q)
    (λ i h. ap₂ (λ (v n : ℕ). v ∷ n ∷ []) (value i h) (sender i h))
    ∙ numbers-each q
  where
    all : List ℕ
    all = xs ++ (messages_bytes q ++ rest)

    part : (i : ℕ) → i < length q → (at w : ℕ) → at + w ≤ 5
        → number_at all (length xs + (5 * i + at)) w ≡ number_at (bytes4 (get_or q i no_message).value ++ ((get_or q i no_message).sender ∷ []))
        at w
    part i h at w l =
        number_past xs (messages_bytes q ++ rest) (5 * i + at) w
        ∙ number_front (messages_bytes q) rest (5 * i + at) w (omega (arith, length-messages q))
        ∙ element no_message 5 (λ m. bytes4 m.value ++ (m.sender ∷ [])) (λ m. refl) messages_bytes messages_cons q i h at w l

    value : (i : ℕ) → i < length q → number_at all (place + 5 * i) 4 ≡ (get_or q i no_message).value
    value i h =
        let here : place + 5 * i ≡ length xs + (5 * i + 0) = omega arith in
        ap (λ (p : ℕ). number_at all p 4) here ∙ part i h 0 4 (omega arith)
        ∙ word_past [] ((get_or q i no_message).sender ∷ []) 0 (get_or q i no_message).value refl (small i h)

    sender : (i : ℕ) → i < length q → number_at all (place + 5 * i + 4) 1 ≡ (get_or q i no_message).sender
    sender i h =
        let here : place + 5 * i + 4 ≡ length xs + (5 * i + 4) = omega arith in
        ap (λ (p : ℕ). number_at all p 1) here ∙ part i h 4 1 (omega arith)
        ∙ number-one (bytes4 (get_or q i no_message).value ++ ((get_or q i no_message).sender ∷ [])) 4

module _ (s : State) (fits : Fits s) where
  module _ (xs rest : List ℕ) (n : ℕ) where
    abbrev all : List ℕ
    all = xs ++ (node_bytes s n ++ rest)

    past : (at w : ℕ) → number_at all (length xs + at) w ≡ number_at (node_bytes s n ++ rest) at w
    past = number_past xs (node_bytes s n ++ rest)

    position : number_at all (length xs) 1 ≡ position_at s n
    position = number-one all (length xs) ∙ get_or-append_seam xs (position_at s n) _ 0

    accumulator : number_at all (length xs + 1) 4 ≡ accumulator_at s n
    accumulator = past 1 4 ∙ word_past (position_at s n ∷ []) _ 1 (accumulator_at s n) refl (fits.accumulator n)

    message : number_at all (length xs + 5) 4 ≡ message_at s n
    message = past 5 4 ∙ word_past (position_at s n ∷ bytes4 (accumulator_at s n)) _ 5 (message_at s n) refl (fits.message n)

    waiting : waiting_in all (length xs) ≡ waiting_at s n
    waiting = past 9 1 ∙ number-one (node_bytes s n ++ rest) 9

    messages : messages_at all (length xs + 10) (waiting_at s n) ≡ message_numbers (queue_at s n)
    messages =
        let ten = position_at s n ∷ bytes4 (accumulator_at s n) ++ bytes4 (message_at s n) ++ (waiting_at s n ∷ []) in
        ap (λ (l : List ℕ). messages_at l (length xs + 10) (waiting_at s n)) (sym (append_assoc xs ten (messages_bytes (queue_at s n) ++ rest)))
        ∙ messages-read (xs ++ ten) (queue_at s n) rest (length xs + 10) (omega (arith, length-append xs ten)) (fits.queue n)

    node-read : node_line all (length xs) n ≡ line_of_node s n
    unfolding node_line line_of_node
    node-read = rw (position, accumulator, message, waiting, messages)

  nodes-read : (k : ℕ) (rest : List ℕ) → node_lines (nodes_bytes s k ++ rest) k ≡ joined (line_of_node s) k
  unfolding joined nodes_bytes
  nodes-read zero rest = refl
  nodes-read (suc k) rest =
      let nodes = nodes_bytes s k in
      let last = node_bytes s k ++ rest in
      subst (λ (l : List ℕ). node_lines l (suc k) ≡ joined (line_of_node s) (suc k)) (sym (append_assoc nodes (node_bytes s k) rest))
      (rw (nodes-read k last, parts_of s k last, node-read nodes rest k))

  -- a variable
  module _ (xs : List ℕ) where
    abbrev followed : ℕ → List ℕ → List ℕ
    followed k rest = xs ++ (variables_bytes s k ++ rest)

    variable-read :
        (k : ℕ) (rest : List ℕ) → variable_line (followed k (bytes4 (variable_at s k) ++ rest)) (length xs) k ≡ line_of_variable s k
    unfolding line_of_variable
    variable-read k rest =
        let front = variables_bytes s k in
        let last = bytes4 (variable_at s k) ++ rest in
        let here : length xs + 4 * k ≡ length (xs ++ front) = omega (arith, length-append xs front, length-variables s k) in
        let value = word_past (xs ++ front) rest (length xs + 4 * k) (variable_at s k) here (fits.variable k) in
        variable-same (followed k last) (length xs) k (variable_at s k) (sym (rw append_assoc at value))

    variables-read : (k : ℕ) (rest : List ℕ) → joined (variable_line (followed k rest) (length xs)) k ≡ joined (line_of_variable s) k
    unfolding joined variables_bytes
    variables-read zero rest = refl
    variables-read (suc k) rest =
        let last = bytes4 (variable_at s k) ++ rest in
        subst (λ (l : List ℕ). joined (variable_line (xs ++ l) (length xs)) (suc k) ≡ joined (line_of_variable s) (suc k))
        (sym (append_assoc (variables_bytes s k) (bytes4 (variable_at s k)) rest))
        (rw (variables-read k last, variable-read k rest))

  -- a state
  state-read : (P : Program) → snapshot_lines (snapshot_bytes P s) P.nodes P.variables ≡ lines_of_state P s
  unfolding snapshot_lines snapshot_bytes
  state-read P =
      let nodes = nodes_bytes s P.nodes in
      let variables = variables_bytes s P.variables in
      rw (nodes-read P.nodes variables, parts_of s P.nodes variables, ← append-nil variables, variables-read nodes P.variables [])

-- a run whose values are below 2^32
pub record Readable (r : Run) : Type 0 where
  pub values : (k : ℕ) → k < length r.steps → (entry_at r k).value < 2 ^ 32
  pub final : Fits r.final

run-read :
    (P : Program) (r : Run) → Readable r
    → run_lines (answer_in r) (trace_in r) (snapshot_bytes P r.final) P.nodes P.variables ≡ lines_of_run P r
unfolding run_lines lines_of_run
run-read P r fits =
    rw (entries (length-map r.steps (λ t. t.made)), state-read r.final fits.final P)
  where
    entries : length (entries_of r.steps) ≡ length r.steps → joined (entry_line (trace_in r)) (length r.steps) ≡ lines_of_entries r
    entries size =
        same_first (entry_line (trace_in r)) (λ k. line_of_entry (entry_at r k)) (length r.steps)
        (λ k h. entry_read (entries_of r.steps) k (omega arith) (fits.values k h))

-- the tallies of a run, and both
tallies_read : (P : Program) (r : Run)
    → tally_lines P (length r.steps) (trace_in r) (snapshot_bytes P r.final) P.nodes ≡ lines_of_tallies P r
unfolding lines_of_tallies
tallies_read P r =
    same_first (λ n. tally_line n (tally_in P (length r.steps) (trace_in r) (snapshot_bytes P r.final) n))
    (λ n. tally_line n (tally_of P (entry_at r) (length r.steps) r.final n)) P.nodes
    (λ n h.
    ap (tally_line n)
    (rw (append-nil (snapshot_bytes P r.final)) at (filed_alone_holds P r (length r.steps) [] n (omega arith) h)))

pub ended-read :
    (P : Program) (r : Run) → Readable r
    → run_lines (answer_in r) (trace_in r) (snapshot_bytes P r.final) P.nodes P.variables
    ++ tally_lines P (length r.steps) (trace_in r) (snapshot_bytes P r.final) P.nodes
    ≡ lines_of_ended P r
ended-read P r fits = ap₂ (λ (l m : List ℕ). l ++ m) (run-read P r fits) (tallies_read P r)

-- the value of an entry that a turn makes is below 2^32
abbrev pub Small : Entry → Type 0
Small e = e.value < 2 ^ 32

module _ (P : Program) (s : State) (n : ℕ) (fits : Fits s) where
  left-small : (i : Instruction) → Small (entry_of P s n i)
  left-small i =
      let x = i.operand in
      left_by Small P s n i (λ _. fits.variable x) (λ _. fits.variable x) (λ _. fits.accumulator n) (λ _. fits.accumulator n)
      (λ _. fits.accumulator n) (omega arith)

  pub turn_small : Makes Small (turn P s n)
  turn_small =
      turn_by (Makes Small) P s n (λ p w. tt) (λ p w. fits.queue n 0 (omega (arith, w))) (λ l b. tt)
      (λ l b. left-small (instruction_at P n (position_at s n)))
      (λ l. omega arith)

  pub monitored-small : Makes Small (monitored_turn P s n)
  monitored-small = monitored_by (Makes Small) P s n turn_small (λ e. tt)

-- a run that goes by such turns, on states whose values are
pub readable :
    {rule : State → ℕ → Turned} {turns : List ℕ} {s : State} {r : Run} → ((s : State) (n : ℕ) → Fits s → Makes Small (rule s n))
    → Follows rule turns s r → ((k : ℕ) → Fits (state_at r k)) → Readable r
readable {rule} {turns} {s} {r} small follows fits =
    let size = length-map r.steps (λ t. t.before) in
    record {
      values = λ k h. rw (follows.goes_on k h) at (small (state_at r k) (get_or turns k 0) (fits k));
      final = subst Fits (get_or-eq_default (states_of r.steps) r.final (omega (arith, size))) (fits (length r.steps));
    }

-- a job, by the way its turns are run
module _
    (job : List ℕ) (b : Sizes) (run : Program → List ℕ → Run)
    (fits : (past : List Command) → Accepts job b past → Readable (run (program_of past) (turns_of past)))
  where
    job_read : result_lines job (result_of run (decode_for job b)) ≡ lines_of_job run (decode_for job b)
    unfolding report program_of decode_for
    job_read = by_decoded (decode_for job b) refl (decode_for_walked job b)
      where
        by_decoded :
            (d : Decoded) → decode_for job b ≡ d → Decides (Accepts job b) (Refuses job b) d
            → result_lines job (result_of run d) ≡ lines_of_job run d
        by_decoded (accepted past) e a =
            let P = program_of past in
            let decoded = (and_then_accepted (short_buffer job b) (decode_job job) past e).0 in
            rw decoded (ended-read P (run P (turns_of past)) (fits past a))
        by_decoded (rejected r) e a = refl

pub lines_hold : LinesHold
unfolding monitored unmonitored
lines_hold job b bytes =
    record {
      monitored_prints =
          job_read job b monitored_run
          (λ past a.
          let follows = (demand2 (program_of past) (turns_of past)).monitored_follows in
          readable (monitored-small (program_of past)) follows (monitored_words job past bytes a.reads (turns_of past)));
      unmonitored_prints =
          job_read job b unmonitored_run
          (λ past a.
          let follows = (demand2 (program_of past) (turns_of past)).unmonitored_follows in
          readable (turn_small (program_of past)) follows (unmonitored_words job past bytes a.reads (turns_of past)));
    }

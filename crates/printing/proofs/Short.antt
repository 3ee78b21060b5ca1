-- How long the lines are at most.
use Prim.Native.Nat.{ℕ, zero, suc, ◌+◌, ◌*◌, ◌^◌, ◌≤◌, ◌<◌}
use mathlib.Core.Path.{◌≡◌, refl}
use mathlib.Core.List.{List, [], ◌∷◌, ◌++◌}
use native.Mathlib.Nat.{mul-suc}
use native.Mathlib.Omega.{arith}
use lib.ListN.{length, length-append}
use Rattle.text.specs.Text.{decimal, field, fields, line}
use Rattle.writing.specs.Writing.{joined}
use Rattle.output.specs.Finding.{waiting_in, part_at}
use Rattle.lines.specs.Lines.{end_word, node_word, var_word, refused_word, entry_line, end_line, messages_at, node_line, part_line}
use Rattle.lines.specs.Lines.{variable_line, node_lines, snapshot_lines, run_lines, refused_line, examined_word, examined_line, tally_word, tally_line}
use Rattle.job.specs.declared.schedule.Schedule.{Schedule}
use Rattle.job.specs.declared.schedule.Schedule.TheVariants as s
use Rattle.tally.specs.Tallies.{tally_in}
use Rattle.printing.specs.Printing.{tally_lines, total_lines}
use Rattle.text.proofs.Decimals.{decimal-short, decimal_20}
use Rattle.lines.proofs.Texts.{message_fields, messages-each}
use Rattle.model.specs.Command.{number_at}
use Rattle.model.specs.Program.{Program}
use Rattle.model.specs.Output.{Answer}
use Rattle.model.specs.Valid.{Bytes}
use Rattle.model.proofs.Reading.{number-one, number-four}

-- a field of a number below 10 ^ k, and of any number
field-short : (k n : ℕ) → 1 ≤ k → n < 10 ^ k → length (field n) ≤ k + 1
unfolding field
field-short k n h l = omega (arith, decimal-short k n h l)

field_21 : (n : ℕ) → length (field n) ≤ 21
unfolding field
field_21 n = omega (arith, decimal_20 n)

length_fields : (n : ℕ) (ns : List ℕ) → length (fields (n ∷ ns)) ≡ length (field n) + length (fields ns)
unfolding fields
length_fields n ns = length-append (field n) (fields ns)

no_fields : length (fields []) ≡ 0
unfolding fields
no_fields = refl

length-line : (first numbers : List ℕ) → length (line first numbers) ≡ length first + length (fields numbers) + 1
length-line first numbers = omega (arith, length-append first (fields numbers ++ (10 ∷ [])), length-append (fields numbers) (10 ∷ []))

-- texts of at most this many bytes each
first_short : (f : ℕ → List ℕ) (most : ℕ) → ((k : ℕ) → length (f k) ≤ most) → (n : ℕ) → length (joined f n) ≤ most * n
unfolding joined
first_short f most h zero = omega arith
first_short f most h (suc n) = omega (arith, first_short f most h n, h n, length-append (joined f n) (f n), mul-suc most n)

module _ (xs : List ℕ) (bytes : Bytes xs) where
  byte-short : (at : ℕ) → number_at xs at 1 < 10 ^ 3
  byte-short at = rw (number-one xs at) (omega (arith, bytes at))

  word_short : (at : ℕ) → number_at xs at 4 < 10 ^ 10
  word_short at = rw (number-four xs at) (omega (arith, bytes at, bytes (at + 1), bytes (at + 2), bytes (at + 3)))

  byte-field : (at : ℕ) → length (field (number_at xs at 1)) ≤ 4
  byte-field at = field-short 3 (number_at xs at 1) (omega arith) (byte-short at)

  word_field : (at : ℕ) → length (field (number_at xs at 4)) ≤ 11
  word_field at = field-short 10 (number_at xs at 4) (omega arith) (word_short at)

  -- the lines of a trace
  entry-short : (k : ℕ) → length (entry_line xs k) ≤ 23
  unfolding entry_line
  entry-short k =
      let kind = number_at xs (7 * k + 1) 1 in
      let number = number_at xs (7 * k + 2) 1 in
      let value = number_at xs (7 * k + 3) 4 in
      omega (
        arith,
        length-line (decimal (number_at xs (7 * k) 1)) (kind ∷ number ∷ value ∷ []),
        length_fields kind
            (number ∷ value ∷ []),
        length_fields number (value ∷ []),
        length_fields value [],
        no_fields,
        decimal-short 3
            (number_at xs (7 * k) 1) (omega arith) (byte-short (7 * k)),
        byte-field (7 * k + 1),
        byte-field (7 * k + 2),
        word_field
            (7 * k + 3),
      )

  -- the lines of a snapshot
  messages-short : (place count : ℕ) → length (fields (messages_at xs place count)) ≤ 15 * count
  messages-short place count = rw (← messages-each xs place count) (first_short (message_fields xs place) 15 one count)
    where
      one : (i : ℕ) → length (message_fields xs place i) ≤ 15
      one i =
          let value = number_at xs (place + 5 * i) 4 in
          let sender = number_at xs (place + 5 * i + 4) 1 in
          omega (
            arith,
            length_fields value (sender ∷ []),
            length_fields sender [],
            no_fields,
            word_field (place + 5 * i),
            byte-field (place + 5 * i + 4),
          )

  node-short : (place n : ℕ) → length (node_line xs place n) ≤ 56 + 15 * waiting_in xs place
  unfolding node_line
  node-short place n =
      let position = number_at xs place 1 in
      let accumulator = number_at xs (place + 1) 4 in
      let message = number_at xs (place + 5) 4 in
      let waiting = waiting_in xs place in
      let messages = messages_at xs (place + 10) waiting in
      omega (
        arith,
        length-line node_word (n ∷ position ∷ accumulator ∷ message ∷ waiting ∷ messages),
        length_fields n
            (position ∷ accumulator ∷ message ∷ waiting ∷ messages),
        length_fields position
            (accumulator ∷ message ∷ waiting ∷ messages),
        length_fields accumulator (message ∷ waiting ∷ messages),
        length_fields message
            (waiting ∷ messages),
        length_fields waiting messages,
        messages-short
            (place + 10) waiting,
        field_21 n,
        byte-field place,
        word_field (place + 1),
        word_field (place + 5),
        byte-field (place + 9),
      )

  nodes-short : (n : ℕ) → length (node_lines xs n) ≤ 9 * part_at xs n
  unfolding joined part_at
  nodes-short zero = omega arith
  nodes-short (suc n) = omega (arith, nodes-short n, node-short (part_at xs n) n, length-append (node_lines xs n) (part_line xs n))

  variable-short : (place x : ℕ) → length (variable_line xs place x) ≤ 36
  unfolding variable_line
  variable-short place x =
      let value = number_at xs (place + 4 * x) 4 in
      omega (
        arith,
        length-line var_word (x ∷ value ∷ []),
        length_fields x
            (value ∷ []),
        length_fields value [],
        no_fields,
        field_21 x,
        word_field (place + 4 * x),
      )

  snapshot-short : (nodes variables : ℕ) → length (snapshot_lines xs nodes variables) ≤ 9 * (part_at xs nodes + 4 * variables)
  unfolding snapshot_lines
  snapshot-short nodes variables =
      let lines = joined (variable_line xs (part_at xs nodes)) variables in
      omega (
        arith,
        nodes-short nodes,
        first_short (variable_line xs (part_at xs nodes)) 36
            (variable-short (part_at xs nodes)) variables,
        length-append (node_lines xs nodes) lines,
      )

-- the line of an answer and of a refusal
end_short : (x : Answer) → length (end_line x) ≤ 130
unfolding end_line fields
end_short x =
    let e = x.attempted in
    omega (
      arith,
      length-line end_word (x.stop ∷ x.turns ∷ e.node ∷ e.kind ∷ e.number ∷ e.value ∷ []),
      length_fields x.stop
          (x.turns ∷ e.node ∷ e.kind ∷ e.number ∷ e.value ∷ []),
      length_fields x.turns
          (e.node ∷ e.kind ∷ e.number ∷ e.value ∷ []),
      length_fields e.node (e.kind ∷ e.number ∷ e.value ∷ []),
      length_fields
          e.kind (e.number ∷ e.value ∷ []),
      length_fields e.number (e.value ∷ []),
      length_fields e.value [],
      no_fields,
      field_21
          x.stop,
      field_21 x.turns,
      field_21 e.node,
      field_21 e.kind,
      field_21 e.number,
      field_21 e.value,
    )

pub refused-short : (number place : ℕ) → length (refused_line number place) ≤ 50
unfolding refused_line
refused-short number place =
    omega (
      arith,
      length-line refused_word (number ∷ place ∷ []),
      length_fields number
          (place ∷ []),
      length_fields place [],
      no_fields,
      field_21 number,
      field_21 place,
    )

-- the examined total
pub total-short : (schedule : Schedule) (examined : ℕ) → length (total_lines schedule examined) ≤ 30
unfolding examined_line
total-short s.Written examined = omega arith
total-short (s.Dispatched budget) examined =
    omega (arith, length-line examined_word (examined ∷ []), length_fields examined [], no_fields, field_21 examined)

-- a run
pub run_short :
    (x : Answer) (trace snapshot : List ℕ) → Bytes trace → Bytes snapshot → (nodes variables : ℕ)
    → length (run_lines x trace snapshot nodes variables) ≤ 23 * x.turns + 130 + 9 * (part_at snapshot nodes + 4 * variables)
unfolding run_lines
run_short x trace snapshot b c nodes variables =
    let shown = snapshot_lines snapshot nodes variables in
    omega (
      arith,
      first_short (entry_line trace) 23 (entry-short trace b)
          x.turns,
      end_short x,
      snapshot-short snapshot c nodes variables,
      length-append (joined (entry_line trace) x.turns)
          (end_line x ++ shown),
      length-append (end_line x) shown,
    )

-- tallies
tally-short : (n a b c d : ℕ) → length (tally_line n (a ∷ b ∷ c ∷ d ∷ [])) ≤ 111
unfolding tally_line
tally-short n a b c d =
    omega (
      arith,
      length-line tally_word (n ∷ a ∷ b ∷ c ∷ d ∷ []),
      length_fields n (a ∷ b ∷ c ∷ d ∷ []),
      length_fields a (b ∷ c ∷ d ∷ []),
      length_fields b (c ∷ d ∷ []),
      length_fields c (d ∷ []),
      length_fields d [],
      no_fields,
      field_21 n,
      field_21 a,
      field_21 b,
      field_21 c,
      field_21 d,
    )

pub tallies_short : (P : Program) (turns : ℕ) (trace snapshot : List ℕ) (nodes : ℕ)
    → length (tally_lines P turns trace snapshot nodes) ≤ 111 * nodes
tallies_short P turns trace snapshot nodes =
    first_short (λ n. tally_line n (tally_in P turns trace snapshot n)) 111 (λ n. tally-short n _ _ _ _) nodes

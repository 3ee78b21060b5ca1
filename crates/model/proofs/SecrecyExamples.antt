-- The definitions agree with the pairs worked by hand, by computation; and the pairs of which the request says nothing tell the start.
use Prim.Native.Nat.{ℕ, ◌+◌, ◌-◌, ◌≤◌, ◌<◌}
use mathlib.Core.Path.{◌≡◌, refl, sym, ap, ◌∙◌}
use mathlib.Core.Logic.{◌⊎◌, inl, inr}
use mathlib.Core.List.{List, [], ◌∷◌, ◌++◌, map}
use native.Mathlib.Omega.{arith}
use lib.ListN.{length, get_or, length-append}
use Rattle.model.specs.Table.{operands_in, operands_of, is_among, largest_in, largest_of}
use Rattle.model.specs.Command.{number_at, read_command}
use Rattle.model.specs.Declared.{count_of, count_among, occurs, in_span, declared, reply_of, open_body, body_length, handler_of, has}
use Rattle.model.specs.Declared.{starts_of, started_in, turns_of}
use Rattle.model.specs.Program.{program_of}
use Rattle.model.specs.State.{tabulate, initial_state}
use Rattle.model.specs.Turn.{some_below, delivered, turn}
use Rattle.model.specs.Permission.{monitored_turn}
use Rattle.model.specs.Run.{run_from, unmonitored_run, monitored_run}
use Rattle.model.specs.Output.{trace_bytes, messages_bytes, nodes_bytes, variables_bytes, snapshot_bytes}
use Rattle.model.specs.Refusal.{any_of, group_falls, violation, decode_from, decode, refuse_first, decode_job, decode_for, Sizes}
use Rattle.model.specs.Refusal.{commands_of}
use Rattle.model.specs.Result.{Result, report, monitored, unmonitored}
use Rattle.model.specs.Dispatch.{first_from, choose, dispatch_from, monitored_dispatch, examined_in}
use Rattle.model.specs.DispatchResult.{decode_under, decode_dispatch, dispatch_monitored}
use Rattle.model.specs.Examples.{Example, outcome, enough, monitored_row, unmonitored_row, times, k1_read, four, traced, node_part}
use Rattle.model.specs.Examples.{idle_node, waits, ends, no_entry}
use Rattle.model.specs.DispatchExamples.{dispatch_outcome, row_with, dispatched_row, refused_row}
use Rattle.model.specs.Secrecy.{SameBut, begin, further}
use Rattle.model.specs.SecrecyExamples.{reader, card_reader, card_writer, stopped_read, read_and_sent, overwritten, secrecy_rows}
use Rattle.model.specs.SecrecyExamples.{secrecy_dispatch_rows, SecrecyExamplesHold, trace_handed, Reveals, NotSaid}
use Rattle.model.proofs.Lists.{append_at}
use Rattle.model.proofs.Secrets.{secrets_found}

pub secrecy_examples_hold : SecrecyExamplesHold
unfolding operands_in operands_of is_among largest_in largest_of
    number_at read_command
    count_of count_among occurs in_span declared reply_of open_body body_length handler_of has starts_of started_in turns_of
    program_of tabulate initial_state
    some_below delivered turn monitored_turn
    run_from unmonitored_run monitored_run
    trace_bytes messages_bytes nodes_bytes variables_bytes snapshot_bytes
    any_of group_falls violation decode_from decode refuse_first decode_job decode_for
    report monitored unmonitored
    first_from choose dispatch_from monitored_dispatch examined_in
    decode_under decode_dispatch dispatch_monitored
    outcome enough monitored_row unmonitored_row times k1_read four traced node_part idle_node waits ends no_entry
    dispatch_outcome row_with dispatched_row refused_row
    reader card_writer stopped_read read_and_sent overwritten secrecy_rows secrecy_dispatch_rows
secrecy_examples_hold = (refl, refl)

-- the result that a row is proved to have
row-holds : (k : ℕ) → get_or (map outcome secrecy_rows) k overwritten ≡ get_or (map (λ (e : Example). e.expected) secrecy_rows) k overwritten
row-holds k = ap (λ (l : List Result). get_or l k overwritten) secrecy_examples_hold.0

-- the bytes before and behind four bytes are the same
same_between : (front middle middle' back : List ℕ) → length middle ≡ 4 → length middle' ≡ 4
    → SameBut (length front) (front ++ (middle ++ back)) (front ++ (middle' ++ back))
same_between front middle middle' back four four' =
    record {
      same_length =
          omega (
            arith,
            length-append front (middle ++ back),
            length-append front (middle' ++ back),
            length-append middle back,
            length-append middle' back,
          );
      elsewhere = λ i h.
          append_at front front (middle ++ back) (middle' ++ back) i refl (λ _. refl)
          (λ l. append_at middle middle' back back (i - length front) (omega arith) (λ m. absurd (inside i l m h)) (λ _. refl));
    }
  where
    inside : (i : ℕ) → length front ≤ i → i - length front < length middle → (i < length front) ⊎ (length front + 4 ≤ i) → ⊥
    inside i l m (inl h) = omega arith
    inside i l m (inr h) = omega arith

same-reader : (scope : ℕ) (lists : List ℕ) → SameBut 6 (reader scope lists 3 5) (reader scope lists 3 6)
unfolding reader four
same-reader scope lists = same_between (0x01 ∷ 0x02 ∷ 0x02 ∷ 0x10 ∷ scope ∷ 0x00 ∷ []) (four 5) (four 6) _ refl refl

-- byte 17 of the trace is the lowest of the value that is sent
reveals :
    (run : List ℕ → Sizes → Result) (scope : ℕ) (lists : List ℕ) (kind kind' v v' : ℕ)
    → run (reader scope lists 3 5) enough ≡ read_and_sent (traced 0 kind 0 v) 5
    → run (reader scope lists 3 6) enough ≡ read_and_sent (traced 0 kind' 0 v') 6 → Reveals run (reader scope lists 3)
unfolding read_and_sent traced four ends
reveals run scope lists kind kind' v v' five six =
    record {
      same_but = same-reader scope lists;
      differ = λ e.
          let w : ◌≡◌ {A = ℕ} 5 6 = ap (λ (t : List ℕ). get_or t 17 0) (sym (ap trace_handed five) ∙ e ∙ ap trace_handed six) in
          omega arith;
    }

pub not-said : NotSaid
unfolding operands_in operands_of is_among largest_in largest_of
    number_at read_command
    count_of count_among occurs declared open_body body_length handler_of has started_in
    program_of
    any_of group_falls violation decode_from decode refuse_first decode_job
    times four k1_read reader
    outcome monitored_row unmonitored_row secrecy_rows
not-said =
    let past = commands_of (decode_job (card_reader 5)) in
    let found = secrets_found (card_reader 5) past refl 0 refl (λ n. refl) in
    record {
      is_secret =
          record {
            before = _;
            declaration = _;
            next = 10;
            spelled = further 3 _ _ 10 (further 2 _ _ 3 (further 1 _ _ 2 (further 0 _ _ 1 begin refl) refl) refl) refl;
            is_variable = refl;
            number = refl;
            start = refl;
            shared_scope = refl;
            unread = found.1.unread;
          };
      unmonitored_reveals = reveals unmonitored 1 [] 3 3 5 6 (row-holds 8) (row-holds 9);
      own_unread = λ n. refl;
      own_reveals = reveals monitored 0 [] 0 0 0 0 (row-holds 10) (row-holds 11);
      readable_shared = refl;
      readable_reveals = reveals monitored 1 k1_read 3 3 5 6 (row-holds 12) (row-holds 13);
    }

-- 4,096 turns are accepted and 4,097 are refused: by one law for a TURN after a job, and not by computation.
use Prim.Native.Nat.{ℕ, zero, suc, ◌+◌, ◌*◌, ◌≤◌}
use mathlib.Core.Path.{◌≡◌, refl, sym, ap, ◌∙◌}
use mathlib.Core.List.{List, [], ◌∷◌, ◌++◌, append_assoc, append-nil}
use native.Mathlib.Omega.{arith}
use native.Mathlib.Numerals.{add-one}
use lib.ListN.{length, replicate, length-append, replicate-append-replicate}
use Rattle.model.specs.Table.{FLOW, NODE, TURN, operands_in, operands_of, is_among, largest_in, largest_of, max_turns}
use Rattle.model.specs.Command.{Command, binary, number_at, read_command}
use Rattle.model.specs.Declared.{count_of, count_among, declared, starts_of, turns_of}
use Rattle.model.specs.Program.{program_of}
use Rattle.model.specs.State.{tabulate, initial_state}
use Rattle.model.specs.Turn.{entry, turn}
use Rattle.model.specs.Permission.{monitored_turn}
use Rattle.model.specs.Run.{run_from, monitored_run}
use Rattle.model.specs.Output.{trace_bytes, messages_bytes, nodes_bytes, variables_bytes, snapshot_bytes}
use Rattle.model.specs.Refusal.{any_of, group_falls, violation, refuse, accepted, rejected, decode_from, decode, refuse_first, decode_job}
use Rattle.model.specs.Result.{refused, report, monitored}
use Rattle.model.specs.Examples.{enough, times, four, node_part, idle_node, ends, many_turns, TurnLimit}
use Rattle.model.proofs.Program.{program-turn}
use Rattle.model.proofs.Valid.{job-accepted}
use Rattle.model.proofs.Results.{decode-job-rejected, decode_for_rejected, decode_for_accepted, monitored-refused, monitored-ran}
use Rattle.model.proofs.Retracing.{read-accepted}
use Rattle.model.proofs.Appending.{turn_at, turn_appended, turn-refused}

-- one turn more stands at the end
times_snoc : (k : ℕ) (bytes : List ℕ) → times (suc k) bytes ≡ times k bytes ++ bytes
unfolding times
times_snoc zero bytes = append-nil bytes
times_snoc (suc k) bytes = ap (λ (l : List ℕ). bytes ++ l) (times_snoc k bytes) ∙ sym (append_assoc bytes (times k bytes) bytes)

many_snoc : (k : ℕ) → many_turns (suc k) ≡ many_turns k ++ (TURN ∷ 0 ∷ [])
unfolding many_turns
many_snoc k = ap (λ (l : List ℕ). FLOW ∷ NODE ∷ l) (times_snoc k (TURN ∷ 0 ∷ []))

length_many : (k : ℕ) → length (many_turns k) ≡ 2 + 2 * k
unfolding many_turns times
length_many zero = refl
length_many (suc k) = omega (arith, ap length (many_snoc k), length-append (many_turns k) (TURN ∷ 0 ∷ []), length_many k)

-- the commands of the job with this many turns
abbrev turn_commands : ℕ → List Command
turn_commands zero = record { place = 1; byte = NODE; operands = binary 0 0 } ∷ record { place = 0; byte = FLOW; operands = binary 0 0 } ∷ []
turn_commands (suc k) = turn_at (2 + 2 * k) 0 ∷ turn_commands k

count-turns : (k : ℕ) → count_of TURN (turn_commands k) ≡ k
unfolding count_of
count-turns zero = refl
count-turns (suc k) = omega (arith, count-turns k)

count-nodes : (k : ℕ) → count_of NODE (turn_commands k) ≡ 1
unfolding count_of
count-nodes zero = refl
count-nodes (suc k) = count-nodes k

turns_same : (k : ℕ) → turns_of (turn_commands k) ≡ replicate k 0
unfolding turns_of
turns_same zero = refl
turns_same (suc k) = ap (λ (l : List ℕ). l ++ (0 ∷ [])) (turns_same k) ∙ replicate-append-replicate k 1 0
    ∙ ap (λ (m : ℕ). replicate m 0) (add-one k)

program-same : (k : ℕ) → program_of (turn_commands k) ≡ program_of (turn_commands 0)
program-same zero = refl
program-same (suc k) = program-turn (turn_at (2 + 2 * k) 0) (turn_commands k) refl ∙ program-same k

-- up to 4,096 turns the job is accepted
none-decoded : decode_job (many_turns 0) ≡ accepted (turn_commands 0)
unfolding many_turns times decode_job decode decode_from read_command operands_of operands_in number_at violation group_falls any_of largest_of
    largest_in is_among count_among count_of refuse_first
none-decoded = refl

decoded : (k : ℕ) → k ≤ max_turns → decode_job (many_turns k) ≡ accepted (turn_commands k)
decoded zero h = none-decoded
decoded (suc k) h =
    rw (many_snoc k)
    (turn_appended (many_turns k) (turn_commands k) (decoded k (omega arith)) 0 (omega (arith, count-nodes k)) (omega (arith, length_many k))
    (omega (arith, count-turns k))
    ∙ ap (λ (m : ℕ). accepted (turn_at m 0 ∷ turn_commands k)) (length_many k))

-- the first turn stops: the node is idle and has no message
stops_at_once : (turns : List ℕ) → report (program_of (turn_commands 0)) (monitored_run (program_of (turn_commands 0)) (0 ∷ turns)) ≡ ends 2 0
    (entry 0 0 0 0) [] idle_node
unfolding report monitored_run run_from monitored_turn turn initial_state tabulate program_of declared count_of starts_of trace_bytes snapshot_bytes
    nodes_bytes messages_bytes variables_bytes ends idle_node node_part four
stops_at_once turns = refl

many_accepted : (k : ℕ) → suc k ≤ max_turns → monitored (many_turns (suc k)) enough ≡ ends 2 0 (entry 0 0 0 0) [] idle_node
unfolding enough
many_accepted k h =
    monitored-ran (many_turns (suc k)) enough (turn_commands (suc k))
    (decode_for_accepted (many_turns (suc k)) enough (turn_commands (suc k)) (decoded (suc k) h) (omega (arith, count-turns (suc k)))
    (omega arith) (omega arith))
    ∙ rw (program-same (suc k), turns_same (suc k)) (stops_at_once (replicate k 0))

many_refused : monitored (many_turns (suc max_turns)) enough ≡ refused (refuse 5 8194)
many_refused =
    let e = read-accepted (many_turns max_turns) (turn_commands max_turns)
    (job-accepted (many_turns max_turns) (turn_commands max_turns) (decoded max_turns (omega arith))).read in
    let r =
    turn-refused (many_turns max_turns) (turn_commands max_turns) e 0 (omega (arith, count-nodes max_turns))
    (omega (arith, length_many max_turns))
    (omega (arith, count-turns max_turns)) in
    let s : decode (many_turns (suc max_turns)) ≡ rejected (refuse 5 8194) = ap decode (many_snoc max_turns) ∙ r
    ∙ ap (λ (m : ℕ). rejected (refuse 5 m)) (length_many max_turns) in
    monitored-refused (many_turns (suc max_turns)) enough (refuse 5 8194)
    (decode_for_rejected (many_turns (suc max_turns)) enough (refuse 5 8194)
    (decode-job-rejected (many_turns (suc max_turns)) (refuse 5 8194) s))

pub turn-limit : TurnLimit
turn-limit = record { reached = many_accepted 4095 (omega arith); passed = many_refused }

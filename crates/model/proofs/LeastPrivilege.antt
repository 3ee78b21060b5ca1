-- Test 19 refuses a job exactly if a permission of it has no command in its node's handler that uses it (S-7), and does nothing else.
use Prim.Native.Nat.{ℕ}
use mathlib.Core.Path.{◌≡◌, refl, sym, ap, ◌∙◌}
use mathlib.Core.Logic.{◌⊎◌, inl, inr}
use mathlib.Core.Bool.{Bool, true, false, cond, not, ◌&&◌, ◌||◌}
use mathlib.Core.List.{List, [], ◌∷◌}
use Rattle.std.proofs.Common.{Option, None, Some}
use native.Mathlib.Omega.{arith}
use borrow.Author.Tests.{eqb-true, eq-eqb}
use Rattle.model.specs.Table.{ANY, ARG, READ, WRITE, SPAN, GET, PUT, PLUS, CALL, absent, kind_at, operands_in, operands_of, is_among}
use Rattle.model.specs.Command.{Operands, Command, is, quaternary, ternary, binary}
use Rattle.model.specs.Declared.{is_same, occurs}
use Rattle.model.specs.Program.{Program, program_of}
use Rattle.model.specs.Run.{Run, monitored_run, unmonitored_run}
use Rattle.model.specs.Refusal.{any_of, refuse, Refusal, Decoded, accepted, rejected, accept_unless, and_then, decode, first_of}
use Rattle.model.specs.Refusal.{refuse_first, far_jump, handler_reads, handler_writes, handler_calls, is_unused, unused_permission}
use Rattle.model.specs.Refusal.{decode_job, short_buffer, decode_for}
use Rattle.model.specs.Result.{refused, result_of, monitored, unmonitored}
use Rattle.model.specs.LeastPrivilege.{HasCommand, LeastPrivilege, OnlyRefuses, LeastPrivilegeHolds}
use Rattle.model.specs.Valid.{Valid, Plain}
use Rattle.model.proofs.Logic.{true_false, not_turned, or_first, or_second, none_of}
use Rattle.model.proofs.Naming.{same_byte, equal_operands}
use Rattle.model.proofs.Handling.{has_either, has-command, command-has}
use Rattle.model.proofs.Positions.{first-none}
use Rattle.model.proofs.Scanning.{refuse-on}
use Rattle.model.proofs.Results.{and_then_accepted, decode-job-accepted}
use Rattle.model.proofs.Valid.{decoded-valid, job-accepted}

-- a command with this byte and these operands that a later test did not find
record Unfound (test : List Command → Command → Bool) (b : ℕ) (x : Operands) : Type 0 where
  before : List Command
  place : ℕ
  passes : test before (record { place = place; byte = b; operands = x }) ≡ false

unfound :
    (k : ℕ) (test : List Command → Command → Bool) (b : ℕ) (x : Operands) (past : List Command)
    → refuse_first k test past ≡ None → occurs b x past ≡ true → Unfound test b x
unfolding occurs
unfound k test b x [] e there = true_false (sym there)
unfound k test b x (c ∷ past) e there =
    by_same (is_same b x c) refl there (unfound k test b x past (first-none k test c past e).0)
  where
    by_same :
        (t : Bool) → is_same b x c ≡ t → (t || occurs b x past) ≡ true → (occurs b x past ≡ true → Unfound test b x)
        → Unfound test b x
    by_same true p q rest =
        let passed = (first-none k test c past e).1 in
        let byte = same_byte b x c p in
        let operands = equal_operands b x c p in
        record { before = past; place = c.place; passes = rw (← byte, ← operands) passed }
    by_same false p q rest = rest q

-- where test 19 finds none, each permission has a command
module _ (past : List Command) (used : unused_permission past ≡ None) where
  found : (b : ℕ) (x : Operands) → occurs b x past ≡ true → Unfound (is_unused past) b x
  found b x = unfound 19 (is_unused past) b x past used

  reads_used : (n x : ℕ) → occurs READ (binary n x) past ≡ true
      → HasCommand (program_of past) n GET x ⊎ HasCommand (program_of past) n PLUS x
  reads_used n x e = has_either past n GET PLUS x (not_turned _ false (none_of 0 _ (found READ (binary n x) e).passes))

  writes_used : (n x : ℕ) → occurs WRITE (binary n x) past ≡ true → HasCommand (program_of past) n PUT x
  writes_used n x e = has-command past n PUT x (not_turned _ false (none_of 1 _ (found WRITE (binary n x) e).passes))

  anys_used : (n f : ℕ) → occurs ANY (binary n f) past ≡ true → HasCommand (program_of past) n CALL f
  anys_used n f e = has-command past n CALL f (not_turned _ false (none_of 2 _ (found ANY (binary n f) e).passes))

  arguments_used : (n f v : ℕ) → occurs ARG (ternary n f v) past ≡ true → HasCommand (program_of past) n CALL f
  arguments_used n f v e = has-command past n CALL f (not_turned _ false (none_of 3 _ (found ARG (ternary n f v) e).passes))

  spans_used : (n f low high : ℕ) → occurs SPAN (quaternary n f low high) past ≡ true → HasCommand (program_of past) n CALL f
  spans_used n f low high e = has-command past n CALL f (not_turned _ false (none_of 4 _ (found SPAN (quaternary n f low high) e).passes))

-- a command is the same as itself
same_self : (c : Command) → is_same c.byte c.operands c ≡ true
same_self c =
    rw (
      eq-eqb c.byte c.byte refl,
      eq-eqb c.operands.first c.operands.first refl,
      eq-eqb c.operands.second c.operands.second refl,
      eq-eqb c.operands.third c.operands.third refl,
      eq-eqb c.operands.fourth c.operands.fourth refl,
    )

-- the converse: where each permission has a command, test 19 finds none
module _ (all : List Command) (used : LeastPrivilege all) where
  -- a line of the test
  line : (t u : Bool) → (t ≡ true → u ≡ true) → (t && not u) ≡ false
  line true u e = rw (e refl)
  line false u e = refl

  reads-either : (n x : ℕ) → HasCommand (program_of all) n GET x ⊎ HasCommand (program_of all) n PLUS x → handler_reads all n x ≡ true
  unfolding is_among
  reads-either n x (inl h) = command-has all n GET x (GET ∷ PLUS ∷ []) refl h
  reads-either n x (inr h) = command-has all n PLUS x (GET ∷ PLUS ∷ []) refl h

  module _ (before : List Command) (c : Command) (plain : Plain c) (there : occurs c.byte c.operands all ≡ true) where
    -- it occurs with its byte, and with as many operands as that has
    known : (b : ℕ) → is b c ≡ true → occurs b c.operands all ≡ true
    known b e = let byte = eqb-true c.byte b e in rw byte at there

    known_two : (b : ℕ) → kind_at b 2 ≡ absent → kind_at b 3 ≡ absent → is b c ≡ true
        → occurs b (binary c.operands.first c.operands.second) all ≡ true
    known_two b z w e =
        let byte = eqb-true c.byte b e in
        let third : c.operands.third ≡ 0 = plain.third (rw byte z) in
        let fourth : c.operands.fourth ≡ 0 = plain.fourth (rw byte w) in
        let same : c.operands ≡ binary c.operands.first c.operands.second = λ i. record {
          first = c.operands.first;
          second = c.operands.second;
          third = third i;
          fourth = fourth i;
        } in
        sym (ap (λ (y : Operands). occurs b y all) same) ∙ known b e

    known_three : (b : ℕ) → kind_at b 3 ≡ absent → is b c ≡ true
        → occurs b (ternary c.operands.first c.operands.second c.operands.third) all ≡ true
    known_three b w e =
        let fourth : c.operands.fourth ≡ 0 = plain.fourth (rw (eqb-true c.byte b e) w) in
        let same : c.operands ≡ ternary c.operands.first c.operands.second c.operands.third = λ i. record {
          first = c.operands.first;
          second = c.operands.second;
          third = c.operands.third;
          fourth = fourth i;
        } in
        sym (ap (λ (y : Operands). occurs b y all) same) ∙ known b e

    used_here : is_unused all before c ≡ false
    unfolding any_of operands_of operands_in is_among
    used_here =
        let n = c.operands.first in
        let x = c.operands.second in
        let v = c.operands.third in
        let called : HasCommand (program_of all) n CALL x → handler_calls all n x ≡ true = command-has all n CALL x (CALL ∷ []) refl in
        rw (
          line (is READ c) (handler_reads all n x) (λ e. reads-either n x (used.reads n x (known_two READ refl refl e))),
          line (is WRITE c) (handler_writes all n x)
              (λ e. command-has all n PUT x (PUT ∷ []) refl (used.writes n x (known_two WRITE refl refl e))),
          line (is ANY c) (handler_calls all n x) (λ e. called (used.anys n x (known_two ANY refl refl e))),
          line (is ARG c) (handler_calls all n x) (λ e. called (used.arguments n x v (known_three ARG refl e))),
          line (is SPAN c) (handler_calls all n x) (λ e. called (used.spans n x v c.operands.fourth (known SPAN e))),
        )

  all_used : (past : List Command) → Valid past → ((b : ℕ) (x : Operands) → occurs b x past ≡ true → occurs b x all ≡ true)
      → refuse_first 19 (is_unused all) past ≡ None
  unfolding refuse_first occurs
  all_used [] valid within = refl
  all_used (c ∷ past) valid within =
      refuse-on 19 (is_unused all) past c
      (used_here past c valid.1 (within c.byte c.operands (or_first (is_same c.byte c.operands c) _ (same_self c))))
      ∙ all_used past valid.0 (λ b x e. within b x (or_second (is_same b x c) (occurs b x past) e))

-- the number of a later test's refusal is the test's
first-number : (k : ℕ) (test : List Command → Command → Bool) (past : List Command) (r : Refusal) → refuse_first k test past ≡ Some r
    → (place : ℕ) × (r ≡ refuse k place)
unfolding refuse_first
first-number k test [] r e = let w : ◌≡◌ {A = ℕ} 0 1 = cc in absurd (omega arith)
first-number k test (c ∷ past) r e = by_rest (refuse_first k test past) refl (test past c) e (first-number k test past r)
  where
    by_rest :
        (o : Option Refusal) → refuse_first k test past ≡ o → (t : Bool) → first_of o (cond t (Some (refuse k c.place)) None) ≡ Some r
        → (refuse_first k test past ≡ Some r → (place : ℕ) × (r ≡ refuse k place)) → (place : ℕ) × (r ≡ refuse k place)
    by_rest (Some q) p t f rest = rest (p ∙ f)
    by_rest None p true f rest = (c.place, cc)
    by_rest None p false f rest = let w : ◌≡◌ {A = ℕ} 0 1 = cc in absurd (omega arith)

-- a job that test 19 does not refuse has the result that it has without it
only-refuses : (run : Program → List ℕ → Run) → OnlyRefuses run (λ job b. result_of run (decode_for job b))
unfolding decode_for decode_job
only-refuses run job b = by_decoded (and_then far_jump (decode job))
  where
    by_test :
        (past : List Command) (o : Option Refusal) → unused_permission past ≡ o
        → ((place : ℕ) × (result_of run (and_then (short_buffer job b) (accept_unless past o)) ≡ refused (refuse 19 place)))
        ⊎ (result_of run (and_then (short_buffer job b) (accept_unless past o)) ≡ result_of run (and_then (short_buffer job b) (accepted past)))
    by_test past None e = inr refl
    by_test past (Some r) e = let f = first-number 19 (is_unused past) past r e in inl (f.0, ap refused f.1)

    by_decoded :
        (d : Decoded)
        → ((place : ℕ) × (result_of run (and_then (short_buffer job b) (and_then unused_permission d)) ≡ refused (refuse 19 place)))
        ⊎ (result_of run (and_then (short_buffer job b) (and_then unused_permission d)) ≡ result_of run (and_then (short_buffer job b) d))
    by_decoded (rejected r) = inr refl
    by_decoded (accepted past) = by_test past (unused_permission past) refl

pub least_privilege : LeastPrivilegeHolds
unfolding monitored unmonitored
least_privilege =
    record {
      of_accepted = λ job past e.
          let used = (job-accepted job past e).permissions in
          record {
            reads = reads_used past used;
            writes = writes_used past used;
            anys = anys_used past used;
            arguments = arguments_used past used;
            spans = spans_used past used;
          };
      of_used = λ job past e used.
          let d = and_then_accepted far_jump (decode job) past e in
          decode-job-accepted job past d.0 d.1 (all_used past used past (decoded-valid job past d.0) (λ b x o. o));
      of_monitored = only-refuses monitored_run;
      of_unmonitored = only-refuses unmonitored_run;
    }

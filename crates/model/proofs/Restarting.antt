-- The commands of a job with another start of one variable: all that commands declare, and all tests, stay as they are; only that start
-- differs.
use Prim.Native.Nat.{ℕ, ◌-◌}
use mathlib.Core.Path.{◌≡◌, refl, sym, ap, ◌∙◌}
use mathlib.Core.Bool.{Bool, true, false, cond, ◌&&◌, ◌||◌}
use mathlib.Core.List.{List, [], ◌∷◌}
use Rattle.std.proofs.Common.{Option, None, Some, unwrap_or, is_some}
use lib.Dec.{eqb}
use borrow.Author.Tests.{eqb-true, eqb-false, ne_eqb}
use Rattle.model.specs.Table.{FLOW, NODE, VAR, FUN, REPLY, WIRE, ANY, ARG, READ, WRITE, SPAN, BODY, START, operands_in, operands_of}
use Rattle.model.specs.Table.{Limit, largest_of}
use Rattle.model.specs.Command.{Operands, quaternary, ternary, binary, Command, is}
use Rattle.model.specs.Declared.{count_of, count_among, is_same, occurs, span_permits, in_span, declared, flow_of, scope_of, owner_of}
use Rattle.model.specs.Declared.{start_of, fun_answer_of, is_reply, reply_of, answer_of, open_body, body_length, handler_of}
use Rattle.model.specs.Declared.{starts_of, started_in, turns_of}
use Rattle.model.specs.Program.{Program, program_of}
use Rattle.model.specs.Refusal.{any_of, group_falls, is_reached, exceeds_count, undeclared, out_of_reach, must_differ, repeated, empty_span}
use Rattle.model.specs.Refusal.{violation, Refusal, refuse, first_of, refuse_first, is_far_jump, far_jump, is_unused, unused_permission}
use Rattle.model.specs.DispatchResult.{written_turn}
use Rattle.model.proofs.Program.{agree}

-- the command with another third operand, if a test passes
abbrev pub revised : Bool → ℕ → Command → Command
revised t v c =
    record {
      place = c.place;
      byte = c.byte;
      operands = quaternary c.operands.first c.operands.second (cond t v c.operands.third) c.operands.fourth;
    }

-- after these commands, the command is the VAR of variable x
abbrev pub is_declaration_of : ℕ → List Command → Command → Bool
is_declaration_of x past c = is VAR c && eqb (count_of VAR past) x

-- the commands with the start v of variable x
unfoldable pub restarted : ℕ → ℕ → List Command → List Command
restarted x v [] = []
restarted x v (c ∷ past) = revised (is_declaration_of x past c) v c ∷ restarted x v past

-- the program with other starts
abbrev pub with_start_values : Program → (ℕ → ℕ) → Program
with_start_values P starts =
    record {
      flows = P.flows;
      nodes = P.nodes;
      variables = P.variables;
      functions = P.functions;
      flow = P.flow;
      scope = P.scope;
      owner = P.owner;
      start_value = starts;
      answer = P.answer;
      wired = P.wired;
      may_call = P.may_call;
      may_read = P.may_read;
      may_write = P.may_write;
      handler = P.handler;
      first_messages = P.first_messages;
    }

module _ (x v : ℕ) where
  -- what commands declare by their bytes and first two operands
  pub count_re : (b : ℕ) (past : List Command) → count_of b (restarted x v past) ≡ count_of b past
  unfolding restarted count_of
  count_re b [] = refl
  count_re b (c ∷ past) = rw (count_re b past)

  among_re : (bytes : List ℕ) (past : List Command) → count_among bytes (restarted x v past) ≡ count_among bytes past
  unfolding count_among
  among_re [] past = refl
  among_re (b ∷ bytes) past = rw (count_re b past, among_re bytes past)

  declared_re :
      (value : Command → List Command → ℕ) (b : ℕ)
      → ((t : Bool) (c : Command) (past : List Command) → value (revised t v c) (restarted x v past) ≡ value c past)
      → (past : List Command) (y : ℕ) → declared value b (restarted x v past) y ≡ declared value b past y
  unfolding restarted declared
  declared_re value b h [] y = refl
  declared_re value b h (c ∷ past) y =
      rw (count_re b past, h (is_declaration_of x past c) c past, declared_re value b h past y)

  flow_re : (past : List Command) (n : ℕ) → flow_of (restarted x v past) n ≡ flow_of past n
  flow_re = declared_re (λ c before. count_of FLOW before - 1) NODE (λ t c past. ap (λ (k : ℕ). k - 1) (count_re FLOW past))

  scope_re : (past : List Command) (y : ℕ) → scope_of (restarted x v past) y ≡ scope_of past y
  scope_re = declared_re (λ c before. c.operands.first) VAR (λ t c past. refl)

  owner_re : (past : List Command) (y : ℕ) → owner_of (restarted x v past) y ≡ owner_of past y
  owner_re = declared_re (λ c before. c.operands.second) VAR (λ t c past. refl)

  fun_re : (past : List Command) (f : ℕ) → fun_answer_of (restarted x v past) f ≡ fun_answer_of past f
  fun_re = declared_re (λ c before. c.operands.first) FUN (λ t c past. refl)

  -- what is asked of all operands of a command, but of no VAR
  other_re :
      {A : Type 0} (f : Command → A) → ((t : Bool) (c : Command) → is VAR c ≡ true → f (revised t v c) ≡ f c)
      → (t : Bool) (c : Command) → f (revised (is VAR c && t) v c) ≡ f c
  other_re f h t c = by_byte (is VAR c) refl
    where
      by_byte : (u : Bool) → is VAR c ≡ u → f (revised (u && t) v c) ≡ f c
      by_byte true p = h t c p
      by_byte false p = refl

  -- a VAR has no other byte
  no_other : (b : ℕ) (c : Command) → eqb b VAR ≡ false → is VAR c ≡ true → is b c ≡ false
  no_other b c o p = ne_eqb c.byte b (λ e. eqb-false b VAR o (sym e ∙ eqb-true c.byte VAR p))

  pub occurs_re : (b : ℕ) (y : Operands) → eqb b VAR ≡ false → (past : List Command) → occurs b y (restarted x v past) ≡ occurs b y past
  unfolding restarted occurs
  occurs_re b y o [] = refl
  occurs_re b y o (c ∷ past) =
      λ i. other_re (is_same b y) (λ t d p. rw (no_other b d o p)) (eqb (count_of VAR past) x) c i || occurs_re b y o past i

  span_re : (n f argument : ℕ) (past : List Command) → in_span n f argument (restarted x v past) ≡ in_span n f argument past
  unfolding restarted in_span
  span_re n f argument [] = refl
  span_re n f argument (c ∷ past) =
      λ i.
      other_re (span_permits n f argument) (λ t d p. rw (no_other SPAN d refl p)) (eqb (count_of VAR past) x) c i
      || span_re n f argument past i

  reply_re : (past : List Command) (f argument : ℕ) → reply_of (restarted x v past) f argument ≡ reply_of past f argument
  unfolding restarted reply_of
  reply_re [] f argument = refl
  reply_re (c ∷ past) f argument =
      rw (reply_re past f argument)
      (other_re (λ (d : Command). cond (is_reply f argument d) (Some d.operands.third) (reply_of past f argument))
      (λ t d p. rw (no_other REPLY d refl p)) (eqb (count_of VAR past) x) c)

  answer_re : (past : List Command) (f argument : ℕ) → answer_of (restarted x v past) f argument ≡ answer_of past f argument
  answer_re past f argument = λ i. unwrap_or (reply_re past f argument i) (fun_re past f i)

  open_re : (past : List Command) → open_body (restarted x v past) ≡ open_body past
  unfolding restarted open_body
  open_re [] = refl
  open_re (c ∷ past) = rw (open_re past)

  body_re : (past : List Command) (n : ℕ) → body_length (restarted x v past) n ≡ body_length past n
  unfolding restarted body_length
  body_re [] n = refl
  body_re (c ∷ past) n = rw (open_re past, body_re past n)

  handler_re : (past : List Command) (n : ℕ) → handler_of (restarted x v past) n ≡ handler_of past n
  unfolding restarted handler_of
  handler_re [] n = refl
  handler_re (c ∷ past) n = rw (open_re past, handler_re past n)

  starts_re : (past : List Command) (n : ℕ) → starts_of (restarted x v past) n ≡ starts_of past n
  unfolding restarted starts_of
  starts_re [] n = refl
  starts_re (c ∷ past) n = rw (starts_re past n)

  started_re : (past : List Command) (flow : ℕ) → started_in (restarted x v past) flow ≡ started_in past flow
  unfolding restarted started_in
  started_re [] flow = refl
  started_re (c ∷ past) flow = rw (flow_re past c.operands.first, started_re past flow)

  pub turns_re : (past : List Command) → turns_of (restarted x v past) ≡ turns_of past
  unfolding restarted turns_of
  turns_re [] = refl
  turns_re (c ∷ past) = rw (turns_re past)

  -- the tests 4 to 8 and 15 of a command behind them
  falls_re : (past : List Command) (c : Command) → group_falls (restarted x v past) c ≡ group_falls past c
  unfolding restarted group_falls
  falls_re [] c = refl
  falls_re (d ∷ past) c = rw (falls_re past c)

  reached_re : (o : Option Limit) (past : List Command) → is_reached o (restarted x v past) ≡ is_reached o past
  reached_re None past = refl
  reached_re (Some l) past = rw (among_re l.bytes past)

  exceeds_re : (past : List Command) (c : Command) → exceeds_count (restarted x v past) c ≡ exceeds_count past c
  exceeds_re past c = rw (reached_re (largest_of c.byte) past, open_re past, body_re past (open_body past))

  undeclared_re : (past : List Command) (c : Command) → undeclared (restarted x v past) c ≡ undeclared past c
  undeclared_re past c = rw (count_re FLOW past, count_re NODE past, count_re VAR past, count_re FUN past, count_re BODY past)

  reach_re : (past : List Command) (c : Command) → out_of_reach (restarted x v past) c ≡ out_of_reach past c
  reach_re past c =
      rw (
        flow_re past c.operands.first,
        flow_re past c.operands.third,
        open_re past,
        flow_re past (open_body past),
        scope_re past c.operands.first,
        owner_re past c.operands.first,
        scope_re past c.operands.second,
        owner_re past c.operands.second,
      )

  differs_re : (past : List Command) (c : Command)
      → (must_differ c && occurs c.byte c.operands (restarted x v past)) ≡ (must_differ c && occurs c.byte c.operands past)
  differs_re past c = by_byte (eqb c.byte VAR) refl
    where
      by_byte : (u : Bool) → eqb c.byte VAR ≡ u
          → (must_differ c && occurs c.byte c.operands (restarted x v past)) ≡ (must_differ c && occurs c.byte c.operands past)
      by_byte true p = rw (eqb-true c.byte VAR p)
      by_byte false p = ap (λ (b : Bool). must_differ c && b) (occurs_re c.byte c.operands p past)

  repeated_re : (past : List Command) (c : Command) → repeated (restarted x v past) c ≡ repeated past c
  repeated_re past c =
      λ i.
      any_of
      (differs_re past c i
      ∷ (is START c && started_re past (flow_re past c.operands.first i) i)
      ∷ (is REPLY c && is_some (reply_re past c.operands.first c.operands.second i))
      ∷ [])

  violation_re : (past : List Command) (c : Command) → violation (restarted x v past) c ≡ violation past c
  unfolding violation
  violation_re past c =
      λ i.
      cond (falls_re past c i) 4
      (cond (exceeds_re past c i) 5
      (cond (undeclared_re past c i) 6
      (cond (reach_re past c i) 7
      (cond (repeated_re past c i) 8
      (cond (empty_span c) 15 0)))))

  -- of a VAR with another start
  falls_revised : (past : List Command) (c : Command) (t : Bool) → group_falls past (revised t v c) ≡ group_falls past c
  unfolding group_falls
  falls_revised [] c t = refl
  falls_revised (d ∷ past) c t = rw (falls_revised past c t)

  violation-revised : (past : List Command) (c : Command) (t : Bool) → c.byte ≡ VAR → violation past (revised t v c) ≡ violation past c
  unfolding violation operands_of operands_in any_of
  violation-revised past c t e = rw (falls_revised past c t, e)

  -- and so of any command, with the other start if it is the variable's VAR
  pub violation-both : (past : List Command) (c : Command)
      → violation (restarted x v past) (revised (is_declaration_of x past c) v c) ≡ violation past c
  violation-both past c =
      violation_re past (revised (is_declaration_of x past c) v c)
      ∙ other_re (violation past) (λ t d p. violation-revised past d t (eqb-true d.byte VAR p)) (eqb (count_of VAR past) x) c

  -- the tests 9, 19 and 14, which look for the first command of a kind
  first_re :
      (k : ℕ) (test test' : List Command → Command → Bool)
      → ((past : List Command) (t : Bool) (c : Command) → test' (restarted x v past) (revised t v c) ≡ test past c)
      → (past : List Command) → refuse_first k test' (restarted x v past) ≡ refuse_first k test past
  unfolding restarted refuse_first
  first_re k test test' h [] = refl
  first_re k test test' h (c ∷ past) =
      let found : Bool → Option Refusal = λ b. cond b (Some (refuse k c.place)) None in
      λ i. first_of (first_re k test test' h past i) (found (h past (is_declaration_of x past c) c i))

  pub far_re : (past : List Command) → far_jump (restarted x v past) ≡ far_jump past
  far_re all =
      first_re 9 (is_far_jump all) (is_far_jump (restarted x v all)) (λ past t c. rw (open_re past, body_re all (open_body past))) all

  pub unused_re : (past : List Command) → unused_permission (restarted x v past) ≡ unused_permission past
  unused_re all =
      first_re 19 (is_unused all) (is_unused (restarted x v all)) (λ past t c. rw (handler_re all c.operands.first)) all

  pub written_re : (past : List Command) → written_turn (restarted x v past) ≡ written_turn past
  written_re = first_re 14 _ _ (λ past t c. refl)

  -- the other starts
  pub start_re : (past : List Command) (y : ℕ) → ¬ (y ≡ x) → start_of (restarted x v past) y ≡ start_of past y
  unfolding restarted declared
  start_re [] y o = refl
  start_re (c ∷ past) y o = rw (count_re VAR past, start_re past y o) (by_test (is VAR c) (eqb (count_of VAR past) y) refl)
    where
      by_test :
          (w u : Bool) → eqb (count_of VAR past) y ≡ u
          → cond (w && u) (cond (w && eqb (count_of VAR past) x) v c.operands.third) (start_of past y)
          ≡ cond (w && u) c.operands.third (start_of past y)
      by_test false u p = refl
      by_test true false p = refl
      by_test true true p = rw (ne_eqb (count_of VAR past) x (λ e. o (sym (eqb-true (count_of VAR past) y p) ∙ e)))

  -- the program
  pub program_re : (past : List Command) → program_of (restarted x v past) ≡ with_start_values (program_of past) (start_of (restarted x v past))
  unfolding program_of
  program_re past =
      agree (program_of (restarted x v past)) (with_start_values (program_of past) (start_of (restarted x v past)))
      (record {
        flows = count_re FLOW past;
        nodes = count_re NODE past;
        variables = count_re VAR past;
        functions = count_re FUN past;
        flow = flow_re past;
        scope = scope_re past;
        owner = owner_re past;
        start_value = λ y. refl;
        answer = answer_re past;
        wired = λ n port t. occurs_re WIRE (ternary n port t) refl past;
        may_call = λ n f argument i.
            occurs_re ANY (binary n f) refl past i || (occurs_re ARG (ternary n f argument) refl past i || span_re n f argument past i);
        may_read = λ n y. occurs_re READ (binary n y) refl past;
        may_write = λ n y. occurs_re WRITE (binary n y) refl past;
        handler = handler_re past;
        first_messages = starts_re past;
      })

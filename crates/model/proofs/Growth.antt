-- How what commands declare grows by one command.
use Prim.Native.Nat.{ℕ, suc, ◌+◌, ◌≤◌, ◌<◌, zero-le, max}
use mathlib.Core.Path.{◌≡◌, refl, sym, ◌∙◌}
use mathlib.Core.Bool.{Bool, true, false, cond, ◌&&◌, ◌||◌, or_assoc, or_comm}
use mathlib.Core.List.{List, [], ◌∷◌, ◌++◌, append-nil}
use Rattle.std.proofs.Common.{Some}
use native.Mathlib.Omega.{arith}
use lib.Dec.{ltb, eqb}
use lib.ListN.{length}
use borrow.Author.Tests.{ltb-true, ltb-false, lt-ltb, le-ltb, eq-eqb, ne_eqb}
use Rattle.model.specs.Table.{BODY, START, TURN, group_of, is_among}
use Rattle.model.specs.Command.{Operands, Command, is}
use Rattle.model.specs.Declared.{Instruction, count_of, count_among, declared, belongs, body_length, instruction, handler_of, has}
use Rattle.model.specs.Declared.{turns_of, only, is_same, is_reply, reply_of, occurs, span_permits, in_span, flow_of, open_body}
use Rattle.model.specs.Declared.{starts_of, started_in}
use Rattle.model.specs.Refusal.{group_falls}
use Rattle.model.proofs.Lists.{length-only}

-- a count by one more command
pub count_same : (b : ℕ) (c : Command) (past : List Command) → is b c ≡ true → count_of b (c ∷ past) ≡ count_of b past + 1
unfolding count_of
count_same b c past e = rw e

-- the count of one byte alone
pub among_one : (b : ℕ) (past : List Command) → count_among (b ∷ []) past ≡ count_of b past
unfolding count_among
among_one b past = omega arith

pub count-other : (b : ℕ) (c : Command) (past : List Command) → is b c ≡ false → count_of b (c ∷ past) ≡ count_of b past
unfolding count_of
count-other b c past e = rw e

pub count-grows : (b : ℕ) (c : Command) (past : List Command) → count_of b past ≤ count_of b (c ∷ past)
unfolding count_of
count-grows b c past = by_byte (is b c)
  where
    by_byte : (t : Bool) → count_of b past ≤ cond t (count_of b past + 1) (count_of b past)
    by_byte true = omega arith
    by_byte false = omega arith

-- no more commands of a byte than commands
pub count-below : (b : ℕ) (past : List Command) → count_of b past ≤ length past
unfolding count_of
count-below b [] = zero-le
count-below b (c ∷ past) = by_byte (is b c) (count-below b past)
  where
    by_byte : (t : Bool) → count_of b past ≤ length past → cond t (count_of b past + 1) (count_of b past) ≤ suc (length past)
    by_byte true h = omega arith
    by_byte false h = omega arith

-- a declaration by one more command: it is the new one, an older one, or not of this kind
module _ (value : Command → List Command → ℕ) (b : ℕ) (c : Command) (past : List Command) where
  pub declared-new : is b c ≡ true → declared value b (c ∷ past) (count_of b past) ≡ value c past
  unfolding declared
  declared-new e = rw (e, eq-eqb (count_of b past) (count_of b past) refl)

  pub declared-other : is b c ≡ false → (x : ℕ) → declared value b (c ∷ past) x ≡ declared value b past x
  unfolding declared
  declared-other e x = rw e

  pub declared-older : (x : ℕ) → x < count_of b past → declared value b (c ∷ past) x ≡ declared value b past x
  unfolding declared
  declared-older x h = by_byte (is b c)
    where
      by_byte : (t : Bool) → cond (t && eqb (count_of b past) x) (value c past) (declared value b past x) ≡ declared value b past x
      by_byte true = rw (ne_eqb (count_of b past) x (λ e. omega arith))
      by_byte false = refl

-- what is not declared has the value 0
pub declared_outside : (value : Command → List Command → ℕ) (b : ℕ) (past : List Command) (x : ℕ) → count_of b past ≤ x
    → declared value b past x ≡ 0
unfolding declared count_of
declared_outside value b [] x h = refl
declared_outside value b (c ∷ past) x h = by_byte (is b c) h (declared_outside value b past x)
  where
    by_byte :
        (t : Bool) → cond t (count_of b past + 1) (count_of b past) ≤ x → (count_of b past ≤ x → declared value b past x ≡ 0)
        → cond (t && eqb (count_of b past) x) (value c past) (declared value b past x) ≡ 0
    by_byte true k ih = rw (ne_eqb (count_of b past) x (λ e. omega arith)) (ih (omega arith))
    by_byte false k ih = ih k

-- the highest group of the commands, by which a program tests 4
unfoldable pub highest_group : List Command → ℕ
highest_group [] = 0
highest_group (c ∷ past) = max (group_of c.byte) (highest_group past)

max_falls : (a d h : ℕ) → (ltb a d || ltb a h) ≡ ltb a (max d h)
max_falls a d h = by_test (ltb a d) refl (ltb a h) refl
  where
    by_test : (t : Bool) → ltb a d ≡ t → (u : Bool) → ltb a h ≡ u → (t || u) ≡ ltb a (max d h)
    by_test true p u q = sym (lt-ltb a (max d h) (omega (arith, ltb-true a d p)))
    by_test false p true q = sym (lt-ltb a (max d h) (omega (arith, ltb-true a h q)))
    by_test false p false q = sym (le-ltb a (max d h) (omega (arith, ltb-false a d p, ltb-false a h q)))

pub group_falls_lem : (past : List Command) (c : Command) → group_falls past c ≡ ltb (group_of c.byte) (highest_group past)
unfolding group_falls highest_group
group_falls_lem [] c = sym (le-ltb (group_of c.byte) 0 zero-le)
group_falls_lem (d ∷ past) c = rw (group_falls_lem past c) (max_falls (group_of c.byte) (group_of d.byte) (highest_group past))

-- the length of a handler
pub length-handler : (past : List Command) (n : ℕ) → length (handler_of past n) ≡ body_length past n
unfolding handler_of body_length
length-handler [] n = refl
length-handler (c ∷ past) n = length-only (handler_of past n) (belongs past c n) (instruction c.byte c.operands.first)
    ∙ rw (length-handler past n)

-- a command of a handler is the next one; the others stay
pub handler-new : (past : List Command) (c : Command) (n : ℕ) → belongs past c n ≡ true
    → handler_of (c ∷ past) n ≡ handler_of past n ++ (instruction c.byte c.operands.first ∷ [])
unfolding handler_of
handler-new past c n e = rw e

pub handler-other : (past : List Command) (c : Command) (n : ℕ) → belongs past c n ≡ false → handler_of (c ∷ past) n ≡ handler_of past n
unfolding handler_of
handler-other past c n e = rw (e, append-nil)

-- what a handler has, with a command more
has_more : (bytes : List ℕ) (x : ℕ) (t : Bool) (i : Instruction) (handler : List Instruction)
    → has bytes x (handler ++ only t i) ≡ ((t && (is_among i.byte bytes && eqb i.operand x)) || has bytes x handler)
unfolding has
has_more bytes x true i [] = refl
has_more bytes x false i [] = refl
has_more bytes x t i (j ∷ handler) =
    rw (has_more bytes x t i handler)
    (exchange (is_among j.byte bytes && eqb j.operand x) (t && (is_among i.byte bytes && eqb i.operand x)) (has bytes x handler))
  where
    exchange : (p q r : Bool) → (p || (q || r)) ≡ (q || (p || r))
    exchange p q r = sym (or_assoc p q r) ∙ rw (or_comm p q) (or_assoc q p r)

pub has-next : (bytes : List ℕ) (x : ℕ) (past : List Command) (c : Command) (n : ℕ)
    → has bytes x (handler_of (c ∷ past) n)
    ≡ ((belongs past c n && (is_among c.byte bytes && eqb c.operands.first x)) || has bytes x (handler_of past n))
unfolding handler_of
has-next bytes x past c n = has_more bytes x (belongs past c n) (instruction c.byte c.operands.first) (handler_of past n)

-- as many turns as TURN commands
pub length-turns : (past : List Command) → length (turns_of past) ≡ count_of TURN past
unfolding turns_of count_of
length-turns [] = refl
length-turns (c ∷ past) = length-only (turns_of past) (is TURN c) c.operands.first ∙ rw (length-turns past)

-- each other value by one more command
module _ (c : Command) (past : List Command) where
  pub occurs-next : (b : ℕ) (x : Operands) → occurs b x (c ∷ past) ≡ (is_same b x c || occurs b x past)
  unfolding occurs
  occurs-next b x = refl

  pub span-next : (n f argument : ℕ) → in_span n f argument (c ∷ past) ≡ (span_permits n f argument c || in_span n f argument past)
  unfolding in_span
  span-next n f argument = refl

  pub reply-next : (f argument : ℕ) → reply_of (c ∷ past) f argument ≡ cond (is_reply f argument c) (Some c.operands.third)
      (reply_of past f argument)
  unfolding reply_of
  reply-next f argument = refl

  pub open_next : open_body (c ∷ past) ≡ cond (is BODY c) c.operands.first (open_body past)
  unfolding open_body
  open_next = refl

  pub body_next : (n : ℕ) → body_length (c ∷ past) n ≡ cond (belongs past c n) (body_length past n + 1) (body_length past n)
  unfolding body_length
  body_next n = refl

  pub starts-next : (n : ℕ) → starts_of (c ∷ past) n ≡ starts_of past n ++ only (is START c && eqb c.operands.first n)
      c.operands.second
  unfolding starts_of
  starts-next n = refl

  pub started-next : (flow : ℕ) → started_in (c ∷ past) flow ≡ ((is START c && eqb (flow_of past c.operands.first) flow) || started_in past
      flow)
  unfolding started_in
  started-next flow = refl

  pub turns_next : turns_of (c ∷ past) ≡ turns_of past ++ only (is TURN c) c.operands.first
  unfolding turns_of
  turns_next = refl

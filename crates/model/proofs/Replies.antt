-- A call whose argument has a REPLY gets that answer, every other call FUN's.
use Prim.Native.Nat.{ℕ}
use mathlib.Core.Path.{◌≡◌, refl, sym, ap}
use mathlib.Core.Bool.{Bool, true, false, cond, ◌||◌}
use mathlib.Core.List.{List, [], ◌∷◌}
use Rattle.std.proofs.Common.{None, Some, is_some}
use lib.Dec.{eqb}
use borrow.Author.Tests.{eqb-true, eq-eqb}
use Rattle.model.specs.Table.{REPLY, operands_in, operands_of}
use Rattle.model.specs.Command.{Operands, Command, ternary, is}
use Rattle.model.specs.Declared.{is_same, occurs, is_reply, reply_of}
use Rattle.model.specs.Program.{program_of}
use Rattle.model.specs.Refusal.{repeated}
use Rattle.model.specs.Replies.{RecordedHolds}
use Rattle.model.specs.Valid.{Valid, Plain}
use Rattle.model.proofs.Logic.{true_false, not-both, and-rest, and_left, and_right, or_left, or_right, none_of}
use Rattle.model.proofs.Valid.{passes, reads-valid}
use Rattle.model.proofs.Naming.{same_byte, equal_operands}

module _ (f v : ℕ) where
  -- a REPLY of the function to the argument is the command with these operands and its answer
  reply-same : (c : Command) → Plain c → is_reply f v c ≡ true → is_same REPLY (ternary f v c.operands.third) c ≡ true
  unfolding operands_of operands_in
  reply-same c plain e =
      let p = and_left (is REPLY c) _ e in
      let q = and_right (is REPLY c) _ e in
      let byte : c.byte ≡ REPLY = eqb-true c.byte REPLY p in
      let zero : c.operands.fourth ≡ 0 = plain.fourth (rw byte) in
      rw (
        p,
        and_left (eqb c.operands.first f) _ q,
        and_right (eqb c.operands.first f) _ q,
        eq-eqb c.operands.third c.operands.third refl,
        zero,
      )

  -- the command with these operands is such a REPLY
  same-reply : (answer : ℕ) (c : Command) → is_same REPLY (ternary f v answer) c ≡ true
      → (is_reply f v c ≡ true) × (c.operands.third ≡ answer)
  same-reply answer c e =
      let same = equal_operands REPLY (ternary f v answer) c e in (
        rw (same_byte REPLY (ternary f v answer) c e, same, eq-eqb f f refl, eq-eqb v v refl),
        ap (λ (x : Operands). x.third) same,
      )

  -- no such REPLY
  none-recorded :
      (past : List Command) → Valid past → ((answer : ℕ) → occurs REPLY (ternary f v answer) past ≡ false) → reply_of past f v ≡ None
  unfolding reply_of occurs
  none-recorded [] valid none-there = refl
  none-recorded (c ∷ past) valid none-there =
      by_reply (is_reply f v c) refl
      (none-recorded past valid.0 (λ answer. or_right (is_same REPLY (ternary f v answer) c) _ (none-there answer)))
    where
      by_reply : (t : Bool) → is_reply f v c ≡ t → reply_of past f v ≡ None
          → cond t (Some c.operands.third) (reply_of past f v) ≡ None
      by_reply false p ih = ih
      by_reply true p ih = not-both (reply-same c valid.1 p)
          (or_left (is_same REPLY (ternary f v c.operands.third) c) _ (none-there c.operands.third))

  -- a REPLY that passed test 8 is the first of its function and argument
  fresh-reply : (past : List Command) (c : Command) → repeated past c ≡ false → is_reply f v c ≡ true → is_some (reply_of past f v) ≡ false
  fresh-reply past c fresh e =
      let q = and_right (is REPLY c) _ e in
      let first = eqb-true c.operands.first f (and_left (eqb c.operands.first f) _ q) in
      let second = eqb-true c.operands.second v (and_right (eqb c.operands.first f) _ q) in
      rw (first, second) at (and-rest (is REPLY c) _ (and_left (is REPLY c) _ e) (none_of 2 _ fresh))

  -- such a REPLY, wherever it stands
  some-recorded :
      (answer : ℕ) (past : List Command) → Valid past → occurs REPLY (ternary f v answer) past ≡ true → reply_of past f v ≡ Some answer
  unfolding reply_of occurs
  some-recorded answer [] valid there = true_false (sym there)
  some-recorded answer (c ∷ past) valid there =
      by_same (is_same REPLY (ternary f v answer) c) refl there (some-recorded answer past valid.0)
    where
      by_reply : (t : Bool) → is_reply f v c ≡ t → reply_of past f v ≡ Some answer
          → cond t (Some c.operands.third) (reply_of past f v) ≡ Some answer
      by_reply false p e = e
      by_reply true p e =
          let gone : is_some (reply_of past f v) ≡ false = fresh-reply past c (passes past c valid.2).fresh p in
          true_false (rw e at gone)

      by_same :
          (t : Bool) → is_same REPLY (ternary f v answer) c ≡ t → (t || occurs REPLY (ternary f v answer) past) ≡ true
          → (occurs REPLY (ternary f v answer) past ≡ true → reply_of past f v ≡ Some answer)
          → cond (is_reply f v c) (Some c.operands.third) (reply_of past f v) ≡ Some answer
      by_same true p q ih = let s = same-reply answer c p in rw (s.0, s.1)
      by_same false p q ih = by_reply (is_reply f v c) refl (ih q)

pub recorded : RecordedHolds
unfolding program_of
recorded job place past reads f argument =
    record {
      given = λ answer there. rw (some-recorded f argument answer past (reads-valid reads) there);
      otherwise = λ none-there. rw (none-recorded f argument past (reads-valid reads) none-there);
    }

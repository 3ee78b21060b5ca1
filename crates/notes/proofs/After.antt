-- One more command: what is written for it, and what is known of it.
use Prim.Native.Nat.{ℕ, ◌+◌, ◌≤◌, ◌<◌}
use mathlib.Core.Path.{◌≡◌, refl, ap}
use mathlib.Core.Bool.{Bool, true, false}
use mathlib.Core.List.{List, ◌∷◌}
use native.Mathlib.Omega.{arith}
use lib.ListN.{length}
use borrow.Author.Tests.{lt-ltb, eqb-true}
use Rattle.model.specs.Command.{Command, is}
use Rattle.model.specs.Declared.{count_of}
use Rattle.model.specs.Valid.{Valid, Named}
use Rattle.model.proofs.Growth.{count_same}
use Rattle.model.proofs.Valid.{named}
use Rattle.tables.specs.declared.cells.Section.{Section}
use Rattle.tables.specs.Cells.{cell_count, entry_in}
use Rattle.tables.specs.Stands.{Stands}
use Rattle.tables.specs.Writes.{one_more, written, note_writes}
use Rattle.tables.proofs.Sections.{sorted, left, entry-written}

-- one more, where that is counted
pub more : (n : ℕ) → n < 65536 → one_more n ≡ n + 1
unfolding one_more
more n h = rw (lt-ltb n 65536 h)

-- where a write is made it may have either of two equal values, and where it is not made neither shows
pub where_on : (left : Bool → ℕ → ℕ) (on : Bool) (x y : ℕ) → (on ≡ true → x ≡ y) → left false x ≡ left false y → left on x ≡ left on y
where_on left true x y e z = ap (left true) (e refl)
where_on left false x y e z = z

-- the cells after the writes for a command
unfoldable pub after : List ℕ → Command → List ℕ
after t c = written t (note_writes t c)

-- the tables stand for fewer than 65,536 commands, and one more passes the tests after them
pub record Admitted (t : List ℕ) (past : List Command) (c : Command) : Type 0 where
  pub stands : Stands t past
  pub valid : Valid (c ∷ past)
  pub few : length past < 65536

module _ {t : List ℕ} {past : List Command} {c : Command} (one : Admitted t past c) where
  -- a section after the writes
  pub in_section : (r : Section) → r.0 + r.1 ≤ cell_count → sorted r (note_writes t c) ≡ true → (i : ℕ)
      → entry_in (after t c) r i ≡ left r (note_writes t c) i (entry_in t r i)
  unfolding after
  in_section r h o i = entry-written t (note_writes t c) r (rw one.stands.size h) o i

  -- the operands are allowed to a command with its byte
  pub named_as : (b : ℕ) → is b c ≡ true → Named b c.operands
  named_as b e = rw (eqb-true c.byte b e) at (named past c one.valid)

  -- a count of a kind of command has room for this one
  pub room : (b most : ℕ) → count_of b (c ∷ past) ≤ most → is b c ≡ true → count_of b past < most
  room b most h e = omega (arith, count_same b c past e)

-- Reading and writing cells: what the code's tests give, and what a write changes in its section and in the others.
use Prim.Native.Nat.{ℕ, ◌+◌, ◌*◌, ◌%◌, ◌≤◌, ◌<◌}
use mathlib.Core.Path.{◌≡◌, sym, ◌∙◌}
use mathlib.Core.Bool.{false}
use mathlib.Core.List.{List}
use native.Mathlib.Omega.{arith}
use lib.ListN.{get_or, set}
use borrow.Author.Tests.{lt-ltb, le-ltb}
use Rattle.tables.specs.declared.cells.Section.{Section}
use Rattle.tables.specs.Bits.{bit_of}
use Rattle.tables.specs.Cells.{entry_in, put_in, mark_cell, mark_in}

-- a cell inside its section, and what lies outside
module _ (t : List ℕ) (s : Section) (i : ℕ) where
  pub entry-inside : i < s.1 → entry_in t s i ≡ get_or t (s.0 + i) 0
  unfolding entry_in
  entry-inside h = rw (lt-ltb i s.1 h)

  pub entry_outside : s.1 ≤ i → entry_in t s i ≡ 0
  unfolding entry_in
  entry_outside h = rw (le-ltb i s.1 h)

  -- a write inside the section, and outside it
  module _ (x : ℕ) where
    pub put-inside : i < s.1 → put_in t s i x ≡ set t (s.0 + i) x
    unfolding put_in
    put-inside h = rw (lt-ltb i s.1 h)

    pub put_outside : s.1 ≤ i → put_in t s i x ≡ t
    unfolding put_in
    put_outside h = rw (le-ltb i s.1 h)

-- a mark at a row and a column: its bit, and that there is none below the rows
module _ (t : List ℕ) (s : Section) (row column : ℕ) where
  pub mark_inside : row < 128 → column < 64 → mark_in t s row column ≡ bit_of (entry_in t s (mark_cell row column)) (column % 32)
  unfolding mark_in
  mark_inside h k = rw (lt-ltb row 128 h, lt-ltb column 64 k)

  pub mark_first : row < 128 → column < 32 → bit_of (entry_in t s (row * 2)) column ≡ mark_in t s row column
  mark_first h k =
      let e : mark_cell row column ≡ row * 2 = omega arith in
      let f : column % 32 ≡ column = omega arith in
      sym (mark_inside h (omega arith) ∙ rw (e, f))

  pub mark_below : 128 ≤ row → mark_in t s row column ≡ false
  unfolding mark_in
  mark_below h = rw (le-ltb row 128 h)

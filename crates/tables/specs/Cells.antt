-- Cells and sections: what is read in a section and what a write changes.
use Rattle.std.specs.Prelude.{ℕ, ◌+◌, ◌*◌, ◌/◌, ◌%◌, Bool, cond, not, ◌&&◌, List, ltb, eqb, get_or, set, replicate}
use Rattle.tables.specs.declared.cells.Section.{Section}
use Rattle.tables.specs.Bits.{bit_of, with_bit, half_of, with_half}

-- how many cells there are
abbrev pub cell_count : ℕ
cell_count = 2720

-- the section with this first cell and this many cells
abbrev pub section : ℕ → ℕ → Section
section base size = record { 0 = base; 1 = size }

-- cell i of a section, 0 outside it
unfoldable pub entry_in : List ℕ → Section → ℕ → ℕ
entry_in t s i = cond (ltb i s.1) (get_or t (s.0 + i) 0) 0

-- the cells with x at cell i of a section; as they were where there is no such cell
unfoldable pub put_in : List ℕ → Section → ℕ → ℕ → List ℕ
put_in t s i x = cond (ltb i s.1) (set t (s.0 + i) x) t

-- cell i of a section is not 0
unfoldable pub flag_in : List ℕ → Section → ℕ → Bool
flag_in t s i = not (eqb (entry_in t s i) 0)

-- marks are bits, 64 a row, 32 a cell; there is a place for one at the rows below 128 and the columns below 64
abbrev pub is_mark_place : ℕ → ℕ → Bool
is_mark_place r x = ltb r 128 && ltb x 64

-- the cell of the mark at a row and a column
abbrev pub mark_cell : ℕ → ℕ → ℕ
mark_cell r x = r * 2 + x / 32

-- the marks in that cell with this one
abbrev pub marks_with : List ℕ → Section → ℕ → ℕ → ℕ
marks_with t s r x = with_bit (entry_in t s (mark_cell r x)) (x % 32)

-- there is a mark at a row and a column of such a section
unfoldable pub mark_in : List ℕ → Section → ℕ → ℕ → Bool
mark_in t s r x = is_mark_place r x && bit_of (entry_in t s (mark_cell r x)) (x % 32)

-- the cells with a mark there; as they were where there is no place for one
unfoldable pub mark_at : List ℕ → Section → ℕ → ℕ → List ℕ
mark_at t s r x = cond (is_mark_place r x) (put_in t s (mark_cell r x) (marks_with t s r x)) t

-- half i of a section with two halves a cell
unfoldable pub half_in : List ℕ → Section → ℕ → ℕ
half_in t s i = half_of (entry_in t s (i / 2)) i

-- the halves in its cell with h for this one
abbrev pub halves_with : List ℕ → Section → ℕ → ℕ → ℕ
halves_with t s i h = with_half (entry_in t s (i / 2)) i h

-- the cells with h for this half
unfoldable pub put_half : List ℕ → Section → ℕ → ℕ → List ℕ
put_half t s i h = put_in t s (i / 2) (halves_with t s i h)

-- cells of which none is noted
unfoldable pub blank : List ℕ
blank = replicate cell_count 0

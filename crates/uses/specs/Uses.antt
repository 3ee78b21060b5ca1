-- What the handlers of a job use, as marks in cells of their own: 64 a node, 32 a cell, as in the tables.
use Rattle.std.specs.Prelude.{ℕ, ◌≡◌, Bool, not, ◌&&◌, List, [], ◌∷◌, eqb, length}
use Rattle.model.specs.Table.{ANY, ARG, READ, WRITE, SPAN, GET, PUT, PLUS, CALL, is_among}
use Rattle.model.specs.Command.{Command}
use Rattle.model.specs.Refusal.{any_of, handler_reads, handler_writes, handler_calls}
use Rattle.tables.specs.declared.cells.Section.{Section}
use Rattle.tables.specs.Cells.{section, mark_in}
use Rattle.tables.specs.Writes.{Write, mark_write}

-- how many cells there are
abbrev pub use_count : ℕ
use_count = 192

-- the first section: the variables that handlers read
abbrev pub read_uses : Section
read_uses = section 0 64

-- the second one: the variables that they write
abbrev pub write_uses : Section
write_uses = section 64 64

-- the third one: the functions that they call
abbrev pub call_uses : Section
call_uses = section 128 64

-- what is written for a command with this byte and operand in the handler of a node, by the cells before
abbrev pub use_writes : List ℕ → ℕ → ℕ → ℕ → List Write
use_writes u n b x =
    mark_write u (is_among b (GET ∷ PLUS ∷ [])) read_uses n x
    ∷ mark_write u (is_among b (PUT ∷ [])) write_uses n x
    ∷ mark_write u (is_among b (CALL ∷ [])) call_uses n x
    ∷ []

-- a permission with this byte, of a node and a variable or a function, has no use by the cells
abbrev pub unused_in : List ℕ → ℕ → ℕ → ℕ → Bool
unused_in u b n x =
    any_of
    ((eqb b READ && not (mark_in u read_uses n x))
    ∷ (eqb b WRITE && not (mark_in u write_uses n x))
    ∷ (eqb b ANY && not (mark_in u call_uses n x))
    ∷ (eqb b ARG && not (mark_in u call_uses n x))
    ∷ (eqb b SPAN && not (mark_in u call_uses n x))
    ∷ [])

-- the cells say what the handlers of these commands use
pub record Uses (u : List ℕ) (past : List Command) : Type 0 where
  pub size : length u ≡ use_count
  pub reads : (n x : ℕ) → mark_in u read_uses n x ≡ handler_reads past n x
  pub writes : (n x : ℕ) → mark_in u write_uses n x ≡ handler_writes past n x
  pub calls : (n f : ℕ) → mark_in u call_uses n f ≡ handler_calls past n f

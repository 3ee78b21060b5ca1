-- What is written to the tables for a command, and so the cells that a job's commands leave. What the cells say is said by `Stands`.
use Rattle.std.specs.Prelude.{ℕ, ◌+◌, ◌-◌, ◌*◌, ◌/◌, Bool, true, cond, ◌&&◌, List, [], ◌∷◌, ◌++◌, ltb}
use Rattle.model.specs.Table.{FLOW, NODE, VAR, FUN, REPLY, WIRE, ANY, READ, WRITE, BODY, START, group_of}
use Rattle.model.specs.Command.{Command, is}
use Rattle.model.specs.Declared.{is_handler}
use Rattle.tables.specs.declared.cells.Section.{Section}
use Rattle.tables.specs.Cells.{put_in, is_mark_place, mark_cell, marks_with, halves_with, blank}
use Rattle.tables.specs.Items.{Item, is_range, is_item, item_of}
use Rattle.tables.specs.Tables.{count_in, open_in, flow_in, length_in, flow_cells, scope_cells, owner_cells, start_cells, answer_cells}
use Rattle.tables.specs.Tables.{length_cells, count_cells, progress_cells, body_cells, started_cells, first_cells, message_cells}
use Rattle.tables.specs.Tables.{last_reply_cells, item_first_cells, item_second_cells, link_cells, read_cells, write_cells, any_cells}
use Rattle.tables.specs.Tables.{wire_cells, last_range_cells, item_count_in, link, last_range_in, range_place, last_reply_in}

-- one more, for a number below 65,536; others stay
unfoldable pub one_more : ℕ → ℕ
one_more n = cond (ltb n 65536) (n + 1) n

-- a write: whether it is made, the section, the cell and the value
pub record Write : Type 0 where
  pub on : Bool
  pub section : Section
  pub cell : ℕ
  pub value : ℕ

-- the write with these
abbrev pub write : Bool → Section → ℕ → ℕ → Write
write on s i x = record { on = on; section = s; cell = i; value = x }

-- a mark at a row and a column, as a write
abbrev pub mark_write : List ℕ → Bool → Section → ℕ → ℕ → Write
mark_write t on s r x = write (on && is_mark_place r x) s (mark_cell r x) (marks_with t s r x)

-- a half, as a write
abbrev pub half_write : List ℕ → Bool → Section → ℕ → ℕ → Write
half_write t on s i h = write on s (i / 2) (halves_with t s i h)

-- the cells after a write
unfoldable pub made : List ℕ → Write → List ℕ
made t w = cond w.on (put_in t w.section w.cell w.value) t

-- the cells after some, the first one first
abbrev pub written : List ℕ → List Write → List ℕ
written t [] = t
written t (w ∷ ws) = written (made t w) ws

-- one command more in the open handler, by the cells before
abbrev pub handler_write : List ℕ → Command → Write
handler_write t c = write (is_handler c) length_cells (open_in t) (one_more (length_in t (open_in t)))

-- one more range of a node and a function, and one more reply of a function: it is the last one of its chain
abbrev pub range_write : List ℕ → Bool → ℕ → ℕ → Write
range_write t on n f = half_write t on last_range_cells (range_place n f) (one_more (item_count_in t))

abbrev pub reply_write : List ℕ → Bool → ℕ → Write
reply_write t on f = write on last_reply_cells f (one_more (item_count_in t))

-- the item before it in its chain
abbrev pub before_of : List ℕ → Command → ℕ
before_of t c = cond (is REPLY c) (last_reply_in t c.operands.first) (last_range_in t c.operands.first c.operands.second)

-- one more item: its number, the item before it in its chain, and what it is
abbrev pub item_writes : Bool → ℕ → ℕ → Item → List Write
item_writes on number before i =
    write on item_first_cells number i.first
    ∷ write on item_second_cells number i.second
    ∷ write on link_cells number (link i.byte before)
    ∷ write on progress_cells 2 (one_more number)
    ∷ []

-- the writes for what commands declare and permit, each made for those that it belongs to, by the cells before
abbrev pub declared_writes : List ℕ → Command → List Write
declared_writes t c =
    write (is NODE c) flow_cells (count_in t NODE) (count_in t FLOW - 1)
    ∷ write (is VAR c) scope_cells (count_in t VAR) c.operands.first
    ∷ write (is VAR c) owner_cells (count_in t VAR) c.operands.second
    ∷ write (is VAR c) start_cells (count_in t VAR) c.operands.third
    ∷ write (is FUN c) answer_cells (count_in t FUN) c.operands.first
    ∷ mark_write t (is WIRE c) wire_cells (c.operands.first * 4 + c.operands.second) c.operands.third
    ∷ mark_write t (is ANY c) any_cells c.operands.first c.operands.second
    ∷ range_write t (is_range c) c.operands.first c.operands.second
    ∷ reply_write t (is REPLY c) c.operands.first
    ∷ item_writes (is_item c) (item_count_in t) (before_of t c) (item_of c)
    ++ mark_write t (is READ c) read_cells c.operands.first c.operands.second
    ∷ mark_write t (is WRITE c) write_cells c.operands.first c.operands.second
    ∷ write (is BODY c) progress_cells 1 c.operands.first
    ∷ write (is BODY c) body_cells c.operands.first 1
    ∷ write (is START c) started_cells (flow_in t c.operands.first) 1
    ∷ write (is START c) first_cells c.operands.first 1
    ∷ write (is START c) message_cells c.operands.first c.operands.second
    ∷ []

-- the writes for what a command says besides its byte: one command more in the open handler, or what it declares or permits; none is made
-- for FLOW and TURN
abbrev pub command_writes : List ℕ → Command → List Write
command_writes t c = handler_write t c ∷ declared_writes t c

-- the writes for its byte: its count and its group
abbrev pub byte_writes : List ℕ → Command → List Write
byte_writes t c = write true count_cells c.byte (one_more (count_in t c.byte)) ∷ write true progress_cells 0 (group_of c.byte) ∷ []

-- all writes for a command
abbrev pub note_writes : List ℕ → Command → List Write
note_writes t c = command_writes t c ++ byte_writes t c

-- the cells of a job's commands, the latest first: blank ones after the writes for each
unfoldable pub tables_of : List Command → List ℕ
tables_of [] = blank
tables_of (c ∷ past) = written (tables_of past) (note_writes (tables_of past) c)

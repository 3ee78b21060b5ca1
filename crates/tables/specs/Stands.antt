-- The tables stand for the commands read so far: each name in `Tables` has the value that the model gives it, also where nothing is
-- declared; `last_ranges` and `last_replies` bound the numbers of items; and no cell holds anything else than what is written for these
-- commands.
use Rattle.std.specs.Prelude.{ℕ, ◌+◌, ◌≤◌, ◌<◌, ◌≡◌, ◌||◌, List, ltb, length}
use Rattle.model.specs.Table.{REPLY, WIRE, ANY, ARG, READ, WRITE, SPAN, BODY, group_of}
use Rattle.model.specs.Command.{Command, quaternary, ternary, binary}
use Rattle.model.specs.Declared.{count_of, occurs, in_span, flow_of, scope_of, owner_of, start_of, fun_answer_of, reply_of, open_body, body_length}
use Rattle.model.specs.Declared.{starts_of, started_in}
use Rattle.model.specs.Refusal.{group_falls}
use Rattle.tables.specs.Cells.{cell_count}
use Rattle.tables.specs.Tables.{count_in, group_in, open_in, flow_in, scope_in, owner_in, start_in, fun_answer_in, length_in, body_in, started_at}
use Rattle.tables.specs.Tables.{firsts_in, wired_in, read_in, write_in, any_in, item_count_in, last_range_in, listed_in, in_range_in}
use Rattle.tables.specs.Tables.{last_reply_in, reply_in}
use Rattle.tables.specs.Writes.{tables_of}

pub record Stands (t : List ℕ) (past : List Command) : Type 0 where
  pub size : length t ≡ cell_count
  pub counts : (b : ℕ) → b < 128 → count_in t b ≡ count_of b past
  pub group : (c : Command) → group_falls past c ≡ ltb (group_of c.byte) (group_in t)
  pub opened : open_in t ≡ open_body past
  pub flow : (n : ℕ) → flow_in t n ≡ flow_of past n
  pub scope : (x : ℕ) → scope_in t x ≡ scope_of past x
  pub owner : (x : ℕ) → owner_in t x ≡ owner_of past x
  pub start_value : (x : ℕ) → start_in t x ≡ start_of past x
  pub fun_answer : (f : ℕ) → fun_answer_in t f ≡ fun_answer_of past f
  pub lengths : (n : ℕ) → length_in t n ≡ body_length past n
  pub bodies : (n : ℕ) → body_in t n ≡ occurs BODY (binary n 0) past
  pub started : (f : ℕ) → started_at t f ≡ started_in past f
  pub firsts : (n : ℕ) → firsts_in t n ≡ starts_of past n
  pub wires : (n p m : ℕ) → wired_in t n p m ≡ occurs WIRE (ternary n p m) past
  pub reads : (n x : ℕ) → read_in t n x ≡ occurs READ (binary n x) past
  pub writes : (n x : ℕ) → write_in t n x ≡ occurs WRITE (binary n x) past
  pub anys : (n f : ℕ) → any_in t n f ≡ occurs ANY (binary n f) past
  pub item_count : item_count_in t ≡ count_of REPLY past + (count_of ARG past + count_of SPAN past)
  pub last_ranges : (n f : ℕ) → last_range_in t n f ≤ item_count_in t
  pub arguments : (n f v : ℕ) → listed_in t ARG n f v v ≡ occurs ARG (ternary n f v) past
  pub spans : (n f low high : ℕ) → listed_in t SPAN n f low high ≡ occurs SPAN (quaternary n f low high) past
  pub calls : (n f v : ℕ) → in_range_in t n f v ≡ (occurs ARG (ternary n f v) past || in_span n f v past)
  pub last_replies : (f : ℕ) → last_reply_in t f ≤ item_count_in t
  pub replies : (f v : ℕ) → reply_in t f v ≡ reply_of past f v
  pub cells : t ≡ tables_of past

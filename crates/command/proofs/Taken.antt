-- What is read at a place by a row of the code's table.
use Prim.Native.Nat.{ℕ, ◌+◌, ◌≤◌, ◌<◌}
use mathlib.Core.Path.{◌≡◌, refl}
use mathlib.Core.List.{List}
use Rattle.std.proofs.Common.{None, Some}
use native.Mathlib.Omega.{arith}
use lib.ListN.{length, get_or}
use Rattle.model.specs.Table.{operands_of, list_of, kind_at, group_of}
use Rattle.model.specs.Command.{Command, number_at, quaternary, Parsed as ParsedAs, whole, unknown, cut_short, end_at, read_command}
use Rattle.model.specs.Refusal.{Refusal as RefusedFor, refuse}
use Rattle.model.proofs.Reading.{number-none, read-unknown, read_short, read_whole}
use Rattle.command.specs.declared.table.Row.{Row as Shape}
use Rattle.command.specs.declared.read.Others.{Others}
use Rattle.command.specs.declared.read.Head.{Head}
use Rattle.command.specs.Rows.{unpacked, Says}
use Rattle.command.specs.Reading.{refusal_at, Known, Reaches, others_at, head_in}
use Rattle.command.specs.Reading.{IsWidth}
use Rattle.command.proofs.Shaped.{width_is}

-- the columns of a row, as the code has them
says-shape : (b p : ℕ) (s : Shape) → Says b (unpacked p) → s ≡ unpacked p → Says b s
says-shape b p s says e = rw e says

module _ (job : List ℕ) (place : ℕ) where
  -- no command
  pub read_missing : operands_of (get_or job place 0) ≡ None → refusal_at place (read_command job place) ≡ Some (refuse 2 place)
  read_missing h = rw (read-unknown job place h)

  -- by the row of its byte
  module _ (row : ℕ) (s : Shape) (says : Says (get_or job place 0) (unpacked row)) (is : s ≡ unpacked row) where
    ends : place + 1 + s.length ≡ end_at place (list_of (operands_of (get_or job place 0)))
    ends = let t = says-shape (get_or job place 0) row s says is in omega (arith, t.length)

    -- a command whose operands run past the end
    pub read-cut : length job < place + 1 + s.length → refusal_at place (read_command job place) ≡ Some (refuse 3 place)
    read-cut l = rw (read_short job place (list_of (operands_of (get_or job place 0))) says.known (rw ends at l))

  -- the operands of a whole command, by the columns of its row
  module _ (row next : ℕ) (reach : Reaches job place row next) (s : Shape) (is : s ≡ unpacked row) where
    shape : Says (get_or job place 0) s
    shape = says-shape (get_or job place 0) row s reach.says is

    -- they are inside the job, and have widths
    pub first_fits : (place + 1 + s.first_width ≤ length job) × IsWidth s.first_width
    first_fits = (
      omega (arith, shape.width₁, reach.ends, reach.inside),
      width_is (kind_at (get_or job place 0) 0) s.first_width shape.width₁,
    )

    pub fourth-fits :
        (place + 1 + s.first_width + s.second_width + s.third_width + s.fourth_width ≤ length job) × IsWidth s.fourth_width
    fourth-fits = (
      omega (arith, shape.width₁, shape.width₂, shape.width₃, shape.width₄, reach.ends, reach.inside),
      width_is (kind_at (get_or job place 0) 3) s.fourth_width shape.width₄,
    )

    -- there is none after the first
    pub none-follows : s.length ≡ s.first_width → record { second = 0; third = 0; fourth = 0 } ≡ others_at job place s
    none-follows e =
        let second : s.second_width ≡ 0 = omega (arith, shape.length, shape.width₁, shape.width₂) in
        let third : s.third_width ≡ 0 = omega (arith, shape.length, shape.width₁, shape.width₃) in
        let fourth : s.fourth_width ≡ 0 = omega (arith, shape.length, shape.width₁, shape.width₄) in
        rw (
          second,
          third,
          fourth,
          number-none job (place + 1 + s.first_width),
          number-none job (place + 1 + s.first_width + 0),
          number-none job (place + 1 + s.first_width + 0 + 0),
        )

    -- the command
    pub read_all : (x : ℕ) (y : Others) → x ≡ number_at job (place + 1) s.first_width → y ≡ others_at job place s
        → read_command job place
        ≡ whole (record { place = place; byte = get_or job place 0; operands = quaternary x y.second y.third y.fourth }) next
    read_all x y p q =
        rw (p, q, shape.width₁, shape.width₂, shape.width₃, shape.width₄, reach.ends)
        (read_whole job place (list_of (operands_of (get_or job place 0))) reach.says.known (rw reach.ends at reach.inside))

    -- its row and group
    pub read_known :
        (x : ℕ) (y : Others)
        → Known
        (record {
          place = place;
          row = row;
          byte = get_or job place 0;
          group = s.group;
          first = x;
          second = y.second;
          third = y.third;
          fourth = y.fourth;
        })
    read_known x y = record { row = reach.says; group = shape.group }

    -- its head
    pub read_first : (x : ℕ) → x ≡ number_at job (place + 1) s.first_width
        → Some (record { byte = get_or job place 0; group = s.group; first = x; next = next }) ≡ head_in (read_command job place)
    read_first x p = rw (read_all x _ p refl, shape.group)

-- what a head says of the command that is read there
pub record HeadAt (job : List ℕ) (place : ℕ) (head : Head) : Type 0 where
  pub command : Command
  pub is_read : read_command job place ≡ whole command head.next
  pub byte : head.byte ≡ command.byte
  pub group : head.group ≡ group_of command.byte
  pub first : head.first ≡ command.operands.first

module _ (job : List ℕ) (place : ℕ) where
  pub head_read : (head : Head) → Some head ≡ head_in (read_command job place) → HeadAt job place head
  head_read head e = by_read (read_command job place) refl e
    where
      by_read : (r : ParsedAs) → read_command job place ≡ r → Some head ≡ head_in r → HeadAt job place head
      by_read (whole c next) i f =
          let q : head ≡ record { byte = c.byte; group = group_of c.byte; first = c.operands.first; next = next } = cc in
          rw q (record { command = c; is_read = i; byte = refl; group = refl; first = refl })
      by_read unknown i f = absurd cc
      by_read cut_short i f = absurd cc

  -- where a whole command is read there is a head
  pub head_there : {A : Type 0} (c : Command) (next : ℕ) → read_command job place ≡ whole c next → None ≡ head_in (read_command job place) → A
  head_there c next i e =
      let f = rw i at e in
      absurd cc

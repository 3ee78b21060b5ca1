-- The handler command at a place of a job, in the order of the code's tests.
use Prim.Native.Nat.{ℕ, ◌+◌, ◌≤◌, ◌<◌}
use mathlib.Core.Path.{◌≡◌, refl}
use mathlib.Core.Bool.{Bool, true, false, ◌&&◌}
use mathlib.Core.List.{List}
use Rattle.std.proofs.Common.{None}
use native.Mathlib.Omega.{arith}
use lib.Dec.{leb}
use lib.ListN.{length, get_or, get_or-eq_default}
use borrow.Author.Tests.{leb-false, lt-leb, ne_eqb}
use Rattle.model.specs.Table.{SET, TAKE, CALL, SKIP, operands_in, operands_of, list_of}
use Rattle.model.specs.Command.{Parsed, whole, unknown, cut_short, number_at, end_at, read_command}
use Rattle.model.specs.Declared.{instruction}
use Rattle.model.proofs.Logic.{true_false}
use Rattle.model.proofs.Reading.{read-unknown, read_short, read_whole, read_at}
use Rattle.command.specs.declared.table.Row.{Row as Shape}
use Rattle.command.specs.Instructions.{recognised, instruction_in, instruction_from}
use Rattle.command.specs.Rows.{unpacked, Says, is_handler_byte}
use Rattle.command.proofs.Known.{OneOperand, handler-single}

-- a byte that is no handler command is taken for SKIP
other_skipped : (b x : ℕ) → is_handler_byte b ≡ false → instruction SKIP 0 ≡ recognised b x
other_skipped b x h = by_range (leb SET b) refl (leb b SKIP) refl h
  where
    by_range : (s : Bool) → leb SET b ≡ s → (k : Bool) → leb b SKIP ≡ k → (s && k) ≡ false → instruction SKIP 0 ≡ recognised b x
    by_range true s true k z = true_false z
    by_range true s false k z =
        let l = leb-false b SKIP k in
        rw (ne_eqb b TAKE (λ q. omega arith), s, lt-leb b CALL (omega arith))
    by_range false s k e z =
        let l = leb-false SET b s in
        rw (ne_eqb b TAKE (λ q. omega arith), s)

module _ (job : List ℕ) (place : ℕ) where
  -- after the end of the job
  pub read_behind : length job ≤ place → instruction SKIP 0 ≡ instruction_from job place
  unfolding operands_of operands_in
  read_behind h = rw (read-unknown job place (rw (get_or-eq_default job 0 h)))

  -- no command
  pub read_none : operands_of (get_or job place 0) ≡ None → instruction SKIP 0 ≡ instruction_from job place
  read_none h = rw (read-unknown job place h)

  -- no handler command
  pub read-other : is_handler_byte (get_or job place 0) ≡ false → instruction SKIP 0 ≡ instruction_from job place
  read-other h = by_read (read_command job place) refl
    where
      by_read : (r : Parsed) → read_command job place ≡ r → instruction SKIP 0 ≡ instruction_in r
      by_read unknown e = refl
      by_read cut_short e = refl
      by_read (whole c next) e = other_skipped c.byte _ (rw (read_at job place c next e).byte h)

  -- by the row of its byte
  module _ (row : ℕ) (of_row : Says (get_or job place 0) (unpacked row)) (handler : is_handler_byte (get_or job place 0) ≡ true) (s : Shape)
      (is : s ≡ unpacked row) where
    one : OneOperand (get_or job place 0)
    one = handler-single (get_or job place 0) handler

    says : Says (get_or job place 0) s
    says = rw is of_row

    ends : end_at place (list_of (operands_of (get_or job place 0))) ≡ place + 1 + s.first_width
    ends = omega (arith, says.width₁, one.others)

    -- the operand runs past the end
    pub read_cut_off : length job < place + 1 + s.first_width → instruction SKIP 0 ≡ instruction_from job place
    read_cut_off l = rw (read_short job place (list_of (operands_of (get_or job place 0))) says.known (omega (arith, ends)))

    -- a whole command
    pub read_instructed :
        place + 1 + s.first_width ≤ length job → (x : ℕ) → x ≡ number_at job (place + 1) s.first_width
        → recognised (get_or job place 0) x ≡ instruction_from job place
    read_instructed l x e =
        rw (read_whole job place (list_of (operands_of (get_or job place 0))) says.known (omega (arith, ends)), e, says.width₁)

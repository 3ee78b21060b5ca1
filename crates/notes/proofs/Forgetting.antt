-- Noting a handler command writes the same whatever its operand and its place.
use Prim.Native.Nat.{ℕ}
use mathlib.Core.Path.{◌≡◌, refl, sym, ap, ◌∙◌}
use mathlib.Core.Bool.{Bool, true, false, cond}
use mathlib.Core.List.{List, [], ◌∷◌, ◌++◌, map}
use native.Mathlib.Omega.{arith}
use lib.Dec.{leb}
use borrow.Author.Tests.{leb-true}
use Rattle.model.specs.Table.{SET, SKIP}
use Rattle.model.specs.Command.{Command, Operands, ternary}
use Rattle.model.specs.Declared.{is_handler}
use Rattle.model.proofs.Logic.{and_left, and_right}
use Rattle.command.specs.declared.read.Command.{Command as Code}
use Rattle.tables.specs.Cells.{put_in}
use Rattle.tables.specs.Tables.{open_in, length_in, length_cells}
use Rattle.tables.specs.Writes.{one_more, Write, made, written, command_writes, byte_writes, note_writes}
use Rattle.tables.specs.Writes.{tables_of}
use Rattle.notes.specs.Forgotten.{stripped, HandlersForgotten}
use Rattle.notes.proofs.Arms.{rest_arm}

-- writes after writes
written_on : (t : List ℕ) (xs ys : List Write) → written t (xs ++ ys) ≡ written (written t xs) ys
written_on t [] ys = refl
written_on t (w ∷ xs) ys = written_on (made t w) xs ys

-- a handler command, as the code reads it, writes the length of its handler alone
only-length :
    (t : List ℕ) (c : Command) → is_handler c ≡ true
    → cond (is_handler c) (put_in t length_cells (open_in t) (one_more (length_in t (open_in t)))) t ≡ written t (command_writes t c)
only-length t c handler =
    let low = leb-true SET c.byte (and_left (leb SET c.byte) _ handler) in
    let high = leb-true c.byte SKIP (and_right (leb SET c.byte) _ handler) in
    let code : Code = record {
      place = c.place;
      row = 0;
      byte = c.byte;
      group = 0;
      first = c.operands.first;
      second = c.operands.second;
      third = c.operands.third;
      fourth = c.operands.fourth;
    } in
    rest_arm t code (λ q. omega arith) (λ q. omega arith) (λ q. omega arith) (λ q. omega arith) (λ q. omega arith) (λ q. omega arith)
    (λ q. omega arith) (λ q. omega arith) (λ q. omega arith) (λ q. omega arith) (λ q. omega arith) (λ q. omega arith)

-- the command with these operands, at place 0
abbrev with_operands : Command → Operands → Command
with_operands c x = record { place = 0; byte = c.byte; operands = x }

same_noted : (t : List ℕ) (c : Command) → written t (note_writes t c) ≡ written t (note_writes t (stripped c))
same_noted t c = by_handler (is_handler c) refl
  where
    by_handler : (h : Bool) → is_handler c ≡ h
        → written t (note_writes t c) ≡ written t (note_writes t (with_operands c (cond h (ternary 0 0 0) c.operands)))
    by_handler false h = refl
    by_handler true h =
        let d = with_operands c (ternary 0 0 0) in
        written_on t (command_writes t c) (byte_writes t c)
        ∙ ap (λ (u : List ℕ). written u (byte_writes t c)) (sym (only-length t c h) ∙ only-length t d h)
        ∙ sym (written_on t (command_writes t d) (byte_writes t d))

same_tables : (past : List Command) → tables_of past ≡ tables_of (map stripped past)
unfolding tables_of
same_tables [] = refl
same_tables (c ∷ past) =
    same_noted (tables_of past) c ∙ ap (λ (u : List ℕ). written u (note_writes u (stripped c))) (same_tables past)

pub handlers_forgotten : HandlersForgotten
handlers_forgotten t past s = s.cells ∙ same_tables past

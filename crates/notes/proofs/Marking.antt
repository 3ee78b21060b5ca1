-- Wires and the permissions that are marks, with one more command.
use Prim.Native.Nat.{ℕ, ◌+◌, ◌*◌, ◌%◌, ◌≤◌, ◌<◌}
use mathlib.Core.Path.{◌≡◌, refl, ◌∙◌}
use mathlib.Core.Bool.{true, cond, ◌&&◌, ◌||◌}
use mathlib.Core.List.{List, ◌∷◌}
use native.Mathlib.Omega.{arith}
use lib.Dec.{ltb, eqb}
use Rattle.model.specs.Table.{WIRE, ANY, READ, WRITE, operands_in, operands_of}
use Rattle.model.specs.Command.{Command, is, ternary, binary}
use Rattle.model.specs.Declared.{occurs}
use Rattle.model.proofs.Growth.{occurs-next}
use Rattle.tables.specs.declared.cells.Section.{Section}
use Rattle.tables.specs.Bits.{bit_of}
use Rattle.tables.specs.Cells.{entry_in, is_mark_place, mark_cell, marks_with, mark_in}
use Rattle.tables.specs.Tables.{read_cells, write_cells, any_cells, wire_cells, wired_in}
use Rattle.tables.proofs.Cases.{marking, mark_after, wire}
use Rattle.notes.proofs.Same.{same_three, same_two}
use Rattle.notes.proofs.After.{after, Admitted, in_section, named_as}

module _ {t : List ℕ} {past : List Command} {c : Command} (one : Admitted t past c) where
  -- the marks of a section after a command with this byte: those before, and the one of its first two operands
  mark_next :
      (r : Section) (b row x : ℕ)
      → entry_in (after t c) r (mark_cell row x) ≡ cond ((is b c && is_mark_place c.operands.first c.operands.second) &&
      (eqb (mark_cell c.operands.first c.operands.second) (mark_cell row x) && ltb (mark_cell row x) 64))
      (marks_with t r c.operands.first c.operands.second) (entry_in t r (mark_cell row x))
      → (is b c ≡ true → (c.operands.first < 32) × (c.operands.second < 64) × (c.operands.third ≡ 0) × (c.operands.fourth ≡ 0))
      → mark_in t r row x ≡ occurs b (binary row x) past → mark_in (after t c) r row x ≡ occurs b (binary row x) (c ∷ past)
  mark_next r b row x e h q =
      mark_after t (after t c) r (is b c) c.operands.first c.operands.second row x (occurs b (binary row x) past) e
      (λ p. ((h p).0, (h p).1)) q
      ∙ rw (occurs-next c past b (binary row x), same_two b c row x 0 (λ p. ((h p).2, (h p).3)))

  pub reads-next : (n x : ℕ) → mark_in (after t c) read_cells n x ≡ occurs READ (binary n x) (c ∷ past)
  unfolding operands_of operands_in
  reads-next n x =
      mark_next read_cells READ n x (in_section one read_cells (omega arith) refl (mark_cell n x))
      (λ e. let r = named_as one READ e in (r.first, r.second, r.third, r.fourth)) (one.stands.reads n x)

  pub writes-next : (n x : ℕ) → mark_in (after t c) write_cells n x ≡ occurs WRITE (binary n x) (c ∷ past)
  unfolding operands_of operands_in
  writes-next n x =
      mark_next write_cells WRITE n x (in_section one write_cells (omega arith) refl (mark_cell n x))
      (λ e. let r = named_as one WRITE e in (r.first, r.second, r.third, r.fourth)) (one.stands.writes n x)

  pub anys-next : (n f : ℕ) → mark_in (after t c) any_cells n f ≡ occurs ANY (binary n f) (c ∷ past)
  unfolding operands_of operands_in
  anys-next n f =
      mark_next any_cells ANY n f (in_section one any_cells (omega arith) refl (mark_cell n f))
      (λ e. let r = named_as one ANY e in (r.first, omega (arith, r.second), r.third, r.fourth)) (one.stands.anys n f)

  -- a WIRE names a node, a port and a node
  wire_range : is WIRE c ≡ true
      → (c.operands.first < 32) × (c.operands.second ≤ 3) × (c.operands.third < 32) × (c.operands.fourth ≡ 0)
  unfolding operands_of operands_in
  wire_range e = let r = named_as one WIRE e in (r.first, r.second, r.third, r.fourth)

  wire_mark : (row m : ℕ) → mark_in (after t c) wire_cells row m ≡ ((is WIRE c &&
      (eqb (c.operands.first * 4 + c.operands.second) row && eqb c.operands.third m)) || mark_in t wire_cells row m)
  unfolding mark_in
  wire_mark row m =
      rw (in_section one wire_cells (omega arith) refl (mark_cell row m))
      (marking (entry_in t wire_cells) (c.operands.first * 4 + c.operands.second) c.operands.third row m 256 (is WIRE c)
      (is_mark_place row m && bit_of (entry_in t wire_cells (mark_cell row m)) (m % 32))
      (λ p. omega (arith, (wire_range p).0, (wire_range p).1)) (λ p. omega (arith, (wire_range p).2))
      (λ p. omega (arith, (wire_range p).0, (wire_range p).1, (wire_range p).2)) refl)

  pub wires-next : (n p m : ℕ) → wired_in (after t c) n p m ≡ occurs WIRE (ternary n p m) (c ∷ past)
  wires-next n p m =
      let e = wire_mark (n * 4 + p) m in
      rw (e, occurs-next c past WIRE (ternary n p m), same_three WIRE c n p m (λ q. (wire_range q).3))
      (wire (is WIRE c) c.operands.first c.operands.second c.operands.third n p m (mark_in t wire_cells (n * 4 + p) m)
      (occurs WIRE (ternary n p m) past) (λ q. (wire_range q).1) (one.stands.wires n p m))

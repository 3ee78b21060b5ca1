-- What the handlers use, with one command more.
use Prim.Native.Nat.{ℕ, ◌+◌, ◌≤◌, ◌<◌}
use mathlib.Core.Path.{◌≡◌, refl, sym, ◌∙◌}
use mathlib.Core.Bool.{Bool, true, false, cond, ◌&&◌, ◌||◌, and-false, or-false}
use mathlib.Core.List.{List, [], ◌∷◌}
use native.Mathlib.Omega.{arith}
use lib.Dec.{ltb, eqb}
use lib.ListN.{replicate, length-replicate}
use borrow.Author.Tests.{eqb-true}
use Rattle.model.specs.Table.{GET, PUT, PLUS, CALL, operands_in, operands_of, is_among}
use Rattle.model.specs.Command.{Command}
use Rattle.model.specs.Declared.{is_handler, open_body, handler_of, has}
use Rattle.model.specs.Valid.{Valid, Named}
use Rattle.model.proofs.Logic.{true_false}
use Rattle.model.proofs.Growth.{has-next}
use Rattle.model.proofs.Naming.{open_inside}
use Rattle.model.proofs.Valid.{named}
use Rattle.tables.specs.declared.cells.Section.{Section}
use Rattle.tables.specs.Cells.{entry_in, is_mark_place, mark_cell, marks_with, mark_in}
use Rattle.tables.specs.Writes.{written}
use Rattle.tables.proofs.Blank.{mark_zero}
use Rattle.tables.proofs.Cases.{mark_after}
use Rattle.tables.proofs.Sections.{sorted, left, length-written, entry-written}
use Rattle.uses.specs.Uses.{use_count, read_uses, write_uses, call_uses, use_writes, Uses}

-- before every command nothing is used
pub uses-none : Uses (replicate use_count 0) []
unfolding handler_of has
uses-none =
    record {
      size = length-replicate {A = ℕ} use_count 0;
      reads = λ n x. mark_zero use_count read_uses (omega arith) n x;
      writes = λ n x. mark_zero use_count write_uses (omega arith) n x;
      calls = λ n f. mark_zero use_count call_uses (omega arith) n f;
    }

module _ (u : List ℕ) (past : List Command) (c : Command) (uses : Uses u past) (valid : Valid (c ∷ past)) where
  -- the cells after it
  abbrev after : List ℕ
  after = written u (use_writes u (open_body past) c.byte c.operands.first)

  -- a command with one of these bytes is a handler command, and names at most 64 things
  abbrev Names : List ℕ → Type 0
  Names bytes = is_among c.byte bytes ≡ true → (is_handler c ≡ true) × (c.operands.first < 64)

  -- a section after the writes for it
  in_uses : (s : Section) → s.0 + s.1 ≤ use_count → sorted s (use_writes u (open_body past) c.byte c.operands.first) ≡ true → (i : ℕ)
      → entry_in after s i ≡ left s (use_writes u (open_body past) c.byte c.operands.first) i (entry_in u s i)
  in_uses s h o i = entry-written u (use_writes u (open_body past) c.byte c.operands.first) s (rw uses.size h) o i

  -- the marks of a section are what the handlers have of its bytes
  has_marked :
      (s : Section) (bytes : List ℕ) → Names bytes → (n x : ℕ)
      → entry_in after s (mark_cell n x) ≡ cond ((is_among c.byte bytes && is_mark_place (open_body past) c.operands.first) &&
      (eqb (mark_cell (open_body past) c.operands.first) (mark_cell n x) && ltb (mark_cell n x) 64))
      (marks_with u s (open_body past) c.operands.first) (entry_in u s (mark_cell n x))
      → mark_in u s n x ≡ has bytes x (handler_of past n) → mark_in after s n x ≡ has bytes x (handler_of (c ∷ past) n)
  has_marked s bytes names n x e q =
      mark_after u after s (is_among c.byte bytes) (open_body past) c.operands.first n x (has bytes x (handler_of past n)) e
      (λ p. (open_inside past valid.0, (names p).1)) q
      ∙ rw (has-next bytes x past c n) (by_byte (is_among c.byte bytes) refl)
    where
      among : (h : Bool) → h ≡ true → (o y : Bool) → (o && y) ≡ ((h && o) && y)
      among true p o y = refl
      among false p o y = let w : ◌≡◌ {A = ℕ} 0 1 = cc in absurd (omega arith)

      by_byte :
          (t : Bool) → is_among c.byte bytes ≡ t
          → ((t && (eqb (open_body past) n && eqb c.operands.first x)) || has bytes x (handler_of past n))
          ≡ (((is_handler c && eqb (open_body past) n) && (t && eqb c.operands.first x)) || has bytes x (handler_of past n))
      by_byte true p = rw (among (is_handler c) (names p).0 (eqb (open_body past) n) (eqb c.operands.first x))
      by_byte false p = rw (and-false (is_handler c && eqb (open_body past) n))

  -- the commands that use something
  as_named : (b : ℕ) → eqb c.byte b ≡ true → (c.byte ≡ b) × Named b c.operands
  as_named b e = let byte = eqb-true c.byte b e in (byte, rw byte at (named past c valid))

  reading : Names (GET ∷ PLUS ∷ [])
  unfolding is_among operands_of operands_in
  reading e = by_byte (eqb c.byte GET) refl (eqb c.byte PLUS) refl e
    where
      by_byte :
          (g : Bool) → eqb c.byte GET ≡ g → (p : Bool) → eqb c.byte PLUS ≡ p → (g || (p || false)) ≡ true
          → (is_handler c ≡ true) × (c.operands.first < 64)
      by_byte true g p q e = let r = as_named GET g in (rw r.0, r.1.first)
      by_byte false g true q e = let r = as_named PLUS q in (rw r.0, r.1.first)
      by_byte false g false q e = true_false (sym e)

  writing : Names (PUT ∷ [])
  unfolding is_among operands_of operands_in
  writing e = let r = as_named PUT (sym (or-false (eqb c.byte PUT)) ∙ e) in (rw r.0, r.1.first)

  calling : Names (CALL ∷ [])
  unfolding is_among operands_of operands_in
  calling e = let r = as_named CALL (sym (or-false (eqb c.byte CALL)) ∙ e) in (rw r.0, omega (arith, r.1.first))

  uses-next : Uses after (c ∷ past)
  uses-next =
      record {
        size = length-written u (use_writes u (open_body past) c.byte c.operands.first) ∙ uses.size;
        reads = λ n x.
            has_marked read_uses (GET ∷ PLUS ∷ []) reading n x (in_uses read_uses (omega arith) refl (mark_cell n x)) (uses.reads n x);
        writes = λ n x.
            has_marked write_uses (PUT ∷ []) writing n x (in_uses write_uses (omega arith) refl (mark_cell n x)) (uses.writes n x);
        calls = λ n f.
            has_marked call_uses (CALL ∷ []) calling n f (in_uses call_uses (omega arith) refl (mark_cell n f)) (uses.calls n f);
      }

  -- as the code notes it, by the node whose handler is open
  pub uses-noted : (v : List ℕ) (o : ℕ) → o ≡ open_body past → v ≡ written u (use_writes u o c.byte c.operands.first)
      → Uses v (c ∷ past)
  uses-noted v o e h = rw (h, e) uses-next

-- A handler has a command exactly if it stands at some position of the program's handler.
use Prim.Native.Nat.{ℕ, zero, suc, ◌<◌}
use mathlib.Core.Path.{◌≡◌, refl, sym, ◌∙◌}
use mathlib.Core.Logic.{◌⊎◌, inl, inr}
use mathlib.Core.Bool.{Bool, true, false, ◌&&◌, ◌||◌, or-false}
use mathlib.Core.List.{List, [], ◌∷◌}
use native.Mathlib.Omega.{arith}
use lib.Dec.{eqb}
use lib.ListN.{length, get_or}
use borrow.Author.Tests.{eqb-true, eq-eqb}
use Rattle.model.specs.Table.{is_among}
use Rattle.model.specs.Command.{Command}
use Rattle.model.specs.Declared.{Instruction, instruction, handler_of, has}
use Rattle.model.specs.Program.{program_of}
use Rattle.model.specs.LeastPrivilege.{HasCommand}
use Rattle.model.proofs.Logic.{true_false, or_first, or_second, and_left, and_right}

-- a command that a handler has stands at some position
has-position :
    (bytes : List ℕ) (x : ℕ) (handler : List Instruction) → has bytes x handler ≡ true
    → (b : ℕ) × (i : ℕ) × (is_among b bytes ≡ true) × (i < length handler) × (get_or handler i (instruction 0 0) ≡ instruction b x)
unfolding has
has-position bytes x [] e = true_false (sym e)
has-position bytes x (i ∷ handler) e = by_first (is_among i.byte bytes && eqb i.operand x) refl e (has-position bytes x handler)
  where
    by_first :
        (t : Bool) → (is_among i.byte bytes && eqb i.operand x) ≡ t → (t || has bytes x handler) ≡ true
        → (has bytes x handler ≡ true
        → (b : ℕ) × (k : ℕ) × (is_among b bytes ≡ true) × (k < length handler) × (get_or handler k (instruction 0 0) ≡ instruction b x))
        → (b : ℕ) × (k : ℕ) × (is_among b bytes ≡ true) × (k < suc (length handler)) ×
        (get_or (i ∷ handler) k (instruction 0 0) ≡ instruction b x)
    by_first true p q rest =
        let operand = eqb-true i.operand x (and_right (is_among i.byte bytes) _ p) in
        (i.byte, 0, and_left (is_among i.byte bytes) _ p, omega arith, rw operand)
    by_first false p q rest = let r = rest q in (r.0, suc r.1, r.2, omega (arith, r.3), r.4)

-- one with one of two bytes, and one with a byte
pub has_either : (past : List Command) (n b d x : ℕ) → has (b ∷ d ∷ []) x (handler_of past n) ≡ true
    → HasCommand (program_of past) n b x ⊎ HasCommand (program_of past) n d x
unfolding program_of is_among
has_either past n b d x e =
    let r = has-position (b ∷ d ∷ []) x (handler_of past n) e in by_first r.0 r.1 r.3 r.4 (eqb r.0 b) refl r.2
  where
    by_first :
        (y i : ℕ) → i < length (handler_of past n) → get_or (handler_of past n) i (instruction 0 0) ≡ instruction y x
        → (t : Bool) → eqb y b ≡ t → (t || (eqb y d || false)) ≡ true
        → HasCommand (program_of past) n b x ⊎ HasCommand (program_of past) n d x
    by_first y i l q true p o = inl (record { position = i; inside = l; command = q ∙ rw (eqb-true y b p) })
    by_first y i l q false p o =
        inr (record { position = i; inside = l; command = q ∙ rw (eqb-true y d (sym (or-false (eqb y d)) ∙ o)) })

pub has-command : (past : List Command) (n b x : ℕ) → has (b ∷ []) x (handler_of past n) ≡ true → HasCommand (program_of past) n b x
unfolding program_of is_among
has-command past n b x e =
    let r = has-position (b ∷ []) x (handler_of past n) e in
    record { position = r.1; inside = r.3; command = r.4 ∙ rw (eqb-true r.0 b (sym (or-false (eqb r.0 b)) ∙ r.2)) }

-- a command that stands at a position is one that the handler has
position-has :
    (bytes : List ℕ) (b x : ℕ) → is_among b bytes ≡ true → (handler : List Instruction) (i : ℕ) → i < length handler
    → get_or handler i (instruction 0 0) ≡ instruction b x → has bytes x handler ≡ true
unfolding has
position-has bytes b x a [] i h e = absurd (omega arith)
position-has bytes b x a (j ∷ handler) zero h e =
    or_first (is_among j.byte bytes && eqb j.operand x) (has bytes x handler) (rw (e, a, eq-eqb x x refl))
position-has bytes b x a (j ∷ handler) (suc i) h e =
    or_second (is_among j.byte bytes && eqb j.operand x) (has bytes x handler) (position-has bytes b x a handler i (omega arith) e)

pub command-has : (past : List Command) (n b x : ℕ) (bytes : List ℕ) → is_among b bytes ≡ true → HasCommand (program_of past) n b x
    → has bytes x (handler_of past n) ≡ true
unfolding program_of
command-has past n b x bytes a h = position-has bytes b x a (handler_of past n) h.position h.inside h.command

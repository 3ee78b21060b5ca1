-- What a command writes, by its byte: the writes of other commands are not made.
use Prim.Native.Nat.{ℕ}
use mathlib.Core.Path.{◌≡◌, refl, sym, ◌∙◌}
use mathlib.Core.Bool.{Bool, true, false, cond, not, ◌&&◌}
use mathlib.Core.List.{List, [], ◌∷◌}
use native.Mathlib.Omega.{arith}
use borrow.Author.Tests.{ne_eqb}
use Rattle.model.specs.Table.{NODE, VAR, FUN, REPLY, WIRE, ANY, ARG, READ, WRITE, SPAN, BODY, START}
use Rattle.model.specs.Command.{quaternary}
use Rattle.command.specs.declared.read.Command.{Command as Code}
use Rattle.command.specs.Reading.{command_of}
use Rattle.command.specs.Rows.{is_handler_byte}
use Rattle.tables.specs.Cells.{put_in}
use Rattle.tables.specs.Tables.{open_in, length_in, length_cells}
use Rattle.tables.specs.Writes.{one_more, Write, made, written, handler_write, declared_writes, command_writes}

-- a write, if it is made
made_if : (t : List ℕ) (w : Write) → cond w.on (put_in t w.section w.cell w.value) t ≡ made t w
unfolding made
made_if t w = refl

-- writes of which none is made
abbrev none_on : List Write → Bool
none_on [] = true
none_on (w ∷ ws) = not w.on && none_on ws

none_made : (t : List ℕ) (ws : List Write) → none_on ws ≡ true → written t ws ≡ t
unfolding made
none_made t [] e = refl
none_made t (w ∷ ws) e = by_test w.on refl e (none_made t ws)
  where
    by_test : (b : Bool) → w.on ≡ b → (not b && none_on ws) ≡ true → (none_on ws ≡ true → written t ws ≡ t)
        → written (cond b (put_in t w.section w.cell w.value) t) ws ≡ t
    by_test true p f rest = let q : ◌≡◌ {A = ℕ} 0 1 = cc in absurd (omega arith)
    by_test false p f rest = rest f

module _ (t : List ℕ) (c : Code) where
  -- the cells after the writes of this command
  abbrev noted : List ℕ
  noted = written t (command_writes t (command_of c))

  -- where its byte is known, it is computed which writes are made
  pub known_arm : (b : ℕ) (u : List ℕ) → c.byte ≡ b
      → u ≡ written t
      (command_writes t (record { place = c.place; byte = b; operands = quaternary c.first c.second c.third c.fourth }))
      → u ≡ noted
  known_arm b u e h = rw e h

  -- none of these bytes: a handler command, or one that declares nothing
  pub rest_arm :
      ¬ (c.byte ≡ NODE) → ¬ (c.byte ≡ VAR) → ¬ (c.byte ≡ FUN) → ¬ (c.byte ≡ REPLY) → ¬ (c.byte ≡ WIRE) → ¬ (c.byte ≡ ANY)
      → ¬ (c.byte ≡ ARG) → ¬ (c.byte ≡ READ) → ¬ (c.byte ≡ WRITE) → ¬ (c.byte ≡ SPAN) → ¬ (c.byte ≡ BODY) → ¬ (c.byte ≡ START)
      → cond (is_handler_byte c.byte) (put_in t length_cells (open_in t) (one_more (length_in t (open_in t)))) t ≡ noted
  rest_arm n₁ n₂ n₃ n₄ n₅ n₆ n₇ n₈ n₉ n₁₀ n₁₁ n₁₂ =
      let first = made t (handler_write t (command_of c)) in
      made_if t (handler_write t (command_of c))
      ∙ sym (none_made first (declared_writes t (command_of c))
      (rw (
        ne_eqb c.byte NODE n₁,
        ne_eqb c.byte VAR n₂,
        ne_eqb c.byte FUN n₃,
        ne_eqb c.byte REPLY n₄,
        ne_eqb c.byte WIRE n₅,
        ne_eqb c.byte ANY n₆,
        ne_eqb c.byte ARG n₇,
        ne_eqb c.byte READ n₈,
        ne_eqb c.byte WRITE n₉,
        ne_eqb c.byte SPAN n₁₀,
        ne_eqb c.byte BODY n₁₁,
        ne_eqb c.byte START n₁₂,
      )))

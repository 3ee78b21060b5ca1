-- In a run of an accepted job the numbers of an entry, the senders of messages and the positions of the nodes are bytes.
use Prim.Native.Nat.{ℕ, ◌≤◌, ◌<◌}
use mathlib.Core.Path.{◌≡◌}
use mathlib.Core.Bool.{Bool, true, false}
use mathlib.Core.List.{List}
use mathlib.Core.Logic.{◌⊎◌, inl, inr}
use native.Mathlib.Omega.{arith}
use lib.Dec.{eqb}
use lib.ListN.{length}
use borrow.Author.Tests.{eqb-true}
use Rattle.model.specs.Table.{GET, PUT, PLUS, SEND, CALL, operands_in, operands_of, kind_at}
use Rattle.model.specs.Command.{Command}
use Rattle.model.specs.Declared.{Instruction}
use Rattle.model.specs.Program.{Program, program_of}
use Rattle.model.specs.State.{Message, State, position_at, EachWaiting, initial_state}
use Rattle.model.specs.Turn.{Entry, entry_of, instruction_at, turn}
use Rattle.model.specs.Valid.{Valid, Allowed, NamedInstruction, Placed}
use Rattle.model.proofs.Growth.{length-handler}
use Rattle.model.proofs.Naming.{handler-named}
use Rattle.model.proofs.Valid.{limits}
use Rattle.model.proofs.Ways.{Makes, left_by, turn_by, monitored_by}
use Rattle.model.proofs.Messages.{Moves, each_first, turn_moves, monitored_moves}
use Rattle.entries.specs.Entries.{rule_of}
use Rattle.output.specs.Written.{Narrow}

-- every sender is a byte
abbrev pub NarrowSenders : State → Type 0
NarrowSenders s = EachWaiting (λ n m. m.sender < 256) s.queue

pub initial_narrow : (P : Program) → NarrowSenders (initial_state P)
initial_narrow P = each_first (λ n m. m.sender < 256) P (λ n i h. omega arith)

module _ (i : Instruction) (named : NamedInstruction i) where
  -- the operand of each command that leaves an entry
  operand_small : (b : ℕ) → eqb i.byte b ≡ true → Allowed (kind_at b 0) i.operand
  operand_small b e = let p : i.byte ≡ b = eqb-true i.byte b e in rw p at named.operand

  pub left_narrow : (P : Program) (s : State) (n : ℕ) → n < 256 → Narrow (entry_of P s n i)
  unfolding operands_of operands_in
  left_narrow P s n h =
      left_by Narrow P s n i (λ e. let g = operand_small GET e in (h, omega arith, omega (arith, g)))
      (λ e. let g = operand_small PLUS e in (h, omega arith, omega (arith, g)))
      (λ e. let g = operand_small PUT e in (h, omega arith, omega (arith, g)))
      (λ e. let g = operand_small CALL e in (h, omega arith, omega (arith, g)))
      (λ e. let g = operand_small SEND e in (h, omega arith, omega (arith, g)))
      (h, omega arith, omega arith)

module _ (past : List Command) (v : Valid past) (s : State) (senders : NarrowSenders s) (n : ℕ) (h : n < 256) where
  turn_narrow : Makes Narrow (turn (program_of past) s n)
  unfolding program_of
  turn_narrow =
      turn_by (Makes Narrow) (program_of past) s n (λ p w. tt) (λ p w. (h, omega arith, senders n 0 (omega (arith, w)))) (λ l b. tt)
      (λ l b. left_narrow (instruction_at (program_of past) n (position_at s n)) (handler-named past v n (position_at s n) l)
      (program_of past) s n h)
      (λ l. (h, omega arith, omega arith))

  pub rule_narrow : (monitored : Bool) → Makes Narrow (rule_of monitored (program_of past) s n)
  rule_narrow true = monitored_by (Makes Narrow) (program_of past) s n turn_narrow (λ e. tt)
  rule_narrow false = turn_narrow

  -- it stays so
  abbrev Bytes : Entry → ℕ → Message → Type 0
  Bytes e t m = m.sender < 256

  pub rule-senders : (monitored : Bool) → Moves Bytes (rule_of monitored (program_of past) s n)
  rule-senders true = monitored_moves Bytes (program_of past) s n (λ e. senders) (λ port t w. h)
  rule-senders false = turn_moves Bytes (program_of past) s n (λ e. senders) (λ port t w. h)

-- a node is idle or at a place of its handler, so its position is a byte
pub placed_narrow : (past : List Command) → Valid past → (s : State) → Placed (program_of past) s → (n : ℕ) → position_at s n < 256
unfolding program_of
placed_narrow past v s placed n = by_place (placed n)
  where
    by_place : (position_at s n ≡ 255) ⊎ (position_at s n ≤ length ((program_of past).handler n)) → position_at s n < 256
    by_place (inl e) = omega arith
    by_place (inr h) = omega (arith, h, length-handler past n, (limits past v).handlers n)

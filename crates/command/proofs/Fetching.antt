-- What stands at a position of a handler: inside it a command, after its last command none.
use Prim.Native.Nat.{ℕ, ◌+◌, ◌≤◌, ◌<◌}
use mathlib.Core.Path.{◌≡◌, refl, sym, ap, ◌∙◌}
use mathlib.Core.Bool.{Bool, true, false, cond}
use mathlib.Core.List.{List, []}
use Rattle.std.proofs.Common.{Option, None, Some}
use lib.Dec.{ltb}
use lib.ListN.{length, get_or, replicate, length-replicate, get_or-replicate}
use native.Mathlib.Omega.{arith}
use borrow.Author.Tests.{ltb-true, ltb-false, lt-ltb, le-ltb}
use Rattle.model.specs.Declared.{Instruction, instruction}
use Rattle.command.specs.declared.instruction.Instruction.{Instruction as Code}
use Rattle.command.specs.Instructions.{instruction_of, fetched_of, command_in}

module _ (handler : List Instruction) (position : ℕ) where
  pub command-inside : position < length handler → command_in handler position ≡ Some (get_or handler position (instruction 0 0))
  command-inside h = rw (lt-ltb position (length handler) h)

  pub command-after : length handler ≤ position → command_in handler position ≡ None
  command-after h = rw (le-ltb position (length handler) h)

  pub inside-command : (i : Instruction) → Some i ≡ command_in handler position
      → (position < length handler) × (i ≡ get_or handler position (instruction 0 0))
  inside-command i e = by_test (ltb position (length handler)) refl e
    where
      by_test :
          (b : Bool) → ltb position (length handler) ≡ b → Some i ≡ cond b (Some (get_or handler position (instruction 0 0))) None
          → (position < length handler) × (i ≡ get_or handler position (instruction 0 0))
      by_test true t q = (ltb-true position (length handler) t, cc)
      by_test false t q = let z : ◌≡◌ {A = ℕ} 0 1 = cc in absurd (omega arith)

  pub after-command : None ≡ command_in handler position → length handler ≤ position
  after-command e = by_test (ltb position (length handler)) refl e
    where
      by_test :
          (b : Bool) → ltb position (length handler) ≡ b → None ≡ cond b (Some (get_or handler position (instruction 0 0))) None
          → length handler ≤ position
      by_test true t q = let z : ◌≡◌ {A = ℕ} 0 1 = cc in absurd (omega arith)
      by_test false t q = ltb-false position (length handler) t

-- a handler in which this stands at a position
abbrev pub standing : Option Code → ℕ → List Instruction
standing (Some i) position = replicate (position + 1) (instruction_of i)
standing None position = []

pub standing-there : (fetched : Option Code) (position : ℕ) → fetched_of fetched ≡ command_in (standing fetched position) position
standing-there (Some i) position =
    let many = replicate (position + 1) (instruction_of i) in
    let long = length-replicate (position + 1) (instruction_of i) in
    sym (command-inside many position (omega (arith, long)) ∙ ap Some
    (get_or-replicate (position + 1) position (instruction_of i) (instruction 0 0) (omega arith)))
standing-there None position = sym (command-after [] position (omega arith))

-- What a program by the tables says, name by name.
use Prim.Native.Nat.{ℕ}
use mathlib.Core.Path.{◌≡◌, refl}
use mathlib.Core.List.{List}
use Rattle.model.specs.Program.{shared_in as is_shared}
use Rattle.tables.specs.Tables.{shared_in, wired_in, answer_in, read_in, write_in, call_in}
use Rattle.tables.specs.Programs.{Handlers, program_in}

module _ (t : List ℕ) (hs : Handlers) where
  pub shared_by : (x : ℕ) → is_shared (program_in t hs) x ≡ shared_in t x
  unfolding program_in
  shared_by x = refl

  pub wired_by : (n port target : ℕ) → (program_in t hs).wired n port target ≡ wired_in t n port target
  unfolding program_in
  wired_by n port target = refl

  pub answer_by : (f argument : ℕ) → (program_in t hs).answer f argument ≡ answer_in t f argument
  unfolding program_in
  answer_by f argument = refl

  pub read_by : (n x : ℕ) → (program_in t hs).may_read n x ≡ read_in t n x
  unfolding program_in
  read_by n x = refl

  pub write_by : (n x : ℕ) → (program_in t hs).may_write n x ≡ write_in t n x
  unfolding program_in
  write_by n x = refl

  pub call_by : (n f argument : ℕ) → (program_in t hs).may_call n f argument ≡ call_in t n f argument
  unfolding program_in
  call_by n f argument = refl

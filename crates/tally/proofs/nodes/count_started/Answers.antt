use Prim.Native.Nat.{ℕ}
use mathlib.Core.Path.{◌≡◌, refl, ap, ◌∙◌}
use mir.Val.{bool_byte}
use lib.ListN.{length}
use Rattle.std.proofs.Common.{Option, None, Some, is_some, option_to_list}
use Rattle.tables.specs.Programs.{program_in}
use Rattle.tally.proofs.nodes.count_started.Goals as goal

-- a message is one, and none is none
one-or-none : (o : Option ℕ) → bool_byte (is_some o) ≡ length (option_to_list o)
one-or-none None = refl
one-or-none (Some x) = refl

pub returns : goal.returns
unfolding program_in
returns c hs = c.from.ensures ∙ ap bool_byte c.is_some.ensures ∙ one-or-none c.first_message.result ∙ ap length c.first_message.ensures

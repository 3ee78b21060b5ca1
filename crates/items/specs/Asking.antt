-- What the code asks of an item.
use Rattle.std.specs.Prelude.{Bool}
use Rattle.tables.specs.Items.{Item, item, holds, is_this, is_to}
use Rattle.items.specs.declared.Question.{Question}
use Rattle.items.specs.declared.Question.TheVariants.{Holds, Is, To}

-- the test that each question stands for
abbrev pub asked : Question → Item → Bool
asked (Holds v) = holds v
asked (Is b low high) = is_this (item b low high)
asked (To v) = is_to v

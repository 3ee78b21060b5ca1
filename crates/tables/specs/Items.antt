-- Items: what is kept of each ARG, SPAN and REPLY command. Those of a range of arguments and those of a reply differ in what their numbers
-- mean.
use Rattle.std.specs.Prelude.{ℕ, Bool, cond, ◌&&◌, ◌||◌, List, [], ◌∷◌, leb, eqb, Option, None, Some, option_map}
use Rattle.model.specs.Table.{REPLY, SPAN, is_range_byte}
use Rattle.model.specs.Command.{Command, is}

-- an item: the byte of its command, and two numbers: the lowest and the highest argument of a range, argument and answer of a reply
pub record Item : Type 0 where
  pub byte : ℕ
  pub first : ℕ
  pub second : ℕ

-- the item with these
abbrev pub item : ℕ → ℕ → ℕ → Item
item b x y = record { byte = b; first = x; second = y }

-- the command is an ARG or a SPAN
abbrev pub is_range : Command → Bool
is_range c = is_range_byte c.byte

-- the highest argument of such a command; that of an ARG is its only one
abbrev pub high_of : Command → ℕ
high_of c = cond (is SPAN c) c.operands.fourth c.operands.third

-- its range
abbrev pub range_of : Command → Item
range_of c = item c.byte c.operands.third (high_of c)

-- the item of a REPLY: its argument and its answer
abbrev pub reply_item_of : Command → Item
reply_item_of c = item c.byte c.operands.second c.operands.third

-- the command is kept as an item
abbrev pub is_item : Command → Bool
is_item c = is REPLY c || is_range c

-- its item
abbrev pub item_of : Command → Item
item_of c = cond (is REPLY c) (reply_item_of c) (range_of c)

-- the first item that passes a test, if there is one
unfoldable pub found_item : (Item → Bool) → List Item → Option Item
found_item test [] = None
found_item test (i ∷ items) = cond (test i) (Some i) (found_item test items)

-- the range holds the argument, whatever its command
abbrev pub holds : ℕ → Item → Bool
holds v i = leb i.first v && leb v i.second

-- the range is this one, also by its command
abbrev pub is_this : Item → Item → Bool
is_this x i = eqb i.byte x.byte && (eqb i.first x.first && eqb i.second x.second)

-- the reply is to the argument
abbrev pub is_to : ℕ → Item → Bool
is_to v i = eqb i.first v

-- the second number of the item that was found: the answer of a reply
abbrev pub second_of : Option Item → Option ℕ
second_of = option_map (λ (i : Item). i.second)

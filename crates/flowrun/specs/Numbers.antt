-- Words that stand for numbers.
use Rattle.std.specs.Prelude.{ℕ, ◌+◌, ◌*◌, ◌-◌, Bool, cond, ◌||◌, List, [], ◌∷◌, Option, None, Some, eqb, ltb, length}

-- a byte that is no decimal digit
abbrev pub no_digit : ℕ → Bool
no_digit c = ltb c 48 || ltb 57 c

-- the number that goes on by these digits; none if another byte is among them
unfoldable pub digits_from : ℕ → List ℕ → Option ℕ
digits_from value [] = Some value
digits_from value (c ∷ word) = cond (no_digit c) None (digits_from (value * 10 + (c - 48)) word)

-- the number that a word of one to nine decimal digits stands for; none for any other word
abbrev pub number_as : List ℕ → Option ℕ
number_as word = cond (eqb (length word) 0 || ltb 9 (length word)) None (digits_from 0 word)

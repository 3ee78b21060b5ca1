-- Numbers and lines as text ("Jobs worked by hand").
use Rattle.std.specs.Prelude.{ℕ, zero, suc, ◌+◌, ◌/◌, ◌%◌, cond, List, [], ◌∷◌, ◌++◌, ltb}

-- a number without leading zeros, in at most this many decimal digits
unfoldable pub digits_within : ℕ → ℕ → List ℕ
digits_within zero n = []
digits_within (suc k) n = cond (ltb n 10) ((48 + n) ∷ []) (digits_within k (n / 10) ++ ((48 + n % 10) ∷ []))

-- a number in decimal without leading zeros; one of 64 bits has at most 20 digits
unfoldable pub decimal : ℕ → List ℕ
decimal n = digits_within 20 n

-- a number after another field, one space between
unfoldable pub field : ℕ → List ℕ
field n = 32 ∷ decimal n

-- numbers after another field
unfoldable pub fields : List ℕ → List ℕ
fields [] = []
fields (n ∷ ns) = field n ++ fields ns

-- a line: its first field, the numbers after it, a line feed
abbrev pub line : List ℕ → List ℕ → List ℕ
line first numbers = first ++ (fields numbers ++ (10 ∷ []))

-- Bits of a number, counted from 0, the lowest first; and its halves, two numbers below 65,536.
use Rattle.std.specs.Prelude.{ℕ, ◌+◌, ◌*◌, ◌/◌, ◌%◌, ◌^◌, Bool, cond, List, eqb}
use Rattle.std.specs.List.{filter, range_with_len}

-- bit i of a number is 1
unfoldable pub bit_of : ℕ → ℕ → Bool
bit_of x i = eqb (x / 2 ^ i % 2) 1

-- the number with bit i made 1: 2 ^ i is added where the bit is 0
unfoldable pub with_bit : ℕ → ℕ → ℕ
with_bit x i = cond (bit_of x i) x (x + 2 ^ i)

-- the places, of 32, of the bits of a number that are 1, lowest first
unfoldable pub places : ℕ → List ℕ
places x = filter (bit_of x) (range_with_len 0 32)

-- the half of a number for place i: the low one if i is even
unfoldable pub half_of : ℕ → ℕ → ℕ
half_of x i = cond (eqb (i % 2) 0) (x % 65536) (x / 65536)

-- the number with that half made h; only what h has below 65,536 is kept
unfoldable pub with_half : ℕ → ℕ → ℕ → ℕ
with_half x i h = cond (eqb (i % 2) 0) (x / 65536 * 65536 + h % 65536) (x % 65536 + h % 65536 * 65536)

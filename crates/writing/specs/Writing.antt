-- What writing to a buffer leaves.
use Rattle.std.specs.Prelude.{ℕ, zero, suc, ◌+◌, ◌≡◌, List, [], ◌∷◌, ◌++◌, length, take, drop}
use Rattle.model.specs.Output.{bytes4}

-- numbers as 4 bytes each
unfoldable pub numbers_bytes : List ℕ → List ℕ
numbers_bytes [] = []
numbers_bytes (v ∷ vs) = bytes4 v ++ numbers_bytes vs

-- the first k of these parts, one after the other
unfoldable pub joined : (ℕ → List ℕ) → ℕ → List ℕ
joined part zero = []
joined part (suc k) = joined part k ++ part k

-- a buffer with these values from a place on; those before and after stay unchanged
unfoldable pub placed : {A : Type 0} → List A → ℕ → List A → List A
placed buffer at values = take at buffer ++ values ++ drop (length values) (drop at buffer)

-- the values stand in the buffer from `at` on, and `next` is the place after them
pub record Writes {A : Type 0} (values before : List A) (at : ℕ) (after : List A) (next : ℕ) : Type 0 where
  pub place : next ≡ at + length values
  pub buffer : after ≡ placed before at values

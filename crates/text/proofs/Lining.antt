-- A line: room for each of its parts, and the whole.
use Prim.Native.Nat.{ℕ, ◌+◌, ◌≤◌, ◌<◌}
use mathlib.Core.List.{List, [], ◌∷◌}
use native.Mathlib.Omega.{arith}
use lib.ListN.{length}
use Rattle.writing.specs.Writing.{Writes}
use Rattle.text.specs.Text.{fields, line}
use Rattle.writing.proofs.Putting.{room-first, room-second, room-third, three_put}

-- a line
module _ (first numbers before : List ℕ) (at : ℕ) (fits : at + length (line first numbers) ≤ length before) where
  pub first-room : at + length first ≤ length before
  first-room = room-first first (fields numbers) (10 ∷ []) before at fits

  module _ (second : List ℕ) (two : ℕ) (p : Writes first before at second two) where
    pub numbers-room : two + length (fields numbers) ≤ length second
    numbers-room = room-second first (fields numbers) (10 ∷ []) before at fits second two p

    module _ (third : List ℕ) (three : ℕ) (q : Writes (fields numbers) second two third three) where
      pub feed_room : three < length third
      feed_room = omega (arith, room-third first (fields numbers) (10 ∷ []) before at fits second two p third three q)

      pub line-put : (after : List ℕ) (last : ℕ) → Writes (10 ∷ []) third three after last
          → Writes (line first numbers) before at after last
      line-put = three_put first (fields numbers) (10 ∷ []) before at fits second two p third three q

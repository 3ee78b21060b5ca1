-- Parts that are put one after the other.
use Prim.Native.Nat.{ℕ, zero, suc, ◌+◌, ◌-◌, ◌≤◌, ◌<◌}
use mathlib.Core.Path.{◌≡◌, refl, sym, ap, ◌∙◌}
use mathlib.Core.List.{List, ◌++◌, append_assoc, append-nil}
use native.Mathlib.Numerals.{add-one}
use native.Mathlib.Omega.{arith}
use lib.ListN.{length, length-append}
use Rattle.writing.specs.Writing.{joined, Writes}
use Rattle.writing.proofs.Placing.{writes-on, writes_nothing, length-writes}

-- one part more, and room for it
first_next : (f : ℕ → List ℕ) (k : ℕ) → joined f (k + 1) ≡ joined f k ++ f k
unfolding joined
first_next f k = ap (joined f) (add-one k)

grows : (f : ℕ → List ℕ) (k d n : ℕ) → n ≡ d + k → length (joined f k) ≤ length (joined f n)
unfolding joined
grows f k zero n e = let same : n ≡ k = omega arith in omega (arith, ap (λ (i : ℕ). length (joined f i)) same)
grows f k (suc d) zero e = absurd (omega arith)
grows f k (suc d) (suc n) e = omega (arith, grows f k d n (omega arith), length-append (joined f n) (f n))

pub first_fits : (f : ℕ → List ℕ) (k n : ℕ) → k < n → length (joined f k) + length (f k) ≤ length (joined f n)
first_fits f k n h =
    omega (arith, grows f (k + 1) (n - (k + 1)) n (omega arith), length-append (joined f k) (f k), ap length (first_next f k))

-- the first k parts are put: what a loop over them keeps
pub record Put (f : ℕ → List ℕ) (before : List ℕ) (at k : ℕ) (buffer : List ℕ) (next : ℕ) : Type 0 where
  pub writes : Writes (joined f k) before at buffer next
  pub size : length buffer ≡ length before

pub none-put : (f : ℕ → List ℕ) (before : List ℕ) (at : ℕ) → Put f before at 0 before at
unfolding joined
none-put f before at = record { writes = writes_nothing before at; size = refl }

module _ (f : ℕ → List ℕ) (before : List ℕ) (at n : ℕ) (fits : at + length (joined f n) ≤ length before) (k : ℕ) (inside : k < n)
    (buffer : List ℕ) (next : ℕ) (w : Put f before at k buffer next) where
  pub room : next + length (f k) ≤ length buffer
  room = omega (arith, first_fits f k n inside, w.writes.place, w.size)

  pub one-put : (after : List ℕ) (last : ℕ) → Writes (f k) buffer next after last → Put f before at (k + 1) after last
  one-put after last p =
      let more = first_fits f k n inside in
      let both = writes-on (joined f k) (f k) before at buffer next after last (omega arith) w.writes p in
      record {
        writes = rw first_next both;
        size = length-writes (joined f k ++ f k) before at after last (omega (arith, length-append (joined f k) (f k))) both;
      }

-- all are put
pub all-put :
    (f : ℕ → List ℕ) (before : List ℕ) (at n k : ℕ) (buffer : List ℕ) (next : ℕ) → k ≤ n → n ≤ k
    → Put f before at k buffer next → Writes (joined f n) before at buffer next
all-put f before at n k buffer next low high w = let same : k ≡ n = omega arith in rw same at w.writes

-- from the front: the first part, then the others
pub first_shift : (f : ℕ → List ℕ) (k : ℕ) → joined f (suc k) ≡ f 0 ++ joined (λ i. f (suc i)) k
unfolding joined
first_shift f zero = sym (append-nil (f 0))
first_shift f (suc k) = ap (λ (l : List ℕ). l ++ f (suc k)) (first_shift f k) ∙ append_assoc (f 0) (joined (λ i. f (suc i)) k) (f (suc k))

-- a part after another: room for each, and both
module _ (xs ys before : List ℕ) (at : ℕ) (fits : at + length (xs ++ ys) ≤ length before) where
  sizes : at + length xs + length ys ≤ length before
  sizes = omega (arith, length-append xs ys)

  pub front-room : at + length xs ≤ length before
  front-room = omega (arith, sizes)

  module _ (between : List ℕ) (next : ℕ) (p : Writes xs before at between next) where
    pub back-room : next + length ys ≤ length between
    back-room = omega (arith, sizes, p.place, length-writes xs before at between next (omega (arith, sizes)) p)

    pub two_put : (after : List ℕ) (last : ℕ) → Writes ys between next after last → Writes (xs ++ ys) before at after last
    two_put after last q = writes-on xs ys before at between next after last sizes p q

-- three parts, likewise
module _ (xs ys zs before : List ℕ) (at : ℕ) (fits : at + length (xs ++ (ys ++ zs)) ≤ length before) where
  pub room-first : at + length xs ≤ length before
  room-first = front-room xs (ys ++ zs) before at fits

  module _ (second : List ℕ) (two : ℕ) (p : Writes xs before at second two) where
    rest : two + length (ys ++ zs) ≤ length second
    rest = back-room xs (ys ++ zs) before at fits second two p

    pub room-second : two + length ys ≤ length second
    room-second = front-room ys zs second two rest

    module _ (third : List ℕ) (three : ℕ) (q : Writes ys second two third three) where
      pub room-third : three + length zs ≤ length third
      room-third = back-room ys zs second two rest third three q

      pub three_put : (after : List ℕ) (last : ℕ) → Writes zs third three after last → Writes (xs ++ (ys ++ zs)) before at after last
      three_put after last r =
          two_put xs (ys ++ zs) before at fits second two p after last (two_put ys zs second two rest third three q after last r)

-- parts that are the same one by one
pub same_first : (f g : ℕ → List ℕ) (n : ℕ) → ((k : ℕ) → k < n → f k ≡ g k) → joined f n ≡ joined g n
unfolding joined
same_first f g zero same = refl
same_first f g (suc n) same =
    ap (λ (l : List ℕ). l ++ f n) (same_first f g n (λ k h. same k (omega arith)))
    ∙ ap (λ (l : List ℕ). joined g n ++ l) (same n (omega arith))

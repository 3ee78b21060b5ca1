-- What is written of a run is read back: the numbers of a trace.
use Prim.Native.Nat.{ℕ, zero, suc, ◌+◌, ◌*◌, ◌≤◌, ◌<◌}
use mathlib.Core.Path.{◌≡◌, refl, ap, ◌∙◌}
use mathlib.Core.List.{List, [], ◌∷◌, ◌++◌}
use native.Mathlib.Nat.{mul-suc}
use native.Mathlib.Omega.{arith}
use lib.ListN.{length, get_or, get_or-append}
use lib.Seq.{get_or-append-add}
use Rattle.model.specs.Command.{number_at}
use Rattle.model.specs.Turn.{Entry, entry}
use Rattle.model.specs.Output.{entry_bytes, trace_bytes}
use Rattle.model.proofs.Bounds.{length-trace}
use Rattle.model.proofs.Reading.{number-one, number_same}
use Rattle.output.specs.Finding.{entry_from}

-- a number among the first bytes
pub number_front : (xs ys : List ℕ) (at w : ℕ) → at + w ≤ length xs → number_at (xs ++ ys) at w ≡ number_at xs at w
number_front xs ys at w h = number_same (xs ++ ys) xs at w (λ i a b. get_or-append xs ys 0 i (omega arith))

-- a number past the first bytes
pub number_past : (xs ys : List ℕ) (at w : ℕ) → number_at (xs ++ ys) (length xs + at) w ≡ number_at ys at w
unfolding number_at
number_past xs ys at zero = refl
number_past xs ys at (suc w) =
    let p : length xs + at + 1 ≡ length xs + (at + 1) = omega arith in
    rw (get_or-append-add xs ys at 0, p, number_past xs ys (at + 1) w)

-- a number inside element k of elements of one size, one after the other
module _
    {A : Type 0} (d : A) (size : ℕ) (one : A → List ℕ) (sized : (a : A) → length (one a) ≡ size)
    (all : List A → List ℕ) (next : (a : A) (l : List A) → all (a ∷ l) ≡ one a ++ all l)
  where
    pub element :
        (l : List A) (k : ℕ) → k < length l → (at w : ℕ) → at + w ≤ size
        → number_at (all l) (size * k + at) w ≡ number_at (one (get_or l k d)) at w
    element [] k h at w i = absurd (omega arith)
    element (a ∷ l) zero h at w i =
        let here : size * 0 + at ≡ at = omega arith in
        rw (next a l, here) (number_front (one a) (all l) at w (omega (arith, sized a)))
    element (a ∷ l) (suc k) h at w i =
        let there : size * suc k + at ≡ length (one a) + (size * k + at) = omega (arith, sized a, mul-suc size k) in
        rw (next a l, there) (number_past (one a) (all l) (size * k + at) w ∙ element l k (omega arith) at w i)

-- an entry
trace_cons : (e : Entry) (es : List Entry) → trace_bytes (e ∷ es) ≡ entry_bytes e ++ trace_bytes es
unfolding trace_bytes
trace_cons e es = refl

module _ (es : List Entry) (k : ℕ) (h : k < length es) where
  abbrev zeros : Entry
  zeros = entry 0 0 0 0

  abbrev e : Entry
  e = get_or es k zeros

  pub entry_part : (at w : ℕ) → at + w ≤ 7 → number_at (trace_bytes es) (7 * k + at) w ≡ number_at (entry_bytes e) at w
  entry_part = element zeros 7 entry_bytes (λ x. refl) trace_bytes trace_cons es k h

  pub entry_byte : (at : ℕ) → at < 7 → number_at (trace_bytes es) (7 * k + at) 1 ≡ get_or (entry_bytes e) at 0
  entry_byte at i = entry_part at 1 (omega arith) ∙ number-one (entry_bytes e) at

-- entry k of a trace, whatever bytes follow: its node, kind and number
module _ (es : List Entry) (rest : List ℕ) (k : ℕ) (h : k < length es) where
  number_back : (at : ℕ) → at < 7 → number_at (trace_bytes es ++ rest) (7 * k + at) 1 ≡ get_or (entry_bytes (get_or es k (entry 0 0 0 0))) at 0
  number_back at i = number_front (trace_bytes es) rest (7 * k + at) 1 (omega (arith, length-trace es)) ∙ entry_byte es k h at i

  pub node_back : (entry_from (trace_bytes es ++ rest) k).node ≡ (get_or es k (entry 0 0 0 0)).node
  node_back =
      let first : 7 * k ≡ 7 * k + 0 = omega arith in
      ap (λ (p : ℕ). number_at (trace_bytes es ++ rest) p 1) first ∙ number_back 0 (omega arith)

  pub kind_back : (entry_from (trace_bytes es ++ rest) k).kind ≡ (get_or es k (entry 0 0 0 0)).kind
  kind_back = number_back 1 (omega arith)

  pub number_of_back : (entry_from (trace_bytes es ++ rest) k).number ≡ (get_or es k (entry 0 0 0 0)).number
  number_of_back = number_back 2 (omega arith)

-- Values and senders side by side: what is done to both arrays alike is done to the messages.
use Prim.Native.Nat.{ℕ, zero, suc, ◌+◌}
use mathlib.Core.Path.{◌≡◌, refl, sym, ap, ap₂, ◌∙◌}
use mathlib.Core.List.{List, [], ◌∷◌, ◌++◌, map}
use native.Mathlib.Omega.{arith}
use lib.ListN.{length, get_or, set, take, drop, replicate, length-append, length-take, length-drop}
use Rattle.model.specs.State.{Message, message_from, no_message}
use Rattle.memory.specs.Queues.{paired, shifted}

pub paired-set : (vs ns : List ℕ) (i v n : ℕ) → paired (set vs i v) (set ns i n) ≡ set (paired vs ns) i (message_from n v)
paired-set [] ns i v n = refl
paired-set (a ∷ vs) [] zero v n = refl
paired-set (a ∷ vs) [] (suc i) v n = refl
paired-set (a ∷ vs) (b ∷ ns) zero v n = refl
paired-set (a ∷ vs) (b ∷ ns) (suc i) v n = ap (λ (l : List Message). message_from b a ∷ l) (paired-set vs ns i v n)

pub length-paired : (vs ns : List ℕ) → length vs ≡ length ns → length (paired vs ns) ≡ length vs
length-paired [] ns e = refl
length-paired (a ∷ vs) [] e = absurd (omega arith)
length-paired (a ∷ vs) (b ∷ ns) e = ap suc (length-paired vs ns (omega arith))

pub get_or-paired : (vs ns : List ℕ) → length vs ≡ length ns → (i : ℕ)
    → get_or (paired vs ns) i no_message ≡ message_from (get_or ns i 0) (get_or vs i 0)
get_or-paired [] [] e i = refl
get_or-paired [] (b ∷ ns) e i = absurd (omega arith)
get_or-paired (a ∷ vs) [] e i = absurd (omega arith)
get_or-paired (a ∷ vs) (b ∷ ns) e zero = refl
get_or-paired (a ∷ vs) (b ∷ ns) e (suc i) = get_or-paired vs ns (omega arith) i

paired_none : (vs : List ℕ) → paired vs [] ≡ []
paired_none [] = refl
paired_none (a ∷ vs) = refl

pub paired-take : (k : ℕ) (vs ns : List ℕ) → paired (take k vs) (take k ns) ≡ take k (paired vs ns)
paired-take zero vs ns = refl
paired-take (suc k) [] ns = refl
paired-take (suc k) (a ∷ vs) [] = refl
paired-take (suc k) (a ∷ vs) (b ∷ ns) = ap (λ (l : List Message). message_from b a ∷ l) (paired-take k vs ns)

pub paired-drop : (k : ℕ) (vs ns : List ℕ) → paired (drop k vs) (drop k ns) ≡ drop k (paired vs ns)
paired-drop zero vs ns = refl
paired-drop (suc k) [] ns = refl
paired-drop (suc k) (a ∷ vs) [] = paired_none (drop k vs)
paired-drop (suc k) (a ∷ vs) (b ∷ ns) = paired-drop k vs ns

paired-append : (vs ns us ms : List ℕ) → length vs ≡ length ns → paired (vs ++ us) (ns ++ ms) ≡ paired vs ns ++ paired us ms
paired-append [] [] us ms e = refl
paired-append [] (b ∷ ns) us ms e = absurd (omega arith)
paired-append (a ∷ vs) [] us ms e = absurd (omega arith)
paired-append (a ∷ vs) (b ∷ ns) us ms e = ap (λ (l : List Message). message_from b a ∷ l) (paired-append vs ns us ms (omega arith))

pub paired-shifted : (vs ns : List ℕ) → length vs ≡ length ns → (base k : ℕ)
    → paired (shifted vs base k) (shifted ns base k) ≡ shifted (paired vs ns) base k
unfolding shifted
paired-shifted vs ns e base k =
    let first : length (take base vs) ≡ length (take base ns) = length-take base vs ∙ rw e (sym (length-take base ns)) in
    let tail : length (drop (base + 1) vs) ≡ length (drop (base + 1) ns) = length-drop (base + 1) vs ∙ rw e (sym (length-drop (base + 1) ns)) in
    let second : length (take k (drop (base + 1) vs)) ≡ length (take k (drop (base + 1) ns)) =
    length-take k (drop (base + 1) vs) ∙ rw tail (sym (length-take k (drop (base + 1) ns))) in
    let both : length (take base vs ++ take k (drop (base + 1) vs)) ≡ length (take base ns ++ take k (drop (base + 1) ns)) =
    omega (
      arith,
      length-append (take base vs) (take k (drop (base + 1) vs)),
      length-append (take base ns) (take k (drop (base + 1) ns)),
      first,
      second,
    ) in
    paired-append (take base vs ++ take k (drop (base + 1) vs)) (take base ns ++ take k (drop (base + 1) ns)) (drop (base + k) vs)
    (drop (base + k) ns) both
    ∙ ap₂ (λ (l m : List Message). l ++ m)
    (paired-append (take base vs) (take base ns) (take k (drop (base + 1) vs)) (take k (drop (base + 1) ns)) first
    ∙ ap₂ (λ (l m : List Message). l ++ m) (paired-take base vs ns)
    (paired-take k (drop (base + 1) vs) (drop (base + 1) ns) ∙ ap (take k) (paired-drop (base + 1) vs ns)))
    (paired-drop (base + k) vs ns)

-- every sender is the same
pub paired-one : (vs : List ℕ) (n : ℕ) → paired vs (replicate (length vs) n) ≡ map (message_from n) vs
paired-one [] n = refl
paired-one (a ∷ vs) n = ap (λ (l : List Message). message_from n a ∷ l) (paired-one vs n)

pub map-set : (n : ℕ) (vs : List ℕ) (i v : ℕ) → map (message_from n) (set vs i v) ≡ set (map (message_from n) vs) i (message_from n v)
map-set n [] i v = refl
map-set n (a ∷ vs) zero v = refl
map-set n (a ∷ vs) (suc i) v = ap (λ (l : List Message). message_from n a ∷ l) (map-set n vs i v)

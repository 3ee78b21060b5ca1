-- Fields that are put one after the other.
use Prim.Native.Nat.{ℕ, zero, suc}
use mathlib.Core.Path.{◌≡◌, refl, sym, ap, ◌∙◌}
use mathlib.Core.List.{List, [], ◌∷◌, ◌++◌, append_assoc}
use lib.ListN.{length, get_or}
use Rattle.writing.specs.Writing.{joined}
use Rattle.writing.proofs.Putting.{first_shift}
use Rattle.text.specs.Text.{field, fields}

-- numbers one by one
pub fields-each : (numbers : List ℕ) → joined (λ i. field (get_or numbers i 0)) (length numbers) ≡ fields numbers
unfolding joined fields
fields-each [] = refl
fields-each (n ∷ ns) = first_shift (λ i. field (get_or (n ∷ ns) i 0)) (length ns) ∙ ap (λ (l : List ℕ). field n ++ l) (fields-each ns)

-- fields after fields
pub fields-append : (xs ys : List ℕ) → fields (xs ++ ys) ≡ fields xs ++ fields ys
unfolding fields
fields-append [] ys = refl
fields-append (x ∷ xs) ys = ap (λ (l : List ℕ). field x ++ l) (fields-append xs ys) ∙ sym (append_assoc (field x) (fields xs) (fields ys))

pub fields-joined : (numbers : ℕ → List ℕ) (k : ℕ) → fields (joined numbers k) ≡ joined (λ i. fields (numbers i)) k
unfolding joined fields
fields-joined numbers zero = refl
fields-joined numbers (suc k) =
    fields-append (joined numbers k) (numbers k) ∙ ap (λ (l : List ℕ). l ++ fields (numbers k)) (fields-joined numbers k)

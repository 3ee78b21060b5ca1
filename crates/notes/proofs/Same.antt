-- That a command is this one, by its byte and operands: where the last operands are absent, and for the ranges of arguments.
use Prim.Native.Nat.{ℕ}
use mathlib.Core.Path.{◌≡◌, refl, sym, ap, ◌∙◌}
use mathlib.Core.Bool.{Bool, true, false, cond, ◌&&◌, ◌||◌, and-true, and-false, and_self, and_assoc, or_assoc, or_comm}
use native.Mathlib.Omega.{arith}
use lib.Dec.{leb, eqb}
use borrow.Author.Tests.{leb-true, leb-false, eqb-true, eq-eqb, ne_eqb}
use Rattle.model.specs.Table.{ARG, SPAN}
use Rattle.model.specs.Command.{Command, is, quaternary, ternary, binary}
use Rattle.model.specs.Declared.{is_same, span_permits}
use Rattle.tables.specs.Items.{item, is_range, range_of, holds, is_this}

-- a test that need not be asked
absent : (p a t : Bool) → (p ≡ true → t ≡ true) → (p && (a && t)) ≡ (p && a)
absent true a t h = rw (h refl) (and-true a)
absent false a t h = refl

-- where the last operands are absent, a command is the same if the others are
module _ (b : ℕ) (c : Command) (x y z : ℕ) where
  pub same-one : (is b c ≡ true → (c.operands.second ≡ 0) × (c.operands.third ≡ 0) × (c.operands.fourth ≡ 0))
      → is_same b (binary x 0) c ≡ (is b c && eqb c.operands.first x)
  same-one h = absent (is b c) (eqb c.operands.first x) _ (λ e. rw ((h e).0, (h e).1, (h e).2))

  pub same_two : (is b c ≡ true → (c.operands.third ≡ 0) × (c.operands.fourth ≡ 0))
      → is_same b (binary x y) c ≡ (is b c && (eqb c.operands.first x && eqb c.operands.second y))
  same_two h =
      let first = eqb c.operands.first x in
      let second = eqb c.operands.second y in
      let rest = eqb c.operands.third 0 && eqb c.operands.fourth 0 in
      ap (λ (r : Bool). is b c && r) (sym (and_assoc first second rest))
      ∙ absent (is b c) (first && second) rest (λ e. rw ((h e).0, (h e).1))

  pub same_three : (is b c ≡ true → c.operands.fourth ≡ 0)
      → is_same b (ternary x y z) c
      ≡ (is b c && (eqb c.operands.first x && (eqb c.operands.second y && eqb c.operands.third z)))
  same_three h =
      let first = eqb c.operands.first x in
      let second = eqb c.operands.second y in
      let third = eqb c.operands.third z in
      let fourth = eqb c.operands.fourth 0 in
      rw (← and_assoc second third fourth, ← and_assoc first (second && third) fourth)
      (absent (is b c) (first && (second && third)) fourth (λ e. rw (h e)))

-- one argument, as a range
one_argument : (x v : ℕ) → (leb x v && leb v x) ≡ eqb x v
one_argument x v = by_sides (leb x v) refl (leb v x) refl
  where
    by_sides : (p : Bool) → leb x v ≡ p → (q : Bool) → leb v x ≡ q → (p && q) ≡ eqb x v
    by_sides true e true f = sym (eq-eqb x v (omega (arith, leb-true x v e, leb-true v x f)))
    by_sides true e false f = sym (ne_eqb x v (λ z. omega (arith, leb-false v x f)))
    by_sides false e q f = sym (ne_eqb x v (λ z. omega (arith, leb-false x v e)))

-- tests in another order
and_twice : (a b e : Bool) → ((a && b) && (e && e)) ≡ (a && (b && (e && true)))
and_twice a b e = rw (and_self e, and-true e) (and_assoc a b e)

or_between : (a o s : Bool) → (a || (o || s)) ≡ (o || (a || s))
or_between a o s = sym (or_assoc a o s) ∙ ap (λ (b : Bool). b || s) (or_comm a o) ∙ or_assoc o a s

module _ (c : Command) where
  -- a command is an ARG, a SPAN, or none of them
  pub by_range : (A : Bool → Bool → Type 0) → (is ARG c ≡ true → A true false) → (is SPAN c ≡ true → A false true) → A false false
      → A (is ARG c) (is SPAN c)
  by_range A arg span none = by_bytes (is ARG c) refl (is SPAN c) refl
    where
      by_bytes : (p : Bool) → is ARG c ≡ p → (q : Bool) → is SPAN c ≡ q → A p q
      by_bytes true e true f =
          let z : ARG ≡ SPAN = sym (eqb-true c.byte ARG e) ∙ eqb-true c.byte SPAN f in
          absurd (omega arith)
      by_bytes true e false f = arg e
      by_bytes false e true f = span f
      by_bytes false e false f = none

  module _ (n f : ℕ) where
    -- the command is a range of the node and the function
    abbrev pub is_of : Bool
    is_of = is_range c && (eqb c.operands.first n && eqb c.operands.second f)

    -- it is this ARG, and this SPAN
    pub argument_same : (v : ℕ) → (is ARG c ≡ true → c.operands.fourth ≡ 0)
        → (is_of && is_this (item ARG v v) (range_of c)) ≡ is_same ARG (ternary n f v) c
    argument_same v h =
        let a = eqb c.operands.first n in
        let b = eqb c.operands.second f in
        let x = c.operands.third in
        let y = c.operands.fourth in
        by_range (λ p q. (((p || q) && (a && b)) && (p && (eqb x v && eqb (cond q y x) v))) ≡ (p && (a && (b && (eqb x v && eqb y 0)))))
        (λ e. rw (h e) (and_twice a b (eqb x v))) (λ e. and-false (a && b)) refl

    pub span_same : (low high : ℕ)
        → (is_of && is_this (item SPAN low high) (range_of c))
        ≡ is_same SPAN (quaternary n f low high) c
    span_same low high =
        let a = eqb c.operands.first n in
        let b = eqb c.operands.second f in
        let x = c.operands.third in
        let y = c.operands.fourth in
        by_range
        (λ p q. (((p || q) && (a && b)) && (q && (eqb x low && eqb (cond q y x) high))) ≡ (q && (a && (b && (eqb x low && eqb y high)))))
        (λ e. and-false (a && b)) (λ e. and_assoc a b (eqb x low && eqb y high)) refl

    -- the call with this argument is permitted by it, or by one of the commands before
    pub call_same : (v : ℕ) (o s : Bool) → (is ARG c ≡ true → c.operands.fourth ≡ 0)
        → ((is_of && holds v (range_of c)) || (o || s))
        ≡ ((is_same ARG (ternary n f v) c || o) || (span_permits n f v c || s))
    call_same v o s h =
        let a = eqb c.operands.first n in
        let b = eqb c.operands.second f in
        let x = c.operands.third in
        let y = c.operands.fourth in
        by_range
        (λ p q. ((((p || q) && (a && b)) && (leb x v && leb v (cond q y x))) || (o || s))
        ≡ (((p && (a && (b && (eqb x v && eqb y 0)))) || o) || ((q && (a && (b && (leb x v && leb v y)))) || s)))
        (λ e. rw (h e, one_argument x v, and-true (eqb x v), and_assoc a b (eqb x v)) (sym (or_assoc (a && (b && eqb x v)) o s)))
        (λ e. rw (and_assoc a b (leb x v && leb v y)) (or_between (a && (b && (leb x v && leb v y))) o s)) refl

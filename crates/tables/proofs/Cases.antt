-- A write in a column, a flag and a mark: what is read there after one write, in the model's words.
use Prim.Native.Nat.{ℕ, ◌+◌, ◌*◌, ◌%◌, ◌≤◌, ◌<◌}
use mathlib.Core.Path.{◌≡◌, refl, sym}
use mathlib.Core.Bool.{Bool, true, false, cond, not, ◌&&◌, ◌||◌}
use mathlib.Core.List.{List}
use native.Mathlib.Omega.{arith}
use lib.Dec.{ltb, eqb}
use borrow.Author.Tests.{ltb-true, ltb-false, lt-ltb, eqb-true, eqb-false, eq-eqb, ne_eqb}
use Rattle.tables.specs.declared.cells.Section.{Section}
use Rattle.tables.specs.Bits.{bit_of, with_bit}
use Rattle.tables.specs.Cells.{entry_in, is_mark_place, mark_cell, marks_with, mark_in}
use Rattle.tables.proofs.Setting.{bit-set}

-- a column: the new value at the cell, the old one elsewhere
pub column :
    (on : Bool) (j i k x old y older : ℕ) → (on ≡ true → j < k) → (on ≡ true → j ≡ i → x ≡ y) → old ≡ older
    → cond (on && (eqb j i && ltb i k)) x old ≡ cond (on && eqb j i) y older
column false j i k x old y older h p q = q
column true j i k x old y older h p q = by_cell (eqb j i) refl
  where
    by_cell : (b : Bool) → eqb j i ≡ b → cond (b && ltb i k) x old ≡ cond b y older
    by_cell true e = let g : j ≡ i = eqb-true j i e in let m = h refl in rw (lt-ltb i k (omega arith)) (p refl g)
    by_cell false e = q

-- a write to this cell after one to another, and before one to another
pub this_last : (b d : Bool) (x y z : ℕ) → cond (b && true) x (cond (d && false) y z) ≡ cond b x z
this_last true d x y z = refl
this_last false true x y z = refl
this_last false false x y z = refl

pub this_first : (b d : Bool) (x y z : ℕ) → cond (b && false) x (cond (d && true) y z) ≡ cond d y z
this_first true true x y z = refl
this_first true false x y z = refl
this_first false true x y z = refl
this_first false false x y z = refl

-- a flag: the cell, or what was flagged
pub flag : (on : Bool) (j i k old : ℕ) (older : Bool) → (on ≡ true → j < k) → not (eqb old 0) ≡ older
    → not (eqb (cond (on && (eqb j i && ltb i k)) 1 old) 0) ≡ ((on && eqb j i) || older)
flag false j i k old older h q = q
flag true j i k old older h q = by_cell (eqb j i) refl
  where
    by_cell : (b : Bool) → eqb j i ≡ b → not (eqb (cond (b && ltb i k) 1 old) 0) ≡ (b || older)
    by_cell true e = let g : j ≡ i = eqb-true j i e in let m = h refl in rw (lt-ltb i k (omega arith))
    by_cell false e = q

-- a mark at a row and a column, by the cells of its section before: the new mark, or what was marked
module _ (cells : ℕ → ℕ) (a b r x k : ℕ) where
  -- two marks in one cell are the same if their bits are, and marks in two cells differ
  same_mark : b < 64 → x < 64 → mark_cell a b ≡ mark_cell r x → eqb (b % 32) (x % 32) ≡ (eqb a r && eqb b x)
  same_mark h l m = by_bit (eqb (b % 32) (x % 32)) refl
    where
      by_row : (p : Bool) → eqb a r ≡ p → eqb (b % 32) (x % 32) ≡ false → false ≡ (p && eqb b x)
      by_row true e f = sym (ne_eqb b x (λ z. eqb-false (b % 32) (x % 32) f (rw z)))
      by_row false e f = refl

      by_bit : (p : Bool) → eqb (b % 32) (x % 32) ≡ p → p ≡ (eqb a r && eqb b x)
      by_bit true e =
          let q : b % 32 ≡ x % 32 = eqb-true (b % 32) (x % 32) e in
          let c : a ≡ r = omega arith in
          let d : b ≡ x = omega arith in
          rw (eq-eqb a r c, eq-eqb b x d)
      by_bit false e = by_row (eqb a r) refl e

  other_mark : ¬ (mark_cell a b ≡ mark_cell r x) → (eqb a r && eqb b x) ≡ false
  other_mark n = by_row (eqb a r) refl
    where
      by_row : (p : Bool) → eqb a r ≡ p → (p && eqb b x) ≡ false
      by_row true e = ne_eqb b x (λ z. n (rw (eqb-true a r e, z)))
      by_row false e = refl

  inside : (older : Bool) → b < 64 → x < 64 → mark_cell a b < k → bit_of (cells (mark_cell r x)) (x % 32) ≡ older
      → bit_of (cond (eqb (mark_cell a b) (mark_cell r x) && ltb (mark_cell r x) k) (with_bit (cells (mark_cell a b)) (b % 32))
      (cells (mark_cell r x))) (x % 32) ≡ ((eqb a r && eqb b x) || older)
  inside older h l m q = by_cell (eqb (mark_cell a b) (mark_cell r x)) refl
    where
      by_cell : (p : Bool) → eqb (mark_cell a b) (mark_cell r x) ≡ p
          → bit_of (cond (p && ltb (mark_cell r x) k) (with_bit (cells (mark_cell a b)) (b % 32)) (cells (mark_cell r x))) (x % 32)
          ≡ ((eqb a r && eqb b x) || older)
      by_cell true e =
          let g : mark_cell a b ≡ mark_cell r x = eqb-true (mark_cell a b) (mark_cell r x) e in
          rw (← same_mark h l g, ← q, ← g, lt-ltb (mark_cell a b) k m) (bit-set (b % 32) (x % 32) (cells (mark_cell a b)))
      by_cell false e = rw (other_mark (eqb-false (mark_cell a b) (mark_cell r x) e)) q

  pub marking :
      (on : Bool) (older : Bool) → (on ≡ true → a < 128) → (on ≡ true → b < 64) → (on ≡ true → mark_cell a b < k)
      → (is_mark_place r x && bit_of (cells (mark_cell r x)) (x % 32)) ≡ older
      → (is_mark_place r x && bit_of (cond ((on && is_mark_place a b) && (eqb (mark_cell a b) (mark_cell r x) && ltb (mark_cell r x) k))
      (with_bit (cells (mark_cell a b)) (b % 32)) (cells (mark_cell r x))) (x % 32)) ≡ ((on && (eqb a r && eqb b x)) || older)
  marking false older h₁ h₂ h₃ q = q
  marking true older h₁ h₂ h₃ q = rw (lt-ltb a 128 (h₁ refl), lt-ltb b 64 (h₂ refl)) (by_range (ltb r 128) refl (ltb x 64) refl q)
    where
      by_range :
          (c : Bool) → ltb r 128 ≡ c → (d : Bool) → ltb x 64 ≡ d → ((c && d) && bit_of (cells (mark_cell r x)) (x % 32)) ≡ older
          → ((c && d) && bit_of (cond (eqb (mark_cell a b) (mark_cell r x) && ltb (mark_cell r x) k) (with_bit (cells (mark_cell a b)) (b % 32))
          (cells (mark_cell r x))) (x % 32)) ≡ ((eqb a r && eqb b x) || older)
      by_range true e true f q = inside older (h₂ refl) (ltb-true x 64 f) (h₃ refl) q
      by_range false e d f q = let m = h₁ refl in rw (ne_eqb a r (λ z. omega (arith, ltb-false r 128 e))) q
      by_range true e false f q = by_row (eqb a r)
        where
          by_row : (p : Bool) → false ≡ ((p && eqb b x) || older)
          by_row true = rw (ne_eqb b x (λ z. omega (arith, h₂ refl, ltb-false x 64 f))) q
          by_row false = q

-- the marks of a section of 32 rows after a write of one of them, if it is made: those before, and this one
pub mark_after :
    (t u : List ℕ) (s : Section) (on : Bool) (a b r x : ℕ) (older : Bool)
    → entry_in u s (mark_cell r x) ≡ cond ((on && is_mark_place a b) && (eqb (mark_cell a b) (mark_cell r x) && ltb (mark_cell r x) 64))
    (marks_with t s a b) (entry_in t s (mark_cell r x))
    → (on ≡ true → (a < 32) × (b < 64)) → mark_in t s r x ≡ older
    → mark_in u s r x ≡ ((on && (eqb a r && eqb b x)) || older)
unfolding mark_in
mark_after t u s on a b r x older e h q =
    rw e
    (marking (entry_in t s) a b r x 64 on older (λ p. omega (arith, (h p).0)) (λ p. (h p).1) (λ p. omega (arith, (h p).0, (h p).1)) q)

-- two places that are each given by a pair of numbers
pub same_place : (x y a b n p : ℕ) → (x ≡ y → (a ≡ n) × (b ≡ p)) → (a ≡ n → b ≡ p → x ≡ y) → eqb x y ≡ (eqb a n && eqb b p)
same_place x y a b n p apart joined = by_node (eqb a n) refl (eqb b p) refl
  where
    by_node : (u : Bool) → eqb a n ≡ u → (w : Bool) → eqb b p ≡ w → eqb x y ≡ (u && w)
    by_node true e true f = eq-eqb x y (joined (eqb-true a n e) (eqb-true b p f))
    by_node true e false f = ne_eqb x y (λ z. eqb-false b p f (apart z).1)
    by_node false e w f = ne_eqb x y (λ z. eqb-false a n e (apart z).0)

-- a port of a node, at 4 rows a node
same-port : (a b n p : ℕ) → b < 4 → p < 4 → eqb (a * 4 + b) (n * 4 + p) ≡ (eqb a n && eqb b p)
same-port a b n p h l = same_place (a * 4 + b) (n * 4 + p) a b n p (λ z. (omega arith, omega arith)) (λ e f. omega arith)

-- a wire: the ports are 0 to 3
pub wire :
    (on : Bool) (a b d n p m : ℕ) (g older : Bool) → (on ≡ true → b ≤ 3) → (ltb p 4 && g) ≡ older
    → (ltb p 4 && ((on && (eqb (a * 4 + b) (n * 4 + p) && eqb d m)) || g)) ≡ ((on && (eqb a n && (eqb b p && eqb d m))) || older)
wire false a b d n p m g older h q = q
wire true a b d n p m g older h q = by_port (ltb p 4) refl q
  where
    joined : (x y z : Bool) → (((x && y) && z) || g) ≡ ((x && (y && z)) || g)
    joined true y z = refl
    joined false y z = refl

    none : (x : Bool) → false ≡ ((x && false) || false)
    none true = refl
    none false = refl

    by_port : (t : Bool) → ltb p 4 ≡ t → (t && g) ≡ older → (t &&
        ((eqb (a * 4 + b) (n * 4 + p) && eqb d m) || g)) ≡ ((eqb a n && (eqb b p && eqb d m)) || older)
    by_port true e r = let l = h refl in rw (← r, same-port a b n p (omega arith) (ltb-true p 4 e)) (joined (eqb a n) (eqb b p) (eqb d m))
    by_port false e r = rw (← r, ne_eqb b p (λ z. omega (arith, h refl, ltb-false p 4 e))) (none (eqb a n))

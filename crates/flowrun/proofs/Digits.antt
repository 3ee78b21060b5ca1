-- The number that the digits of a word are, one digit after the other.
use Prim.Native.Nat.{ℕ, suc, ◌+◌, ◌*◌, ◌-◌, ◌^◌, ◌≤◌, ◌<◌}
use mathlib.Core.Path.{◌≡◌, sym, ap, ◌∙◌}
use mathlib.Core.Bool.{true, false, ◌||◌}
use mathlib.Core.List.{List, ◌∷◌}
use Rattle.std.proofs.Common.{None, Some}
use native.Mathlib.Omega.{arith}
use native.Mathlib.Nat.{pow-suc}
use lib.ListN.{length, get_or, drop, drop_of_length-le}
use lib.Seq.{drop-cons}
use lib.Dec.{eqb, ltb}
use Rattle.std.proofs.lemmas.Bool.Decides.{nat_tests}
use Rattle.std.specs.Char.{IsAsciiDigit, IsNotAsciiDigit}
use Rattle.flowrun.specs.Numbers.{no_digit, digits_from, number_as}

-- the first i bytes of a word are digits, with this value
pub record Digested (word : List ℕ) (value i : ℕ) : Type 0 where
  pub same : digits_from 0 word ≡ digits_from value (drop i word)
  pub small : value < 10 ^ i
  pub inside : i ≤ length word

module _ (word : List ℕ) (some : eqb (length word) 0 ≡ false) (few : length word ≤ 9) where
  -- a word that may be a number
  fits : (eqb (length word) 0 || ltb 9 (length word)) ≡ false
  fits = grind (arith, nat_tests)

  module _ (value i : ℕ) (d : Digested word value i) where
    -- all bytes are digits
    pub digested_all : length word ≤ i → Some value ≡ number_as word
    unfolding digits_from
    digested_all h = rw fits (sym (d.same ∙ ap (digits_from value) (drop_of_length-le word h)))

    module _ (more : i < length word) where
      abbrev next : ℕ
      next = get_or word i 0

      there : digits_from value (drop i word) ≡ digits_from value (next ∷ drop (suc i) word)
      there = ap (digits_from value) (drop-cons word i 0 more)

      -- another byte
      pub digested_other : IsNotAsciiDigit next → None ≡ number_as word
      unfolding digits_from
      digested_other out =
          let other : no_digit next ≡ true = grind (arith, nat_tests) in
          rw fits (sym (d.same ∙ there ∙ rw other))

      -- one digit more
      pub digested_next : IsAsciiDigit next → Digested word (value * 10 + (next - 48)) (i + 1)
      unfolding digits_from
      digested_next within =
          let digit : no_digit next ≡ false = grind (arith, nat_tests) in
          let e : i + 1 ≡ suc i = omega arith in
          record {
            same = d.same ∙ there ∙ rw (digit, e);
            small = rw (e, pow-suc 10 i) (omega (arith, d.small));
            inside = omega arith;
          }

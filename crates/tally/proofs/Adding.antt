-- Laws of counting in an array of 32 numbers.
use Prim.Native.Nat.{ℕ, zero, suc, ◌+◌, ◌-◌, ◌*◌, ◌/◌, ◌%◌, ◌^◌, ◌≤◌, ◌<◌}
use mathlib.Core.Path.{◌≡◌, refl, sym, ap, ◌∙◌}
use mathlib.Core.Bool.{Bool, true, false}
use mathlib.Core.List.{List}
use native.Mathlib.Omega.{arith}
use native.Mathlib.Nat.{pow-suc}
use lib.Count.{count_leading_zeros}
use lib.Dec.{eqb}
use lib.ListN.{length, get_or, set, length-set}
use lib.Seq.{get_or-set_same, get_or-set_other}
use borrow.Author.Tests.{eqb-true, eqb-false, eq-eqb, ne_eqb}
use Rattle.std.proofs.Math.Nat.{div-eq_of_lt}
use Rattle.std.proofs.Math.Pow.{pow_mono}
use Rattle.std.proofs.lemmas.Nat.{leading_length}
use Rattle.model.specs.Table.{max_nodes}
use Rattle.model.specs.Command.{number_at}
use Rattle.model.specs.Turn.{Entry}
use Rattle.model.specs.Tally.{count_entries, reaches, takes}
use Rattle.model.proofs.Counting.{bit, count_next, count_nothing, count_most}
use Rattle.model.proofs.Reading.{number-one}
use Rattle.tables.specs.Tables.{wired_in}
use Rattle.tables.specs.Programs.{Handlers, program_in}
use Rattle.tables.specs.Bits.{bit_of}
use Rattle.tables.proofs.Setting.{half_bit, low_bit}
use Rattle.memory.specs.Queues.{counted}
use Rattle.memory.proofs.Readying.{length-counted, counted-at}
use Rattle.output.specs.Finding.{entry_from}
use Rattle.tally.specs.Counted.{Adds, Numbered}

-- of the bits of a number, those from bit k on, the lowest first: what is ahead of a loop over them
pub record Ahead (all k targets : ℕ) : Type 0 where
  pub inside : k ≤ 32
  pub small : targets < 2 ^ (32 - k)
  pub bits : (j : ℕ) → bit_of targets j ≡ bit_of all (k + j)

pub ahead-first : (all : ℕ) → all < 2 ^ 32 → Ahead all 0 all
ahead-first all small = record { inside = omega arith; small = small; bits = λ j. let e : 0 + j ≡ j = omega arith in rw e }

module _ {all k targets : ℕ} (a : Ahead all k targets) where
  -- bit k is the lowest
  ahead-here : bit_of all k ≡ eqb (targets % 2) 1
  ahead-here = let e : k + 0 ≡ k = omega arith in sym (rw e at (a.bits 0)) ∙ low_bit targets

  pub ahead-one : targets % 2 ≡ 1 → bit_of all k ≡ true
  ahead-one e = ahead-here ∙ eq-eqb (targets % 2) 1 e

  pub ahead-other : ¬ (targets % 2 ≡ 1) → bit_of all k ≡ false
  ahead-other e = ahead-here ∙ ne_eqb (targets % 2) 1 e

  pub ahead-next : k < 32 → Ahead all (k + 1) (targets / 2)
  ahead-next h =
      let e : 32 - k ≡ suc (32 - (k + 1)) = omega arith in
      let two = pow-suc 2 (32 - (k + 1)) in
      let below : targets < 2 ^ suc (32 - (k + 1)) = rw (← e) a.small in
      record {
        inside = omega arith;
        small = omega (arith, below, two);
        bits = λ j. let f : k + 1 + j ≡ k + suc j = omega arith in sym (half_bit targets j) ∙ rw f (a.bits (suc j));
      }

-- none of the bits of a number is 1 from k on: all targets are counted
module _ (ws : List ℕ) (all k : ℕ) (none : (i : ℕ) → k ≤ i → bit_of all i ≡ false) where
  counted-rest : (d : ℕ) → counted (bit_of all) ws (d + k) ≡ counted (bit_of all) ws k
  unfolding counted
  counted-rest zero = let e : 0 + k ≡ k = omega arith in rw e
  counted-rest (suc d) = let e : suc d + k ≡ suc (d + k) = omega arith in rw (e, none (d + k) (omega arith)) (counted-rest d)

  counted-all : k ≤ 32 → counted (bit_of all) ws k ≡ counted (bit_of all) ws 32
  counted-all inside = let e : 32 - k + k ≡ 32 = omega arith in rw e at (sym (counted-rest (32 - k)))

-- above its highest bit, where its leading zeros end, a number has no bit
pub none_above : (all : ℕ) → all < 2 ^ 32 → (i : ℕ) → 32 - count_leading_zeros 32 all ≤ i → bit_of all i ≡ false
unfolding bit_of
none_above all small i h =
    let l = leading_length 32 all small in
    let long : l.0 ≤ i = omega (arith, h, l.1) in
    let below : all < 2 ^ i = omega (arith, l.2, pow_mono long) in
    rw (div-eq_of_lt below) refl

-- all targets are counted
pub adds_targets : (all k : ℕ) (before after : List ℕ) → length before ≡ max_nodes → k ≤ 32 → ((i : ℕ) → k ≤ i → bit_of all i ≡ false)
    → after ≡ counted (bit_of all) before k → Adds (bit_of all) before after
adds_targets all k before after size inside none same =
    let whole = same ∙ counted-all before all k none inside in
    record {
      size = ap length whole ∙ length-counted (bit_of all) before 32 ∙ size;
      each = λ n h. ap (λ (l : List ℕ). get_or l n 0) whole ∙ counted-at (bit_of all) before 32 n h (omega arith);
    }

-- one more at one node, and at none
pub adds_one : (test : ℕ → Bool) (before : List ℕ) (m : ℕ) → length before ≡ max_nodes → m < max_nodes
    → ((n : ℕ) → test n ≡ eqb m n) → Adds test before (set before m (get_or before m 0 + 1))
adds_one test before m size inside is =
    record { size = length-set before m (get_or before m 0 + 1) ∙ size; each = λ n h. by_node n (eqb m n) refl }
  where
    by_node : (n : ℕ) (b : Bool) → eqb m n ≡ b → get_or (set before m (get_or before m 0 + 1)) n 0 ≡ get_or before n 0 + bit (test n)
    by_node n true p =
        let same : m ≡ n = eqb-true m n p in
        let one : bit (test n) ≡ 1 = rw (is n, p) in
        let here = get_or-set_same before m (get_or before m 0 + 1) 0 (omega arith) in
        let there : get_or (set before m (get_or before m 0 + 1)) n 0 ≡ get_or before n 0 + 1 = rw (← same) here in
        omega (arith, there, one)
    by_node n false p =
        let none : bit (test n) ≡ 0 = rw (is n, p) in
        get_or-set_other before m n (get_or before m 0 + 1) 0 (λ e. eqb-false m n p (sym e)) ∙ omega (arith, none)

pub adds_none : (test : ℕ → Bool) (before : List ℕ) → length before ≡ max_nodes → ((n : ℕ) → n < max_nodes → test n ≡ false)
    → Adds test before before
adds_none test before size none =
    record { size = size; each = λ n h. let no : bit (test n) ≡ 0 = rw (none n h) in omega (arith, no) }

-- tests that agree add the same
pub adds-agree : (f g : ℕ → Bool) (before after : List ℕ) → ((n : ℕ) → n < max_nodes → f n ≡ g n) → Adds f before after → Adds g before after
adds-agree f g before after same a =
    record { size = a.size; each = λ n h. a.each n h ∙ ap (λ (b : Bool). get_or before n 0 + bit b) (same n h) }

-- entry k of a trace, by its bytes: its kind is at 7 * k + 1
module _ (trace : List ℕ) (k : ℕ) where
  abbrev kind : ℕ
  kind = get_or trace (7 * k + 1) 0

  is-kind : (b : ℕ) → kind ≡ b → (entry_from trace k).kind ≡ b
  is-kind b e = number-one trace (7 * k + 1) ∙ e

  pub takes-here : (node n : ℕ) → kind ≡ 1 → node ≡ number_at trace (7 * k) 1 → takes n (entry_from trace k) ≡ eqb node n
  takes-here node n e same = rw (is-kind 1 e, ← same)

  pub takes-other : (n : ℕ) → ¬ (kind ≡ 1) → takes n (entry_from trace k) ≡ false
  takes-other n e = rw (ne_eqb (entry_from trace k).kind 1 (λ q. e (sym (number-one trace (7 * k + 1)) ∙ q)))

  module _ (t : List ℕ) (hs : Handlers) (n : ℕ) where
    pub reaches_here : (node port : ℕ) → kind ≡ 6 → node ≡ number_at trace (7 * k) 1 → port ≡ number_at trace (7 * k + 2) 1
        → wired_in t node port n ≡ reaches (program_in t hs) n (entry_from trace k)
    unfolding program_in
    reaches_here node port e same also = rw (is-kind 6 e, same, also)

    pub reaches-none : ¬ (kind ≡ 6) → reaches (program_in t hs) n (entry_from trace k) ≡ false
    reaches-none e = rw (ne_eqb (entry_from trace k).kind 6 (λ q. e (sym (number-one trace (7 * k + 1)) ∙ q)))

-- an array that counts entries: none at first, and one entry more
pub counts-first : (test : ℕ → Entry → Bool) (entries : ℕ → Entry) (array : List ℕ) → Numbered (λ n. 0) array
    → Numbered (λ n. count_entries (test n) entries 0) array
counts-first test entries array c =
    record { size = c.size; each = λ n h. c.each n h ∙ sym (count_nothing (λ j. test n (entries j))) }

pub counts-next : (test : ℕ → Entry → Bool) (entries : ℕ → Entry) (k : ℕ) (before after : List ℕ)
    → Numbered (λ n. count_entries (test n) entries k) before → Adds (λ n. test n (entries k)) before after
    → Numbered (λ n. count_entries (test n) entries (k + 1)) after
counts-next test entries k before after c a =
    record {
      size = a.size;
      each = λ n h. omega (arith, a.each n h, c.each n h, count_next (λ j. test n (entries j)) k);
    }

-- a count of fewer than 2^63 entries has room for one more
pub counts-room : (test : ℕ → Entry → Bool) (entries : ℕ → Entry) (k : ℕ) (array : List ℕ)
    → Numbered (λ n. count_entries (test n) entries k) array → k < 2 ^ 63 → (n : ℕ) → n < max_nodes → get_or array n 0 < 2 ^ 63
counts-room test entries k array c l n h = omega (arith, c.each n h, count_most (λ j. test n (entries j)) k)

-- One more item in the tables, by what is written for it: the chain of its node and function, or of its function, is longer by one, and no
-- other chain changes.
use Prim.Native.Nat.{ℕ, ◌+◌, ◌-◌, ◌*◌, ◌/◌, ◌%◌, ◌≤◌, ◌<◌}
use mathlib.Core.Path.{◌≡◌, refl, ◌∙◌}
use mathlib.Core.Bool.{Bool, true, false, cond, ◌&&◌, ◌||◌, and-false}
use mathlib.Core.List.{List, ◌∷◌}
use Rattle.std.proofs.Common.{Some, is_some}
use native.Mathlib.Omega.{arith}
use lib.Dec.{ltb, eqb}
use borrow.Author.Tests.{ltb-true, ltb-false, lt-ltb, eqb-true, eqb-false, eq-eqb, ne_eqb}
use Rattle.model.specs.Table.{REPLY}
use Rattle.model.specs.Command.{Command, is}
use Rattle.model.proofs.Logic.{not-both, or_first, or_second, and_left, and_right}
use Rattle.tables.specs.Bits.{half_of, with_half}
use Rattle.tables.specs.Cells.{entry_in, half_in, halves_with}
use Rattle.tables.specs.Items.{Item, is_range, range_of, reply_item_of, is_item, item_of, found_item}
use Rattle.tables.specs.Tables.{item_first_cells, item_second_cells, link_cells, last_range_cells, item_count_in, link, item_in, before_in, range_place}
use Rattle.tables.specs.Tables.{last_range_in, last_reply_in, chain_in, ranges_in, replies_in}
use Rattle.tables.specs.Writes.{before_of}
use Rattle.tables.proofs.Chains.{chain_below, chain_first, chain_kept}
use Rattle.tables.proofs.Cases.{column, same_place}
use Rattle.notes.proofs.Same.{is_of}

-- a half: the new value at its place, the old one elsewhere
module _ (cells : ℕ → ℕ) (a k size x : ℕ) where
  same-cell : a / 2 ≡ k / 2 → x < 65536 → half_of (with_half (cells (a / 2)) a x) k ≡ cond (eqb a k) x (half_of (cells (k / 2)) k)
  unfolding half_of with_half
  same-cell e h = rw (← e) (by_sides (eqb (a % 2) 0) refl (eqb (k % 2) 0) refl (cells (a / 2)))
    where
      by_sides : (p : Bool) → eqb (a % 2) 0 ≡ p → (q : Bool) → eqb (k % 2) 0 ≡ q → (y : ℕ)
          → cond q (cond p (y / 65536 * 65536 + x % 65536) (y % 65536 + x % 65536 * 65536) % 65536)
          (cond p (y / 65536 * 65536 + x % 65536) (y % 65536 + x % 65536 * 65536) / 65536)
          ≡ cond (eqb a k) x (cond q (y % 65536) (y / 65536))
      by_sides true p true q y = rw (eq-eqb a k (omega (arith, eqb-true (a % 2) 0 p, eqb-true (k % 2) 0 q))) (omega arith)
      by_sides true p false q y = rw (ne_eqb a k (λ z. omega (arith, eqb-true (a % 2) 0 p, eqb-false (k % 2) 0 q))) (omega arith)
      by_sides false p true q y = rw (ne_eqb a k (λ z. omega (arith, eqb-false (a % 2) 0 p, eqb-true (k % 2) 0 q))) (omega arith)
      by_sides false p false q y = rw (eq-eqb a k (omega (arith, eqb-false (a % 2) 0 p, eqb-false (k % 2) 0 q))) (omega arith)

  halving : (on : Bool) → (on ≡ true → a / 2 < size) → (on ≡ true → x < 65536)
      → half_of (cond (on && (eqb (a / 2) (k / 2) && ltb (k / 2) size)) (with_half (cells (a / 2)) a x) (cells (k / 2))) k
      ≡ cond (on && eqb a k) x (half_of (cells (k / 2)) k)
  halving false h l = refl
  halving true h l = by_cell (eqb (a / 2) (k / 2)) refl
    where
      by_cell : (b : Bool) → eqb (a / 2) (k / 2) ≡ b
          → half_of (cond (b && ltb (k / 2) size) (with_half (cells (a / 2)) a x) (cells (k / 2))) k
          ≡ cond (eqb a k) x (half_of (cells (k / 2)) k)
      by_cell true e =
          let g : a / 2 ≡ k / 2 = eqb-true (a / 2) (k / 2) e in
          let m = h refl in
          rw (lt-ltb (k / 2) size (omega arith)) (same-cell g (l refl))
      by_cell false e = rw (ne_eqb a k (λ z. eqb-false (a / 2) (k / 2) e (rw z)))

-- the cells `u` after the writes for a command, in the sections of the items
pub record ItemWritten (t u : List ℕ) (c : Command) : Type 0 where
  pub first : (i : ℕ) → entry_in u item_first_cells i ≡ cond (is_item c && (eqb (item_count_in t) i && ltb i 384)) (item_of c).first
      (entry_in t item_first_cells i)
  pub second : (i : ℕ) → entry_in u item_second_cells i ≡ cond (is_item c && (eqb (item_count_in t) i && ltb i 384)) (item_of c).second
      (entry_in t item_second_cells i)
  pub linked : (i : ℕ) → entry_in u link_cells i ≡ cond (is_item c && (eqb (item_count_in t) i && ltb i 384))
      (link (item_of c).byte (before_of t c)) (entry_in t link_cells i)
  pub last_range : (i : ℕ) → entry_in u last_range_cells i ≡ cond
      (is_range c && (eqb (range_place c.operands.first c.operands.second / 2) i && ltb i 512))
      (halves_with t last_range_cells (range_place c.operands.first c.operands.second) (item_count_in t + 1)) (entry_in t last_range_cells i)
  pub last_reply : (f : ℕ) → last_reply_in u f ≡ cond (is REPLY c && (eqb c.operands.first f && ltb f 32)) (item_count_in t + 1)
      (last_reply_in t f)
  pub room : is_item c ≡ true → item_count_in t < 384
  pub inside : is_range c ≡ true → (c.operands.first < 32) × (c.operands.second < 32)
  pub function : is REPLY c ≡ true → c.operands.first < 32
  pub last_ranges : (n f : ℕ) → last_range_in t n f ≤ item_count_in t
  pub last_replies : (f : ℕ) → last_reply_in t f ≤ item_count_in t

-- the command is a reply of the function
abbrev pub replies_for : Command → ℕ → Bool
replies_for c f = is REPLY c && eqb c.operands.first f

-- a REPLY is no range
reply-apart : (c : Command) → is_range c ≡ true → is REPLY c ≡ false
reply-apart c e = by_byte (is REPLY c) refl
  where
    by_byte : (b : Bool) → is REPLY c ≡ b → b ≡ false
    by_byte false p = refl
    by_byte true p = let z = eqb-true c.byte REPLY p in not-both e (rw z)

module _ (t u : List ℕ) (c : Command) (w : ItemWritten t u c) where
  -- the last range of a node and a function
  pub last_range_next : (n f : ℕ) → last_range_in u n f ≡ cond (is_of c n f) (item_count_in t + 1) (last_range_in t n f)
  unfolding half_in
  last_range_next n f = by_function (ltb f 32) refl
    where
      beside : 32 ≤ f → (b : Bool) → is_range c ≡ b
          → 0 ≡ cond (b && (eqb c.operands.first n && eqb c.operands.second f)) (item_count_in t + 1) 0
      beside l false e = refl
      beside l true e =
          let i = w.inside e in
          rw (ne_eqb c.operands.second f (λ z. omega (arith, i.1)), and-false (eqb c.operands.first n))

      within : f < 32 → (b : Bool) → is_range c ≡ b
          → cond (b && eqb (range_place c.operands.first c.operands.second) (range_place n f)) (item_count_in t + 1)
          (half_of (entry_in t last_range_cells (range_place n f / 2)) (range_place n f))
          ≡ cond (b && (eqb c.operands.first n && eqb c.operands.second f)) (item_count_in t + 1)
          (half_of (entry_in t last_range_cells (range_place n f / 2)) (range_place n f))
      within l false e = refl
      within l true e =
          let i = w.inside e in
          rw (same_place (range_place c.operands.first c.operands.second) (range_place n f) c.operands.first
          c.operands.second n f
          (λ z. (omega (arith, i.1), omega (arith, i.1))) (λ p q. omega arith))

      by_function : (b : Bool) → ltb f 32 ≡ b
          → cond b (half_of (entry_in u last_range_cells (range_place n f / 2)) (range_place n f)) 0
          ≡ cond (is_of c n f) (item_count_in t + 1) (cond b (half_of (entry_in t last_range_cells (range_place n f / 2)) (range_place n f)) 0)
      by_function true e =
          rw (w.last_range (range_place n f / 2))
          (halving (entry_in t last_range_cells) (range_place c.operands.first c.operands.second) (range_place n f) 512
          (item_count_in t + 1)
          (is_range c) (λ p. let i = w.inside p in omega (arith, i.0, i.1))
          (λ p. omega (arith, w.room (or_second (is REPLY c) (is_range c) p)))
          ∙ within (ltb-true f 32 e) (is_range c) refl)
      by_function false e = beside (ltb-false f 32 e) (is_range c) refl

  -- the last reply of a function
  pub last-reply-next : (f : ℕ) → last_reply_in u f ≡ cond (replies_for c f) (item_count_in t + 1) (last_reply_in t f)
  last-reply-next f =
      w.last_reply f
      ∙ column (is REPLY c) c.operands.first f 32 (item_count_in t + 1) (last_reply_in t f) (item_count_in t + 1) (last_reply_in t f)
      w.function (λ p q. refl) refl

  -- the items so far keep their cells
  kept : (i : ℕ) → i < item_count_in t → (item_in u i ≡ item_in t i) × (before_in u i ≡ before_in t i)
  kept i h =
      let no : (is_item c && (eqb (item_count_in t) i && ltb i 384)) ≡ false = rw (ne_eqb (item_count_in t) i (λ e. omega arith))
      (and-false (is_item c)) in
      (rw (w.first i, w.second i, w.linked i, no), rw (w.linked i, no))

  -- the new one
  new : is_item c ≡ true → before_of t c ≤ item_count_in t → (item_in u (item_count_in t) ≡ item_of c) ×
      (before_in u (item_count_in t) ≡ before_of t c)
  new e h =
      let yes : (is_item c && (eqb (item_count_in t) (item_count_in t) && ltb (item_count_in t) 384)) ≡ true = rw (
        e,
        eq-eqb (item_count_in t) (item_count_in t) refl,
        lt-ltb (item_count_in t) 384 (w.room e),
      ) in
      let l = w.room e in
      let b : link (item_of c).byte (before_of t c) / 65536 ≡ (item_of c).byte = omega arith in
      let a : link (item_of c).byte (before_of t c) % 65536 ≡ before_of t c = omega arith in
      (rw (w.first (item_count_in t), w.second (item_count_in t), w.linked (item_count_in t), yes, b), rw (w.linked (item_count_in t), yes, a))

  -- a chain, by its last item before
  chain_next :
      (here : Bool) (x : Item) (h : ℕ) → h ≤ item_count_in t → (here ≡ true → (is_item c ≡ true) × (before_of t c ≡ h) × (item_of c ≡ x))
      → chain_in u (cond here (item_count_in t + 1) h) (cond here (item_count_in t + 1) h) ≡ cond here (x ∷ chain_in t h h) (chain_in t h h)
  chain_next false x h l e = chain_kept t u h (λ i m. kept i (omega arith)) h
  chain_next true x h l e =
      let is = e refl in
      let added = new is.0 (rw is.1 l) in
      let last : item_count_in t + 1 - 1 ≡ item_count_in t = omega arith in
      let rest : chain_in u (item_count_in t) h ≡ chain_in t h h = chain_kept t u (item_count_in t) kept h ∙ chain_below t (item_count_in t) h l in
      rw (chain_first u (item_count_in t + 1) (omega arith), last, added.0, added.1, is.1, is.2, rest)

  pub ranges-next : (n f : ℕ) → ranges_in u n f ≡ cond (is_of c n f) (range_of c ∷ ranges_in t n f) (ranges_in t n f)
  ranges-next n f = rw (last_range_next n f) (chain_next (is_of c n f) (range_of c) (last_range_in t n f) (w.last_ranges n f) here)
    where
      here : is_of c n f ≡ true → (is_item c ≡ true) × (before_of t c ≡ last_range_in t n f) × (item_of c ≡ range_of c)
      here e =
          let ranged = and_left (is_range c) _ e in
          let named = and_right (is_range c) _ e in
          let first : c.operands.first ≡ n = eqb-true c.operands.first n (and_left (eqb c.operands.first n) _ named) in
          let second : c.operands.second ≡ f = eqb-true c.operands.second f (and_right (eqb c.operands.first n) _ named) in
          (or_second (is REPLY c) (is_range c) ranged, rw (reply-apart c ranged, first, second), rw (reply-apart c ranged))

  pub replies-next : (f : ℕ) → replies_in u f ≡ cond (replies_for c f) (reply_item_of c ∷ replies_in t f) (replies_in t f)
  replies-next f = rw (last-reply-next f) (chain_next (replies_for c f) (reply_item_of c) (last_reply_in t f) (w.last_replies f) here)
    where
      here : replies_for c f ≡ true → (is_item c ≡ true) × (before_of t c ≡ last_reply_in t f) × (item_of c ≡ reply_item_of c)
      here e =
          let replying = and_left (is REPLY c) _ e in
          let first : c.operands.first ≡ f = eqb-true c.operands.first f (and_right (is REPLY c) _ e) in
          (or_first (is REPLY c) (is_range c) replying, rw (replying, first), rw replying)

-- the first item that passes a test, with one more
pub found-next : (test : Item → Bool) (here : Bool) (x : Item) (items : List Item)
    → found_item test (cond here (x ∷ items) items) ≡ cond (here && test x) (Some x) (found_item test items)
unfolding found_item
found-next test true x items = refl
found-next test false x items = refl

-- whether there is one
pub some_next : (test : Item → Bool) (here : Bool) (x : Item) (items : List Item)
    → is_some (found_item test (cond here (x ∷ items) items)) ≡ ((here && test x) || is_some (found_item test items))
some_next test here x items = rw (found-next test here x items) (by_test (here && test x))
  where
    by_test : (b : Bool) → is_some (cond b (Some x) (found_item test items)) ≡ (b || is_some (found_item test items))
    by_test true = refl
    by_test false = refl

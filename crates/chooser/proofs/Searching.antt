-- The search for the first ready node, one node after the other; and the choice in a state, by its arrays.
use Prim.Native.Nat.{ℕ, zero, suc, ◌+◌, ◌-◌, ◌≤◌, ◌<◌}
use mathlib.Core.Path.{◌≡◌, refl, ap, ◌∙◌}
use mathlib.Core.Bool.{Bool, true, false, cond}
use mathlib.Core.List.{List}
use native.Mathlib.Omega.{arith}
use lib.Dec.{ltb}
use lib.ListN.{get_or}
use borrow.Author.Tests.{ltb-true, ltb-false, lt-ltb, le-ltb}
use Rattle.model.specs.State.{State, position_at, waiting_at}
use Rattle.model.specs.Dispatch.{going_round, first_from, chosen, nobody, choice_at, choose}
use Rattle.model.proofs.Counting.{search_fails, search_finds}
use Rattle.memory.specs.Ready.{ready_in, ready_count_in}
use Rattle.memory.proofs.Readying.{ready-shown}
use Rattle.chooser.specs.Choosing.{choose_in, wrapped_to}

-- the search from a number on: it is found there, or the search goes on
module _ (test : ℕ → Bool) (i nodes : ℕ) where
  search_next : i < nodes → first_from test i (nodes - i) ≡ cond (test i) i (first_from test (i + 1) (nodes - (i + 1)))
  unfolding first_from
  search_next h =
      let e : nodes - i ≡ suc (nodes - (i + 1)) = omega arith in
      rw e

  -- where one is found, it is not over
  search_on : first_from test 0 nodes ≡ first_from test (i + 1) (nodes - (i + 1)) → i < nodes → first_from test 0 nodes < nodes → i + 1 < nodes
  unfolding first_from
  search_on later h some = by_rest (nodes - (i + 1)) refl
    where
      by_rest : (d : ℕ) → nodes - (i + 1) ≡ d → i + 1 < nodes
      by_rest zero e = let over : first_from test 0 nodes ≡ i + 1 = later ∙ rw e in absurd (omega arith)
      by_rest (suc d) e = omega arith

-- going round: the first node, and the next one
module _ (nodes from : ℕ) (low : from ≤ nodes) where
  round_first : wrapped_to nodes from ≡ going_round nodes from 0
  round_first = by_end (ltb from nodes) refl
    where
      by_end : (t : Bool) → ltb from nodes ≡ t → cond t from 0 ≡ going_round nodes from 0
      by_end true p = let l = ltb-true from nodes p in rw (lt-ltb (from + 0) nodes (omega arith)) (omega arith)
      by_end false p = let l = ltb-false from nodes p in rw (le-ltb (from + 0) nodes (omega arith)) (omega arith)

  round_next : (i : ℕ) → i + 1 < nodes → wrapped_to nodes (going_round nodes from i + 1) ≡ going_round nodes from (i + 1)
  round_next i h = by_end (ltb (from + i) nodes) refl
    where
      by_next : (t : Bool) → ltb (from + (i + 1)) nodes ≡ t → from + i < nodes
          → wrapped_to nodes (from + i + 1) ≡ cond t (from + (i + 1)) (from + (i + 1) - nodes)
      by_next true p l = let m = ltb-true (from + (i + 1)) nodes p in rw (lt-ltb (from + i + 1) nodes (omega arith)) (omega arith)
      by_next false p l = let m = ltb-false (from + (i + 1)) nodes p in rw (le-ltb (from + i + 1) nodes (omega arith)) (omega arith)

      by_end : (t : Bool) → ltb (from + i) nodes ≡ t → wrapped_to nodes (cond t (from + i) (from + i - nodes) + 1) ≡ going_round nodes
          from (i + 1)
      by_end true p = by_next (ltb (from + (i + 1)) nodes) refl (ltb-true (from + i) nodes p)
      by_end false p =
          let m = ltb-false (from + i) nodes p in
          rw (lt-ltb (from + i - nodes + 1) nodes (omega arith), le-ltb (from + (i + 1)) nodes (omega arith)) (omega arith)

-- the test of the node i places on
abbrev is_ready : List ℕ → List ℕ → ℕ → ℕ → ℕ → Bool
is_ready position waiting nodes from i = ready_in position waiting (going_round nodes from i)

-- the search where node n is examined: how many nodes were before it, none of them ready; and one is
pub record Searched (position waiting : List ℕ) (nodes from n before : ℕ) : Type 0 where
  pub more : before < nodes
  pub next : n ≡ going_round nodes from before
  pub unready : first_from (is_ready position waiting nodes from) 0 nodes
      ≡ first_from (is_ready position waiting nodes from) before (nodes - before)
  pub some : first_from (is_ready position waiting nodes from) 0 nodes < nodes

module _ (position waiting : List ℕ) (nodes from : ℕ) (low : from ≤ nodes) where
  abbrev test : ℕ → Bool
  test = is_ready position waiting nodes from

  -- nobody is ready
  pub searched_nobody : ready_count_in position waiting nodes ≡ 0 → nobody 0 ≡ choose_in position waiting nodes from
  searched_nobody none =
      rw (le-ltb (first_from test 0 nodes) nodes (search_fails (ready_in position waiting) nodes from low none))

  -- somebody is
  pub searched_first : 0 < ready_count_in position waiting nodes → Searched position waiting nodes from (wrapped_to nodes from) 0
  searched_first some =
      let all : nodes ≡ nodes - 0 = omega arith in
      let found = search_finds (ready_in position waiting) nodes from low some in
      record { more = omega arith; next = round_first nodes from low; unready = ap (first_from test 0) all; some = found }

  module _ (n before : ℕ) (s : Searched position waiting nodes from n before) where
    -- the node is ready, or not
    pub searched_found : ready_in position waiting n ≡ true → chosen n (before + 1) ≡ choose_in position waiting nodes from
    searched_found r =
        let e : test before ≡ true = rw s.next at r in
        let f : first_from test 0 nodes ≡ before = s.unready ∙ search_next test before nodes s.more ∙ rw e in
        rw (f, lt-ltb before nodes s.more) (ap (λ (m : ℕ). chosen m (before + 1)) s.next)

    pub searched_next : ready_in position waiting n ≡ false → Searched position waiting nodes from (wrapped_to nodes (n + 1)) (before + 1)
    searched_next r =
        let e : test before ≡ false = rw s.next at r in
        let later : first_from test 0 nodes ≡ first_from test (before + 1) (nodes - (before + 1)) =
        s.unready ∙ search_next test before nodes s.more ∙ rw e in
        let more = search_on test before nodes later s.more s.some in
        record {
          more = more;
          next = ap (λ (m : ℕ). wrapped_to nodes (m + 1)) s.next ∙ round_next nodes from low before more;
          unready = later;
          some = s.some;
        }

-- the choice in a state, by arrays that show its positions and how many messages wait
pub choose-shown :
    (position waiting : List ℕ) (s : State) → ((n : ℕ) → position_at s n ≡ get_or position n 0) → ((n : ℕ) → waiting_at s n ≡ get_or waiting n 0)
    → (nodes from : ℕ) → choose_in position waiting nodes from ≡ choose nodes from s
unfolding choose
choose-shown position waiting s p w nodes from =
    ap (λ (t : ℕ → Bool). choice_at nodes from (first_from (λ i. t (going_round nodes from i)) 0 nodes)) (ready-shown position waiting s p w)

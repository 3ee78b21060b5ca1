-- How a turn changes the ready count, by the arrays that say which nodes are ready.
use Prim.Native.Nat.{ℕ, zero, suc, ◌+◌, ◌-◌, ◌≤◌, ◌<◌}
use mathlib.Core.Path.{◌≡◌, refl, sym, ap, ◌∙◌}
use mathlib.Core.Bool.{Bool, true, false, cond, not, ◌&&◌}
use mathlib.Core.List.{List, [], ◌∷◌, ◌++◌}
use native.Mathlib.Omega.{arith}
use lib.Dec.{eqb}
use lib.ListN.{length, get_or, set, length-set}
use lib.Seq.{get_or-set_same, get_or-set_other}
use borrow.Author.Tests.{eqb-true, eqb-false, eq-eqb, ne_eqb}
use Rattle.std.specs.List.{filter, range_with_len}
use Rattle.std.proofs.lemmas.List.{length-append}
use Rattle.std.proofs.lemmas.List.Elements.{filter-append}
use Rattle.model.specs.Table.{NODE}
use Rattle.model.specs.State.{State, idle, position_at, waiting_at}
use Rattle.model.specs.Dispatch.{ready as is_ready, count_below, ready_count}
use Rattle.model.proofs.Counting.{bit, count-agree, count-suc, count_nothing, count-one, count-more, count-beyond, count_most}
use Rattle.tables.specs.Bits.{bit_of, places}
use Rattle.tables.specs.Tables.{count_in, wired_in}
use Rattle.tables.proofs.Places.{places-agree}
use Rattle.memory.specs.declared.Change.{Change}
use Rattle.memory.specs.declared.Change.TheVariants as c'
use Rattle.memory.specs.Queues.{counted}
use Rattle.memory.specs.Changes.{counts_after}
use Rattle.memory.specs.Ready.{ready_in, ready_count_in, woken_in, woken_by, Among, ReadyCounted}
use Rattle.memory.proofs.Sending.{range-more, counted-later}

-- which nodes are ready in a state, and how many, by arrays that show its positions and how many messages wait
module _ (position waiting : List ℕ) (s : State) (p : (n : ℕ) → position_at s n ≡ get_or position n 0)
    (w : (n : ℕ) → waiting_at s n ≡ get_or waiting n 0) where
  pub ready-shown : ready_in position waiting ≡ is_ready s
  ready-shown = λ k. λ n. not (eqb (sym (p n) k) idle && eqb (sym (w n) k) 0)

  pub count-shown : (nodes : ℕ) → ready_count_in position waiting nodes ≡ ready_count nodes s
  count-shown nodes = ap (λ (test : ℕ → Bool). count_below test nodes) ready-shown

-- a node of the tables is below 32
pub among_below : {t : List ℕ} {n : ℕ} → Among t n → n < 32
among_below a = omega (arith, a.inside, a.few)

-- of the numbers below k that pass a test, those that pass another: as many as pass both
picked-one : (p test : ℕ → Bool) (k : ℕ) (ks : List ℕ) → length (filter test (filter p (ks ++ k ∷ []))) ≡ length (filter test (filter p ks)) + bit (p k && test k)
picked-one p test k ks =
    rw (filter-append p ks (k ∷ [])) (by_first (p k))
  where
    by_second : (b : Bool) → length (filter test (filter p ks) ++ cond b (k ∷ []) []) ≡ length (filter test (filter p ks)) + bit b
    by_second true = length-append (filter test (filter p ks)) (k ∷ [])
    by_second false = length-append (filter test (filter p ks)) []

    by_first : (b : Bool) → length (filter test (filter p ks ++ cond b (k ∷ []) [])) ≡ length (filter test (filter p ks)) + bit (b && test k)
    by_first true = rw (filter-append test (filter p ks) (k ∷ [])) (by_second (test k))
    by_first false = rw (filter-append test (filter p ks) []) (by_second false)

picked-count : (p test : ℕ → Bool) (k : ℕ) → length (filter test (filter p (range_with_len 0 k))) ≡ count_below (λ j. p j && test j) k
picked-count p test zero = sym (count_nothing (λ j. p j && test j))
picked-count p test (suc k) =
    let e : 0 + k ≡ k = omega arith in
    ap (λ (ks : List ℕ). length (filter test (filter p ks))) (sym (range-more 0 k))
    ∙ picked-one p test (0 + k) (range_with_len 0 k)
    ∙ rw e (omega (arith, picked-count p test k, count-suc (λ j. p j && test j) k))

-- the targets of a send, those that the bits of a number tell, are woken where they are not ready
pub woken-places : (all : ℕ) (target : ℕ → Bool) (position waiting : List ℕ) → ((i : ℕ) → i < 32 → bit_of all i ≡ target i)
    → length (filter (λ k. not (ready_in position waiting k)) (places all)) ≡ woken_in target position waiting
woken-places all target position waiting agree =
    ap (λ (ks : List ℕ). length (filter (λ k. not (ready_in position waiting k)) ks)) (places-agree all target agree)
    ∙ picked-count target (λ k. not (ready_in position waiting k)) 32

-- a node that is not idle, or at which a message waits, is ready; one that is idle is exactly if a message waits at it
ready-busy : (position waiting : List ℕ) (n : ℕ) → ¬ (get_or position n 0 ≡ idle) → ready_in position waiting n ≡ true
ready-busy position waiting n h = rw (ne_eqb (get_or position n 0) idle h)

ready-waits : (position waiting : List ℕ) (n : ℕ) → ¬ (get_or waiting n 0 ≡ 0) → ready_in position waiting n ≡ true
ready-waits position waiting n h = by_position (eqb (get_or position n 0) idle)
  where
    by_position : (b : Bool) → not (b && eqb (get_or waiting n 0) 0) ≡ true
    by_position true = rw (ne_eqb (get_or waiting n 0) 0 h)
    by_position false = refl

ready-idle : (position waiting : List ℕ) (n : ℕ) → get_or position n 0 ≡ idle → ready_in position waiting n ≡ not (eqb (get_or waiting n 0) 0)
ready-idle position waiting n h = rw (eq-eqb (get_or position n 0) idle h)

-- a node that is ready is not woken; one at which a message more waits is ready
never_woken : (b : Bool) → 1 ≡ 1 + bit (b && false)
never_woken true = refl
never_woken false = refl

more-waiting : (a b : Bool) (w w' : ℕ) → w' ≡ w + bit b
    → bit (not (a && eqb w' 0)) ≡ bit (not (a && eqb w 0)) + bit (b && not (not (a && eqb w 0)))
more-waiting false b w w' e = never_woken b
more-waiting true false w w' e = let same : w' ≡ w = omega arith in rw same (omega arith)
more-waiting true true w w' e = rw (ne_eqb w' 0 (λ z. omega arith)) (by_count (eqb w 0))
  where
    by_count : (z : Bool) → 1 ≡ bit (not z) + bit (not (not z))
    by_count true = refl
    by_count false = refl

-- how many messages wait at a node after a send
pub length-counted : (target : ℕ → Bool) (ws : List ℕ) (k : ℕ) → length (counted target ws k) ≡ length ws
unfolding counted
length-counted target ws zero = refl
length-counted target ws (suc k) = by_target (target k) (length-counted target ws k)
  where
    by_target : (b : Bool) → length (counted target ws k) ≡ length ws
        → length (cond b (set (counted target ws k) k (get_or ws k 0 + 1)) (counted target ws k)) ≡ length ws
    by_target true ih = length-set (counted target ws k) k (get_or ws k 0 + 1) ∙ ih
    by_target false ih = ih

pub counted-at : (target : ℕ → Bool) (ws : List ℕ) (k m : ℕ) → m < k → m < length ws
    → get_or (counted target ws k) m 0 ≡ get_or ws m 0 + bit (target m)
unfolding counted
counted-at target ws zero m h l = absurd (omega arith)
counted-at target ws (suc k) m h l = by_node (eqb m k) refl (λ b. counted-at target ws k m b l)
  where
    more : ℕ
    more = get_or ws k 0 + 1

    here : k < length ws → (b : Bool) → get_or (cond b (set (counted target ws k) k more) (counted target ws k)) k 0 ≡ get_or ws k 0 + bit b
    here inside true = get_or-set_same (counted target ws k) k more 0 (omega (arith, length-counted target ws k))
    here inside false = omega (arith, counted-later target ws k k (omega arith))

    other : ¬ (m ≡ k) → get_or (counted target ws k) m 0 ≡ get_or ws m 0 + bit (target m) → (b : Bool)
        → get_or (cond b (set (counted target ws k) k more) (counted target ws k)) m 0 ≡ get_or ws m 0 + bit (target m)
    other e ih true = get_or-set_other (counted target ws k) k m more 0 e ∙ ih
    other e ih false = ih

    by_node : (b : Bool) → eqb m k ≡ b → (m < k → get_or (counted target ws k) m 0 ≡ get_or ws m 0 + bit (target m))
        → get_or (cond (target k) (set (counted target ws k) k more) (counted target ws k)) m 0 ≡ get_or ws m 0 + bit (target m)
    by_node true e ih = let same : m ≡ k = eqb-true m k e in rw same (here (omega arith) (target k))
    by_node false e ih = other (eqb-false m k e) (ih (omega (arith, eqb-false m k e))) (target k)

-- a turn of node n of a job, by the positions and the counts before it
module _ (t : List ℕ) (n : ℕ) (position waiting : List ℕ) (ready : ℕ) (c : ReadyCounted t n position waiting ready) where
  abbrev nodes : ℕ
  nodes = count_in t NODE

  abbrev moved : ℕ → List ℕ
  moved p = set position n p

  moved_here : (p : ℕ) → get_or (moved p) n 0 ≡ p
  moved_here p = get_or-set_same position n p 0 (omega (arith, c.positions, c.among.few, c.among.inside))

  -- two tests that agree at n and, as they ask for other nodes what did not change, everywhere
  agreeing : (f g : ℕ → Bool) → f n ≡ g n → ((m : ℕ) → ¬ (m ≡ n) → f m ≡ g m) → (m : ℕ) → f m ≡ g m
  agreeing f g own others m = by_node (eqb m n) refl
    where
      by_node : (b : Bool) → eqb m n ≡ b → f m ≡ g m
      by_node true p = rw (eqb-true m n p) own
      by_node false p = others m (eqb-false m n p)

  -- the count is at most 32
  pub ready-few : ready ≤ 32
  ready-few = omega (arith, c.count, c.among.few, count_most (ready_in position waiting) nodes)

  -- a node that was not idle becomes idle: it is ready exactly if a message waits at it
  finished : ¬ (get_or position n 0 ≡ idle) → ready_count_in (moved idle) waiting nodes + 1 ≡ ready + bit (not (eqb (get_or waiting n 0) 0))
  finished busy =
      let before : bit (ready_in position waiting n) ≡ 1 = rw (ready-busy position waiting n busy) in
      let after : bit (ready_in (moved idle) waiting n) ≡ bit (not (eqb (get_or waiting n 0) 0)) =
      ap bit (ready-idle (moved idle) waiting n (moved_here idle)) in
      omega (
        arith,
        c.count,
        count-one (ready_in position waiting) (ready_in (moved idle) waiting) n nodes c.among.inside
            (λ m other. rw (get_or-set_other position n m idle 0 other)),
      )

  pub ready_less : ¬ (get_or position n 0 ≡ idle) → get_or waiting n 0 ≡ 0
      → (1 ≤ ready) × (ready - 1 ≡ ready_count_in (moved idle) waiting nodes)
  ready_less busy none =
      let nothing : bit (not (eqb (get_or waiting n 0) 0)) ≡ 0 = rw (eq-eqb (get_or waiting n 0) 0 none) in
      let f = finished busy in
      (omega arith, omega arith)

  pub ready-same : ¬ (get_or position n 0 ≡ idle) → ¬ (get_or waiting n 0 ≡ 0) → ready ≡ ready_count_in (moved idle) waiting nodes
  ready-same busy some =
      let one : bit (not (eqb (get_or waiting n 0) 0)) ≡ 1 = rw (ne_eqb (get_or waiting n 0) 0 some) in
      let f = finished busy in
      omega arith

  -- a node that is not idle afterwards is ready, whatever waits at it
  module _ (p : ℕ) (goes : ¬ (p ≡ idle)) where
    own : (ws : List ℕ) → ready_in (moved p) ws n ≡ true
    own ws = ready-busy (moved p) ws n (λ e. goes (sym (moved_here p) ∙ e))

    -- if it was ready and nothing changes at other nodes, the count stays
    same-others : ready_in position waiting n ≡ true → (ws : List ℕ) → ((m : ℕ) → ¬ (m ≡ n) → get_or ws m 0 ≡ get_or waiting m 0)
        → ready ≡ ready_count_in (moved p) ws nodes
    same-others was ws others =
        c.count
        ∙ count-agree (ready_in position waiting) (ready_in (moved p) ws) nodes
        (λ m h. agreeing (ready_in position waiting) (ready_in (moved p) ws) (was ∙ sym (own ws))
        (λ m other. rw (get_or-set_other position n m p 0 other, others m other)) m)

    -- the counts of waiting messages without one of node n
    one_less : (m : ℕ) → ¬ (m ≡ n) → get_or (set waiting n (get_or waiting n 0 - 1)) m 0 ≡ get_or waiting m 0
    one_less m other = get_or-set_other waiting n m (get_or waiting n 0 - 1) 0 other

    -- an idle node takes a message: it was ready and is
    pub ready-begun : ¬ (get_or waiting n 0 ≡ 0) → ready ≡ ready_count_in (moved p) (set waiting n (get_or waiting n 0 - 1)) nodes
    ready-begun some = same-others (ready-waits position waiting n some) (set waiting n (get_or waiting n 0 - 1)) one_less

  -- a node that was not idle and is not: it was ready and is, and its change wakes nodes
  module _ (p : ℕ) (busy : ¬ (get_or position n 0 ≡ idle)) (goes : ¬ (p ≡ idle)) where
    was : ready_in position waiting n ≡ true
    was = ready-busy position waiting n busy

    -- a send
    module _ (target : ℕ → Bool) (ends : (k : ℕ) → target k ≡ true → k < nodes) where
      abbrev after : List ℕ
      after = counted target waiting 32

      -- a target is woken if it is not ready
      each : (m : ℕ) → m < nodes → bit (ready_in (moved p) after m)
          ≡ bit (ready_in position waiting m) + bit (target m && not (ready_in position waiting m))
      each m h = by_node (eqb m n) refl
        where
          by_node : (b : Bool) → eqb m n ≡ b → bit (ready_in (moved p) after m)
              ≡ bit (ready_in position waiting m) + bit (target m && not (ready_in position waiting m))
          by_node true e =
              rw (eqb-true m n e, own p goes after, was) (never_woken (target n))
          by_node false e =
              rw (get_or-set_other position n m p 0 (eqb-false m n e))
              (more-waiting (eqb (get_or position m 0) idle) (target m) (get_or waiting m 0) (get_or after m 0)
              (counted-at target waiting 32 m (omega (arith, c.among.few)) (omega (arith, c.counts, c.among.few))))

      none-beyond : (k : ℕ) → nodes ≤ k → k < 32 → (target k && not (ready_in position waiting k)) ≡ false
      none-beyond k h l = by_target (target k) refl
        where
          by_target : (b : Bool) → target k ≡ b → (b && not (ready_in position waiting k)) ≡ false
          by_target true e = absurd (omega (arith, ends k e))
          by_target false e = refl

      ready-sent : ready + woken_in target position waiting ≡ ready_count_in (moved p) after nodes
      ready-sent =
          let woken = count-beyond (λ k. target k && not (ready_in position waiting k)) nodes 32 c.among.few none-beyond in
          omega (
            arith,
            c.count,
            count-more (ready_in position waiting) (ready_in (moved p) after) (λ k. target k && not (ready_in position waiting k)) nodes each,
          )

    -- by each change
    pub ready_on : (change : Change) → ready + woken_by (wired_in t n) position waiting change
        ≡ ready_count_in (moved p) (counts_after (wired_in t n) n waiting change) nodes
    ready_on c'.Nothing = omega (arith, same-others p goes was waiting (λ m other. refl))
    ready_on (c'.Store x) = omega (arith, same-others p goes was waiting (λ m other. refl))
    ready_on c'.Take = omega (arith, same-others p goes was (set waiting n (get_or waiting n 0 - 1)) (one_less p goes))
    ready_on (c'.Send port) = ready-sent (wired_in t n port) (c.among.wires port)

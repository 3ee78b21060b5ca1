-- Slots read as queues: what queue n is, and what it becomes when a message comes or the oldest leaves.
use Prim.Native.Nat.{ℕ, zero, suc, ◌+◌, ◌-◌, ◌*◌, ◌≤◌, ◌<◌}
use mathlib.Core.Path.{◌≡◌, refl, sym, ◌∙◌, ap}
use mathlib.Core.Bool.{Bool, true}
use mathlib.Core.List.{List, [], ◌∷◌, ◌++◌, append_assoc}
use mathlib.Core.Logic.{◌⊎◌, inl, inr, ⊎_elim}
use native.Mathlib.Omega.{arith}
use native.Mathlib.Numerals.{add-one}
use native.Mathlib.Decide.{ℕ_discrete, dec_lt}
use lib.ListN.{length, get_or, take, drop, set, length-set, length-drop}
use lib.Seq.{ext_get_or, get_or-set_same, get_or-set_other, drop-drop, drop-set-lt, drop-set-add, take-set-le, take-suc-set, length-take-le}
use lib.Seq.{get_or-take, get_or-drop, paste, paste-zero, paste-suc, drop-paste, drop_at, take-append-le, take-take, take-nil}
use Rattle.std.specs.List.{copy_within}
use Rattle.model.specs.State.{Message, no_message}
use Rattle.model.proofs.Lists.{set-each}
use Rattle.memory.specs.Queues.{queues, BoundedCounts, AllPass, BringsOnly, shifted}

pub length-queues : (ws : List ℕ) (slots : List Message) → length (queues ws slots) ≡ length ws
length-queues [] slots = refl
length-queues (w ∷ ws) slots = ap suc (length-queues ws (drop 16 slots))

-- queue n, in range or not
pub queue-at : (ws : List ℕ) (slots : List Message) (n : ℕ) → get_or (queues ws slots) n [] ≡ take (get_or ws n 0) (drop (16 * n) slots)
queue-at [] slots n = refl
queue-at (w ∷ ws) slots zero = refl
queue-at (w ∷ ws) slots (suc n) =
    let e : 16 * suc n ≡ 16 + 16 * n = omega arith in
    queue-at ws (drop 16 slots) n ∙ rw (drop-drop (16 * n) 16 slots, e)

-- its length
pub count_at_lem : (ws : List ℕ) (slots : List Message) → BoundedCounts ws → length ws * 16 ≤ length slots → (n : ℕ)
    → length (get_or (queues ws slots) n []) ≡ get_or ws n 0
count_at_lem [] slots bounded fits n = refl
count_at_lem (w ∷ ws) slots bounded fits zero = length-take-le w slots (omega (arith, bounded 0))
count_at_lem (w ∷ ws) slots bounded fits (suc n) = count_at_lem ws (drop 16 slots) (λ i. bounded (suc i)) (simp length-drop (omega arith)) n

-- its oldest message
pub oldest-is : (ws : List ℕ) (slots : List Message) (n : ℕ) → 0 < get_or ws n 0
    → get_or slots (n * 16) no_message ≡ get_or (get_or (queues ws slots) n []) 0 no_message
oldest-is ws slots n some =
    let e : n * 16 ≡ 16 * n + 0 = omega arith in
    rw (queue-at ws slots n, get_or-take (get_or ws n 0) (drop (16 * n) slots) 0 no_message some, get_or-drop (16 * n) slots 0 no_message, e)

-- counts stay within 16 where the new one is
pub bounded-set : (ws : List ℕ) (n w : ℕ) → BoundedCounts ws → n < length ws → w ≤ 16 → BoundedCounts (set ws n w)
bounded-set ws n w bounded inside h i = by_place (ℕ_discrete i n)
  where
    by_place : Dec (i ≡ n) → get_or (set ws n w) i 0 ≤ 16
    by_place (yes e) = rw (e, get_or-set_same ws n w 0 inside) h
    by_place (no ne) = rw (get_or-set_other ws n i w 0 ne) (bounded i)

apart : (i n : ℕ) → (i ≡ n → ⊥) → (i < n) ⊎ (n < i)
apart i n ne = by_order (dec_lt i n)
  where
    by_order : Dec (i < n) → (i < n) ⊎ (n < i)
    by_order (yes h) = inl h
    by_order (no h) = inr (omega arith)

-- where the slots of all other nodes are the same, queue n is replaced
pub queues_change :
    (ws : List ℕ) (slots slots' : List Message) (n w : ℕ)
    → ((i : ℕ) → (i < n) ⊎ (n < i) → take (get_or ws i 0) (drop (16 * i) slots') ≡ take (get_or ws i 0) (drop (16 * i) slots))
    → queues (set ws n w) slots' ≡ set (queues ws slots) n (take w (drop (16 * n) slots'))
queues_change ws slots slots' n w same = ext_get_or [] (queues (set ws n w) slots') (set qs n q) (same_length ∙ sym (length-set qs n q)) each
  where
    qs : List (List Message)
    qs = queues ws slots

    q : List Message
    q = take w (drop (16 * n) slots')

    same_length : length (queues (set ws n w) slots') ≡ length qs
    same_length = rw (length-queues (set ws n w) slots', length-set ws n w, length-queues ws slots)

    each : (i : ℕ) → i < length (queues (set ws n w) slots') → get_or (queues (set ws n w) slots') i [] ≡ get_or (set qs n q) i []
    each i h = queue-at (set ws n w) slots' i ∙ by_place (ℕ_discrete i n)
      where
        by_place : Dec (i ≡ n) → take (get_or (set ws n w) i 0) (drop (16 * i) slots') ≡ get_or (set qs n q) i []
        by_place (yes e) = rw (
          e,
          get_or-set_same ws n w 0 (omega (arith, same_length, length-queues ws slots)),
          get_or-set_same qs n q []
              (omega (arith, same_length)),
        )
        by_place (no ne) = rw (get_or-set_other ws n i w 0 ne, get_or-set_other qs n i q [] ne, queue-at ws slots i) (same i (apart i n ne))

-- a store outside a part leaves the part
pub part-set : (slots : List Message) (at w a : ℕ) (v : Message) → (a < at) ⊎ (at + w ≤ a) → take w (drop at (set slots a v)) ≡ take w
    (drop at slots)
part-set slots at w a v (inl h) = rw (drop-set-lt at slots a v h)
part-set slots at w a v (inr h) =
    let e : a ≡ at + (a - at) = omega arith in
    rw (e, drop-set-add at slots (a - at) v, take-set-le w (drop at slots) (a - at) v (omega arith))

-- so do stores side by side
part_paste :
    (d : List Message) (at : ℕ) (s : List Message) (n i w : ℕ) → at + n ≤ length d → n ≤ length s → (i + w ≤ at) ⊎ (at + n ≤ i)
    → take w (drop i (paste d at s n)) ≡ take w (drop i d)
part_paste d at s zero i w hd hs o = ap (λ (l : List Message). take w (drop i l)) (sym (paste-zero d at s))
part_paste d at s (suc j) i w hd hs o =
    ap (λ (l : List Message). take w (drop i l)) (sym (paste-suc d at s j no_message (omega arith) (omega arith)))
    ∙ part-set (paste d at s j) i w (at + j) (get_or s j no_message) (⊎_elim (λ h. inr (omega arith)) (λ h. inl (omega arith)) o)
    ∙ part_paste d at s j i w (omega arith) (omega arith) (⊎_elim (λ h. inl h) (λ h. inr (omega arith)) o)

-- what they stored
front_paste : (d : List Message) (at : ℕ) (s : List Message) (n k : ℕ) → at ≤ length d → n ≤ length s → k ≤ n
    → take k (drop at (paste d at s n)) ≡ take k s
front_paste d at s n k hd hs h =
    let long = length-take-le n s hs in
    rw (
      append_assoc,
      drop_at (take at d) (take n s ++ drop (at + n) d) at (length-take-le at d hd),
      take-append-le k (take n s)
          (drop (at + n) d) (omega (arith, long)),
      take-take k n s h,
    )

drop-one-take : (k : ℕ) (l : List Message) → 0 < k → drop 1 (take k l) ≡ take (k - 1) (drop 1 l)
drop-one-take zero l h = absurd (omega arith)
drop-one-take (suc k) [] h = sym (take-nil (suc k - 1))
drop-one-take (suc k) (x ∷ l) h = let e : suc k - 1 ≡ k = omega arith in rw e

module _ (ws : List ℕ) (slots : List Message) (n : ℕ) (bounded : BoundedCounts ws) (fits : n * 16 + 16 ≤ length slots) where
  -- a message at the back
  pub queues_pushed :
      (m : Message) → get_or ws n 0 < 16
      → queues (set ws n (get_or ws n 0 + 1)) (set slots (n * 16 + get_or ws n 0) m) ≡ set (queues ws slots) n
      (get_or (queues ws slots) n [] ++ (m ∷ []))
  queues_pushed m room = queues_change ws slots (set slots (n * 16 + w) m) n (w + 1) same ∙ ap (set (queues ws slots) n) mine
    where
      w : ℕ
      w = get_or ws n 0

      same : (i : ℕ) → (i < n) ⊎ (n < i) → take (get_or ws i 0) (drop (16 * i) (set slots (n * 16 + w) m)) ≡ take (get_or ws i 0)
          (drop (16 * i) slots)
      same i o = part-set slots (16 * i) (get_or ws i 0) (n * 16 + w) m
          (⊎_elim (λ h. inr (omega (arith, bounded i))) (λ h. inl (omega arith)) o)

      mine : take (w + 1) (drop (16 * n) (set slots (n * 16 + w) m)) ≡ get_or (queues ws slots) n [] ++ (m ∷ [])
      mine =
          let e : n * 16 + w ≡ 16 * n + w = omega arith in
          let long : w < length (drop (16 * n) slots) = simp length-drop (omega arith) in
          rw (add-one w, e, drop-set-add (16 * n) slots w m, take-suc-set (drop (16 * n) slots) w m long, queue-at ws slots n)

  -- the oldest leaves: the slots after it move down by one
  pub queues_popped :
      0 < get_or ws n 0
      → queues (set ws n (get_or ws n 0 - 1)) (shifted slots (n * 16) 15) ≡ set (queues ws slots) n (drop 1 (get_or (queues ws slots) n []))
  unfolding shifted
  queues_popped some = queues_change ws slots slots' n (w - 1) same ∙ ap (set (queues ws slots) n) mine
    where
      w : ℕ
      w = get_or ws n 0

      base : ℕ
      base = n * 16

      tail : List Message
      tail = drop (base + 1) slots

      slots' : List Message
      slots' = paste slots base tail 15

      long : 15 ≤ length tail
      long = simp length-drop (omega arith)

      same : (i : ℕ) → (i < n) ⊎ (n < i) → take (get_or ws i 0) (drop (16 * i) slots') ≡ take (get_or ws i 0) (drop (16 * i) slots)
      same i o = part_paste slots base tail 15 (16 * i) (get_or ws i 0) (omega arith) long
          (⊎_elim (λ h. inl (omega (arith, bounded i))) (λ h. inr (omega arith)) o)

      mine : take (w - 1) (drop (16 * n) slots') ≡ drop 1 (get_or (queues ws slots) n [])
      mine =
          let e : 16 * n ≡ base = omega arith in
          rw (queue-at ws slots n, e, drop-one-take w (drop base slots) some, drop-drop 1 base slots)
          (front_paste slots base tail 15 (w - 1) (omega arith) long (omega (arith, bounded n)))

-- the 15 slots that follow a place, copied one place down
pub copied-shifted : {A : Type 0} (slots : List A) (base : ℕ) → copy_within slots (base + 1) (base + 16) base ≡ shifted slots base 15
unfolding shifted
copied-shifted slots base = let e : base + 16 - (base + 1) ≡ 15 = omega arith in rw e

-- moving one slot more down
module _ {A : Type 0} (d : A) (slots : List A) (base : ℕ) where
  pub shifted_none : slots ≡ shifted slots base 0
  unfolding shifted
  shifted_none = paste-zero slots base (drop (base + 1) slots)

  pub shifted-more :
      (k : ℕ) → base + k + 1 < length slots
      → set (shifted slots base k) (base + k) (get_or (shifted slots base k) (base + k + 1) d) ≡ shifted slots base (k + 1)
  unfolding shifted
  shifted-more k h =
      ap (set (paste slots base tail k) (base + k)) read ∙ paste-suc slots base tail k d (omega arith) long
      ∙ ap (paste slots base tail) (sym (add-one k))
    where
      tail : List A
      tail = drop (base + 1) slots

      long : k < length tail
      long = simp length-drop (omega arith)

      read : get_or (paste slots base tail k) (base + k + 1) d ≡ get_or tail k d
      read =
          let e : base + 1 + k ≡ base + k + 1 = omega arith in
          sym (get_or-drop (base + k) (paste slots base tail k) 1 d)
          ∙ rw (
            drop-paste slots base tail k (omega arith) (omega (arith, long)),
            get_or-drop (base + k) slots 1 d,
            get_or-drop
                (base + 1) slots k d,
            e,
          )

-- a slot that is set to a message that passes
set-passes : (test : Message → Bool) (slots : List Message) (at : ℕ) (m : Message) → test m ≡ true → AllPass test slots
    → AllPass test (set slots at m)
set-passes test slots at m own all i h =
    set-each (λ j y. j < length slots → test y ≡ true) no_message slots at m (λ _. own) all i (omega (arith, length-set slots at m))

-- a slot that is set to one of the messages
pub brings-set :
    (messages : ℕ → Message) (slots slots' : List Message) (at : ℕ) (m : Message) (k : ℕ) → m ≡ messages k → BringsOnly messages slots
    slots'
    → BringsOnly messages slots (set slots' at m)
brings-set messages slots slots' at m k e h test own all = set-passes test slots' at m (rw e (own k)) (h test own all)

-- slots that move down
shifted-passes : (test : Message → Bool) (slots : List Message) (base k : ℕ) → base + k < length slots → AllPass test slots
    → (length (shifted slots base k) ≡ length slots) × AllPass test (shifted slots base k)
shifted-passes test slots base zero h all = rw (← shifted_none no_message slots base) (refl, all)
shifted-passes test slots base (suc k) h all =
    let before = shifted-passes test slots base k (omega arith) all in
    let e : suc k ≡ k + 1 = omega arith in
    rw (e, ← shifted-more no_message slots base k (omega arith)) (
      length-set (shifted slots base k) (base + k) _ ∙ before.0,
      set-passes test (shifted slots base k) (base + k) _ (before.1 (base + k + 1) (omega (arith, before.0))) before.1,
    )

pub length-shifted : (slots : List Message) (base k : ℕ) → base + k < length slots → length (shifted slots base k) ≡ length slots
length-shifted slots base k h = (shifted-passes (λ m. true) slots base k h (λ i l. refl)).0

pub brings-shifted : (slots : List Message) (base k : ℕ) → base + k < length slots → (messages : ℕ → Message)
    → BringsOnly messages slots (shifted slots base k)
brings-shifted slots base k h messages test own all = (shifted-passes test slots base k h all).1

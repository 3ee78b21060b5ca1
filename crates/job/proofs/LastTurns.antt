-- The turns are the last commands of an accepted job, 2 bytes each.
use Rattle.std.proofs.Common.{None}
use Prim.Native.Nat.{ℕ, zero, suc, ◌+◌, ◌*◌, ◌-◌, ◌/◌, ◌≤◌, ◌<◌}
use mathlib.Core.Path.{◌≡◌, refl, sym, ap, ◌∙◌}
use mathlib.Core.Bool.{Bool, true, false, cond, ◌||◌}
use mathlib.Core.List.{List, [], ◌∷◌, ◌++◌}
use Rattle.std.proofs.Common.{Some}
use native.Mathlib.Omega.{arith}
use lib.Dec.{ltb, eqb}
use lib.ListN.{length, get_or, get_or-append}
use lib.Seq.{get_or_at}
use borrow.Author.Tests.{ltb-true, ltb-false, eqb-true, eqb-false, le-ltb}
use Rattle.model.specs.Table.{TURN, operands_in, operands_of, node, group_of}
use Rattle.model.specs.Command.{Command, is, whole, read_command, number_at}
use Rattle.model.specs.Declared.{count_of, turns_of}
use Rattle.model.specs.Refusal.{group_falls, violation, refuse, first_of}
use Rattle.model.specs.DispatchResult.{written_turn}
use Rattle.model.specs.Conclusion.{Reads, begin, further}
use Rattle.model.proofs.Logic.{not-both, or_left, or_right}
use Rattle.model.proofs.Reading.{read_at, ReadAt, number-one}
use Rattle.model.proofs.Growth.{count_same, count-other, length-turns, turns_next}
use Rattle.model.proofs.Valid.{passes}
use Rattle.model.proofs.DispatchDecoding.{written-turn-next, no_turn_none}
use Rattle.command.proofs.Known.{known-passes}

-- after a TURN no group is lower than 6
behind-turn : (past : List Command) (c : Command) → ¬ (count_of TURN past ≡ 0) → group_falls past c ≡ false → 6 ≤ group_of c.byte
unfolding count_of group_falls
behind-turn [] c n f = absurd (n refl)
behind-turn (d ∷ past) c n f = by_turn (is TURN d) refl n (λ m. behind-turn past c m
    (or_right (ltb (group_of c.byte) (group_of d.byte)) _ f))
  where
    by_turn : (t : Bool) → is TURN d ≡ t → ¬ (cond t (count_of TURN past + 1) (count_of TURN past) ≡ 0)
        → (¬ (count_of TURN past ≡ 0) → 6 ≤ group_of c.byte) → 6 ≤ group_of c.byte
    by_turn true e m ih =
        let b : d.byte ≡ TURN = eqb-true d.byte TURN e in
        ltb-false (group_of c.byte) 6 (rw b at (or_left (ltb (group_of c.byte) (group_of d.byte)) _ f))
    by_turn false e m ih = ih m

-- a command of group 6 is a TURN
group_six : (b : ℕ) → ¬ (operands_of b ≡ None) → 6 ≤ b / 16 → eqb b TURN ≡ true
group_six b known h = rw (le-ltb (b / 16) 6 h) at (known-passes (λ d. ltb (d / 16) 6 || eqb d TURN) b refl known)

-- a TURN that is read has 2 bytes, and the second is its node
turn-read : (job : List ℕ) (place : ℕ) (c : Command) (next : ℕ) → ReadAt job place c next → c.byte ≡ TURN
    → (next ≡ place + 2) × (c.operands.first ≡ get_or job (place + 1) 0)
unfolding operands_of operands_in
turn-read job place c next r e =
    let b : get_or job place 0 ≡ TURN = sym r.byte ∙ e in
    let o = rw b at r.operands in
    let k : r.kinds ≡ (node ∷ []) = cc in
    let ends = rw k at r.ends in
    let first : number_at job (place + 1) 1 ≡ c.operands.first = rw k at (ap (λ (d : Command). d.operands.first) r.command) in
    (omega arith, sym first ∙ number-one job (place + 1))

-- the turns before a place, and the first one of them
record Turning (job : List ℕ) (place : ℕ) (past : List Command) : Type 0 where
  room : 2 * count_of TURN past ≤ place
  first : ¬ (count_of TURN past ≡ 0) → written_turn past ≡ Some (refuse 14 (place - 2 * count_of TURN past))
  turn : (k : ℕ) → k < count_of TURN past → get_or job (place - 2 * count_of TURN past + 2 * k + 1) 0 ≡ get_or (turns_of past) k 0

-- one more command
module _ (job : List ℕ) (place : ℕ) (past : List Command) (c : Command) (next : ℕ) (read : read_command job place ≡ whole c next)
    (passed : violation past c ≡ 0) (t : Turning job place past) where
  further-turn : is TURN c ≡ true → Turning job next (c ∷ past)
  further-turn e =
      let r = turn-read job place c next (read_at job place c next read) (eqb-true c.byte TURN e) in
      let m = count_same TURN c past e in
      let l = length-turns past in
      let h = t.room in
      let q : turns_of (c ∷ past) ≡ turns_of past ++ (c.operands.first ∷ []) = turns_next c past ∙ rw e in
      let base : next - 2 * count_of TURN (c ∷ past) ≡ place - 2 * count_of TURN past = omega (arith, r.0) in
      record {
        room = omega (arith, r.0);
        first = λ _. written-turn-next c past ∙ rw (e, base) (by_first (eqb (count_of TURN past) 0) refl t.first);
        turn = λ k g. rw (base, q) (by_turn r l h k (ltb k (count_of TURN past)) refl (omega arith));
      }
    where
      by_first :
          (z : Bool) → eqb (count_of TURN past) 0 ≡ z
          → (¬ (count_of TURN past ≡ 0) → written_turn past ≡ Some (refuse 14 (place - 2 * count_of TURN past)))
          → first_of (written_turn past) (Some (refuse 14 c.place)) ≡ Some (refuse 14 (place - 2 * count_of TURN past))
      by_first true z f =
          let m : count_of TURN past ≡ 0 = eqb-true (count_of TURN past) 0 z in
          let here : c.place ≡ place - 2 * count_of TURN past = (read_at job place c next read).here ∙ omega arith in
          rw (no_turn_none past m) (ap (λ (k : ℕ). Some (refuse 14 k)) here)
      by_first false z f = rw (f (eqb-false (count_of TURN past) 0 z))

      by_turn :
          (next ≡ place + 2) × (c.operands.first ≡ get_or job (place + 1) 0) → length (turns_of past) ≡ count_of TURN past
          → 2 * count_of TURN past ≤ place
          → (k : ℕ) (b : Bool) → ltb k (count_of TURN past) ≡ b → k ≤ count_of TURN past
          → get_or job (place - 2 * count_of TURN past + 2 * k + 1) 0 ≡ get_or (turns_of past ++ (c.operands.first ∷ [])) k 0
      by_turn r l h k true g z =
          let y = ltb-true k (count_of TURN past) g in
          t.turn k y ∙ sym (get_or-append (turns_of past) (c.operands.first ∷ []) 0 k (omega arith))
      by_turn r l h k false g z =
          let y : k ≡ count_of TURN past = omega (arith, ltb-false k (count_of TURN past) g) in
          let w : place - 2 * count_of TURN past + 2 * k + 1 ≡ place + 1 = omega arith in
          rw w (sym r.1) ∙ sym (get_or_at (turns_of past) c.operands.first [] 0 k (l ∙ sym y))

  further-other : is TURN c ≡ false → Turning job next (c ∷ past)
  further-other e =
      let m = count-other TURN c past e in
      let z = none (count_of TURN past) refl in
      record { room = omega arith; first = λ n. absurd (n (m ∙ z)); turn = λ k g. absurd (omega arith) }
    where
      none : (k : ℕ) → count_of TURN past ≡ k → count_of TURN past ≡ 0
      none zero p = p
      none (suc k) p =
          let six = behind-turn past c (λ q. omega arith) (passes past c passed).ordered in
          not-both (group_six c.byte (read_at job place c next read).plain.known six) e

turning : {job : List ℕ} {place : ℕ} {past : List Command} → Reads job place past → Turning job place past
unfolding count_of
turning begin = record { room = omega arith; first = λ n. absurd (n refl); turn = λ k h. absurd (omega arith) }
turning {job} (further place past c next reads h e v) = by_turn (is TURN c) refl (turning reads)
  where
    by_turn : (b : Bool) → is TURN c ≡ b → Turning job place past → Turning job next (c ∷ past)
    by_turn true q t = further-turn job place past c next e v t q
    by_turn false q t = further-other job place past c next e v t q

-- turn k of an accepted job
pub turn_at_lem :
    (job : List ℕ) (past : List Command) → Reads job (length job) past
    → (k : ℕ) → k < count_of TURN past → get_or job (length job - 2 * count_of TURN past + 2 * k + 1) 0 ≡ get_or (turns_of past) k 0
turn_at_lem job past reads = (turning reads).turn

-- the first turn of an accepted job
pub first-turn :
    (job : List ℕ) (past : List Command) → Reads job (length job) past
    → ¬ (count_of TURN past ≡ 0) → written_turn past ≡ Some (refuse 14 (length job - 2 * count_of TURN past))
first-turn job past reads = (turning reads).first

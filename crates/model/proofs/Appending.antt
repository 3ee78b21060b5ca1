-- A TURN after an accepted job: accepted up to the 4,096th, refused by 5 after it.
use Prim.Native.Nat.{ℕ, zero, suc, ◌+◌, ◌≤◌, ◌<◌, zero-le}
use mathlib.Core.Path.{◌≡◌, refl, sym, ◌∙◌}
use mathlib.Core.Bool.{Bool, true, false, cond, ◌&&◌, or-false}
use mathlib.Core.List.{List, [], ◌∷◌, ◌++◌}
use Rattle.std.proofs.Common.{None, Some}
use native.Mathlib.Omega.{arith}
use lib.Dec.{leb, ltb, eqb}
use lib.ListN.{length, get_or, length-append, get_or-append}
use lib.Seq.{get_or-append_seam, get_or-append-add}
use borrow.Author.Tests.{leb-true, lt-leb, le-leb, le-ltb, ltb-true, ltb-false, eqb-true}
use Rattle.model.specs.Table.{NODE, TURN, node, Row, table, operands_in, operands_of, group_of, is_among}
use Rattle.model.specs.Table.{largest_in, largest_of, max_turns, max_job}
use Rattle.model.specs.Command.{Command, binary, end_at, whole}
use Rattle.model.specs.Command.{read_command}
use Rattle.model.specs.Declared.{count_of, body_length}
use Rattle.model.specs.Refusal.{any_of, violation, refuse, accepted, rejected, decode_from, decode, refuse_first}
use Rattle.model.specs.Refusal.{is_far_jump, far_jump, is_unused, unused_permission, decode_job}
use Rattle.model.specs.Valid.{Valid}
use Rattle.model.proofs.Logic.{and_left, and_right}
use Rattle.model.proofs.Reading.{read_at, read_whole, read_same, number-one, number-none}
use Rattle.model.proofs.Valid.{decoded-valid, job-accepted}
use Rattle.model.proofs.Growth.{among_one, highest_group, group_falls_lem, handler-other}
use Rattle.model.proofs.Decoding.{Decoding, decoding_start, decoding_on, decoding_end, decoding_refused}
use Rattle.model.proofs.Results.{decode-job-accepted}
use Rattle.model.proofs.Retracing.{read-accepted}
use Rattle.model.proofs.Scanning.{first_of_none, passing, accepted-from}

-- bytes after a job change nothing that is read inside it
pub read_prefix : (job extra : List ℕ) (place : ℕ) (c : Command) (next : ℕ) → read_command job place ≡ whole c next
    → read_command (job ++ extra) place ≡ whole c next
read_prefix job extra place c next e =
    let r = read_at job place c next e in
    read_same job (job ++ extra) place c next (omega (arith, r.inside, length-append job extra)) e
    (λ i a b. sym (get_or-append job extra 0 i (omega (arith, r.inside))))

-- decoding the longer job comes to the end of the shorter one with its commands
walk_prefix :
    (job extra : List ℕ) (all : List Command) (fuel place : ℕ) (past : List Command)
    → decode_from fuel job place past ≡ accepted all → place ≤ length job → length job ≤ place + fuel
    → Decoding (job ++ extra) place past → Decoding (job ++ extra) (length job) all
unfolding decode_from
walk_prefix job extra all zero place past e i f d =
    let here : place ≡ length job = omega arith in
    let same : past ≡ all = cc in
    rw (← here, ← same) d
walk_prefix job extra all (suc fuel) place past e i f d = by_place (ltb place (length job)) refl (walk_prefix job extra all fuel)
  where
    by_place :
        (t : Bool) → ltb place (length job) ≡ t
        → ((place : ℕ) (past : List Command) → decode_from fuel job place past ≡ accepted all → place ≤ length job
        → length job ≤ place + fuel
        → Decoding (job ++ extra) place past → Decoding (job ++ extra) (length job) all)
        → Decoding (job ++ extra) (length job) all
    by_place true t ih =
        let h = ltb-true place (length job) t in
        let p = passing fuel job place past all h e in
        let r = read_at job place p.command p.next p.is_read in
        ih p.next (p.command ∷ past) p.goes_on r.inside (omega (arith, r.later))
        (decoding_on (job ++ extra) place past d (omega (arith, length-append job extra)) p.command p.next
        (read_prefix job extra place p.command p.next p.is_read) p.passes)
    by_place false t ih =
        let z = rw t at e in
        let here : place ≡ length job = omega (arith, ltb-false place (length job) t) in
        let same : past ≡ all = cc in
        rw (← here, ← same) d

-- no command has a higher group than TURN
abbrev low_rows : List Row → Bool
low_rows [] = true
low_rows (r ∷ rows) = leb r.byte TURN && low_rows rows

row_low : (rows : List Row) → low_rows rows ≡ true → (b : ℕ) → ¬ (operands_in rows b ≡ None) → b ≤ TURN
unfolding operands_in
row_low [] l b n = absurd (n refl)
row_low (r ∷ rows) l b n = by_row (eqb r.byte b) refl n (row_low rows (and_right (leb r.byte TURN) _ l) b)
  where
    by_row :
        (t : Bool) → eqb r.byte b ≡ t → ¬ (cond t (Some r.operands) (operands_in rows b) ≡ None)
        → (¬ (operands_in rows b ≡ None) → b ≤ TURN) → b ≤ TURN
    by_row true p m ih = omega (arith, eqb-true r.byte b p, leb-true r.byte TURN (and_left (leb r.byte TURN) _ l))
    by_row false p m ih = ih m

highest-low : (past : List Command) → Valid past → highest_group past ≤ 6
unfolding highest_group operands_of
highest-low [] v = zero-le
highest-low (c ∷ past) v =
    let l : c.byte ≤ TURN = row_low table refl c.byte v.1.known in
    let g : group_of c.byte ≤ 6 = omega arith in
    omega (arith, highest-low past v.0)

-- a TURN of a node at a place
abbrev pub turn_at : ℕ → ℕ → Command
turn_at place n = record { place = place; byte = TURN; operands = binary n 0 }

-- it violates at most the largest count of turns
violation-turn : (past : List Command) → Valid past → (place n : ℕ) → n < count_of NODE past
    → violation past (turn_at place n) ≡ cond (leb max_turns (count_of TURN past)) 5 0
unfolding violation any_of operands_of operands_in largest_of largest_in is_among
violation-turn past v place n h =
    let g = group_falls_lem past (turn_at place n) ∙ le-ltb 6 (highest_group past) (highest-low past v) in
    rw (g, among_one TURN past, lt-leb (count_of NODE past) n h) (rw (or-false (leb max_turns (count_of TURN past))))

-- what stands after the job is read as this TURN
module _ (job : List ℕ) (n : ℕ) where
  read-turn : read_command (job ++ (TURN ∷ n ∷ [])) (length job) ≡ whole (turn_at (length job) n) (length job + 2)
  unfolding operands_of operands_in
  read-turn =
      let first : get_or (job ++ (TURN ∷ n ∷ [])) (length job) 0 ≡ TURN = get_or-append_seam job TURN (n ∷ []) 0 in
      let second : get_or (job ++ (TURN ∷ n ∷ [])) (length job + 1) 0 ≡ n = get_or-append-add job (TURN ∷ n ∷ []) 1 0 in
      let ends : end_at (length job) (node ∷ []) ≡ length job + 2 = omega arith in
      read_whole (job ++ (TURN ∷ n ∷ [])) (length job) (node ∷ []) (rw first) (omega (arith, length-append job (TURN ∷ n ∷ [])))
      ∙ simp (first, number-one, second, number-none, ends)

module _ (job : List ℕ) (past : List Command) (e : decode job ≡ accepted past) (n : ℕ) (h : n < count_of NODE past)
    (room : length job + 2 ≤ max_job) where
  at_turn : Decoding (job ++ (TURN ∷ n ∷ [])) (length job) past
  at_turn = walk_prefix job (TURN ∷ n ∷ []) past (length job) 0 [] (accepted-from job past e) (omega arith) (omega arith)
      (decoding_start (job ++ (TURN ∷ n ∷ [])) (λ z. omega (arith, length-append job (TURN ∷ n ∷ [])))
      (omega (arith, length-append job (TURN ∷ n ∷ []))))

  inside : length job < length (job ++ (TURN ∷ n ∷ []))
  inside = omega (arith, length-append job (TURN ∷ n ∷ []))

  -- one turn more
  pub turn-accepted : count_of TURN past < max_turns → decode (job ++ (TURN ∷ n ∷ [])) ≡ accepted (turn_at (length job) n ∷ past)
  turn-accepted l =
      decoding_end (job ++ (TURN ∷ n ∷ [])) (length job + 2) (turn_at (length job) n ∷ past)
      (decoding_on (job ++ (TURN ∷ n ∷ [])) (length job) past at_turn inside (turn_at (length job) n) (length job + 2) (read-turn job n)
      (violation-turn past (decoded-valid job past e) (length job) n h ∙ rw (lt-leb max_turns (count_of TURN past) l)))
      (omega (arith, length-append job (TURN ∷ n ∷ [])))

  -- one turn too many
  pub turn-refused : max_turns ≤ count_of TURN past → decode (job ++ (TURN ∷ n ∷ [])) ≡ rejected (refuse 5 (length job))
  turn-refused l =
      decoding_refused (job ++ (TURN ∷ n ∷ [])) (length job) past at_turn inside (turn_at (length job) n) (length job + 2) 5
      (read-turn job n)
      (violation-turn past (decoded-valid job past e) (length job) n h ∙ rw (le-leb max_turns (count_of TURN past) l))
      (λ z. omega arith)

-- a TURN is no jump and no permission and stands in no body, so the tests 9 and 19 stay as they were
far_jump_turn : (past : List Command) (place n : ℕ) → far_jump (turn_at place n ∷ past) ≡ far_jump past
unfolding refuse_first body_length
far_jump_turn past place n = first_of_none (refuse_first 9 (is_far_jump past) past)

-- two tests that find the same
refuse-same :
    (k : ℕ) (test other : List Command → Command → Bool) → ((past : List Command) (c : Command) → test past c ≡ other past c)
    → (past : List Command) → refuse_first k test past ≡ refuse_first k other past
unfolding refuse_first
refuse-same k test other same [] = refl
refuse-same k test other same (c ∷ past) = rw (refuse-same k test other same past, same past c)

unused_turn : (past : List Command) (place n : ℕ) → unused_permission (turn_at place n ∷ past) ≡ unused_permission past
unfolding refuse_first any_of
unused_turn past place n =
    first_of_none (refuse_first 19 (is_unused (turn_at place n ∷ past)) past)
    ∙ refuse-same 19 (is_unused (turn_at place n ∷ past)) (is_unused past)
    (λ before c. rw (handler-other past (turn_at place n) c.operands.first refl)) past

-- one turn more after an accepted job
pub turn_appended :
    (job : List ℕ) (past : List Command) → decode_job job ≡ accepted past → (n : ℕ) → n < count_of NODE past → length job + 2 ≤ max_job
    → count_of TURN past < max_turns
    → decode_job (job ++ (TURN ∷ n ∷ [])) ≡ accepted (turn_at (length job) n ∷ past)
turn_appended job past e n h room l =
    let a = job-accepted job past e in
    let d = read-accepted job past a.read in
    decode-job-accepted (job ++ (TURN ∷ n ∷ [])) (turn_at (length job) n ∷ past) (turn-accepted job past d n h room l)
    (far_jump_turn past (length job) n ∙ a.jumps) (unused_turn past (length job) n ∙ a.permissions)

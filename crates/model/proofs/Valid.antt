-- The commands of every accepted job passed the tests 2 to 8 and 15; their counts keep the limits and their operands are allowed.
use Prim.Native.Nat.{ℕ, suc, ◌+◌, ◌≤◌, ◌<◌, zero-le}
use mathlib.Core.Path.{◌≡◌, refl, sym}
use mathlib.Core.Bool.{Bool, true, false, cond, not, ◌&&◌, ◌||◌}
use mathlib.Core.List.{List, [], ◌∷◌}
use Rattle.std.proofs.Common.{Some}
use native.Mathlib.Omega.{arith}
use lib.Dec.{leb, eqb}
use borrow.Author.Tests.{leb-false, ltb-false, eqb-true}
use Rattle.model.specs.Table.{FLOW, NODE, VAR, FUN, REPLY, ARG, SPAN, TURN, OperandKind, scope, owner, start, answer, node, port}
use Rattle.model.specs.Table.{target, function, argument, value, low, high, variable, jump, absent, limit, is_among, largest_in}
use Rattle.model.specs.Table.{largest_of, max_flows, max_nodes, max_variables, max_functions, max_replies, max_ranges, max_turns}
use Rattle.model.specs.Command.{Command, is}
use Rattle.model.specs.Declared.{count_of, count_among, is_handler, open_body, belongs, body_length}
use Rattle.model.specs.Refusal.{group_falls, is_reached, exceeds_count, counts_of, no_owner, names_nothing, undeclared, out_of_reach}
use Rattle.model.specs.Refusal.{repeated, empty_span, violation, accepted, decode, decode_job, sizes}
use Rattle.model.specs.Conclusion.{Reads, begin, further, Refuses}
use Rattle.model.specs.Valid.{Allowed, Valid, Passes, ValidJob, Named, Limits}
use Rattle.model.proofs.Reading.{read_at}
use Rattle.model.proofs.Walking.{Decides, PassedEight, PassedJob, decode-walked, decode-job-walked}
use Rattle.model.proofs.Logic.{true_false, and-rest, and_left, and_right, none_of}

-- no refusal: the test is false, and the later tests refuse nothing
cond-false : (b : Bool) (k m : ℕ) → cond b (suc k) m ≡ 0 → (b ≡ false) × (m ≡ 0)
cond-false true k m e = absurd (omega arith)
cond-false false k m e = (refl, e)

-- no violation: each test is passed
pub passes : (past : List Command) (c : Command) → violation past c ≡ 0 → Passes past c
unfolding violation
passes past c e =
    let a = cond-false (group_falls past c) 3 _ e in
    let b = cond-false (exceeds_count past c) 4 _ a.1 in
    let d = cond-false (undeclared past c) 5 _ b.1 in
    let f = cond-false (out_of_reach past c) 6 _ d.1 in
    let g = cond-false (repeated past c) 7 _ f.1 in
    let h = cond-false (empty_span c) 14 _ g.1 in
    record { ordered = a.0; counted = b.0; declares = d.0; reaches = f.0; fresh = g.0; ascends = h.0 }

-- the commands that a job reads are valid
pub reads-valid : {job : List ℕ} {place : ℕ} {past : List Command} → Reads job place past → Valid past
reads-valid begin = tt
reads-valid {job} (further place past c next reads h e v) = (reads-valid reads, (read_at job place c next e).plain, v)

-- an accepted job's commands are valid, after the tests of commands and after 9 and 19
pub decoded-valid : (job : List ℕ) (past : List Command) → decode job ≡ accepted past → Valid past
decoded-valid job past e = let w : Decides (PassedEight job) (Refuses job (sizes 0 0 0)) (accepted past) = rw e at
    (decode-walked job (sizes 0 0 0)) in reads-valid w.reads

pub job-accepted : (job : List ℕ) (past : List Command) → decode_job job ≡ accepted past → PassedJob job past
job-accepted job past e = rw e at (decode-job-walked job (sizes 0 0 0))

pub job-valid : (job : List ℕ) (past : List Command) → decode_job job ≡ accepted past → ValidJob past
job-valid job past e = let j = job-accepted job past e in record { commands = reads-valid j.read.reads; jumps = j.jumps }

-- each of these bytes has this largest count, which is the count of `all`; and no byte stands twice among them
abbrev Share : List ℕ → ℕ → List ℕ → Type 0
Share all most [] = Unit {0}
Share all most (b ∷ bytes) = (largest_of b ≡ Some (limit all most)) × ((is_among b bytes ≡ false) × Share all most bytes)

-- one command more counts once, if its byte is among them
among-grows :
    (all : List ℕ) (most : ℕ) (c : Command) (past : List Command) (bytes : List ℕ) → Share all most bytes
    → count_among bytes (c ∷ past) ≤ cond (is_among c.byte bytes) (count_among bytes past + 1) (count_among bytes past)
unfolding count_among count_of is_among
among-grows all most c past [] s = zero-le
among-grows all most c past (b ∷ bytes) s = by_byte (is b c) refl (among-grows all most c past bytes s.1.1)
  where
    by_byte :
        (t : Bool) → is b c ≡ t
        → count_among bytes (c ∷ past) ≤ cond (is_among c.byte bytes) (count_among bytes past + 1) (count_among bytes past)
        → cond t (count_of b past + 1) (count_of b past) + count_among bytes (c ∷ past)
        ≤ cond (t || is_among c.byte bytes) (count_of b past + count_among bytes past + 1) (count_of b past + count_among bytes past)
    by_byte true p h =
        let away : is_among c.byte bytes ≡ false = rw (eqb-true c.byte b p) s.1.0 in
        let k : count_among bytes (c ∷ past) ≤ count_among bytes past = rw away at h in
        omega (arith, k)
    by_byte false p h = by_rest (is_among c.byte bytes) h
      where
        by_rest :
            (u : Bool) → count_among bytes (c ∷ past) ≤ cond u (count_among bytes past + 1) (count_among bytes past)
            → count_of b past + count_among bytes (c ∷ past)
            ≤ cond u (count_of b past + count_among bytes past + 1) (count_of b past + count_among bytes past)
        by_rest true k = omega arith
        by_rest false k = omega arith

-- the largest count of a byte that is among them
among-limit : (all : List ℕ) (most d : ℕ) (bytes : List ℕ) → Share all most bytes
    → is_among d bytes ≡ true → largest_of d ≡ Some (limit all most)
unfolding is_among
among-limit all most d [] s e = true_false (sym e)
among-limit all most d (b ∷ bytes) s e = by_byte (eqb d b) refl e (among-limit all most d bytes s.1.1)
  where
    by_byte :
        (t : Bool) → eqb d b ≡ t → (t || is_among d bytes) ≡ true → (is_among d bytes ≡ true → largest_of d ≡ Some (limit all most))
        → largest_of d ≡ Some (limit all most)
    by_byte true p e rest = rw (eqb-true d b p) s.0
    by_byte false p e rest = rest e

-- before every command, the count is 0
none-among : (bytes : List ℕ) → count_among bytes [] ≡ 0
unfolding count_among count_of
none-among [] = refl
none-among (b ∷ bytes) = omega (arith, none-among bytes)

-- a largest count is kept
pub count-limit : (bytes : List ℕ) (most : ℕ) → Share bytes most bytes → (past : List Command) → Valid past → count_among bytes past ≤ most
count-limit bytes most s [] v = rw (none-among bytes) zero-le
count-limit bytes most s (c ∷ past) v =
    by_byte (is_among c.byte bytes) refl (count-limit bytes most s past v.0) (among-grows bytes most c past bytes s)
  where
    by_byte :
        (t : Bool) → is_among c.byte bytes ≡ t → count_among bytes past ≤ most
        → count_among bytes (c ∷ past) ≤ cond t (count_among bytes past + 1) (count_among bytes past)
        → count_among bytes (c ∷ past) ≤ most
    by_byte false p h g = omega arith
    by_byte true p h g =
        let r : is_reached (largest_of c.byte) past ≡ false = none_of 0 _ (passes past c v.2).counted in
        let r' : leb most (count_among bytes past) ≡ false = rw (among-limit bytes most c.byte bytes s p) at r in
        omega (arith, leb-false most (count_among bytes past) r')

-- a handler's largest count is kept
handler-step :
    (past : List Command) (c : Command) (n : ℕ) → body_length past n ≤ 64 → exceeds_count past c ≡ false
    → (t : Bool) → belongs past c n ≡ t → cond t (body_length past n + 1) (body_length past n) ≤ 64
handler-step past c n h e false p = h
handler-step past c n h e true p =
    let here : open_body past ≡ n = eqb-true (open_body past) n (and_right (is_handler c) _ p) in
    let r : (is_handler c && leb 64 (body_length past (open_body past))) ≡ false = none_of 1 _ e in
    let room : leb 64 (body_length past n) ≡ false = rw here at (and-rest (is_handler c) _ (and_left (is_handler c) _ p) r) in
    omega (arith, leb-false 64 (body_length past n) room)

pub handler-limit : (past : List Command) → Valid past → (n : ℕ) → body_length past n ≤ 64
unfolding body_length
handler-limit [] v n = zero-le
handler-limit (c ∷ past) v n = handler-step past c n (handler-limit past v.0 n) (passes past c v.2).counted (belongs past c n) refl

pub limits : (past : List Command) → Valid past → Limits past
unfolding largest_of largest_in is_among count_among
limits past v =
    let kept : (b most : ℕ) → Share (b ∷ []) most (b ∷ []) → count_among (b ∷ []) past ≤ most = λ b most s.
    count-limit (b ∷ []) most s past v in
    record {
      flows = omega (arith, kept FLOW max_flows (refl, (refl, tt)));
      nodes = omega (arith, kept NODE max_nodes (refl, (refl, tt)));
      variables = omega (arith, kept VAR max_variables (refl, (refl, tt)));
      functions = omega (arith, kept FUN max_functions (refl, (refl, tt)));
      replies = omega (arith, kept REPLY max_replies (refl, (refl, tt)));
      ranges = omega (arith, count-limit (ARG ∷ SPAN ∷ []) max_ranges (refl, (refl, (refl, (refl, tt)))) past v);
      turns = omega (arith, kept TURN max_turns (refl, (refl, tt)));
      handlers = handler-limit past v;
    }

-- an operand that names something is allowed
module _ (past : List Command) (l : Limits past) (s : ℕ) where
  owner-allowed : (x : ℕ) → no_owner (counts_of past) s x ≡ false → x < 32
  owner-allowed x = by_scope (eqb s 0) (eqb s 1)
    where
      zero_owner : (t : Bool) → eqb x 0 ≡ t → not t ≡ false → x < 32
      zero_owner true p e = let z = eqb-true x 0 p in omega arith
      zero_owner false p e = true_false e

      by_scope : (a b : Bool) → cond a (leb (count_of NODE past) x) (cond b (leb (count_of FLOW past) x) (not (eqb x 0))) ≡ false → x < 32
      by_scope true b e = omega (arith, leb-false (count_of NODE past) x e, l.nodes)
      by_scope false true e = omega (arith, leb-false (count_of FLOW past) x e, l.flows)
      by_scope false false e = zero_owner (eqb x 0) refl e

  allowed : (k : OperandKind) (x : ℕ) → (k ≡ absent → x ≡ 0) → names_nothing (counts_of past) s k x ≡ false → Allowed k x
  allowed scope x z e = omega (arith, ltb-false 2 x e)
  allowed owner x z e = owner-allowed x e
  allowed start x z e = tt
  allowed answer x z e = tt
  allowed node x z e = omega (arith, leb-false (count_of NODE past) x e, l.nodes)
  allowed port x z e = omega (arith, ltb-false 3 x e)
  allowed target x z e = omega (arith, leb-false (count_of NODE past) x e, l.nodes)
  allowed function x z e = omega (arith, leb-false (count_of FUN past) x e, l.functions)
  allowed argument x z e = tt
  allowed value x z e = tt
  allowed low x z e = tt
  allowed high x z e = tt
  allowed variable x z e = omega (arith, leb-false (count_of VAR past) x e, l.variables)
  allowed jump x z e = tt
  allowed absent x z e = z refl

pub named : (past : List Command) (c : Command) → Valid (c ∷ past) → Named c.byte c.operands
named past c v =
    let l = limits past v.0 in
    let e = (passes past c v.2).declares in
    record {
      first = allowed past l c.operands.first _ c.operands.first v.1.first (none_of 2 _ e);
      second = allowed past l c.operands.first _ c.operands.second v.1.second (none_of 3 _ e);
      third = allowed past l c.operands.first _ c.operands.third v.1.third (none_of 4 _ e);
      fourth = allowed past l c.operands.first _ c.operands.fourth v.1.fourth (none_of 5 _ e);
    }

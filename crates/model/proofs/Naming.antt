-- What is named is among what can be declared, and nothing else is, in every accepted job.
use Prim.Native.Nat.{ℕ, ◌+◌, ◌-◌, ◌≤◌, ◌<◌, zero-le}
use mathlib.Core.Path.{◌≡◌, refl, sym, ap, ◌∙◌}
use mathlib.Core.Bool.{Bool, true, false, cond, ◌&&◌, ◌||◌}
use mathlib.Core.List.{List, [], ◌∷◌, ◌++◌}
use native.Mathlib.Omega.{arith}
use lib.Dec.{ltb, eqb}
use lib.ListN.{length, get_or, length-append}
use borrow.Author.Tests.{leb-false, ltb-true, ltb-false, eqb-true, eqb-false, eq-eqb, ne_eqb}
use Rattle.model.specs.Table.{FLOW, NODE, WIRE, BODY, START, TURN, node, operands_in, operands_of, kind_at, group_of}
use Rattle.model.specs.Command.{Operands, binary, Command, is, ternary}
use Rattle.model.specs.Declared.{only, count_of, is_same, occurs, flow_of, is_handler, open_body, belongs, body_length, instruction}
use Rattle.model.specs.Declared.{handler_of, starts_of, started_in, turns_of}
use Rattle.model.specs.Refusal.{counts_of, names_nothing, must_differ}
use Rattle.model.specs.Valid.{Valid, Named, NamedInstruction}
use Rattle.model.proofs.Logic.{true_false, or_left, or_right, or_first, or_second, and-rest, and_left, and_right, none_of}
use Rattle.model.proofs.Lists.{only-each}
use Rattle.model.proofs.Growth.{count-grows, declared-older}
use Rattle.model.proofs.Valid.{passes, named}

-- a command that is the same as another has its byte and operands
module _ (b : ℕ) (x : Operands) (c : Command) (e : is_same b x c ≡ true) where
  pub same_byte : c.byte ≡ b
  same_byte = eqb-true c.byte b (and_left (is b c) _ e)

  pub equal_operands : c.operands ≡ x
  equal_operands =
      let t = and_right (is b c) _ e in
      let u = and_right (eqb c.operands.first x.first) _ t in
      let w = and_right (eqb c.operands.second x.second) _ u in
      let p = eqb-true c.operands.first x.first (and_left (eqb c.operands.first x.first) _ t) in
      let q = eqb-true c.operands.second x.second (and_left (eqb c.operands.second x.second) _ u) in
      let r = eqb-true c.operands.third x.third (and_left (eqb c.operands.third x.third) _ w) in
      let s = eqb-true c.operands.fourth x.fourth (and_right (eqb c.operands.third x.third) _ w) in
      λ i. record { first = p i; second = q i; third = r i; fourth = s i }

-- what holds of every valid command holds of the byte and operands of one that occurs
pub occurs-each :
    (Q : ℕ → Operands → Type 0) → ((past : List Command) (c : Command) → Valid (c ∷ past) → Q c.byte c.operands)
    → (past : List Command) → Valid past → (b : ℕ) (x : Operands) → occurs b x past ≡ true → Q b x
unfolding occurs
occurs-each Q each [] v b x e = true_false (sym e)
occurs-each Q each (c ∷ past) v b x e = by_command (is_same b x c) refl e (occurs-each Q each past v.0 b x)
  where
    by_command : (t : Bool) → is_same b x c ≡ t → (t || occurs b x past) ≡ true → (occurs b x past ≡ true → Q b x) → Q b x
    by_command true p q ih = rw (same_byte b x c p, equal_operands b x c p) at (each past c v)
    by_command false p q ih = ih q

-- what occurs is allowed, so that a table that ends there misses nothing
pub occurs-inside : (past : List Command) → Valid past → (b : ℕ) (x : Operands) → occurs b x past ≡ true → Named b x
occurs-inside = occurs-each Named named

pub occurs_outside : (past : List Command) → Valid past → (b : ℕ) (x : Operands) → ¬ Named b x → occurs b x past ≡ false
occurs_outside past v b x n = by_test (occurs b x past) refl
  where
    by_test : (t : Bool) → occurs b x past ≡ t → t ≡ false
    by_test true e = absurd (n (occurs-inside past v b x e))
    by_test false e = refl

-- the open handler is a node's
pub open_inside : (past : List Command) → Valid past → open_body past < 32
unfolding open_body operands_of operands_in
open_inside [] v = omega arith
open_inside (c ∷ past) v = by_body (is BODY c) refl (open_inside past v.0)
  where
    by_body : (t : Bool) → is BODY c ≡ t → open_body past < 32 → cond t c.operands.first (open_body past) < 32
    by_body true e h = let p : c.byte ≡ BODY = eqb-true c.byte BODY e in rw p at (named past c v).first
    by_body false e h = h

-- no node from 32 on has a handler
pub handler_outside : (past : List Command) → Valid past → (n : ℕ) → 32 ≤ n → handler_of past n ≡ []
unfolding handler_of
handler_outside [] v n h = refl
handler_outside (c ∷ past) v n h =
    let far : belongs past c n ≡ false = by_handler (is_handler c)
    (ne_eqb (open_body past) n (λ e. omega (arith, open_inside past v.0))) in
    rw (far, handler_outside past v.0 n h)
  where
    by_handler : (t : Bool) → eqb (open_body past) n ≡ false → (t && eqb (open_body past) n) ≡ false
    by_handler true e = e
    by_handler false e = refl

-- an instruction of a handler names what is allowed
pub handler-named : (past : List Command) → Valid past → (n i : ℕ) → i < length (handler_of past n)
    → NamedInstruction (get_or (handler_of past n) i (instruction 0 0))
unfolding handler_of
handler-named [] v n = λ i h. absurd (omega arith)
handler-named (c ∷ past) v n =
    only-each (λ i. NamedInstruction) (instruction 0 0) (handler_of past n) (belongs past c n) (instruction c.byte c.operands.first)
    (handler-named past v.0 n)
    (λ p. record { handler = and_left (is_handler c) _ p; operand = (named past c v).first })

-- a command whose first operand is a node names a declared one
pub names_node : (past : List Command) (c : Command) → Valid (c ∷ past) → kind_at c.byte 0 ≡ node → c.operands.first < count_of NODE past
names_node past c v e =
    let h : names_nothing (counts_of past) c.operands.first (kind_at c.byte 0) c.operands.first ≡ false = none_of 2 _
    (passes past c v.2).declares in
    leb-false (count_of NODE past) c.operands.first (rw e at h)

-- every wire ends at a declared node
pub wires-inside : (past : List Command) → Valid past → (n p m : ℕ) → occurs WIRE (ternary n p m) past ≡ true → m < count_of NODE past
unfolding occurs operands_of operands_in
wires-inside [] v n p m e = true_false (sym e)
wires-inside (c ∷ past) v n p m e = by_command (is_same WIRE (ternary n p m) c) refl e (wires-inside past v.0 n p m)
  where
    by_command : (t : Bool) → is_same WIRE (ternary n p m) c ≡ t → (t || occurs WIRE (ternary n p m) past) ≡ true
        → (occurs WIRE (ternary n p m) past ≡ true → m < count_of NODE past) → m < count_of NODE (c ∷ past)
    by_command true same q ih =
        let wire : c.byte ≡ WIRE = same_byte WIRE (ternary n p m) c same in
        let ends : c.operands.third ≡ m = ap (λ (x : Operands). x.third) (equal_operands WIRE (ternary n p m) c same) in
        let h : names_nothing (counts_of past) c.operands.first (kind_at c.byte 2) c.operands.third ≡ false = none_of 4 _
        (passes past c v.2).declares in
        let g : c.operands.third < count_of NODE past = leb-false (count_of NODE past) c.operands.third (rw wire at h) in
        omega (arith, count-grows NODE c past)
    by_command false same q ih = omega (arith, ih q, count-grows NODE c past)

-- the node of every turn is declared
pub turns-inside : (past : List Command) → Valid past → (i : ℕ) → i < length (turns_of past) → get_or (turns_of past) i 0 < count_of NODE past
unfolding turns_of operands_of operands_in
turns-inside [] v = λ i h. absurd (omega arith)
turns-inside (c ∷ past) v =
    only-each (λ i n. n < count_of NODE (c ∷ past)) 0 (turns_of past) (is TURN c) c.operands.first
    (λ i h. omega (arith, turns-inside past v.0 i h, count-grows NODE c past))
    (λ p.
    let turn : c.byte ≡ TURN = eqb-true c.byte TURN p in
    let g : c.operands.first < count_of NODE past = names_node past c v (rw turn) in
    omega (arith, count-grows NODE c past))

-- a first message is that of a declared node
start-inside : (past : List Command) (c : Command) → Valid (c ∷ past) → (n : ℕ) → (is START c && eqb c.operands.first n) ≡ true
    → n < count_of NODE past
unfolding operands_of operands_in
start-inside past c v n p =
    let start : c.byte ≡ START = eqb-true c.byte START (and_left (is START c) _ p) in
    let here : c.operands.first ≡ n = eqb-true c.operands.first n (and_right (is START c) _ p) in
    let g : c.operands.first < count_of NODE past = names_node past c v (rw start) in
    rw (← here) g

-- no node that is not declared has a first message
pub starts_outside : (past : List Command) → Valid past → (n : ℕ) → count_of NODE past ≤ n → starts_of past n ≡ []
unfolding starts_of
starts_outside [] v n h = refl
starts_outside (c ∷ past) v n h = by_start (is START c && eqb c.operands.first n) refl
    (starts_outside past v.0 n (omega (arith, count-grows NODE c past)))
  where
    by_start : (t : Bool) → (is START c && eqb c.operands.first n) ≡ t → starts_of past n ≡ []
        → starts_of past n ++ only t c.operands.second ≡ []
    by_start false p ih = rw ih
    by_start true p ih = absurd (omega (arith, count-grows NODE c past, start-inside past c v n p))

-- no START in the flow of a node: no first message
no_starts : (past : List Command) → Valid past → (n : ℕ) → started_in past (flow_of past n) ≡ false → starts_of past n ≡ []
unfolding starts_of started_in
no_starts [] v n e = refl
no_starts (c ∷ past) v n e = rw (
  fresh (is START c && eqb c.operands.first n) refl,
  older (ltb n (count_of NODE past)) refl
      (no_starts past v.0 n),
)
  where
    fresh : (t : Bool) → (is START c && eqb c.operands.first n) ≡ t → (is START c && eqb c.operands.first n) ≡ false
    fresh false p = p
    fresh true p =
        let here : c.operands.first ≡ n = eqb-true c.operands.first n (and_right (is START c) _ p) in
        let same = declared-older (λ c before. count_of FLOW before - 1) NODE c past n (start-inside past c v n p) in
        let miss : eqb (flow_of past c.operands.first) (flow_of (c ∷ past) n) ≡ false = and-rest (is START c) _
        (and_left (is START c) _ p) (or_left _ _ e) in
        absurd (eqb-false _ _ miss (ap (flow_of past) here ∙ sym same))

    older : (t : Bool) → ltb n (count_of NODE past) ≡ t → (started_in past (flow_of past n) ≡ false → starts_of past n ≡ [])
        → starts_of past n ≡ []
    older true p ih =
        let same = declared-older (λ c before. count_of FLOW before - 1) NODE c past n (ltb-true n (count_of NODE past) p) in
        ih (rw same at (or_right (is START c && eqb (flow_of past c.operands.first) (flow_of (c ∷ past) n)) _ e))
    older false p ih = starts_outside past v.0 n (ltb-false n (count_of NODE past) p)

-- a node has at most one first message
pub starts-one : (past : List Command) → Valid past → (n : ℕ) → length (starts_of past n) ≤ 1
unfolding starts_of
starts-one [] v n = zero-le
starts-one (c ∷ past) v n = by_start (is START c && eqb c.operands.first n) refl (starts-one past v.0 n)
  where
    by_start : (t : Bool) → (is START c && eqb c.operands.first n) ≡ t → length (starts_of past n) ≤ 1
        → length (starts_of past n ++ only t c.operands.second) ≤ 1
    by_start false p ih = omega (arith, length-append (starts_of past n) [])
    by_start true p ih =
        let here : c.operands.first ≡ n = eqb-true c.operands.first n (and_right (is START c) _ p) in
        let none : started_in past (flow_of past c.operands.first) ≡ false = and-rest (is START c) _ (and_left (is START c) _ p)
        (none_of 1 _ (passes past c v.2).fresh) in
        let empty : starts_of past n ≡ [] = no_starts past v.0 n (rw here at none) in
        rw empty (omega arith)

-- a BODY has one operand
body_alone : (past : List Command) (c : Command) → Valid (c ∷ past) → is BODY c ≡ true → c.operands ≡ binary c.operands.first 0
unfolding operands_of operands_in
body_alone past c v e =
    let p : c.byte ≡ BODY = eqb-true c.byte BODY e in
    let q : c.operands.second ≡ 0 = rw p at (named past c v).second in
    let r : c.operands.third ≡ 0 = rw p at (named past c v).third in
    let s : c.operands.fourth ≡ 0 = rw p at (named past c v).fourth in
    λ i. record { first = c.operands.first; second = q i; third = r i; fourth = s i }

-- the open handler has its BODY
open_occurs : (past : List Command) → Valid past → ¬ (count_of BODY past ≡ 0) → occurs BODY (binary (open_body past) 0) past ≡ true
unfolding count_of open_body occurs
open_occurs [] v n = absurd (n refl)
open_occurs (c ∷ past) v n = by_body (is BODY c) refl n (open_occurs past v.0)
  where
    here : is BODY c ≡ true → is_same BODY (binary c.operands.first 0) c ≡ true
    here e = rw (e, body_alone past c v e, eq-eqb c.operands.first c.operands.first refl)

    by_body :
        (t : Bool) → is BODY c ≡ t → ¬ (cond t (count_of BODY past + 1) (count_of BODY past) ≡ 0)
        → (¬ (count_of BODY past ≡ 0) → occurs BODY (binary (open_body past) 0) past ≡ true)
        → (is_same BODY (binary (cond t c.operands.first (open_body past)) 0) c || occurs BODY
        (binary (cond t c.operands.first (open_body past)) 0) past) ≡ true
    by_body true e m ih = or_first (is_same BODY (binary c.operands.first 0) c) (occurs BODY (binary c.operands.first 0) past)
        (here e)
    by_body false e m ih = or_second (is_same BODY (binary (open_body past) 0) c) (occurs BODY (binary (open_body past) 0) past) (ih m)

-- a node without BODY has an empty handler
no_body : (past : List Command) → Valid past → (n : ℕ) → occurs BODY (binary n 0) past ≡ false → body_length past n ≡ 0
unfolding occurs body_length
no_body [] v n e = refl
no_body (c ∷ past) v n e =
    let older : occurs BODY (binary n 0) past ≡ false = or_right (is_same BODY (binary n 0) c) _ e in
    by_place (belongs past c n) refl older (no_body past v.0 n older)
  where
    by_place : (t : Bool) → belongs past c n ≡ t → occurs BODY (binary n 0) past ≡ false → body_length past n ≡ 0
        → cond t (body_length past n + 1) (body_length past n) ≡ 0
    by_place true p o ih =
        let opened : open_body past ≡ n = eqb-true (open_body past) n (and_right (is_handler c) _ p) in
        let some : eqb (count_of BODY past) 0 ≡ false = and-rest (is_handler c) _ (and_left (is_handler c) _ p)
        (none_of 1 _ (passes past c v.2).declares) in
        true_false (sym (rw opened at (open_occurs past v.0 (eqb-false (count_of BODY past) 0 some))) ∙ o)
    by_place false p o ih = ih

-- the handler that a BODY opens is empty so far
pub body_fresh : (past : List Command) (c : Command) → Valid (c ∷ past) → is BODY c ≡ true → body_length past c.operands.first ≡ 0
body_fresh past c v e =
    let p : c.byte ≡ BODY = eqb-true c.byte BODY e in
    let o : occurs c.byte c.operands past ≡ false = and-rest (must_differ c) _
    (or_second (is WIRE c || eqb (group_of c.byte) 3) (is BODY c) e) (none_of 0 _ (passes past c v.2).fresh) in
    no_body past v.0 c.operands.first (rw (p, body_alone past c v e) at o)

-- What is counted and declared, handlers and first messages among it, with one more command.
use Prim.Native.Nat.{ℕ, ◌+◌, ◌-◌, ◌≤◌, ◌<◌, zero-le}
use mathlib.Core.Path.{◌≡◌, refl, sym, ◌∙◌}
use mathlib.Core.Bool.{Bool, true, false, cond, not, ◌&&◌, ◌||◌}
use mathlib.Core.List.{List, [], ◌∷◌, ◌++◌, append-nil}
use native.Mathlib.Omega.{arith}
use lib.Dec.{ltb, eqb}
use lib.ListN.{length, length-append}
use borrow.Author.Tests.{ltb-false, lt-ltb, le-ltb, eqb-true}
use Rattle.model.specs.Table.{FLOW, NODE, VAR, FUN, BODY, START, operands_in, operands_of, group_of}
use Rattle.model.specs.Command.{Command, is, binary}
use Rattle.model.specs.Declared.{only, count_of, occurs, declared, flow_of, is_handler, open_body, body_length, starts_of, started_in}
use Rattle.model.specs.Refusal.{group_falls}
use Rattle.model.proofs.Growth.{count-grows, count-below, occurs-next, open_next, body_next, starts-next, started-next}
use Rattle.model.proofs.Naming.{open_inside, starts-one}
use Rattle.model.proofs.Valid.{passes, limits}
use Rattle.tables.specs.Cells.{entry_in, flag_in}
use Rattle.tables.specs.Tables.{count_cells, progress_cells, flow_cells, scope_cells, owner_cells, start_cells, answer_cells, length_cells}
use Rattle.tables.specs.Tables.{body_cells, started_cells, first_cells, message_cells, count_in, group_in, open_in, flow_in, length_in, item_count_in}
use Rattle.tables.specs.Items.{is_item}
use Rattle.tables.specs.Writes.{one_more}
use Rattle.command.proofs.Known.{byte_low}
use Rattle.tables.proofs.Cases.{column, this_last, flag}
use Rattle.notes.proofs.Same.{same-one}
use Rattle.notes.proofs.After.{more, after, Admitted, in_section, named_as, room}

-- the flow of a node is one of those counted
flow-counted : (past : List Command) (n : ℕ) → flow_of past n ≤ count_of FLOW past - 1
unfolding declared
flow-counted [] n = zero-le
flow-counted (c ∷ past) n = by_node (is NODE c && eqb (count_of NODE past) n) (flow-counted past n)
  where
    by_node : (t : Bool) → flow_of past n ≤ count_of FLOW past - 1
        → cond t (count_of FLOW past - 1) (flow_of past n) ≤ count_of FLOW (c ∷ past) - 1
    by_node true h = omega (arith, count-grows FLOW c past)
    by_node false h = omega (arith, count-grows FLOW c past)

-- the group of a command that does not fall is the highest
highest : (d c g : ℕ) → g ≤ c → (ltb d c || ltb d g) ≡ ltb d c
highest d c g h = by_test (ltb d c) refl
  where
    by_test : (t : Bool) → ltb d c ≡ t → (t || ltb d g) ≡ t
    by_test true e = refl
    by_test false e = le-ltb d g (omega (arith, ltb-false d c e))

empty_list : (l : List ℕ) → length l ≤ 0 → l ≡ []
empty_list [] h = refl
empty_list (a ∷ l) h = absurd (omega arith)

-- the first message of a node, with one more START
first-message :
    (on : Bool) (j i k old message x : ℕ) (older : List ℕ) → (on ≡ true → j < k) → only (not (eqb old 0)) message ≡ older
    → (on ≡ true → eqb j i ≡ true → older ≡ [])
    → only (not (eqb (cond (on && (eqb j i && ltb i k)) 1 old) 0)) (cond (on && (eqb j i && ltb i k)) x message) ≡ older ++ only
    (on && eqb j i) x
first-message false j i k old message x older h q z = q ∙ sym (append-nil older)
first-message true j i k old message x older h q z = by_cell (eqb j i) refl
  where
    by_cell : (b : Bool) → eqb j i ≡ b → only (not (eqb (cond (b && ltb i k) 1 old) 0)) (cond (b && ltb i k) x message) ≡ older ++ only b x
    by_cell true e = let g : j ≡ i = eqb-true j i e in let m = h refl in rw (lt-ltb i k (omega arith), z refl e)
    by_cell false e = q ∙ sym (append-nil older)

module _ {t : List ℕ} {past : List Command} {c : Command} (one : Admitted t past c) where
  -- a column of what is declared
  declared-column :
      (value : Command → List Command → ℕ) (b j k x old i : ℕ) → j ≡ count_of b past → (is b c ≡ true → count_of b past < k)
      → x ≡ value c past → old ≡ declared value b past i
      → cond (is b c && (eqb j i && ltb i k)) x old ≡ declared value b (c ∷ past) i
  unfolding declared
  declared-column value b j k x old i e h p q = rw e (column (is b c) (count_of b past) i k x old (value c past) (declared value b past i) h
      (λ a d. p) q)

  pub counts-next : (b : ℕ) → b < 128 → count_in (after t c) b ≡ count_of b (c ∷ past)
  unfolding count_of
  counts-next b h =
      in_section one count_cells (omega arith) refl b
      ∙ column true c.byte b 128 (one_more (count_in t c.byte)) (count_in t b) (count_of b past + 1) (count_of b past)
      (λ e. byte_low c.byte one.valid.1.known)
      (λ e q. rw (q, one.stands.counts b h) (more (count_of b past) (omega (arith, count-below b past)))) (one.stands.counts b h)

  pub group-next : (d : Command) → group_falls (c ∷ past) d ≡ ltb (group_of d.byte) (group_in (after t c))
  unfolding group_falls
  group-next d =
      let g : group_in (after t c) ≡ group_of c.byte = in_section one progress_cells (omega arith) refl 0 in
      let l = ltb-false (group_of c.byte) (group_in t) (sym (one.stands.group c) ∙ (passes past c one.valid.2).ordered) in
      rw (g, one.stands.group d) (highest (group_of d.byte) (group_of c.byte) (group_in t) l)

  pub opened-next : open_in (after t c) ≡ open_body (c ∷ past)
  opened-next =
      in_section one progress_cells (omega arith) refl 1
      ∙ this_last (is BODY c) (is_item c) c.operands.first (one_more (item_count_in t)) (open_in t)
      ∙ rw (one.stands.opened, open_next c past)

  pub flow_next : (n : ℕ) → flow_in (after t c) n ≡ flow_of (c ∷ past) n
  flow_next n =
      in_section one flow_cells (omega arith) refl n
      ∙ declared-column (λ c before. count_of FLOW before - 1) NODE (count_in t NODE) 32 (count_in t FLOW - 1) (flow_in t n) n
      (one.stands.counts NODE (omega arith))
      (λ e. omega (arith, room one NODE 32 (limits (c ∷ past) one.valid).nodes e)) (rw (one.stands.counts FLOW (omega arith)))
      (one.stands.flow n)

  module _ (x : ℕ) where
    variable-room : is VAR c ≡ true → count_of VAR past < 64
    variable-room e = room one VAR 64 (limits (c ∷ past) one.valid).variables e

    pub scope-next : entry_in (after t c) scope_cells x ≡ declared (λ c before. c.operands.first) VAR (c ∷ past) x
    scope-next =
        in_section one scope_cells (omega arith) refl x
        ∙ declared-column (λ c before. c.operands.first) VAR (count_in t VAR) 64 c.operands.first (entry_in t scope_cells x) x
        (one.stands.counts VAR (omega arith)) variable-room refl (one.stands.scope x)

    pub owner-next : entry_in (after t c) owner_cells x ≡ declared (λ c before. c.operands.second) VAR (c ∷ past) x
    owner-next =
        in_section one owner_cells (omega arith) refl x
        ∙ declared-column (λ c before. c.operands.second) VAR (count_in t VAR) 64 c.operands.second (entry_in t owner_cells x) x
        (one.stands.counts VAR (omega arith)) variable-room refl (one.stands.owner x)

    pub start-next : entry_in (after t c) start_cells x ≡ declared (λ c before. c.operands.third) VAR (c ∷ past) x
    start-next =
        in_section one start_cells (omega arith) refl x
        ∙ declared-column (λ c before. c.operands.third) VAR (count_in t VAR) 64 c.operands.third (entry_in t start_cells x) x
        (one.stands.counts VAR (omega arith)) variable-room refl (one.stands.start_value x)

  pub fun_answer_next : (f : ℕ) → entry_in (after t c) answer_cells f ≡ declared (λ c before. c.operands.first) FUN (c ∷ past) f
  fun_answer_next f =
      in_section one answer_cells (omega arith) refl f
      ∙ declared-column (λ c before. c.operands.first) FUN (count_in t FUN) 32 c.operands.first (entry_in t answer_cells f) f
      (one.stands.counts FUN (omega arith))
      (λ e. omega (arith, room one FUN 32 (limits (c ∷ past) one.valid).functions e)) refl (one.stands.fun_answer f)

  pub lengths-next : (n : ℕ) → length_in (after t c) n ≡ body_length (c ∷ past) n
  lengths-next n =
      in_section one length_cells (omega arith) refl n
      ∙ column (is_handler c) (open_in t) n 32 (one_more (length_in t (open_in t))) (length_in t n) (body_length past n + 1) (body_length past n)
      (λ e. omega (arith, one.stands.opened, open_inside past one.valid.0))
      (λ e q. rw (q, one.stands.lengths n) (more (body_length past n) (omega (arith, (limits past one.valid.0).handlers n))))
      (one.stands.lengths n)
      ∙ rw (one.stands.opened, body_next c past n)

  pub bodies-next : (n : ℕ) → flag_in (after t c) body_cells n ≡ occurs BODY (binary n 0) (c ∷ past)
  unfolding flag_in operands_of operands_in
  bodies-next n =
      rw (in_section one body_cells (omega arith) refl n)
      (flag (is BODY c) c.operands.first n 32 (entry_in t body_cells n) (occurs BODY (binary n 0) past)
      (λ e. (named_as one BODY e).first) (one.stands.bodies n)
      ∙ rw (
        occurs-next c past BODY (binary n 0),
        same-one BODY c n 0 0 (λ e. let r = named_as one BODY e in (r.second, r.third, r.fourth)),
      ))

  pub started-after : (f : ℕ) → flag_in (after t c) started_cells f ≡ started_in (c ∷ past) f
  unfolding flag_in
  started-after f =
      rw (in_section one started_cells (omega arith) refl f)
      (flag (is START c) (flow_in t c.operands.first) f 32 (entry_in t started_cells f) (started_in past f)
      (λ e. omega (
        arith,
        one.stands.flow c.operands.first,
        flow-counted past c.operands.first,
        (limits past one.valid.0).flows,
      ))
      (one.stands.started f)
      ∙ rw (started-next c past f, one.stands.flow c.operands.first))

  pub firsts-next : (n : ℕ) → only (flag_in (after t c) first_cells n) (entry_in (after t c) message_cells n) ≡ starts_of (c ∷ past) n
  unfolding flag_in operands_of operands_in
  firsts-next n =
      rw (in_section one first_cells (omega arith) refl n, in_section one message_cells (omega arith) refl n, starts-next c past n)
      (first-message (is START c) c.operands.first n 32 (entry_in t first_cells n) (entry_in t message_cells n) c.operands.second
      (starts_of past n)
      (λ e. (named_as one START e).first) (one.stands.firsts n) (λ e q. alone
      (rw (e, q) at (rw (starts-next c past n) at (starts-one (c ∷ past) one.valid n)))))
    where
      alone : length (starts_of past n ++ (c.operands.second ∷ [])) ≤ 1 → starts_of past n ≡ []
      alone h = empty_list (starts_of past n) (omega (arith, length-append (starts_of past n) (c.operands.second ∷ [])))

-- The code's tests of one command are the model's, if the tables stand for the commands before it.
use Prim.Native.Nat.{ℕ, zero, suc, ◌-◌}
use mathlib.Core.Path.{◌≡◌, refl, sym, ap, ◌∙◌}
use mathlib.Core.Bool.{Bool, true, false, cond, not, ◌&&◌, ◌||◌, or-false, or_assoc}
use mathlib.Core.List.{List, [], ◌∷◌}
use Rattle.std.proofs.Common.{None, is_some}
use native.Mathlib.Omega.{arith}
use lib.Dec.{ltb, leb, eqb}
use lib.ListN.{get_or}
use borrow.Author.Tests.{eqb-true, eq-eqb, ne_eqb}
use Rattle.model.specs.Table.{FLOW, NODE, VAR, FUN, REPLY, WIRE, ANY, ARG, READ, WRITE, SPAN, BODY, GET, PUT, PLUS, START, operands_in}
use Rattle.model.specs.Table.{operands_of, is_range_byte, kind_at, absent, group_of}
use Rattle.model.specs.Command.{Command, Operands, quaternary, ternary, binary}
use Rattle.model.specs.Declared.{count_among, occurs, open_body, flow_of, sees, started_in}
use Rattle.model.specs.Refusal.{any_of, is_reached, exceeds_count, Counts, names_nothing, undeclared, out_of_reach, must_differ, repeated}
use Rattle.model.specs.Refusal.{empty_span, violation}
use Rattle.model.specs.Valid.{Plain}
use Rattle.model.proofs.Logic.{true_false, or_first, any_next, any_last}
use Rattle.command.specs.declared.table.Row.{Row as Shape}
use Rattle.command.specs.declared.read.Command.{Command as Code}
use Rattle.command.specs.Rows.{unpacked, kind_of, kind_meant, sharing, limit_of, Says, is_handler_byte}
use Rattle.command.specs.Reading.{command_of, Known}
use Rattle.command.proofs.Known.{byte_low, permission_byte}
use Rattle.command.proofs.Shaped.{width_zero}
use Rattle.tables.specs.Tables.{count_in, group_in, open_in, flow_in, length_in, sees_in, shared_in, wired_in, any_in, listed_in, read_in, write_in}
use Rattle.tables.specs.Tables.{body_in, started_at, item_count_in, reply_in}
use Rattle.tables.specs.Stands.{Stands}
use Rattle.violations.specs.Tests.{counts_in}

-- a known byte is in the table
is_known : (b : ℕ) (row : Shape) → Says b row → ¬ (operands_of b ≡ None)
is_known b row says e = let o = says.known in let w : ◌≡◌ {A = ℕ} 0 1 = cc in omega arith

-- a handler command is no permission
uses-apart : (b : ℕ) → ((eqb b GET || eqb b PUT) || eqb b PLUS) ≡ true → (eqb b READ || eqb b WRITE) ≡ false
uses-apart b u = by_read (eqb b READ) refl (eqb b WRITE) refl
  where
    by_read : (p : Bool) → eqb b READ ≡ p → (q : Bool) → eqb b WRITE ≡ q → (p || q) ≡ false
    by_read true e q f = let z : b ≡ READ = eqb-true b READ e in true_false (sym (rw z at u))
    by_read false e true f = let z : b ≡ WRITE = eqb-true b WRITE f in true_false (sym (rw z at u))
    by_read false e false f = refl

-- a largest count is reached, as the code tests it
reached : (b k have : ℕ) (past : List Command) → have ≡ count_among (sharing b) past
    → (not (eqb k 0) && leb k have) ≡ is_reached (limit_of b k) past
reached b zero have past e = refl
reached b (suc k) have past e = rw (ne_eqb (suc k) 0 (λ z. omega arith), e)

module _ (t : List ℕ) (c : Code) (past : List Command) (s : Stands t past) where
  -- how many count to the largest count of the command
  counted-among : Known c → count_among (sharing c.byte) past ≡ cond (is_range_byte c.byte) (item_count_in t - count_in t REPLY)
      (count_in t c.byte)
  unfolding count_among
  counted-among k = by_byte (is_range_byte c.byte)
    where
      by_byte : (b : Bool) → count_among (cond b (ARG ∷ SPAN ∷ []) (c.byte ∷ [])) past ≡ cond b (item_count_in t - count_in t REPLY)
          (count_in t c.byte)
      by_byte true = omega (arith, s.item_count, s.counts REPLY (omega arith))
      by_byte false = omega (arith, s.counts c.byte (byte_low c.byte (is_known c.byte _ k.row)))

  -- 5
  pub exceeds_same :
      (row : Shape) (have opened inside : ℕ) (body : Bool) → Known c → row ≡ unpacked c.row
      → have ≡ cond (is_range_byte c.byte) (item_count_in t - count_in t REPLY) (count_in t c.byte) → opened ≡ open_in t
      → inside ≡ length_in t opened → body ≡ is_handler_byte c.byte
      → ((not (eqb row.most 0) && leb row.most have) || (body && leb 64 inside)) ≡ exceeds_count past (command_of c)
  exceeds_same row have opened inside body k is h o i b =
      rw (
        any_next,
        any_last,
        is,
        reached c.byte _ have past (h ∙ sym (counted-among k)),
        k.row.most,
        b,
        i,
        o,
        s.lengths (open_in t),
        s.opened,
      )

  -- 6, by the row of the command and what the tables count
  module _ (row : Shape) (d : Counts) (bodies : ℕ) (k : Known c) (is : row ≡ unpacked c.row) (counted : d ≡ counts_in t)
      (opened : bodies ≡ count_in t BODY) where
    -- the code's tests in their order
    abbrev tests : List Bool
    tests =
        (eqb c.byte NODE && eqb d.flows 0)
        ∷ (is_handler_byte c.byte && eqb bodies 0)
        ∷ names_nothing d c.first (kind_meant (kind_of row.first_kind)) c.first
        ∷ names_nothing d c.first (kind_meant (kind_of row.second_kind)) c.second
        ∷ names_nothing d c.first (kind_meant (kind_of row.third_kind)) c.third
        ∷ names_nothing d c.first (kind_meant (kind_of row.fourth_kind)) c.fourth
        ∷ []

    undeclared_as : undeclared past (command_of c) ≡ any_of tests
    undeclared_as =
        rw (
          is,
          k.row.kind₁,
          k.row.kind₂,
          k.row.kind₃,
          k.row.kind₄,
          counted,
          opened,
          s.counts FLOW (omega arith),
          s.counts NODE (omega arith),
          s.counts VAR (omega arith),
          s.counts FUN (omega arith),
          s.counts BODY (omega arith),
        )

    -- those up to the first operand, and those of the operands after it
    undeclared_as_two :
        undeclared past (command_of c)
        ≡ ((get_or tests 0 false || get_or tests 1 false || get_or tests 2 false)
        || (get_or tests 3 false || get_or tests 4 false || get_or tests 5 false))
    undeclared_as_two =
        let a = get_or tests 0 false in
        let b = get_or tests 1 false in
        let d₁ = get_or tests 2 false in
        let e = get_or tests 3 false in
        let f = get_or tests 4 false in
        let g = get_or tests 5 false in
        undeclared_as ∙ rw (any_next, any_next, any_next, any_next, any_next, any_last)
        (sym (or_assoc (a || b) d₁ (e || f || g) ∙ or_assoc a b (d₁ || (e || f || g)) ∙ ap (λ (r : Bool). a || (b || (d₁ || r))) (or_assoc e f g)))

    -- by what the code joins of them
    module _ (early front : Bool) (p : early ≡ (get_or tests 0 false || get_or tests 1 false)) (q : front ≡ (early || get_or tests 2 false)) where
      front_as : front ≡ (get_or tests 0 false || get_or tests 1 false || get_or tests 2 false)
      front_as = rw p at q

      pub undeclared-front : front ≡ true → front ≡ undeclared past (command_of c)
      undeclared-front h = h ∙ sym (undeclared_as_two ∙ or_first _ _ (sym front_as ∙ h))

      module _ (h : front ≡ false) where
        back_only : undeclared past (command_of c) ≡ (get_or tests 3 false || get_or tests 4 false || get_or tests 5 false)
        back_only = undeclared_as_two ∙ rw (sym front_as ∙ h) refl

        -- there is no operand after the first
        pub undeclared-single : row.length ≡ row.first_width → not (eqb row.length row.first_width) ≡ undeclared past (command_of c)
        undeclared-single l =
            let says : Says c.byte row = rw is k.row in
            let second : kind_meant (kind_of row.second_kind) ≡ absent = says.kind₂
            ∙ width_zero _ (omega (arith, says.length, says.width₁, says.width₂)) in
            let third : kind_meant (kind_of row.third_kind) ≡ absent = says.kind₃
            ∙ width_zero _ (omega (arith, says.length, says.width₁, says.width₃)) in
            let fourth : kind_meant (kind_of row.fourth_kind) ≡ absent = says.kind₄
            ∙ width_zero _ (omega (arith, says.length, says.width₁, says.width₄)) in
            rw (eq-eqb row.length row.first_width l) (sym (back_only ∙ rw (second, third, fourth) refl))

        -- the operands after the first decide
        pub undeclared-back : (both r : Bool) → both ≡ (get_or tests 3 false || get_or tests 4 false) → r ≡ (both || get_or tests 5 false)
            → r ≡ undeclared past (command_of c)
        undeclared-back both r e f = rw e at f ∙ sym back_only

  sees-same : (n x : ℕ) → sees_in t n x ≡ sees past n x
  sees-same n x = rw (s.scope x, s.owner x, s.flow n)

  -- 7: a wire, a handler command that names a variable, a permission that does, and all others
  pub wire_reach : (r : Bool) (from to : ℕ) → c.byte ≡ WIRE → from ≡ flow_in t c.first → to ≡ flow_in t c.third → r ≡ not (eqb from to)
      → r ≡ out_of_reach past (command_of c)
  wire_reach r from to e f g q = q ∙ rw (any_next, any_next, any_next, any_last, e, f, g, s.flow c.first, s.flow c.third)
      (sym (or-false (not (eqb (flow_of past c.first) (flow_of past c.third)))))

  module _ (other : ¬ (c.byte ≡ WIRE)) (uses : Bool) (same : uses ≡ ((eqb c.byte GET || eqb c.byte PUT) || eqb c.byte PLUS)) where
    pub use_reach : uses ≡ true → (r own : Bool) (opened : ℕ) → opened ≡ open_in t → own ≡ sees_in t opened c.first → r ≡ not own
        → r ≡ out_of_reach past (command_of c)
    use_reach u r own opened o p q =
        let h = sym same ∙ u in
        q ∙ rw (
          any_next,
          any_next,
          any_next,
          any_last,
          ne_eqb c.byte WIRE other,
          h,
          uses-apart c.byte h,
          p,
          o,
          sees-same (open_in t)
              c.first,
          s.opened,
        )
        (sym (or-false (not (sees past (open_body past) c.first))))

    module _ (u : uses ≡ false) (access : Bool) (alike : access ≡ (eqb c.byte READ || eqb c.byte WRITE)) where
      pub access_reach :
          access ≡ true → (r seen common : Bool) → seen ≡ sees_in t c.first c.second → common ≡ shared_in t c.second
          → r ≡ (not seen || not common) → r ≡ out_of_reach past (command_of c)
      access_reach a r seen common p q h =
          h ∙ rw (
            any_next,
            any_next,
            any_next,
            any_last,
            ne_eqb c.byte WIRE other,
            sym same ∙ u,
            sym alike
                ∙ a,
            p,
            q,
            sees-same c.first c.second,
            s.scope c.second,
          )

      pub other_reach : access ≡ false → false ≡ out_of_reach past (command_of c)
      other_reach a = rw (any_next, any_next, any_next, any_last, ne_eqb c.byte WIRE other, sym same ∙ u, sym alike ∙ a)

  -- 8: a byte of those that may not be repeated, a START, and every other known byte
  repeated_as : (b : ℕ) (x : Operands) (r : Bool) → c.byte ≡ b → must_differ (record { place = 0; byte = b; operands = x }) ≡ true
      → eqb b START ≡ false → eqb b REPLY ≡ false → (command_of c).operands ≡ x → r ≡ occurs b x past → r ≡ repeated past (command_of c)
  repeated_as b x r e m n p o q = rw (any_next, any_next, any_last, e, o, n, p, m, ← q) (sym (or-false r))

  module _ (plain : Plain (command_of c)) where
    -- an operand that is absent is 0
    fourth-absent : (b : ℕ) → c.byte ≡ b → kind_at b 3 ≡ absent → c.fourth ≡ 0
    fourth-absent b e k = plain.fourth (rw e k)

    third-absent : (b : ℕ) → c.byte ≡ b → kind_at b 2 ≡ absent → c.third ≡ 0
    third-absent b e k = plain.third (rw e k)

    second-absent : (b : ℕ) → c.byte ≡ b → kind_at b 1 ≡ absent → c.second ≡ 0
    second-absent b e k = plain.second (rw e k)

    pub wire-same : (r : Bool) → c.byte ≡ WIRE → r ≡ wired_in t c.first c.second c.third → r ≡ repeated past (command_of c)
    unfolding operands_of operands_in
    wire-same r e q = repeated_as WIRE (ternary c.first c.second c.third) r e refl refl refl (rw (fourth-absent WIRE e refl))
        (q ∙ s.wires c.first c.second c.third)

    pub arg-same : (r : Bool) → c.byte ≡ ARG → r ≡ listed_in t c.byte c.first c.second c.third c.third
        → r ≡ repeated past (command_of c)
    unfolding operands_of operands_in
    arg-same r e q = repeated_as ARG (ternary c.first c.second c.third) r e refl refl refl (rw (fourth-absent ARG e refl))
        (q ∙ rw e (s.arguments c.first c.second c.third))

    pub span_same : (r : Bool) → c.byte ≡ SPAN → r ≡ listed_in t c.byte c.first c.second c.third c.fourth
        → r ≡ repeated past (command_of c)
    span_same r e q = repeated_as SPAN (quaternary c.first c.second c.third c.fourth) r e refl refl refl refl
        (q ∙ rw e (s.spans c.first c.second c.third c.fourth))

    -- two operands
    binary_as : (b : ℕ) → c.byte ≡ b → kind_at b 2 ≡ absent → kind_at b 3 ≡ absent → (command_of c).operands ≡ binary c.first c.second
    binary_as b e k l = rw (third-absent b e k, fourth-absent b e l)

    pub any_same : (r : Bool) → c.byte ≡ ANY → r ≡ any_in t c.first c.second → r ≡ repeated past (command_of c)
    unfolding operands_of operands_in
    any_same r e q = repeated_as ANY (binary c.first c.second) r e refl refl refl (binary_as ANY e refl refl)
        (q ∙ s.anys c.first c.second)

    pub read_same : (r : Bool) → c.byte ≡ READ → r ≡ read_in t c.first c.second → r ≡ repeated past (command_of c)
    unfolding operands_of operands_in
    read_same r e q = repeated_as READ (binary c.first c.second) r e refl refl refl (binary_as READ e refl refl)
        (q ∙ s.reads c.first c.second)

    pub write_same : (r : Bool) → c.byte ≡ WRITE → r ≡ write_in t c.first c.second → r ≡ repeated past (command_of c)
    unfolding operands_of operands_in
    write_same r e q = repeated_as WRITE (binary c.first c.second) r e refl refl refl (binary_as WRITE e refl refl)
        (q ∙ s.writes c.first c.second)

    pub body_same : (r : Bool) → c.byte ≡ BODY → r ≡ body_in t c.first → r ≡ repeated past (command_of c)
    unfolding operands_of operands_in
    body_same r e q = repeated_as BODY (binary c.first 0) r e refl refl refl
        (rw (second-absent BODY e refl, third-absent BODY e refl, fourth-absent BODY e refl)) (q ∙ s.bodies c.first)

    pub start-same : (r : Bool) (f : ℕ) → c.byte ≡ START → f ≡ flow_in t c.first → r ≡ started_at t f → r ≡ repeated past (command_of c)
    start-same r f e p q = rw (any_next, any_next, any_last, e, q, p, s.flow c.first, s.started (flow_of past c.first))
        (sym (or-false (started_in past (flow_of past c.first))))

    pub reply-same : (r : Bool) → c.byte ≡ REPLY → r ≡ is_some (reply_in t c.first c.second) → r ≡ repeated past (command_of c)
    reply-same r e q = rw (any_next, any_next, any_last, e, q, s.replies c.first c.second)

    pub other-same :
        ¬ (c.byte ≡ REPLY) → ¬ (c.byte ≡ WIRE) → ¬ (c.byte ≡ ANY) → ¬ (c.byte ≡ ARG) → ¬ (c.byte ≡ READ) → ¬ (c.byte ≡ WRITE)
        → ¬ (c.byte ≡ SPAN) → ¬ (c.byte ≡ BODY) → ¬ (c.byte ≡ START)
        → false ≡ repeated past (command_of c)
    other-same n₀ n₁ n₂ n₃ n₄ n₅ n₆ n₇ n₈ =
        let z : eqb (group_of c.byte) 3 ≡ false = not_three (eqb (group_of c.byte) 3)
        (rw (ne_eqb c.byte ANY n₂, ne_eqb c.byte ARG n₃, ne_eqb c.byte READ n₄, ne_eqb c.byte WRITE n₅, ne_eqb c.byte SPAN n₆)
        at (permission_byte c.byte plain.known)) in
        rw (
          any_next,
          any_next,
          any_last,
          ne_eqb c.byte REPLY n₀,
          ne_eqb c.byte WIRE n₁,
          z,
          ne_eqb c.byte BODY n₇,
          ne_eqb c.byte START n₈,
        )
      where
        not_three : (b : Bool) → (not b || false) ≡ true → b ≡ false
        not_three true e = sym e
        not_three false e = refl

  -- the tests in their order, the first by the highest group so far
  pub violation_as :
      (g : ℕ) → Known c → g ≡ group_in t
      → violation past (command_of c)
      ≡ cond (ltb c.group g) 4 (cond (exceeds_count past (command_of c)) 5
      (cond (undeclared past (command_of c)) 6 (cond (out_of_reach past (command_of c)) 7 (cond (repeated past (command_of c)) 8
      (cond (empty_span (command_of c)) 15 0)))))
  unfolding violation
  violation_as g k e = rw (s.group (command_of c), e, k.group)

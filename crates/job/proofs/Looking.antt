-- The second look at the commands of a job that passed the tests 1 to 8 and 15: what its loop keeps.
use Prim.Native.Nat.{ℕ, ◌+◌, ◌≤◌, ◌<◌}
use mathlib.Core.Path.{◌≡◌, refl, sym, ◌∙◌}
use mathlib.Core.Bool.{Bool, true, false, cond, not, ◌&&◌, ◌||◌}
use mathlib.Core.List.{List, [], ◌∷◌}
use Rattle.std.proofs.Common.{Option, None, Some, is_some}
use native.Mathlib.Omega.{arith}
use lib.Dec.{ltb, eqb}
use lib.ListN.{length, get_or}
use borrow.Author.Tests.{eqb-true, eqb-false, ne_eqb}
use Rattle.model.specs.Table.{ANY, ARG, READ, WRITE, SPAN, BODY, JUMPZ, JUMP, OperandKind, node, function, value, low, high, variable}
use Rattle.model.specs.Table.{width, operand_at, operands_in, operands_of, group_of}
use Rattle.model.specs.Command.{Command, is, whole, read_command}
use Rattle.model.specs.Declared.{open_body}
use Rattle.model.specs.Refusal.{Refusal, any_of, refuse, accepted, decode, first_of, refuse_first, is_far_jump, far_jump, handler_reads}
use Rattle.model.specs.Refusal.{handler_writes, handler_calls, is_unused, unused_permission}
use Rattle.model.proofs.Logic.{not_turned}
use Rattle.model.proofs.Reading.{read_at, number-one}
use Rattle.model.proofs.Growth.{open_next}
use Rattle.model.proofs.Scanning.{Scanning, scanning-start, scanning_end, scanning-reads, scanning-found, scanning-on, scanning-behind}
use Rattle.model.proofs.Scanning.{first_of_none, refuse-on}
use Rattle.command.specs.Reading.{head_in}
use Rattle.command.proofs.Taken.{head_there}
use Rattle.tables.specs.declared.cells.Section.{Section}
use Rattle.tables.specs.Cells.{mark_in}
use Rattle.tables.specs.Tables.{length_in}
use Rattle.tables.specs.Stands.{Stands}
use Rattle.uses.specs.Uses.{read_uses, write_uses, call_uses, unused_in, Uses}
use Rattle.job.specs.Decoding.{unused_at}

-- the commands before a place: the node of their open handler, that no jump of them is far, and the place of their first unused permission
pub record Looking (job : List ℕ) (all : List Command) (place opened : ℕ) (unused : Option ℕ) : Type 0 where
  pub past : List Command
  pub scanning : Scanning job all place past
  pub open_node : opened ≡ open_body past
  pub near : refuse_first 9 (is_far_jump all) past ≡ None
  pub first : unused_at unused ≡ refuse_first 19 (is_unused all) past

pub looking_start : (job : List ℕ) (all : List Command) → decode job ≡ accepted all → Looking job all 0 0 None
unfolding open_body refuse_first
looking_start job all e =
    record {
      past = [];
      scanning = scanning-start job all e;
      open_node = refl;
      near = refl;
      first = refl;
    }

-- a command of a group above 4 is no jump, and one of another group than 3 no permission
near-above : (all past : List Command) (c : Command) → 4 < group_of c.byte → is_far_jump all past c ≡ false
near-above all past c above = rw (ne_eqb c.byte JUMPZ (λ e. omega arith), ne_eqb c.byte JUMP (λ e. omega arith))

used_other : (all past : List Command) (c : Command) → ¬ (group_of c.byte ≡ 3) → is_unused all past c ≡ false
unfolding any_of
used_other all past c other =
    rw (
      ne_eqb c.byte READ (λ e. other (rw e)),
      ne_eqb c.byte WRITE (λ e. other (rw e)),
      ne_eqb c.byte ANY (λ e. other (rw e)),
      ne_eqb c.byte ARG (λ e. other (rw e)),
      ne_eqb c.byte SPAN (λ e. other (rw e)),
    )

-- the code's test of a permission, by the byte after its node
module _ (job : List ℕ) (place : ℕ) (c : Command) (next : ℕ) (read : read_command job place ≡ whole c next) where
  -- the second operand of a command with this byte, if it has two of one byte each
  second_of_lem : (b : ℕ) (kinds : List OperandKind) → operands_of b ≡ Some kinds → width (operand_at kinds 0) ≡ 1 → width (operand_at kinds 1) ≡ 1
      → is b c ≡ true → c.operands.second ≡ get_or job (place + 2) 0
  second_of_lem b kinds o w₀ w₁ e =
      let r = read_at job place c next read in
      let byte : get_or job place 0 ≡ b = sym r.byte ∙ eqb-true c.byte b e in
      let q : Some r.kinds ≡ Some kinds = sym r.operands ∙ rw byte o in
      let same : r.kinds ≡ kinds = cc in
      let at : place + 1 + 1 ≡ place + 2 = omega arith in
      rw (← r.command, same, w₀, w₁, at) (number-one job (place + 2))

  module _ (all past : List Command) (u : List ℕ) (uses : Uses u all) where
    -- a line of the test: a permission with this byte goes by the marks of a section
    line :
        (b : ℕ) (kinds : List OperandKind) → operands_of b ≡ Some kinds → width (operand_at kinds 0) ≡ 1 → width (operand_at kinds 1) ≡ 1
        → (s : Section) (used : ℕ → ℕ → Bool) → ((n x : ℕ) → mark_in u s n x ≡ used n x)
        → (is b c && not (mark_in u s c.operands.first (get_or job (place + 2) 0)))
        ≡ (is b c && not (used c.operands.first c.operands.second))
    line b kinds o w₀ w₁ s used marked = by_byte (is b c) refl
      where
        by_byte :
            (t : Bool) → is b c ≡ t
            → (t && not (mark_in u s c.operands.first (get_or job (place + 2) 0)))
            ≡ (t && not (used c.operands.first c.operands.second))
        by_byte true p = rw (marked c.operands.first (get_or job (place + 2) 0), second_of_lem b kinds o w₀ w₁ p)
        by_byte false p = refl

    unused_is : unused_in u c.byte c.operands.first (get_or job (place + 2) 0) ≡ is_unused all past c
    unfolding operands_of operands_in
    unused_is =
        rw (
          line READ (node ∷ variable ∷ []) refl refl refl read_uses (handler_reads all) uses.reads,
          line WRITE (node ∷ variable ∷ []) refl refl refl write_uses (handler_writes all) uses.writes,
          line ANY (node ∷ function ∷ []) refl refl refl call_uses (handler_calls all) uses.calls,
          line ARG (node ∷ function ∷ value ∷ []) refl refl refl call_uses (handler_calls all) uses.calls,
          line SPAN (node ∷ function ∷ low ∷ high ∷ []) refl refl refl call_uses (handler_calls all) uses.calls,
        )

-- the first unused permission, with one more command: `on` if that is no permission
module _ (before : Option ℕ) (place : ℕ) (o : Option Refusal) (so_far : unused_at before ≡ o) where
  unused_next : (on t : Bool) → (on ≡ true → t ≡ false)
      → unused_at (cond (on || is_some before) before (cond t (Some place) before)) ≡ first_of o (cond t (Some (refuse 19 place)) None)
  unused_next true t p = so_far ∙ rw (p refl) (sym (first_of_none o))
  unused_next false t p = by_before before so_far t
    where
      by_before :
          (b : Option ℕ) → unused_at b ≡ o → (t : Bool)
          → unused_at (cond (is_some b) b (cond t (Some place) b)) ≡ first_of o (cond t (Some (refuse 19 place)) None)
      by_before (Some first) q t = rw (← q)
      by_before None q true = rw (← q)
      by_before None q false = rw (← q)

module _ {job : List ℕ} {all : List Command} {place opened : ℕ} {unused : Option ℕ} (l : Looking job all place opened unused) where
  -- what the tests find
  abbrev found : Option Refusal
  found = first_of (far_jump all) (unused_permission all)

  pub looking_end : length job ≤ place → found ≡ unused_at unused
  looking_end h =
      let e = scanning_end l.scanning h in
      let near : far_jump all ≡ None = rw e at l.near in
      let first : unused_at unused ≡ unused_permission all = rw e at l.first in
      rw (near, first)

  module _ (h : place < length job) where
    -- a whole command is read
    pub looking_reads : {A : Type 0} → None ≡ head_in (read_command job place) → A
    looking_reads e = let r = scanning-reads l.scanning h in head_there job place r.0 r.1 r.2 e

    module _ (c : Command) (next : ℕ) (read : read_command job place ≡ whole c next) where
      -- neither a jump nor a permission stands behind a command of a group above 4
      pub looking_behind : 4 < group_of c.byte → found ≡ unused_at unused
      looking_behind above =
          let near : far_jump all ≡ None = scanning-behind l.scanning h c next read (refuse_first 9 (is_far_jump all)) 4
          (λ past d a. refuse-on 9 (is_far_jump all) past d (near-above all past d a)) above ∙ l.near in
          let first : unused_permission all ≡ unused_at unused =
          scanning-behind l.scanning h c next read (refuse_first 19 (is_unused all)) 4
          (λ past d a. refuse-on 19 (is_unused all) past d (used_other all past d (λ e. omega arith))) above ∙ sym l.first in
          rw (near, first)

      -- the code's tests, by byte, group and operand in the head that it has of the command
      module _ (byte group first : ℕ) (b : byte ≡ c.byte) (g : group ≡ group_of c.byte) (a : first ≡ c.operands.first)
          (t : List ℕ) (stands : Stands t all) (len : ℕ) (far : Bool) (long : len ≡ length_in t opened)
          (judged : far ≡ ((eqb byte JUMPZ || eqb byte JUMP) && ltb len first)) where
        is_far : far ≡ is_far_jump all l.past c
        is_far = rw (judged, long, b, a, l.open_node, stands.lengths (open_body l.past))

        pub looking_found : far ≡ true → found ≡ Some (refuse 9 place)
        looking_found e = rw (scanning-found l.scanning h c next read 9 (is_far_jump all) l.near (sym is_far ∙ e))

        pub looking_on :
            far ≡ false → (u : List ℕ) → Uses u all → (i : Option ℕ) (o : ℕ)
            → i ≡ cond (not (eqb group 3) || is_some unused) unused
            (cond (unused_in u byte first (get_or job (place + 2) 0)) (Some place) unused)
            → o ≡ cond (eqb byte BODY) first opened → Looking job all next o i
        unfolding refuse_first
        looking_on e u uses i o p q =
            record {
              past = c ∷ l.past;
              scanning = scanning-on l.scanning h c next read;
              open_node = q ∙ rw (b, a, l.open_node, open_next c l.past);
              near = refuse-on 9 (is_far_jump all) l.past c (sym is_far ∙ e) ∙ l.near;
              first =
                  rw (p, b, g, a, unused_is job place c next read all l.past u uses, (read_at job place c next read).here)
                  (unused_next unused place (refuse_first 19 (is_unused all) l.past) l.first
                  (not (eqb (group_of c.byte) 3))
                  (is_unused all l.past c)
                  (λ z. used_other all l.past c (eqb-false (group_of c.byte) 3 (not_turned (eqb (group_of c.byte) 3) true z))));
            }

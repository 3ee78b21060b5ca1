-- Reading one command, in the order of a program's tests.
use Prim.Native.Nat.{ℕ, zero, suc, ◌+◌, ◌*◌, ◌≤◌, ◌<◌}
use mathlib.Core.Path.{◌≡◌, refl, sym, ap, ◌∙◌}
use mathlib.Core.Bool.{Bool, true, false, cond}
use mathlib.Core.List.{List}
use Rattle.std.proofs.Common.{Option, None, Some}
use native.Mathlib.Omega.{arith}
use lib.Dec.{leb}
use lib.ListN.{length, get_or}
use borrow.Author.Tests.{le-leb, lt-leb, leb-true}
use Rattle.model.specs.Table.{OperandKind, absent, width, operands_of, operand_at}
use Rattle.model.specs.Command.{quaternary, Command, number_at, whole, unknown, cut_short, end_at, first_at, second_at, third_at}
use Rattle.model.specs.Command.{fourth_at, command_at, read_as, read_command}
use Rattle.model.specs.Valid.{Plain}

-- an operand of 4 bytes, of 1 byte, and of none
pub number-four : (job : List ℕ) (at : ℕ) → number_at job at 4 ≡ get_or job at 0 + get_or job (at + 1) 0 * 256 + get_or job
    (at + 2) 0 * 65536 + get_or job (at + 3) 0 * 16777216
unfolding number_at
number-four job at =
    let p : at + 1 + 1 ≡ at + 2 = omega arith in
    let q : at + 2 + 1 ≡ at + 3 = omega arith in
    rw (p, q) (omega arith)

pub number-one : (job : List ℕ) (at : ℕ) → number_at job at 1 ≡ get_or job at 0
unfolding number_at
number-one job at = omega arith

pub number-none : (job : List ℕ) (at : ℕ) → number_at job at 0 ≡ 0
unfolding number_at
number-none job at = refl

-- what is read at a place: no command, a command cut short, a whole one
module _ (job : List ℕ) (place : ℕ) where
  pub read-unknown : operands_of (get_or job place 0) ≡ None → read_command job place ≡ unknown
  unfolding read_command
  read-unknown e = rw e

  module _ (kinds : List OperandKind) (e : operands_of (get_or job place 0) ≡ Some kinds) where
    pub read_short : length job < end_at place kinds → read_command job place ≡ cut_short
    unfolding read_command
    read_short h = rw (e, lt-leb (end_at place kinds) (length job) h)

    pub read_whole : end_at place kinds ≤ length job → read_command job place ≡ whole (command_at job place kinds) (end_at place kinds)
    unfolding read_command
    read_whole h = rw (e, le-leb (end_at place kinds) (length job) h)

-- a command that is read: it is plain, it stands at its place, and the next one stands further on in the job
pub record ReadAt (job : List ℕ) (place : ℕ) (c : Command) (next : ℕ) : Type 0 where
  pub kinds : List OperandKind
  pub operands : operands_of (get_or job place 0) ≡ Some kinds
  pub command : command_at job place kinds ≡ c
  pub ends : end_at place kinds ≡ next
  pub plain : Plain c
  pub here : c.place ≡ place
  pub byte : c.byte ≡ get_or job place 0
  pub later : place < next
  pub inside : next ≤ length job

-- an operand that is absent is read as 0
absent_zero : (job : List ℕ) (place : ℕ) (k : OperandKind) → k ≡ absent → number_at job place (width k) ≡ 0
unfolding number_at
absent_zero job place k e = rw e

pub read_at : (job : List ℕ) (place : ℕ) (c : Command) (next : ℕ) → read_command job place ≡ whole c next → ReadAt job place c next
unfolding read_command
read_at job place c next e = by_operands (operands_of (get_or job place 0)) refl e
  where
    by_length :
        (kinds : List OperandKind) → operands_of (get_or job place 0) ≡ Some kinds → (t : Bool) → leb (end_at place kinds) (length job) ≡ t
        → cond t (whole (command_at job place kinds) (end_at place kinds)) cut_short ≡ whole c next → ReadAt job place c next
    by_length kinds o true t q =
        let a : command_at job place kinds ≡ c = cc in
        let b : end_at place kinds ≡ next = cc in
        let m = leb-true (end_at place kinds) (length job) t in
        rw (← a)
        (record {
          kinds = kinds;
          operands = o;
          command = refl;
          ends = b;
          plain =
              record {
                known = λ h. let w : ◌≡◌ {A = ℕ} 0 1 = cc in omega arith;
                first = λ h. absent_zero job (first_at place) _ (rw o at h);
                second = λ h. absent_zero job (second_at place kinds) _ (rw o at h);
                third = λ h. absent_zero job (third_at place kinds) _ (rw o at h);
                fourth = λ h. absent_zero job (fourth_at place kinds) _ (rw o at h);
              };
          here = refl;
          byte = refl;
          later = omega arith;
          inside = omega arith;
        })
    by_length kinds o false t q = let w : ◌≡◌ {A = ℕ} 0 1 = cc in absurd (omega arith)

    by_operands : (o : Option (List OperandKind)) → operands_of (get_or job place 0) ≡ o → read_as job place o ≡ whole c next
        → ReadAt job place c next
    by_operands None o q = let w : ◌≡◌ {A = ℕ} 0 1 = cc in absurd (omega arith)
    by_operands (Some kinds) o q = by_length kinds o (leb (end_at place kinds) (length job)) refl q

-- a number, a command and what is read, where two jobs have the same bytes
module _ (job job' : List ℕ) where
  pub number_same :
      (place w : ℕ) → ((i : ℕ) → place ≤ i → i < place + w → get_or job i 0 ≡ get_or job' i 0) → number_at job place w ≡ number_at job' place w
  unfolding number_at
  number_same place zero h = refl
  number_same place (suc w) h =
      rw (h place (omega arith) (omega arith), number_same (place + 1) w (λ i a b. h i (omega arith) (omega arith)))

  pub command-same :
      (place : ℕ) (kinds : List OperandKind) → ((i : ℕ) → place ≤ i → i < end_at place kinds → get_or job i 0 ≡ get_or job' i 0)
      → command_at job place kinds ≡ command_at job' place kinds
  command-same place kinds h =
      λ i.
      record {
        place = place;
        byte = h place (omega arith) (omega arith) i;
        operands =
            quaternary (number_same (first_at place) (width (operand_at kinds 0)) (λ j a b. h j (omega arith) (omega arith)) i)
            (number_same (second_at place kinds) (width (operand_at kinds 1)) (λ j a b. h j (omega arith) (omega arith)) i)
            (number_same (third_at place kinds) (width (operand_at kinds 2)) (λ j a b. h j (omega arith) (omega arith)) i)
            (number_same (fourth_at place kinds) (width (operand_at kinds 3)) (λ j a b. h j (omega arith) (omega arith)) i);
      }

  pub read_same :
      (place : ℕ) (c : Command) (next : ℕ) → next ≤ length job' → read_command job place ≡ whole c next
      → ((i : ℕ) → place ≤ i → i < next → get_or job i 0 ≡ get_or job' i 0) → read_command job' place ≡ whole c next
  read_same place c next l e h =
      let r = read_at job place c next e in
      let kinds = r.kinds in
      let ends : end_at place kinds ≡ next = r.ends in
      let later : place < next = r.later in
      let known : operands_of (get_or job' place 0) ≡ Some kinds = rw (h place (omega arith) (omega arith)) at r.operands in
      let same : command_at job place kinds ≡ command_at job' place kinds = command-same place kinds (λ i a b. h i a (omega arith)) in
      read_whole job' place kinds known (omega arith) ∙ ap (λ (d : Command). whole d (end_at place kinds)) (sym same ∙ r.command)
      ∙ ap (whole c) ends

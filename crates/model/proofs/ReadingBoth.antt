-- Reading two jobs that differ only in the start of one variable: the same commands but for that start.
use Prim.Native.Nat.{ℕ, ◌+◌, ◌≤◌, ◌<◌}
use mathlib.Core.Path.{◌≡◌, refl, sym, ap, subst, ◌∙◌}
use mathlib.Core.Logic.{inl, inr}
use mathlib.Core.Bool.{true, cond}
use mathlib.Core.List.{List, [], ◌∷◌}
use Rattle.std.proofs.Common.{Option, None, Some}
use native.Mathlib.Omega.{arith}
use lib.Dec.{leb}
use lib.ListN.{length, get_or}
use Rattle.model.specs.Table.{VAR, OperandKind, scope, owner, start, operands_in, operands_of}
use Rattle.model.specs.Command.{quaternary, Command, number_at, fourth_at, end_at, command_at}
use Rattle.model.specs.Command.{whole, cut_short, read_as, read_command}
use Rattle.model.specs.Declared.{count_of}
use Rattle.model.specs.Secrecy.{SameBut, Spells, begin, further, Secret}
use Rattle.model.proofs.Reading.{number_same, command-same, number-none, read_at, read_whole}
use Rattle.model.proofs.Growth.{count-grows}
use Rattle.model.proofs.Restarting.{revised}

-- whatever is read where all bytes of two jobs are the same
pub read-beyond :
    (job job' : List ℕ) (place : ℕ) → length job ≡ length job' → ((i : ℕ) → place ≤ i → get_or job i 0 ≡ get_or job' i 0)
    → read_command job' place ≡ read_command job place
unfolding read_command
read-beyond job job' place l h =
    ap (λ (b : ℕ). read_as job' place (operands_of b)) (sym (h place (omega arith))) ∙ by_operands (operands_of (get_or job place 0))
  where
    by_operands : (o : Option (List OperandKind)) → read_as job' place o ≡ read_as job place o
    by_operands None = refl
    by_operands (Some kinds) =
        let same : command_at job' place kinds ≡ command_at job place kinds = sym (command-same job job' place kinds (λ i a b. h i a)) in
        λ i. cond (leb (end_at place kinds) (sym l i)) (whole (same i) (end_at place kinds)) cut_short

-- the operands of VAR
abbrev pub variable_kinds : List OperandKind
variable_kinds = scope ∷ owner ∷ start ∷ []

-- a VAR that is read: its operands stand behind its byte, and the next command behind these
pub record VariableAt (job : List ℕ) (place : ℕ) (c : Command) (next : ℕ) : Type 0 where
  pub known : operands_of (get_or job place 0) ≡ Some variable_kinds
  pub command : command_at job place variable_kinds ≡ c
  pub ends : next ≡ place + 7
  pub inside : next ≤ length job

pub variable-at : (job : List ℕ) (place : ℕ) (c : Command) (next : ℕ) → read_command job place ≡ whole c next → c.byte ≡ VAR
    → VariableAt job place c next
unfolding operands_of operands_in
variable-at job place c next e is_var =
    let r = read_at job place c next e in
    let byte : get_or job place 0 ≡ VAR = sym r.byte ∙ is_var in
    let known : operands_of (get_or job place 0) ≡ Some variable_kinds = rw byte in
    let kinds : r.kinds ≡ variable_kinds = cc r.operands in
    let ends : end_at place variable_kinds ≡ next = rw kinds at r.ends in
    record { known = known; command = rw kinds at r.command; ends = omega arith; inside = r.inside }

-- the start that stands in a job behind the byte, scope and owner of a VAR at a place
abbrev pub start_at : List ℕ → ℕ → ℕ
start_at job place = number_at job (place + 1 + 1 + 1) 4

-- a VAR whose start differs in the second job
read-variable :
    (job job' : List ℕ) (place : ℕ) (c : Command) (next : ℕ) → SameBut (place + 3) job job' → VariableAt job place c next
    → read_command job' place ≡ whole (revised true (start_at job' place) c) next
read-variable job job' place c next same a =
    let v = start_at job' place in
    let byte : get_or job place 0 ≡ get_or job' place 0 = same.elsewhere place (inl (omega arith)) in
    let known : operands_of (get_or job' place 0) ≡ Some variable_kinds = ap operands_of (sym byte) ∙ a.known in
    let first = number_same job job' (place + 1) 1 (λ i l h. same.elsewhere i (inl (omega arith))) in
    let second = number_same job job' (place + 1 + 1) 1 (λ i l h. same.elsewhere i (inl (omega arith))) in
    let fourth = number-none job (fourth_at place variable_kinds) ∙ sym (number-none job' (fourth_at place variable_kinds)) in
    let differs : command_at job' place variable_kinds ≡ revised true v (command_at job place variable_kinds) =
    λ i. record { place = place; byte = sym byte i; operands = quaternary (sym first i) (sym second i) v (sym fourth i) } in
    let ends : end_at place variable_kinds ≡ next = omega (arith, a.ends) in
    read_whole job' place variable_kinds known (omega (arith, a.ends, a.inside, same.same_length))
    ∙ ap (λ (d : Command). whole d (end_at place variable_kinds)) (differs ∙ ap (revised true v) a.command)
    ∙ ap (whole (revised true v c)) ends

-- the commands of a job from one place to another, by reading them one behind the other
pub data Leads (job : List ℕ) (end : ℕ) (before : List Command) : ℕ → List Command → Type 0 where
  here : Leads job end before end before
  step :
      (place : ℕ) (past : List Command) (c : Command) (next : ℕ)
      → read_command job place ≡ whole c next → Leads job end before next (c ∷ past)
      → Leads job end before place past

-- the last command of those that are spelled: the commands before it are spelled up to its place, where it is read
pub last-spelled : {job : List ℕ} {next : ℕ} {c : Command} {before : List Command} → Spells job next (c ∷ before)
    → Spells job c.place before × (read_command job c.place ≡ whole c next)
last-spelled {job} (further place past c next s e) =
    let here : place ≡ c.place = sym (read_at job place c next e).here in
    (subst (λ (p : ℕ). Spells job p past) here s, subst (λ (p : ℕ). read_command job p ≡ whole c next) here e)

pub spells_leads :
    {job : List ℕ} {end : ℕ} {before : List Command} {place : ℕ} {past : List Command}
    → Spells job place past → Leads job end before place past → Leads job end before 0 []
spells_leads begin l = l
spells_leads (further place past c next s e) l = spells_leads s (step place past c next e l)

pub leads-later : {job : List ℕ} {end : ℕ} {before : List Command} {place : ℕ} {past : List Command} → Leads job end before place past
    → place ≤ end
leads-later here = omega arith
leads-later {job} (step place past c next e l) = omega (arith, (read_at job place c next e).later, leads-later l)

pub leads-count : {job : List ℕ} {end : ℕ} {before : List Command} {place : ℕ} {past : List Command} → Leads job end before place past
    → (b : ℕ) → count_of b past ≤ count_of b before
leads-count here b = omega arith
leads-count (step place past c next e l) b = omega (arith, count-grows b c past, leads-count l b)

-- two jobs of one length that read alike up to the VAR c of variable x, and behind it; there the second has the start v
pub record Varied (job job' : List ℕ) (x : ℕ) (c : Command) (v : ℕ) : Type 0 where
  pub before : List Command
  pub next : ℕ
  pub spelled : Spells job c.place before
  pub same_length : length job ≡ length job'
  pub front : (i : ℕ) → i < c.place → get_or job i 0 ≡ get_or job' i 0
  pub back : (i : ℕ) → next ≤ i → get_or job i 0 ≡ get_or job' i 0
  pub reads : read_command job c.place ≡ whole c next
  pub reads' : read_command job' c.place ≡ whole (revised true v c) next
  pub is_variable : c.byte ≡ VAR
  pub number : count_of VAR before ≡ x

pub variation :
    (job job' : List ℕ) (x : ℕ) (c : Command) (before : List Command) (next : ℕ) → SameBut (c.place + 3) job job'
    → Spells job next (c ∷ before) → c.byte ≡ VAR → count_of VAR before ≡ x → Varied job job' x c (start_at job' c.place)
variation job job' x c before next same spelled is_var number =
    let last = last-spelled spelled in
    let at = variable-at job c.place c next last.1 is_var in
    record {
      before = before;
      next = next;
      spelled = last.0;
      same_length = same.same_length;
      front = λ i h. same.elsewhere i (inl (omega arith));
      back = λ i h. same.elsewhere i (inr (omega (arith, at.ends)));
      reads = last.1;
      reads' = read-variable job job' c.place c next same at;
      is_variable = is_var;
      number = number;
    }

pub varied : (job job' : List ℕ) (x at : ℕ) (S : Secret job x at) → SameBut at job job'
    → Varied job job' x S.declaration (start_at job' S.declaration.place)
varied job job' x at S same =
    variation job job' x S.declaration S.before S.next (rw S.start at same) S.spelled S.is_variable S.number

-- The proofs of `SecretsSpelled` and `SecretsFound`: commands are spelled in one way only, so that a job that spells them to its end spells
-- no others.
use Prim.Native.Nat.{ℕ, ◌+◌, ◌≤◌, ◌<◌}
use mathlib.Core.Path.{◌≡◌, refl, sym, ap, ◌∙◌}
use mathlib.Core.Bool.{Bool, true, false}
use mathlib.Core.List.{List, [], ◌∷◌}
use native.Mathlib.Omega.{arith}
use lib.Dec.{ltb}
use lib.ListN.{length}
use borrow.Author.Tests.{ltb-true, ltb-false, eqb-true}
use Rattle.model.specs.Table.{VAR, READ}
use Rattle.model.specs.Command.{Operands, binary, Command, is, number_at, whole, read_command}
use Rattle.model.specs.Declared.{count_of, is_same, occurs, start_of, shared}
use Rattle.model.specs.Program.{program_of}
use Rattle.model.specs.Secrecy.{Spells, begin, further, Secret, SecretsSpelled, SecretsFound}
use Rattle.model.proofs.Logic.{or_right}
use Rattle.model.proofs.Reading.{read_at}
use Rattle.model.proofs.Growth.{count_same, count-other, declared-new, declared-older}
use Rattle.model.proofs.ReadingBoth.{variable-at, Leads, here, step, spells_leads}
use Rattle.model.proofs.Secrecy.{shared-declared, job_spells}

-- what does not occur did not occur earlier
leads-occurs :
    {job : List ℕ} {end : ℕ} {before : List Command} {place : ℕ} {past : List Command}
    → Leads job end before place past → (b : ℕ) (y : Operands) → occurs b y before ≡ false → occurs b y past ≡ false
unfolding occurs
leads-occurs here b y o = o
leads-occurs (step place past c next e l) b y o = or_right (is_same b y c) (occurs b y past) (leads-occurs l b y o)

-- every place that is spelled leads to the place where the job spells no more
module _
    (job : List ℕ) (end : ℕ) (all : List Command) (reads : Leads job end all 0 [])
    (ends : (c : Command) (next : ℕ) → ¬ (read_command job end ≡ whole c next))
  where
    onward : (place : ℕ) (past : List Command) (c : Command) (next : ℕ) → read_command job place ≡ whole c next
        → Leads job end all place past → Leads job end all next (c ∷ past)
    onward place past c next e here = absurd (ends c next e)
    onward place past c next e (step _ _ c' next' e' l) =
        let same : c' ≡ c = cc in
        let later : next' ≡ next = cc in
        rw (same, later) at l

    spells_onward : {place : ℕ} {past : List Command} → Spells job place past → Leads job end all place past
    spells_onward begin = reads
    spells_onward (further place past c next s e) = onward place past c next e (spells_onward s)

-- the start that a VAR has
variable-start : (job : List ℕ) (place : ℕ) (c : Command) (next : ℕ) → read_command job place ≡ whole c next → c.byte ≡ VAR
    → c.operands.third ≡ number_at job (place + 3) 4
variable-start job place c next e is_var =
    let there : place + 1 + 1 + 1 ≡ place + 3 = omega arith in
    ap (λ (d : Command). d.operands.third) (sym (variable-at job place c next e is_var).command)
    ∙ ap (λ (p : ℕ). number_at job p 4) there

-- the VAR of a shared variable is among the commands that are spelled
module _
    (job : List ℕ) (x : ℕ)
    (unread : (end : ℕ) (past : List Command) → Spells job end past → (n : ℕ) → occurs READ (binary n x) past ≡ false)
  where
    -- the variable is found, with its start in these commands
    abbrev Found : List Command → Type 0
    Found past = (at : ℕ) × Secret job x at × (start_of past x ≡ number_at job at 4)

    among : {end : ℕ} {past : List Command} → Spells job end past → x < count_of VAR past → shared past x ≡ true → Found past
    unfolding count_of
    among begin h s = absurd (omega arith)
    among (further place past c next sp e) h s = by_older (ltb x (count_of VAR past)) refl (among sp)
      where
        last : count_of VAR past ≤ x → (t : Bool) → is VAR c ≡ t → Found (c ∷ past)
        last l true p =
            let z : x ≡ count_of VAR past = omega (arith, count_same VAR c past p) in
            let is_var : c.byte ≡ VAR = eqb-true c.byte VAR p in (
              place + 3,
              record {
                before = past;
                declaration = c;
                next = next;
                spelled = further place past c next sp e;
                is_variable = is_var;
                number = sym z;
                start = ap (λ (q : ℕ). q + 3) (sym (read_at job place c next e).here);
                shared_scope = rw (z, declared-new (λ d earlier. d.operands.first) VAR c past p) at s;
                unread = unread;
              },
              rw (z, declared-new (λ d earlier. d.operands.third) VAR c past p) (variable-start job place c next e is_var),
            )
        last l false p = absurd (omega (arith, count-other VAR c past p))

        by_older : (t : Bool) → ltb x (count_of VAR past) ≡ t → (x < count_of VAR past → shared past x ≡ true → Found past)
            → Found (c ∷ past)
        by_older true p ih =
            let l : x < count_of VAR past = ltb-true x (count_of VAR past) p in
            let f = ih l (rw (declared-older (λ d earlier. d.operands.first) VAR c past x l) at s) in
            (f.0, f.1, declared-older (λ d earlier. d.operands.third) VAR c past x l ∙ f.2)
        by_older false p ih = last (ltb-false x (count_of VAR past) p) (is VAR c) refl

pub secrets_spelled : SecretsSpelled
secrets_spelled job end past sp ends x s unread =
    among job x
    (λ end' earlier spelled n.
    leads-occurs (spells_onward job end past (spells_leads sp here) ends spelled) READ (binary n x) (unread n)) sp
    (shared-declared past x s) s

-- at the end of a job nothing more is read
pub secrets_found : SecretsFound
unfolding program_of
secrets_found job past e x s unread =
    secrets_spelled job (length job) past (job_spells job past e)
    (λ c next q. omega (arith, (read_at job (length job) c next q).later, (read_at job (length job) c next q).inside)) x s unread

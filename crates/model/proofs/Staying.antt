-- The proof of `SecretsStay`: what one of two jobs spells, the other spells with another start.
use Prim.Native.Nat.{ℕ, ◌+◌}
use mathlib.Core.Path.{refl, sym, ◌∙◌}
use mathlib.Core.Logic.{inl}
use mathlib.Core.List.{List}
use Rattle.model.specs.Table.{VAR, READ}
use Rattle.model.specs.Command.{binary, Command, whole}
use Rattle.model.specs.Secrecy.{SameBut, Spells, begin, further, Secret, SecretsStay}
use Rattle.model.proofs.Restarting.{revised, is_declaration_of, restarted, count_re, occurs_re}
use Rattle.model.proofs.ReadingBoth.{here, spells_leads, Varied, start_at, variation, varied}
use Rattle.model.proofs.WalkingBoth.{OnWay, other}

module _ (job job' : List ℕ) (x : ℕ) (c₀ : Command) (v : ℕ) (D : Varied job job' x c₀ v) where
  -- every place that is spelled is on the way
  on_way : {place : ℕ} {past : List Command} → Spells job place past → OnWay job job' x c₀ v D place past
  on_way begin = inl (spells_leads D.spelled here)
  on_way (further place past c next s e) = (other job job' x c₀ v D place past (on_way s) (whole c next) e).1

  -- so the second job spells the same commands but for the start
  respelled : {place : ℕ} {past : List Command} → Spells job place past → Spells job' place (restarted x v past)
  unfolding restarted
  respelled begin = begin
  respelled (further place past c next s e) =
      further place (restarted x v past) (revised (is_declaration_of x past c) v c) next (respelled s)
      (other job job' x c₀ v D place past (on_way s) (whole c next) e).0

-- the other way round
same_back : (at : ℕ) (bytes bytes' : List ℕ) → SameBut at bytes bytes' → SameBut at bytes' bytes
same_back at bytes bytes' same = record { same_length = sym same.same_length; elsewhere = λ i h. sym (same.elsewhere i h) }

-- the second job has the VAR with the other start, and the first one varies from it
module _ (job job' : List ℕ) (x at : ℕ) (S : Secret job x at) (same : SameBut at job job') where
  abbrev c : Command
  c = S.declaration

  abbrev v : ℕ
  v = start_at job' c.place

  forth : {place : ℕ} {past : List Command} → Spells job place past → Spells job' place (restarted x v past)
  forth = respelled job job' x c v (varied job job' x at S same)

  abbrev c' : Command
  c' = revised (is_declaration_of x S.before c) v c

  abbrev v' : ℕ
  v' = start_at job c.place

  back : {place : ℕ} {past : List Command} → Spells job' place past → Spells job place (restarted x v' past)
  unfolding restarted
  back =
      respelled job' job x c' v'
      (variation job' job x c' (restarted x v S.before) S.next (same_back (c.place + 3) job job' (rw S.start at same))
      (forth S.spelled) S.is_variable (count_re x v VAR S.before ∙ S.number))

  -- another variable that nobody may read, or the same
  stays : (y place : ℕ) → Secret job y place → Secret job' y place
  unfolding restarted
  stays y place T =
      record {
        before = restarted x v T.before;
        declaration = revised (is_declaration_of x T.before T.declaration) v T.declaration;
        next = T.next;
        spelled = forth T.spelled;
        is_variable = T.is_variable;
        number = count_re x v VAR T.before ∙ T.number;
        start = T.start;
        shared_scope = T.shared_scope;
        unread = λ end past spelled n.
            sym (occurs_re x v' READ (binary n y) refl past)
            ∙ T.unread end (restarted x v' past) (back spelled) n;
      }

pub secrets_stay : SecretsStay
secrets_stay = stays

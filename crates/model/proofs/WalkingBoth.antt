-- Walking over two jobs that vary in the start of one variable: up to its VAR, at it and behind it.
use Prim.Native.Nat.{ℕ, ◌≤◌, ◌<◌}
use mathlib.Core.Path.{◌≡◌, refl, sym, ap, subst, ◌∙◌}
use mathlib.Core.Logic.{◌⊎◌, inl, inr}
use mathlib.Core.Bool.{Bool, true, false, ◌&&◌, and-false}
use mathlib.Core.List.{List, ◌∷◌}
use native.Mathlib.Omega.{arith}
use lib.Dec.{eqb}
use borrow.Author.Tests.{eq-eqb, ne_eqb}
use Rattle.model.specs.Table.{VAR}
use Rattle.model.specs.Command.{Command, is, Parsed, whole, unknown, cut_short, read_command}
use Rattle.model.specs.Declared.{count_of, scope_of, is_shared, shared}
use Rattle.model.proofs.Reading.{read_at, read_same}
use Rattle.model.proofs.Growth.{count_same, count-grows, declared-new, declared-older}
use Rattle.model.proofs.Restarting.{revised, is_declaration_of}
use Rattle.model.proofs.ReadingBoth.{read-beyond, Leads, here, step, leads-later, leads-count, Varied}

module _ (job job' : List ℕ) (x : ℕ) (c₀ : Command) (v : ℕ) (D : Varied job job' x c₀ v) where
  -- behind the VAR: the variable is declared, with the scope that it has there
  pub record Behind (place : ℕ) (past : List Command) : Type 0 where
    pub late : D.next ≤ place
    pub counted : x < count_of VAR past
    pub scope : shared past x ≡ is_shared c₀.operands.first

  -- a place on the way: it leads to the VAR, or is behind it
  abbrev pub OnWay : ℕ → List Command → Type 0
  OnWay place past = Leads job c₀.place D.before place past ⊎ Behind place past

  -- what the second job has where the first has this; behind a command the way goes on
  abbrev pub Other : ℕ → List Command → Parsed → Type 0
  Other place past (whole c next) = (read_command job' place ≡ whole (revised (is_declaration_of x past c) v c) next) × OnWay next (c ∷ past)
  Other place past unknown = read_command job' place ≡ unknown
  Other place past cut_short = read_command job' place ≡ cut_short

  -- at the VAR
  at-variable : Other c₀.place D.before (whole c₀ D.next)
  at-variable =
      let is_var : is VAR c₀ ≡ true = eq-eqb c₀.byte VAR D.is_variable in
      let it : is_declaration_of x D.before c₀ ≡ true = rw (is_var, eq-eqb (count_of VAR D.before) x D.number) in (
        rw it D.reads',
        inr
            (record {
              late = omega arith;
              counted = omega (arith, D.number, count_same VAR c₀ D.before is_var);
              scope =
                  ap is_shared
                  (subst (λ (y : ℕ). scope_of (c₀ ∷ D.before) y ≡ c₀.operands.first) D.number
                  (declared-new (λ d earlier. d.operands.first) VAR c₀ D.before is_var));
            }),
      )

  -- before it
  before-variable :
      (place : ℕ) (past : List Command) (c : Command) (next : ℕ) → read_command job place ≡ whole c next
      → Leads job c₀.place D.before next (c ∷ past) → Other place past (whole c next)
  before-variable place past c next e l =
      let r = read_at job place c next e in
      let no : is_declaration_of x past c ≡ false = by_byte (is VAR c) refl in (
        rw no
            (read_same job job' place c next (omega (arith, r.inside, D.same_length)) e
            (λ i a b. D.front i (omega (arith, leads-later l)))),
        inl l,
      )
    where
      by_byte : (t : Bool) → is VAR c ≡ t → (t && eqb (count_of VAR past) x) ≡ false
      by_byte true p = ne_eqb (count_of VAR past) x (λ q. omega (arith, count_same VAR c past p, leads-count l VAR, D.number))
      by_byte false p = refl

  -- behind it, whatever is read
  behind-variable : (place : ℕ) (past : List Command) → Behind place past → (p : Parsed) → read_command job place ≡ p → Other place past p
  behind-variable place past b p e =
      by_read p e (read-beyond job job' place D.same_length (λ i a. D.back i (omega (arith, b.late))) ∙ e)
    where
      by_read : (p : Parsed) → read_command job place ≡ p → read_command job' place ≡ p → Other place past p
      by_read unknown e e' = e'
      by_read cut_short e e' = e'
      by_read (whole c next) e e' =
          let no : is_declaration_of x past c ≡ false =
          rw (ne_eqb (count_of VAR past) x (λ q. omega (arith, b.counted))) (and-false (is VAR c)) in (
            rw no e',
            inr
                (record {
                  late = omega (arith, b.late, (read_at job place c next e).later);
                  counted = omega (arith, b.counted, count-grows VAR c past);
                  scope = ap is_shared (declared-older (λ d earlier. d.operands.first) VAR c past x b.counted) ∙ b.scope;
                }),
          )

  -- anywhere on the way
  pub other : (place : ℕ) (past : List Command) → OnWay place past → (p : Parsed) → read_command job place ≡ p → Other place past p
  other _ _ (inl here) p e = subst (Other c₀.place D.before) (sym D.reads ∙ e) at-variable
  other place past (inl (step _ _ c next e' l)) p e = subst (Other place past) (sym e' ∙ e) (before-variable place past c next e' l)
  other place past (inr b) p e = behind-variable place past b p e

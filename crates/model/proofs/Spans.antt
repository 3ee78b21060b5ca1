-- 8 and 15 never both refuse one command.
use mathlib.Core.Path.{◌≡◌, refl}
use mathlib.Core.Bool.{Bool, true, false, ◌&&◌}
use mathlib.Core.List.{List, [], ◌∷◌}
use lib.Dec.{ltb, eqb}
use borrow.Author.Tests.{eqb-true}
use Rattle.model.specs.Table.{SPAN}
use Rattle.model.specs.Command.{Operands, Command, is}
use Rattle.model.specs.Declared.{occurs}
use Rattle.model.specs.Refusal.{any_of}
use Rattle.model.specs.Spans.{NeverBoth}
use Rattle.model.specs.Valid.{Valid}
use Rattle.model.proofs.Valid.{passes, reads-valid}
use Rattle.model.proofs.Naming.{occurs-each}

-- a SPAN that was accepted has its low at most at its high, and so has one with its operands
span-ascends : (past : List Command) → Valid past → (x : Operands) → occurs SPAN x past ≡ true → ltb x.fourth x.third ≡ false
span-ascends past v x = occurs-each (λ b x. (eqb b SPAN && ltb x.fourth x.third) ≡ false) (λ past c v. (passes past c v.2).ascends)
    past v SPAN x

any-first : (a : Bool) → any_of (a ∷ false ∷ false ∷ []) ≡ true → a ≡ true
unfolding any_of
any-first true f = refl
any-first false f = f

pub never_both : NeverBoth
never_both job place past c reads e = by_byte (is SPAN c) refl
  where
    by_byte : (t : Bool) → is SPAN c ≡ t → (t && ltb c.operands.fourth c.operands.third) ≡ false
    by_byte false p = refl
    by_byte true p =
        let b : c.byte ≡ SPAN = eqb-true c.byte SPAN p in
        let o : any_of (occurs SPAN c.operands past ∷ false ∷ false ∷ []) ≡ true = rw b at e in
        span-ascends past (reads-valid reads) c.operands (any-first (occurs SPAN c.operands past) o)

use mathlib.Core.Path.{refl}
use mathlib.Core.Logic.{inl, inr}
use Rattle.model.specs.Table.{is_among}
use Rattle.tables.specs.Cells.{mark_at}
use Rattle.tables.specs.Writes.{made}
use Rattle.uses.proofs.Arms.{known_use, known-either, no_use}
use Rattle.uses.proofs.note_use.Goals as goal

pub returns-in-67 : goal.returns-in-67
unfolding made mark_at is_among
returns-in-67 c = known-either c.args.uses.now _ c.args.n.0 c.args.x _ _ _ c.in-67.is c.mark.ensures refl

pub returns-in-68 : goal.returns-in-68
unfolding made mark_at is_among
returns-in-68 c = known_use c.args.uses.now _ c.args.n.0 c.args.x _ _ c.in-68.is c.mark-in-68.ensures

pub returns-in-74 : goal.returns-in-74
unfolding made mark_at is_among
returns-in-74 c = known_use c.args.uses.now _ c.args.n.0 c.args.x _ _ c.in-74.is c.mark-in-74.ensures

pub returns-in_default : goal.returns-in_default
returns-in_default c = no_use c.args.uses.now c.args.byte c.args.n.0 c.args.x (λ e. c.in_default.in_default-own.rest.0.0.1 (inl e)) (λ e. c.in_default.in_default-own.rest.0.0.1 (inr e)) c.in_default.in_default-own.rest.0.1 c.in_default.in_default-own.rest.1

use mathlib.Core.Path.{◌∙◌}
use native.Mathlib.Omega.{arith}
use Rattle.uses.proofs.Noting.{uses-noted}
use Rattle.command.specs.Reading.{command_of}
use Rattle.job.proofs.Going.{read_plain, step-refused, step-valid, step-on}
use Rattle.job.proofs.walk.admit.Goals as goal

pub returns-in-Some : goal.returns-in-Some
returns-in-Some c = λ past stands uses valid short.
    let plain = read_plain _ _ c.requires.at_in_bounds.0 past c.args.read.command _ c.requires.at_value.0 in
    step-refused _ _ c.requires.at_in_bounds.0 past c.args.read.command _ c.requires.at_value.0 _ (c.in-Some.ensures past stands plain)

pub returns : goal.returns
returns c = λ past stands uses valid short.
    let plain = read_plain _ _ c.requires.at_in_bounds.0 past c.args.read.command _ c.requires.at_value.0 in
    let more = step-valid _ _ c.requires.at_in_bounds.0 past c.args.read.command _ c.requires.at_value.0 (c.in_default.ensures past stands plain) valid in
    step-on _ _ c.requires.at_in_bounds.0 past c.args.read.command _ c.requires.at_value.0 _ _
    (c.note.ensures past c.requires.at_value.1.group stands more (omega (arith, c.requires.at_in_bounds.0, c.requires.at_in_bounds.1, short)))
    (uses-noted _ past (command_of c.args.read.command) uses more _ _ (c.open_node-opened.ensures ∙ stands.opened)
    c.note_use.ensures)
    more

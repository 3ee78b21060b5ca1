use Prim.Native.Nat.{◌+◌}
use mathlib.Core.Path.{◌≡◌, sym, ◌∙◌}
use lib.ListN.{get_or}
use borrow.Author.Rules.{rules}
use Rattle.std.proofs.lemmas.Option.{unwrap_or-slice_get}
use Rattle.model.proofs.Reading.{number-one}
use Rattle.output.proofs.places.waiting_in.Goals as goal

pub returns : goal.returns
returns c = let read : c.unwrap_or.result ≡ get_or c.args.snapshot.now (c.args.place + 9) 0 = search (rules, unwrap_or-slice_get) in
    read ∙ sym (number-one c.args.snapshot.now (c.args.place + 9))

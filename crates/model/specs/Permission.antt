-- What the lists permit, and one turn of a monitored ("watched") run ("A turn").
use Rattle.std.specs.Prelude.{ℕ, Bool, true, false, cond, ◌||◌, eqb}
use Rattle.model.specs.Program.{Program}
use Rattle.model.specs.State.{State}
use Rattle.model.specs.Turn.{Entry, entry, Turned, completed, stopped, turn}

-- the entry is permitted: one of kind 0, 1, 2 or 6 always, one of kind 3, 4 or 5 if the node's lists say so
abbrev pub permitted : Program → Entry → Bool
permitted P e =
    cond (eqb e.kind 0 || eqb e.kind 1 || eqb e.kind 2 || eqb e.kind 6) true
    (cond (eqb e.kind 3) (P.may_read e.node e.number)
    (cond (eqb e.kind 4) (P.may_write e.node e.number)
    (cond (eqb e.kind 5) (P.may_call e.node e.number e.value)
    false)))

-- an entry not made, as the answer shows it: with value 0 for a read
abbrev pub redacted : Entry → Entry
redacted e = entry e.node e.kind e.number (cond (eqb e.kind 3) 0 e.value)

-- a turn under the lists: stop 1 if its entry would not be permitted
abbrev pub enforced : Program → Turned → Turned
enforced P (completed e s) = cond (permitted P e) (completed e s) (stopped 1 (redacted e))
enforced P (stopped k e) = stopped k e

-- one turn of a node in a monitored ("watched") run
unfoldable pub monitored_turn : Program → State → ℕ → Turned
monitored_turn P s n = enforced P (turn P s n)

-- Test 5 ("Largest counts"; S-1, S-5): what the largest counts over the whole job say of every job, where a row of `Readings` would show
-- one case. The commands of a body have a count of their own.
use Rattle.std.specs.Prelude.{◌≤◌, ◌<◌, ◌≡◌, true, false, List, [], ◌∷◌, Some}
use Rattle.model.specs.Table.{REPLY, ARG, SPAN, is_range_byte, Limit, limit, largest_of}
use Rattle.model.specs.Command.{Command}
use Rattle.model.specs.Declared.{count_among}
use Rattle.model.specs.Refusal.{group_falls, exceeds_count, violation}

-- a command that counts to this largest count: while fewer came before, it does not exceed it; after as many, or more, it is refused by 5,
-- if it passes test 4, whatever else is wrong with it
pub record Limited (l : Limit) (past : List Command) (c : Command) : Type 0 where
  pub below : count_among l.bytes past < l.most → exceeds_count past c ≡ false
  pub reached : l.most ≤ count_among l.bytes past → group_falls past c ≡ false → violation past c ≡ 5

-- the claim: every largest count over the whole job, after any commands
abbrev pub LargestCountsHold : Type 0
LargestCountsHold = (past : List Command) (c : Command) (l : Limit) → largest_of c.byte ≡ Some l → Limited l past c

-- so "at most 128 in a job", of REPLY (S-1)
abbrev pub ReplyLimitHolds : Type 0
ReplyLimitHolds = (past : List Command) (c : Command) → c.byte ≡ REPLY → Limited (limit (REPLY ∷ []) 128) past c

-- and so "SPAN and ARG share the count of 256", however both are mixed (S-5)
abbrev pub RangeLimitHolds : Type 0
RangeLimitHolds = (past : List Command) (c : Command) → is_range_byte c.byte ≡ true → Limited (limit (ARG ∷ SPAN ∷ []) 256) past c

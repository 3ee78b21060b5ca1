-- What commands declare ("The job"), as functions of the commands read so far, the latest first (`past`).
-- Each value for `c ∷ past` is made from `c` and the values for `past`. Numbers are counted from 0 over the whole job.
use Rattle.std.specs.Prelude.{ℕ, ◌+◌, ◌-◌, Bool, true, false, cond, not, ◌&&◌, ◌||◌, List, [], ◌∷◌, ◌++◌, leb, eqb, Option, None, Some, unwrap_or}
use Rattle.model.specs.Table.{FLOW, NODE, VAR, FUN, REPLY, SPAN, BODY, SET, SKIP, START, TURN, is_among}
use Rattle.model.specs.Command.{Operands, same_operands, Command, is}

-- a list of the value if the test passes, and else the empty list
abbrev pub only : {A : Type 0} → Bool → A → List A
only true a = a ∷ []
only false a = []

-- how many commands have this byte
unfoldable pub count_of : ℕ → List Command → ℕ
count_of b [] = 0
count_of b (c ∷ past) = cond (is b c) (count_of b past + 1) (count_of b past)

-- how many commands have one of these bytes
unfoldable pub count_among : List ℕ → List Command → ℕ
count_among [] past = 0
count_among (b ∷ bytes) past = count_of b past + count_among bytes past

-- the command has this byte and these operands
abbrev pub is_same : ℕ → Operands → Command → Bool
is_same b x c = is b c && same_operands c.operands x

-- some command has this byte and these operands
unfoldable pub occurs : ℕ → Operands → List Command → Bool
occurs b x [] = false
occurs b x (c ∷ past) = is_same b x c || occurs b x past

-- the command is a SPAN of the node and the function that permits the argument: from low to high, both ends included
abbrev pub span_permits : ℕ → ℕ → ℕ → Command → Bool
span_permits n f argument c =
    is SPAN c
    && (eqb c.operands.first n
    && (eqb c.operands.second f
    && (leb c.operands.third argument
    && leb argument c.operands.fourth)))

-- some command is such a SPAN
unfoldable pub in_span : ℕ → ℕ → ℕ → List Command → Bool
in_span n f argument [] = false
in_span n f argument (c ∷ past) = span_permits n f argument c || in_span n f argument past

-- what `value` gives for command x of those with this byte, and for the commands before it; 0 if there is none
unfoldable pub declared : (Command → List Command → ℕ) → ℕ → List Command → ℕ → ℕ
declared value b [] x = 0
declared value b (c ∷ past) x = cond (is b c && eqb (count_of b past) x) (value c past) (declared value b past x)

-- the flow of a node: the flow opened last before it
abbrev pub flow_of : List Command → ℕ → ℕ
flow_of = declared (λ c before. count_of FLOW before - 1) NODE

-- the scope of a variable: 0 node, 1 flow, 2 global
abbrev pub scope_of : List Command → ℕ → ℕ
scope_of = declared (λ c before. c.operands.first) VAR

-- the owner of a variable: a node, a flow, or 0
abbrev pub owner_of : List Command → ℕ → ℕ
owner_of = declared (λ c before. c.operands.second) VAR

-- the start of a variable
abbrev pub start_of : List Command → ℕ → ℕ
start_of = declared (λ c before. c.operands.third) VAR

-- FUN's answer of a function, to every argument without a REPLY
abbrev pub fun_answer_of : List Command → ℕ → ℕ
fun_answer_of = declared (λ c before. c.operands.first) FUN

-- the command is a REPLY of the function to the argument
abbrev pub is_reply : ℕ → ℕ → Command → Bool
is_reply f argument c = is REPLY c && (eqb c.operands.first f && eqb c.operands.second argument)

-- the answer in the last such REPLY, if there is one
unfoldable pub reply_of : List Command → ℕ → ℕ → Option ℕ
reply_of [] f argument = None
reply_of (c ∷ past) f argument = cond (is_reply f argument c) (Some c.operands.third) (reply_of past f argument)

-- the answer of a function to an argument: that of its REPLY, and without one FUN's (S-1)
abbrev pub answer_of : List Command → ℕ → ℕ → ℕ
answer_of past f argument = unwrap_or (reply_of past f argument) (fun_answer_of past f)

-- a variable of this scope is shared: flow and global ones are
abbrev pub is_shared : ℕ → Bool
is_shared scope = not (eqb scope 0)

-- a variable of this scope and owner is seen by a node of this flow: its own, its flow's, and the global ones
abbrev pub is_seen : ℕ → ℕ → ℕ → ℕ → Bool
is_seen scope owner node flow = cond (eqb scope 0) (eqb owner node) (cond (eqb scope 1) (eqb owner flow) true)

-- the variable is shared
abbrev pub shared : List Command → ℕ → Bool
shared past x = is_shared (scope_of past x)

-- the node sees the variable
abbrev pub sees : List Command → ℕ → ℕ → Bool
sees past n x = is_seen (scope_of past x) (owner_of past x) n (flow_of past n)

-- a handler command: 41 SET to 4B SKIP
abbrev pub is_handler : Command → Bool
is_handler c = leb SET c.byte && leb c.byte SKIP

-- the node whose handler was opened last, 0 before every BODY
unfoldable pub open_body : List Command → ℕ
open_body [] = 0
open_body (c ∷ past) = cond (is BODY c) c.operands.first (open_body past)

-- the command stands in the handler of the node
abbrev pub belongs : List Command → Command → ℕ → Bool
belongs past c n = is_handler c && eqb (open_body past) n

-- how many commands the handler of a node has
unfoldable pub body_length : List Command → ℕ → ℕ
body_length [] n = 0
body_length (c ∷ past) n = cond (belongs past c n) (body_length past n + 1) (body_length past n)

-- a handler command without its place: its byte and its operand
pub record Instruction : Type 0 where
  pub byte : ℕ
  pub operand : ℕ

-- the instruction with these
abbrev pub instruction : ℕ → ℕ → Instruction
instruction b x = record { byte = b; operand = x }

-- the handler ("body") of a node: its commands, the first one first; without BODY it is empty
unfoldable pub handler_of : List Command → ℕ → List Instruction
handler_of [] n = []
handler_of (c ∷ past) n = handler_of past n ++ only (belongs past c n) (instruction c.byte c.operands.first)

-- a handler has a command with one of these bytes and this operand
unfoldable pub has : List ℕ → ℕ → List Instruction → Bool
has bytes x [] = false
has bytes x (i ∷ handler) = (is_among i.byte bytes && eqb i.operand x) || has bytes x handler

-- the first messages of a node
unfoldable pub starts_of : List Command → ℕ → List ℕ
starts_of [] n = []
starts_of (c ∷ past) n = starts_of past n ++ only (is START c && eqb c.operands.first n) c.operands.second

-- some node of the flow has a START
unfoldable pub started_in : List Command → ℕ → Bool
started_in [] flow = false
started_in (c ∷ past) flow = (is START c && eqb (flow_of past c.operands.first) flow) || started_in past flow

-- the schedule: the nodes of the turns, the first turn first
unfoldable pub turns_of : List Command → List ℕ
turns_of [] = []
turns_of (c ∷ past) = turns_of past ++ only (is TURN c) c.operands.first

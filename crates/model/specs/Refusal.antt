-- When a job is refused ("When a job is turned away"): the tests 1 to 12, after test 8 the test 15 of request S-5, and after test 9 the
-- test 19 of request S-7, each with its number and place, in their order.
use Rattle.std.specs.Prelude.{ℕ, zero, suc, ◌*◌, Bool, false, cond, not, ◌&&◌, ◌||◌, List, [], ◌∷◌, leb, ltb, eqb, length, is_some, Option, None, Some}
use Rattle.model.specs.Table.{FLOW, NODE, VAR, FUN, REPLY, WIRE, ANY, ARG, READ, WRITE, SPAN, BODY, GET, PUT, PLUS, JUMPZ, JUMP}
use Rattle.model.specs.Table.{CALL, START, TURN, OperandKind, scope, owner, start, answer, node, port, target, function, argument}
use Rattle.model.specs.Table.{value, low, high, variable, jump, absent, kind_at, group_of, Limit, largest_of, max_port, max_handler}
use Rattle.model.specs.Table.{max_job}
use Rattle.model.specs.Command.{Command, Parsed, whole, unknown, cut_short, is, read_command}
use Rattle.model.specs.Declared.{count_of, count_among, occurs, flow_of, reply_of, shared, sees, is_handler, open_body}
use Rattle.model.specs.Declared.{body_length, handler_of, has, started_in}

-- some test passes
unfoldable pub any_of : List Bool → Bool
any_of [] = false
any_of (b ∷ tests) = b || any_of tests

-- 4: the group is lower than that of an earlier command
unfoldable pub group_falls : List Command → Command → Bool
group_falls [] c = false
group_falls (d ∷ past) c = ltb (group_of c.byte) (group_of d.byte) || group_falls past c

-- the largest count, if there is one, is reached
abbrev pub is_reached : Option Limit → List Command → Bool
is_reached None past = false
is_reached (Some l) past = leb l.most (count_among l.bytes past)

-- 5: a largest count would be passed: one over the whole job, or that of the commands of a body
abbrev pub exceeds_count : List Command → Command → Bool
exceeds_count past c =
    any_of
    (is_reached (largest_of c.byte) past
    ∷ (is_handler c && leb max_handler (body_length past (open_body past)))
    ∷ [])

-- how many flows, nodes, variables and functions are declared
pub record Counts : Type 0 where
  pub flows : ℕ
  pub nodes : ℕ
  pub variables : ℕ
  pub functions : ℕ

-- the counts of these commands
abbrev pub counts_of : List Command → Counts
counts_of past = record { flows = count_of FLOW past; nodes = count_of NODE past; variables = count_of VAR past; functions = count_of FUN past }

-- the owner of a variable of this scope is not declared: a node, a flow, or 0 for a global one
abbrev pub no_owner : Counts → ℕ → ℕ → Bool
no_owner d s x = cond (eqb s 0) (leb d.nodes x) (cond (eqb s 1) (leb d.flows x) (not (eqb x 0)))

-- an operand names nothing that is declared or allowed: by the command's first operand (a variable's scope), what the operand is, and the
-- operand itself
abbrev pub names_nothing : Counts → ℕ → OperandKind → ℕ → Bool
names_nothing d s scope x = ltb 2 x
names_nothing d s owner x = no_owner d s x
names_nothing d s start x = false
names_nothing d s answer x = false
names_nothing d s node x = leb d.nodes x
names_nothing d s port x = ltb max_port x
names_nothing d s target x = leb d.nodes x
names_nothing d s function x = leb d.functions x
names_nothing d s argument x = false
names_nothing d s value x = false
names_nothing d s low x = false
names_nothing d s high x = false
names_nothing d s variable x = leb d.variables x
names_nothing d s jump x = false
names_nothing d s absent x = false

-- 6: a NODE before every FLOW, a handler command before every BODY, or an operand that names nothing
abbrev pub undeclared : List Command → Command → Bool
undeclared past c =
    any_of
    ((is NODE c && eqb (count_of FLOW past) 0)
    ∷ (is_handler c && eqb (count_of BODY past) 0)
    ∷ names_nothing (counts_of past) c.operands.first (kind_at c.byte 0) c.operands.first
    ∷ names_nothing (counts_of past) c.operands.first (kind_at c.byte 1) c.operands.second
    ∷ names_nothing (counts_of past) c.operands.first (kind_at c.byte 2) c.operands.third
    ∷ names_nothing (counts_of past) c.operands.first (kind_at c.byte 3) c.operands.fourth
    ∷ [])

-- the handler commands that name a variable
abbrev pub uses_variable : Command → Bool
uses_variable c = is GET c || is PUT c || is PLUS c

-- the permissions that name a variable
abbrev pub is_access : Command → Bool
is_access c = is READ c || is WRITE c

-- 7: a wire into another flow, a handler command with a variable that its node does not see, READ or WRITE of a variable unseen or not
-- shared
abbrev pub out_of_reach : List Command → Command → Bool
out_of_reach past c =
    any_of
    ((is WIRE c && not (eqb (flow_of past c.operands.first) (flow_of past c.operands.third)))
    ∷ (uses_variable c && not (sees past (open_body past) c.operands.first))
    ∷ (is_access c && not (sees past c.operands.first c.operands.second))
    ∷ (is_access c && not (shared past c.operands.second))
    ∷ [])

-- the commands that may not be repeated: WIRE, the permissions (group 3) and BODY
abbrev pub must_differ : Command → Bool
must_differ c = is WIRE c || eqb (group_of c.byte) 3 || is BODY c

-- 8: the same WIRE or permission again, a node's second BODY, a flow's second START, a second REPLY of a function to an argument (S-1)
abbrev pub repeated : List Command → Command → Bool
repeated past c =
    any_of
    ((must_differ c && occurs c.byte c.operands past)
    ∷ (is START c && started_in past (flow_of past c.operands.first))
    ∷ (is REPLY c && is_some (reply_of past c.operands.first c.operands.second))
    ∷ [])

-- 15 (S-5): a SPAN whose low is above its high
abbrev pub empty_span : Command → Bool
empty_span c = is SPAN c && ltb c.operands.fourth c.operands.third

-- the number of the first of the tests 4 to 8, and 15, that refuses the command, or 0
unfoldable pub violation : List Command → Command → ℕ
violation past c =
    cond (group_falls past c) 4
    (cond (exceeds_count past c) 5
    (cond (undeclared past c) 6
    (cond (out_of_reach past c) 7
    (cond (repeated past c) 8
    (cond (empty_span c) 15 0)))))

-- a refusal: its number and its place
pub record Refusal : Type 0 where
  pub number : ℕ
  pub place : ℕ

-- the refusal with these
abbrev pub refuse : ℕ → ℕ → Refusal
refuse number place = record { number = number; place = place }

-- a job's commands, the latest first, or the refusal of the job
pub data Decoded : Type 0 where
  accepted : List Command → Decoded
  rejected : Refusal → Decoded

-- decoding goes on by `rest` after a command without violation; one with a violation is refused at its place
abbrev pub decode_next : (ℕ → List Command → Decoded) → ℕ → List Command → Command → ℕ → ℕ → Decoded
decode_next rest place past c next zero = rest next (c ∷ past)
decode_next rest place past c next (suc k) = rejected (refuse (suc k) place)

-- 2 and 3, and then 4 to 8 and 15, by what is read at a place
abbrev pub decode_read : (ℕ → List Command → Decoded) → ℕ → List Command → Parsed → Decoded
decode_read rest place past unknown = rejected (refuse 2 place)
decode_read rest place past cut_short = rejected (refuse 3 place)
decode_read rest place past (whole c next) = decode_next rest place past c next (violation past c)

-- 2 to 8 and 15 from a place of the job on, after the commands `past`; the first number bounds how many commands are left, and the job's
-- length is enough
unfoldable pub decode_from : ℕ → List ℕ → ℕ → List Command → Decoded
decode_from zero job place past = accepted past
decode_from (suc fuel) job place past = cond (ltb place (length job)) (decode_read (decode_from fuel job) place past (read_command job place))
    (accepted past)

-- the commands of a job after the tests 1 to 8 and 15, or its refusal
unfoldable pub decode : List ℕ → Decoded
decode job = cond (eqb (length job) 0 || ltb max_job (length job)) (rejected (refuse 1 0)) (decode_from (length job) job 0 [])

-- the commands are accepted unless a refusal is there
abbrev pub accept_unless : List Command → Option Refusal → Decoded
accept_unless past None = accepted past
accept_unless past (Some r) = rejected r

-- a further test, if all commands are accepted so far
abbrev pub and_then : (List Command → Option Refusal) → Decoded → Decoded
and_then test (accepted past) = accept_unless past (test past)
and_then test (rejected r) = rejected r

-- the first of two refusals that is there
abbrev pub first_of : Option Refusal → Option Refusal → Option Refusal
first_of None r = r
first_of (Some q) r = Some q

-- the refusal of this number at the first command that the test finds, given the commands before it
unfoldable pub refuse_first : ℕ → (List Command → Command → Bool) → List Command → Option Refusal
refuse_first k test [] = None
refuse_first k test (c ∷ past) = first_of (refuse_first k test past) (cond (test past c) (Some (refuse k c.place)) None)

-- a jump target that exceeds the command count of its body, when the job's commands are `all`
abbrev pub is_far_jump : List Command → List Command → Command → Bool
is_far_jump all past c = (is JUMPZ c || is JUMP c) && ltb (body_length all (open_body past)) c.operands.first

-- 9: at the first such jump
abbrev pub far_jump : List Command → Option Refusal
far_jump all = refuse_first 9 (is_far_jump all) all

-- the handler of a node reads a variable: it has a GET or PLUS of it
abbrev pub handler_reads : List Command → ℕ → ℕ → Bool
handler_reads all n x = has (GET ∷ PLUS ∷ []) x (handler_of all n)

-- it writes a variable: it has a PUT of it
abbrev pub handler_writes : List Command → ℕ → ℕ → Bool
handler_writes all n x = has (PUT ∷ []) x (handler_of all n)

-- it calls a function: it has a CALL of it
abbrev pub handler_calls : List Command → ℕ → ℕ → Bool
handler_calls all n f = has (CALL ∷ []) f (handler_of all n)

-- a permission ("idle") that its node's handler has no command for, when the job's commands are `all` (S-7); the commands before it do not
-- matter
abbrev pub is_unused : List Command → List Command → Command → Bool
is_unused all past c =
    any_of
    ((is READ c && not (handler_reads all c.operands.first c.operands.second))
    ∷ (is WRITE c && not (handler_writes all c.operands.first c.operands.second))
    ∷ (is ANY c && not (handler_calls all c.operands.first c.operands.second))
    ∷ (is ARG c && not (handler_calls all c.operands.first c.operands.second))
    ∷ (is SPAN c && not (handler_calls all c.operands.first c.operands.second))
    ∷ [])

-- 19: at the first such permission
abbrev pub unused_permission : List Command → Option Refusal
unused_permission all = refuse_first 19 (is_unused all) all

-- the commands of a job after the tests 1 to 8, 15, 9 and 19, or its refusal
unfoldable pub decode_job : List ℕ → Decoded
decode_job job = and_then unused_permission (and_then far_jump (decode job))

-- the job is accepted
abbrev pub IsAccepted : Decoded → Type 0
IsAccepted (accepted past) = Unit {0}
IsAccepted (rejected r) = ⊥

-- the commands of an accepted job; none for a refused one
abbrev pub commands_of : Decoded → List Command
commands_of (accepted past) = past
commands_of (rejected r) = []

-- the lengths of the three buffers
pub record Sizes : Type 0 where
  pub trace : ℕ
  pub snapshot : ℕ
  pub work : ℕ

-- the lengths with these
abbrev pub sizes : ℕ → ℕ → ℕ → Sizes
sizes trace snapshot work = record { trace = trace; snapshot = snapshot; work = work }

-- the lengths that the snapshot buffer ("picture buffer") and the work buffer must have; the latter has two bytes for each of 64 commands
-- of 32 nodes (S-9)
abbrev pub snapshot_size : ℕ
snapshot_size = 3136

abbrev pub work_size : ℕ
work_size = 4096

-- the trace buffer for so many turns, the snapshot or the work buffer is too short, with a given length asked of the work buffer; the place
-- is the job's length
abbrev pub short_buffer_asking : ℕ → List ℕ → Sizes → ℕ → Option Refusal
short_buffer_asking asked job b turns =
    cond (ltb b.trace (7 * turns)) (Some (refuse 10 (length job)))
    (cond (ltb b.snapshot snapshot_size) (Some (refuse 11 (length job)))
    (cond (ltb b.work asked) (Some (refuse 12 (length job)))
    None))

-- 10 to 12, for so many turns
abbrev pub short_buffer_for : List ℕ → Sizes → ℕ → Option Refusal
short_buffer_for = short_buffer_asking work_size

-- 10 to 12, for the turns of the job
abbrev pub short_buffer : List ℕ → Sizes → List Command → Option Refusal
short_buffer job b past = short_buffer_for job b (count_of TURN past)

-- the commands of a job after all tests, with buffers of these lengths, or its refusal
unfoldable pub decode_for : List ℕ → Sizes → Decoded
decode_for job b = and_then (short_buffer job b) (decode_job job)

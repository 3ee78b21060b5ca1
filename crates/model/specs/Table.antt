-- The command table ("The job"): each command byte with its operands, in the paper's order and under the paper's names; the largest counts.
-- REPLY is that of request S-1, SPAN that of S-5.
use Rattle.std.specs.Prelude.{ℕ, ◌/◌, Bool, false, cond, ◌||◌, List, [], ◌∷◌, eqb, get_or, Option, None, Some}

-- the command bytes
abbrev pub FLOW : ℕ
FLOW = 0x01

abbrev pub NODE : ℕ
NODE = 0x02

abbrev pub VAR : ℕ
VAR = 0x10

abbrev pub FUN : ℕ
FUN = 0x11

abbrev pub REPLY : ℕ
REPLY = 0x12

abbrev pub WIRE : ℕ
WIRE = 0x20

abbrev pub ANY : ℕ
ANY = 0x30

abbrev pub ARG : ℕ
ARG = 0x31

abbrev pub READ : ℕ
READ = 0x32

abbrev pub WRITE : ℕ
WRITE = 0x33

abbrev pub SPAN : ℕ
SPAN = 0x34

abbrev pub BODY : ℕ
BODY = 0x40

abbrev pub SET : ℕ
SET = 0x41

abbrev pub TAKE : ℕ
TAKE = 0x42

abbrev pub GET : ℕ
GET = 0x43

abbrev pub PUT : ℕ
PUT = 0x44

abbrev pub ADD : ℕ
ADD = 0x45

abbrev pub PLUS : ℕ
PLUS = 0x46

abbrev pub JUMPZ : ℕ
JUMPZ = 0x47

abbrev pub JUMP : ℕ
JUMP = 0x48

abbrev pub SEND : ℕ
SEND = 0x49

abbrev pub CALL : ℕ
CALL = 0x4A

abbrev pub SKIP : ℕ
SKIP = 0x4B

abbrev pub START : ℕ
START = 0x50

abbrev pub TURN : ℕ
TURN = 0x60

-- what an operand is, by the name in its column: `target` is that of a wire, `jump` that of a jump; `absent` stands where a command has no
-- operand
pub data OperandKind : Type 0 where
  scope owner start answer node port target function argument value low high variable jump absent : OperandKind

-- the bytes of an operand: one, but four for `value`, `start` and `answer`, and for `argument`, `low` and `high`
abbrev pub width : OperandKind → ℕ
width scope = 1
width owner = 1
width start = 4
width answer = 4
width node = 1
width port = 1
width target = 1
width function = 1
width argument = 4
width value = 4
width low = 4
width high = 4
width variable = 1
width jump = 1
width absent = 0

-- a row of the table: a command byte and its operands
pub record Row : Type 0 where
  pub byte : ℕ
  pub operands : List OperandKind

-- the row with these
abbrev pub row : ℕ → List OperandKind → Row
row b kinds = record { byte = b; operands = kinds }

-- the table
abbrev pub table : List Row
table =
    row FLOW []
    ∷ row NODE []
    ∷ row VAR (scope ∷ owner ∷ start ∷ [])
    ∷ row FUN (answer ∷ [])
    ∷ row REPLY (function ∷ argument ∷ answer ∷ [])
    ∷ row WIRE (node ∷ port ∷ target ∷ [])
    ∷ row ANY (node ∷ function ∷ [])
    ∷ row ARG (node ∷ function ∷ value ∷ [])
    ∷ row READ (node ∷ variable ∷ [])
    ∷ row WRITE (node ∷ variable ∷ [])
    ∷ row SPAN (node ∷ function ∷ low ∷ high ∷ [])
    ∷ row BODY (node ∷ [])
    ∷ row SET (value ∷ [])
    ∷ row TAKE []
    ∷ row GET (variable ∷ [])
    ∷ row PUT (variable ∷ [])
    ∷ row ADD (value ∷ [])
    ∷ row PLUS (variable ∷ [])
    ∷ row JUMPZ (jump ∷ [])
    ∷ row JUMP (jump ∷ [])
    ∷ row SEND (port ∷ [])
    ∷ row CALL (function ∷ [])
    ∷ row SKIP []
    ∷ row START (node ∷ value ∷ [])
    ∷ row TURN (node ∷ [])
    ∷ []

-- the operands in the first row with this byte
unfoldable pub operands_in : List Row → ℕ → Option (List OperandKind)
operands_in [] b = None
operands_in (r ∷ rows) b = cond (eqb r.byte b) (Some r.operands) (operands_in rows b)

-- the operands of a command byte; none where the byte is no command
unfoldable pub operands_of : ℕ → Option (List OperandKind)
operands_of b = operands_in table b

-- operand i of a list of operands, counted from 0
abbrev pub operand_at : List OperandKind → ℕ → OperandKind
operand_at kinds i = get_or kinds i absent

-- the operands that were found, or the empty list
abbrev pub list_of : Option (List OperandKind) → List OperandKind
list_of None = []
list_of (Some kinds) = kinds

-- what operand i of a command byte is
abbrev pub kind_at : ℕ → ℕ → OperandKind
kind_at b i = operand_at (list_of (operands_of b)) i

-- a command's group: its byte divided by 16, rounded down
abbrev pub group_of : ℕ → ℕ
group_of b = b / 16

-- the byte is that of a range of arguments: ARG or SPAN (S-5)
abbrev pub is_range_byte : ℕ → Bool
is_range_byte b = eqb b ARG || eqb b SPAN

-- the largest counts ("Largest counts"): flows, nodes, variables, functions, REPLY commands (S-1), commands of a body, ARG and SPAN
-- commands together (S-5), turns
abbrev pub max_flows : ℕ
max_flows = 8

abbrev pub max_nodes : ℕ
max_nodes = 32

abbrev pub max_variables : ℕ
max_variables = 64

abbrev pub max_functions : ℕ
max_functions = 32

abbrev pub max_replies : ℕ
max_replies = 128

abbrev pub max_handler : ℕ
max_handler = 64

abbrev pub max_ranges : ℕ
max_ranges = 256

abbrev pub max_turns : ℕ
max_turns = 4096

-- the highest port
abbrev pub max_port : ℕ
max_port = 3

-- the most messages that wait at one node
abbrev pub max_waiting : ℕ
max_waiting = 16

-- the most bytes of a job
abbrev pub max_job : ℕ
max_job = 16384

-- a largest count of commands: at most `most` of them have one of these bytes
pub record Limit : Type 0 where
  pub bytes : List ℕ
  pub most : ℕ

-- the largest count with these
abbrev pub limit : List ℕ → ℕ → Limit
limit bytes k = record { bytes = bytes; most = k }

-- the largest counts of commands over the whole job
abbrev pub largest_counts : List Limit
largest_counts =
    limit (FLOW ∷ []) max_flows
    ∷ limit (NODE ∷ []) max_nodes
    ∷ limit (VAR ∷ []) max_variables
    ∷ limit (FUN ∷ []) max_functions
    ∷ limit (REPLY ∷ []) max_replies
    ∷ limit (ARG ∷ SPAN ∷ []) max_ranges
    ∷ limit (TURN ∷ []) max_turns
    ∷ []

-- the byte is one of these
unfoldable pub is_among : ℕ → List ℕ → Bool
is_among b [] = false
is_among b (d ∷ bytes) = eqb b d || is_among b bytes

-- the first of these largest counts that the byte belongs to
unfoldable pub largest_in : List Limit → ℕ → Option Limit
largest_in [] b = None
largest_in (l ∷ ls) b = cond (is_among b l.bytes) (Some l) (largest_in ls b)

-- the largest count that a command byte belongs to, if there is one
unfoldable pub largest_of : ℕ → Option Limit
largest_of b = largest_in largest_counts b

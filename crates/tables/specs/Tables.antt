-- What the tables say: the sections, and the value of each name that a job declares, by the cells.
use Rattle.std.specs.Prelude.{ℕ, zero, suc, ◌+◌, ◌*◌, ◌/◌, ◌%◌, Bool, cond, ◌&&◌, ◌||◌, List, [], ◌∷◌, ltb, eqb, is_some, Option, unwrap_or}
use Rattle.model.specs.Declared.{only, is_shared, is_seen}
use Rattle.tables.specs.declared.cells.Section.{Section}
use Rattle.tables.specs.Cells.{section, entry_in, flag_in, mark_in, half_in}
use Rattle.tables.specs.Items.{Item, item, found_item, holds, is_this, is_to, second_of}

-- the sections, in the code's order
abbrev pub count_cells : Section
count_cells = section 0 128

abbrev pub progress_cells : Section
progress_cells = section 128 32

abbrev pub flow_cells : Section
flow_cells = section 160 32

abbrev pub scope_cells : Section
scope_cells = section 192 64

abbrev pub owner_cells : Section
owner_cells = section 256 64

abbrev pub start_cells : Section
start_cells = section 320 64

abbrev pub answer_cells : Section
answer_cells = section 384 32

abbrev pub last_reply_cells : Section
last_reply_cells = section 416 32

abbrev pub length_cells : Section
length_cells = section 448 32

abbrev pub body_cells : Section
body_cells = section 480 32

abbrev pub started_cells : Section
started_cells = section 512 32

abbrev pub first_cells : Section
first_cells = section 544 32

abbrev pub message_cells : Section
message_cells = section 576 32

abbrev pub item_first_cells : Section
item_first_cells = section 608 384

abbrev pub item_second_cells : Section
item_second_cells = section 992 384

abbrev pub link_cells : Section
link_cells = section 1376 384

abbrev pub read_cells : Section
read_cells = section 1760 64

abbrev pub write_cells : Section
write_cells = section 1824 64

abbrev pub any_cells : Section
any_cells = section 1888 64

abbrev pub wire_cells : Section
wire_cells = section 1952 256

abbrev pub last_range_cells : Section
last_range_cells = section 2208 512

-- how many commands have this byte
abbrev pub count_in : List ℕ → ℕ → ℕ
count_in t b = entry_in t count_cells b

-- the highest group so far
abbrev pub group_in : List ℕ → ℕ
group_in t = entry_in t progress_cells 0

-- the node whose handler was opened last
abbrev pub open_in : List ℕ → ℕ
open_in t = entry_in t progress_cells 1

-- the flow of a node
abbrev pub flow_in : List ℕ → ℕ → ℕ
flow_in t n = entry_in t flow_cells n

-- scope, owner and start of a variable
abbrev pub scope_in : List ℕ → ℕ → ℕ
scope_in t x = entry_in t scope_cells x

abbrev pub owner_in : List ℕ → ℕ → ℕ
owner_in t x = entry_in t owner_cells x

abbrev pub start_in : List ℕ → ℕ → ℕ
start_in t x = entry_in t start_cells x

-- FUN's answer of a function
abbrev pub fun_answer_in : List ℕ → ℕ → ℕ
fun_answer_in t f = entry_in t answer_cells f

-- the variable is shared
abbrev pub shared_in : List ℕ → ℕ → Bool
shared_in t x = is_shared (scope_in t x)

-- the node sees the variable
abbrev pub sees_in : List ℕ → ℕ → ℕ → Bool
sees_in t n x = is_seen (scope_in t x) (owner_in t x) n (flow_in t n)

-- how many commands the handler of a node has
abbrev pub length_in : List ℕ → ℕ → ℕ
length_in t n = entry_in t length_cells n

-- the node has a BODY
abbrev pub body_in : List ℕ → ℕ → Bool
body_in t n = flag_in t body_cells n

-- some node of the flow has a START
abbrev pub started_at : List ℕ → ℕ → Bool
started_at t f = flag_in t started_cells f

-- the first messages of a node
abbrev pub firsts_in : List ℕ → ℕ → List ℕ
firsts_in t n = only (flag_in t first_cells n) (entry_in t message_cells n)

-- the port is wired to the target
abbrev pub wired_in : List ℕ → ℕ → ℕ → ℕ → Bool
wired_in t n p m = ltb p 4 && mark_in t wire_cells (n * 4 + p) m

-- reading is permitted, writing is, the call with all arguments is
abbrev pub read_in : List ℕ → ℕ → ℕ → Bool
read_in t n x = mark_in t read_cells n x

abbrev pub write_in : List ℕ → ℕ → ℕ → Bool
write_in t n x = mark_in t write_cells n x

abbrev pub any_in : List ℕ → ℕ → ℕ → Bool
any_in t n f = mark_in t any_cells n f

-- how many items there are
abbrev pub item_count_in : List ℕ → ℕ
item_count_in t = entry_in t progress_cells 2

-- what is kept of an item besides its numbers, in one number: the byte of its command, and the item before it in its chain, by its number
-- plus 1, or 0 if there is none
abbrev pub link : ℕ → ℕ → ℕ
link b before = b * 65536 + before % 65536

-- item i
abbrev pub item_in : List ℕ → ℕ → Item
item_in t i = item (entry_in t link_cells i / 65536) (entry_in t item_first_cells i) (entry_in t item_second_cells i)

-- the item before item i in its chain: its number plus 1, or 0
abbrev pub before_in : List ℕ → ℕ → ℕ
before_in t i = entry_in t link_cells i % 65536

-- the items of a chain from item `at` - 1 back, each given by the one after it, as far as they are among the first `k`
unfoldable pub chain_in : List ℕ → ℕ → ℕ → List Item
chain_in t zero at = []
chain_in t (suc k) at = cond (eqb at (suc k)) (item_in t k ∷ chain_in t k (before_in t k)) (chain_in t k at)

-- the half of a node and a function, 32 functions a node
abbrev pub range_place : ℕ → ℕ → ℕ
range_place n f = n * 32 + f

-- the last range of a node and a function: its number among the items plus 1, or 0 if there is none
abbrev pub last_range_in : List ℕ → ℕ → ℕ → ℕ
last_range_in t n f = cond (ltb f 32) (half_in t last_range_cells (range_place n f)) 0

-- the ranges of a node and a function, the latest first
abbrev pub ranges_in : List ℕ → ℕ → ℕ → List Item
ranges_in t n f = chain_in t (last_range_in t n f) (last_range_in t n f)

-- there is a command with this byte, node, function, low and high
abbrev pub listed_in : List ℕ → ℕ → ℕ → ℕ → ℕ → ℕ → Bool
listed_in t b n f low high = is_some (found_item (is_this (item b low high)) (ranges_in t n f))

-- a range permits the call with this argument
abbrev pub in_range_in : List ℕ → ℕ → ℕ → ℕ → Bool
in_range_in t n f v = is_some (found_item (holds v) (ranges_in t n f))

-- the call with this argument is permitted
abbrev pub call_in : List ℕ → ℕ → ℕ → ℕ → Bool
call_in t n f v = any_in t n f || in_range_in t n f v

-- the last reply of a function: its number among the items plus 1, or 0 if there is none
abbrev pub last_reply_in : List ℕ → ℕ → ℕ
last_reply_in t f = entry_in t last_reply_cells f

-- the replies of a function, the latest first
abbrev pub replies_in : List ℕ → ℕ → List Item
replies_in t f = chain_in t (last_reply_in t f) (last_reply_in t f)

-- the answer of a function in its reply to an argument, if there is one
abbrev pub reply_in : List ℕ → ℕ → ℕ → Option ℕ
reply_in t f v = second_of (found_item (is_to v) (replies_in t f))

-- the answer of a function to an argument: that reply's, and without one FUN's
abbrev pub answer_in : List ℕ → ℕ → ℕ → ℕ
answer_in t f v = unwrap_or (reply_in t f v) (fun_answer_in t f)

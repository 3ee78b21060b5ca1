-- The bytes of the snapshot, part by part.
use Prim.Native.Nat.{ℕ, zero, suc, ◌+◌, ◌*◌, ◌%◌, ◌≤◌, ◌<◌}
use mathlib.Core.Path.{◌≡◌, refl, sym, ap, ◌∙◌}
use mathlib.Core.List.{List, [], ◌∷◌, ◌++◌}
use native.Mathlib.Nat.{mod-eq_of_lt}
use native.Mathlib.Numerals.{add-one}
use native.Mathlib.Omega.{arith}
use lib.ListN.{length, get_or, take, drop, length-drop, length-append, length-take}
use lib.Seq.{length-take-le, take-suc}
use Rattle.model.specs.State.{Message, State, queue_at, waiting_at, variable_at}
use Rattle.model.specs.Output.{bytes4, messages_bytes, node_bytes, nodes_bytes, part_start, variables_bytes}
use Rattle.model.specs.Valid.{Bounded}
use Rattle.model.proofs.Bounds.{length-messages, length-nodes, length-variables, nodes-next}
use Rattle.model.proofs.Parts.{start-next}
use Rattle.memory.specs.Queues.{paired, BoundedCounts}
use Rattle.memory.proofs.Pairing.{paired-take, paired-drop}
use Rattle.memory.proofs.Waiting.{queue-at}
use Rattle.engine.specs.declared.State.{State as Code}
use Rattle.engine.specs.Engine.{view}
use Rattle.writing.specs.Writing.{numbers_bytes, Writes}
use Rattle.writing.proofs.Placing.{writes-on, writes_nothing}
use Rattle.writing.proofs.Words.{numbers_snoc}
use Rattle.output.specs.Written.{shown_bytes}

-- the part of node n is written, and the place of the next one is known
pub record NodePut (s : State) (n : ℕ) (before after : List ℕ) (next : ℕ) : Type 0 where
  pub part : Writes (node_bytes s n) before (part_start s n) after next
  pub place : next ≡ part_start s (n + 1)

-- node n of a state of the code
module _ (c : Code) (n : ℕ) (narrow : get_or c.position n 0 < 256) (few : get_or c.waiting n 0 ≤ 16)
    (inside : n * 16 + 16 ≤ length (paired c.queue c.sender)) where
  -- its waiting messages
  abbrev waiting : List Message
  waiting = take (get_or c.waiting n 0) (drop (n * 16) (paired c.queue c.sender))

  -- they are written where those of its slots are
  pub waiting-put :
      (long : ℕ) → long ≡ get_or c.waiting n 0 → (before : List ℕ) (at : ℕ) (after : List ℕ) (next : ℕ)
      → Writes (messages_bytes (paired (take long (drop (n * 16) c.queue)) (take long (drop (n * 16) c.sender)))) before at after next
      → Writes (messages_bytes waiting) before at after next
  waiting-put long e before at after next x =
      rw (← e, ← paired-drop (n * 16) c.queue c.sender, ← paired-take long (drop (n * 16) c.queue) (drop (n * 16) c.sender)) x

  -- its part, as it is put together
  abbrev part : List ℕ
  part =
      (get_or c.position n 0 % 256 ∷ []) ++ bytes4 (get_or c.accumulator n 0) ++ bytes4 (get_or c.message n 0)
      ++ (get_or c.waiting n 0 ∷ [])
      ++ messages_bytes waiting

  all_there : length waiting ≡ get_or c.waiting n 0
  all_there =
      length-take-le (get_or c.waiting n 0) (drop (n * 16) (paired c.queue c.sender))
      (omega (arith, length-drop (n * 16) (paired c.queue c.sender)))

  pub length-waiting : length (messages_bytes waiting) ≡ 5 * get_or c.waiting n 0
  length-waiting = length-messages waiting ∙ ap (λ (k : ℕ). 5 * k) all_there

  messages : queue_at (view c) n ≡ waiting
  messages = let e : n * 16 ≡ 16 * n = omega arith in rw (queue-at c.waiting (paired c.queue c.sender) n, e)

  waits : waiting_at (view c) n ≡ get_or c.waiting n 0
  waits = ap length messages ∙ all_there

  part_node : node_bytes (view c) n ≡ part
  part_node = rw (mod-eq_of_lt narrow, waits, messages)

  -- at the place where the parts before it end
  pub node_put : (at : ℕ) → at ≡ part_start (view c) n → (before after : List ℕ) (next : ℕ) → Writes part before at after next
      → NodePut (view c) n before after next
  node_put at here before after next x =
      let writes : Writes (node_bytes (view c) n) before (part_start (view c) n) after next = rw (part_node, ← here) x in
      record { part = writes; place = writes.place ∙ sym (start-next (view c) n) ∙ ap (part_start (view c)) (sym (add-one n)) }

-- the parts of the first nodes are written, and the place of the next one is known: what a loop over the nodes keeps
pub record Shown (s : State) (before : List ℕ) (n : ℕ) (snapshot : List ℕ) (at : ℕ) : Type 0 where
  pub parts : Writes (nodes_bytes s n) before 0 snapshot at
  pub place : at ≡ part_start s n
  pub short : at ≤ 90 * n
  pub size : length snapshot ≡ length before

pub none_shown : (s : State) (before : List ℕ) → Shown s before 0 before 0
unfolding nodes_bytes
none_shown s before = record { parts = writes_nothing before 0; place = refl; short = omega arith; size = refl }

-- where the counts are bounded, so are the queues of the model's state
pub view_bounded : (c : Code) → BoundedCounts c.waiting → Bounded (view c)
view_bounded c bounded n =
    omega (
      arith,
      ap length (queue-at c.waiting (paired c.queue c.sender) n),
      length-take (get_or c.waiting n 0) (drop (16 * n) (paired c.queue c.sender)),
      bounded n,
    )

pub one_shown :
    (s : State) → Bounded s → (before : List ℕ) (n : ℕ) (snapshot : List ℕ) (at : ℕ) (after : List ℕ) (next : ℕ)
    → 90 * n + 90 ≤ length before → length after ≡ length snapshot → Shown s before n snapshot at → NodePut s n snapshot after next
    → Shown s before (n + 1) after next
one_shown s few before n snapshot at after next fits same w x =
    let e : nodes_bytes s (n + 1) ≡ nodes_bytes s n ++ node_bytes s n = ap (nodes_bytes s) (add-one n) ∙ nodes-next s n in
    let part : Writes (node_bytes s n) snapshot at after next = rw w.place x.part in
    let short = length-nodes s few (n + 1) in
    record {
      parts = rw e (writes-on _ _ before 0 snapshot at after next (omega (arith, x.place, short, part.place)) w.parts part);
      place = x.place;
      short = omega (arith, x.place, short);
      size = same ∙ w.size;
    }

-- numbers, with one more
numbers-next : (vs : List ℕ) (i : ℕ) → i < length vs → numbers_bytes (take (i + 1) vs) ≡ numbers_bytes (take i vs) ++ bytes4 (get_or vs i 0)
numbers-next vs i h = ap (λ (k : ℕ). numbers_bytes (take k vs)) (add-one i) ∙ ap numbers_bytes (take-suc vs i 0 h)
    ∙ numbers_snoc (take i vs) (get_or vs i 0)

-- the variables are numbers one after the other
variables_numbers : (s : State) (k : ℕ) → k ≤ length s.variable → variables_bytes s k ≡ numbers_bytes (take k s.variable)
unfolding variables_bytes numbers_bytes
variables_numbers s zero h = refl
variables_numbers s (suc k) h =
    ap (λ (l : List ℕ). l ++ bytes4 (variable_at s k)) (variables_numbers s k (omega arith))
    ∙ sym (numbers-next s.variable k (omega arith)) ∙ ap (λ (i : ℕ). numbers_bytes (take i s.variable)) (add-one k)

-- they are written behind the parts of so many nodes, and the end of the snapshot is known
pub record VariablesPut (s : State) (nodes variables : ℕ) (before after : List ℕ) (next : ℕ) : Type 0 where
  pub part : Writes (variables_bytes s variables) before (part_start s nodes) after next
  pub place : next ≡ length (shown_bytes s nodes variables)

pub variables_put :
    (s : State) (nodes variables : ℕ) → variables ≤ length s.variable
    → (at : ℕ) → at ≡ part_start s nodes → (before after : List ℕ) (next : ℕ)
    → Writes (numbers_bytes (take variables s.variable)) before at after next
    → VariablesPut s nodes variables before after next
variables_put s nodes variables inside at here before after next x =
    let writes : Writes (variables_bytes s variables) before (part_start s nodes) after next =
    rw (variables_numbers s variables inside, ← here) x in
    record { part = writes; place = writes.place ∙ sym (length-append (nodes_bytes s nodes) (variables_bytes s variables)) }

-- nodes, and behind them the variables
pub all_shown :
    (s : State) (nodes variables : ℕ) (before snapshot : List ℕ) (at : ℕ) (after : List ℕ) (next : ℕ)
    → at + 4 * variables ≤ length before → at ≡ part_start s nodes → Writes (nodes_bytes s nodes) before 0 snapshot at
    → Writes (variables_bytes s variables) snapshot (part_start s nodes) after next
    → Writes (shown_bytes s nodes variables) before 0 after next
all_shown s nodes variables before snapshot at after next fits here w x =
    writes-on (nodes_bytes s nodes) _ before 0 snapshot at after next (omega (arith, w.place, length-variables s variables)) w (rw here x)

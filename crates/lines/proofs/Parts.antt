-- The parts of a snapshot, one after the other, and those of a run.
use Prim.Native.Nat.{ℕ, zero, suc, ◌+◌, ◌-◌, ◌*◌, ◌≤◌, ◌<◌}
use mathlib.Core.Path.{◌≡◌, refl, ap}
use mathlib.Core.List.{List, ◌++◌}
use native.Mathlib.Omega.{arith}
use lib.ListN.{length}
use Rattle.writing.specs.Writing.{joined, Writes}
use Rattle.writing.proofs.Putting.{front-room, back-room, two_put, room-first, room-second, room-third, three_put}
use Rattle.model.specs.Output.{Answer}
use Rattle.output.specs.Finding.{next_part, part_at}
use Rattle.output.proofs.Finding.{part_next}
use Rattle.lines.specs.Lines.{entry_line, end_line, part_line, variable_line, node_lines, snapshot_lines, run_lines}

-- a part and those before it lie inside the snapshot
parts_grow : (snapshot : List ℕ) (k d n : ℕ) → n ≡ d + k → part_at snapshot k ≤ part_at snapshot n
unfolding part_at
parts_grow snapshot k zero n e = let same : n ≡ k = omega arith in omega (arith, ap (part_at snapshot) same)
parts_grow snapshot k (suc d) zero e = absurd (omega arith)
parts_grow snapshot k (suc d) (suc n) e = omega (arith, parts_grow snapshot k d n (omega arith))

pub part-inside :
    (snapshot : List ℕ) (nodes variables n place : ℕ) → part_at snapshot nodes + 4 * variables ≤ length snapshot → n < nodes
    → place ≡ part_at snapshot n
    → next_part snapshot place ≤ length snapshot
part-inside snapshot nodes variables n place fits inside e =
    omega (
      arith,
      part_next snapshot n place (next_part snapshot place) e refl,
      parts_grow snapshot (n + 1) (nodes - (n + 1)) nodes
          (omega arith),
    )

-- room for the lines of the nodes, in a text that has room for those of the snapshot
pub nodes-room :
    (snapshot : List ℕ) (nodes variables : ℕ) (before : List ℕ) (at : ℕ) → at + length (snapshot_lines snapshot nodes variables) ≤ length before
    → at + length (joined (part_line snapshot) nodes) ≤ length before
unfolding snapshot_lines
nodes-room snapshot nodes variables before at fits =
    front-room (node_lines snapshot nodes) (joined (variable_line snapshot (part_at snapshot nodes)) variables) before at fits

-- behind the lines of the nodes, at the place of the variables: room for theirs, and with them the snapshot
pub record Behind (snapshot : List ℕ) (nodes variables : ℕ) (before : List ℕ) (at place : ℕ) (buffer : List ℕ) (next : ℕ) : Type 0 where
  pub fits : at + length (snapshot_lines snapshot nodes variables) ≤ length before
  pub here : place ≡ part_at snapshot nodes
  pub shown : Writes (node_lines snapshot nodes) before at buffer next

module _ {snapshot : List ℕ} {nodes variables : ℕ} {before : List ℕ} {at place : ℕ} {buffer : List ℕ} {next : ℕ}
    (b : Behind snapshot nodes variables before at place buffer next) where
  abbrev lines : List ℕ
  lines = joined (variable_line snapshot (part_at snapshot nodes)) variables

  parts : at + length (node_lines snapshot nodes ++ lines) ≤ length before
  unfolding snapshot_lines
  parts = b.fits

  pub variables-room : next + length (joined (variable_line snapshot place) variables) ≤ length buffer
  variables-room = rw b.here (back-room (node_lines snapshot nodes) lines before at parts buffer next b.shown)

  pub snapshot-put :
      {after : List ℕ} {last : ℕ} → Writes (joined (variable_line snapshot place) variables) buffer next after last
      → Writes (snapshot_lines snapshot nodes variables) before at after last
  unfolding snapshot_lines
  snapshot-put {after} {last} p =
      two_put (node_lines snapshot nodes) lines before at parts buffer next b.shown after last (rw b.here at p)

-- a run: entries, answer, snapshot
module _ (x : Answer) (trace snapshot : List ℕ) (nodes variables : ℕ) (before : List ℕ) (at : ℕ)
    (room : at + length (run_lines x trace snapshot nodes variables) ≤ length before) where
  abbrev entries : List ℕ
  entries = joined (entry_line trace) x.turns

  abbrev shown : List ℕ
  shown = snapshot_lines snapshot nodes variables

  fits : at + length (entries ++ (end_line x ++ shown)) ≤ length before
  unfolding run_lines
  fits = room

  pub entries-room : at + length (joined (entry_line trace) x.turns) ≤ length before
  entries-room = room-first entries (end_line x) shown before at fits

  module _ (second : List ℕ) (two : ℕ) (p : Writes (joined (entry_line trace) x.turns) before at second two) where
    pub answer-room : two + length (end_line x) ≤ length second
    answer-room = room-second entries (end_line x) shown before at fits second two p

    module _ (third : List ℕ) (three : ℕ) (q : Writes (end_line x) second two third three) where
      pub snapshot-room : three + length (snapshot_lines snapshot nodes variables) ≤ length third
      snapshot-room = room-third entries (end_line x) shown before at fits second two p third three q

      pub run-put :
          (after : List ℕ) (last : ℕ) → Writes (snapshot_lines snapshot nodes variables) third three after last
          → Writes (run_lines x trace snapshot nodes variables) before at after last
      unfolding run_lines
      run-put = three_put entries (end_line x) shown before at fits second two p third three q

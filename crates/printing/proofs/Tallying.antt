-- The tallies that are printed from an array of counts.
use Prim.Native.Nat.{ℕ, ◌+◌, ◌*◌, ◌<◌}
use mathlib.Core.Path.{◌≡◌, refl, ap, ◌∙◌}
use mathlib.Core.List.{List, ◌++◌}
use native.Mathlib.Omega.{arith}
use lib.ListN.{length, get_or, drop}
use Rattle.model.specs.Command.{Command}
use Rattle.model.specs.Declared.{handler_of}
use Rattle.model.specs.Program.{Program, program_of}
use Rattle.writing.specs.Writing.{joined, Writes}
use Rattle.writing.proofs.Placing.{placed-front}
use Rattle.writing.proofs.Putting.{same_first}
use Rattle.tables.specs.Programs.{Handlers, program_in}
use Rattle.tables.specs.Stands.{Stands}
use Rattle.tables.proofs.Standing.{program-stands}
use Rattle.lines.specs.Lines.{tally_line, four_at, tally_lines_in}
use Rattle.tally.specs.Tallies.{tally_in}
use Rattle.tally.proofs.Fours.{four-at}
use Rattle.printing.specs.Printing.{tally_lines}

-- the handlers count nothing
any-handlers : (t : List ℕ) (hs others : Handlers) (turns : ℕ) (trace snapshot : List ℕ) (nodes : ℕ)
    → tally_lines (program_in t hs) turns trace snapshot nodes ≡ tally_lines (program_in t others) turns trace snapshot nodes
unfolding program_in
any-handlers t hs others turns trace snapshot nodes = refl

-- an array with the counts at its front
pub same_tallies :
    (P : Program) (turns : ℕ) (trace snapshot : List ℕ) (nodes : ℕ) (before counts : List ℕ) (next : ℕ)
    → Writes (joined (tally_in P turns trace snapshot) nodes) before 0 counts next
    → tally_lines_in counts nodes ≡ tally_lines P turns trace snapshot nodes
same_tallies P turns trace snapshot nodes before counts next w =
    same_first (λ n. tally_line n (four_at counts n)) (λ n. tally_line n (f n)) nodes (λ n h. ap (tally_line n) (each n h))
  where
    f : ℕ → List ℕ
    f = tally_in P turns trace snapshot

    rest : List ℕ
    rest = drop (length (joined f nodes)) before

    front : counts ≡ joined f nodes ++ rest
    front = w.buffer ∙ placed-front before (joined f nodes)

    number : (n : ℕ) → n < nodes → (i : ℕ) → i < 4 → get_or counts (4 * n + i) 0 ≡ get_or (f n) i 0
    number n h i l = ap (λ (l : List ℕ). get_or l (4 * n + i) 0) front ∙ four-at f (λ m. refl) nodes n i rest h l

    each : (n : ℕ) → n < nodes → four_at counts n ≡ f n
    each n h =
        let first : 4 * n ≡ 4 * n + 0 = omega arith in
        let zeroth : get_or counts (4 * n) 0 ≡ get_or (f n) 0 0 = ap (λ (p : ℕ). get_or counts p 0) first ∙ number n h 0 (omega arith) in
        rw (zeroth, number n h 1 (omega arith), number n h 2 (omega arith), number n h 3 (omega arith))

-- tables that stand for commands, with any handlers
pub tabled_tallies :
    (t : List ℕ) (past : List Command) → Stands t past → (hs : Handlers) (turns : ℕ) (trace snapshot : List ℕ) (nodes : ℕ)
    → tally_lines (program_in t hs) turns trace snapshot nodes ≡ tally_lines (program_of past) turns trace snapshot nodes
tabled_tallies t past stands hs turns trace snapshot nodes =
    any-handlers t hs (handler_of past) turns trace snapshot nodes
    ∙ ap (λ (P : Program). tally_lines P turns trace snapshot nodes) (program-stands t past stands (handler_of past) (λ n. refl))

-- Turns written out after a job without turns: it is accepted, and its run is that of these turns.
use Prim.Native.Nat.{ℕ, ◌+◌, ◌*◌, ◌≤◌}
use mathlib.Core.Path.{◌≡◌, refl, sym, ap, ◌∙◌}
use mathlib.Core.List.{List, [], ◌∷◌, ◌++◌, append_assoc, append-nil}
use native.Mathlib.Omega.{arith}
use lib.ListN.{length, length-append}
use Rattle.model.specs.Table.{NODE, TURN, max_turns, max_job}
use Rattle.model.specs.Command.{Command}
use Rattle.model.specs.Declared.{count_of, turns_of}
use Rattle.model.specs.Program.{Program, program_of}
use Rattle.model.specs.Run.{Run}
use Rattle.model.specs.Refusal.{accepted, decode_job, Sizes, decode_for}
use Rattle.model.specs.Result.{report, result_of}
use Rattle.model.specs.Dispatch.{turn_bytes}
use Rattle.model.proofs.Lists.{AllBelow}
use Rattle.model.proofs.Program.{program-turn}
use Rattle.model.proofs.Results.{decode_for_accepted}
use Rattle.model.proofs.Growth.{length-turns}
use Rattle.model.proofs.Appending.{turn_at, turn_appended}

-- a job with these turns after it: the same program, and these turns after its own
record Extended (job : List ℕ) (past : List Command) (ns : List ℕ) : Type 0 where
  commands : List Command
  decoded : decode_job (job ++ turn_bytes ns) ≡ accepted commands
  program : program_of commands ≡ program_of past
  turns : turns_of commands ≡ turns_of past ++ ns

-- each is one turn more
extended :
    (ns job : List ℕ) (past : List Command) → decode_job job ≡ accepted past → AllBelow (count_of NODE past) ns
    → length job + 2 * length ns ≤ max_job → count_of TURN past + length ns ≤ max_turns → Extended job past ns
unfolding turn_bytes turns_of count_of
extended [] job past e below room few =
    record { commands = past; decoded = ap decode_job (append-nil job) ∙ e; program = refl; turns = sym (append-nil (turns_of past)) }
extended (n ∷ ns) job past e below room few =
    let c = turn_at (length job) n in
    let next = turn_appended job past e n below.0 (omega arith) (omega arith) in
    let rest = extended ns (job ++ (TURN ∷ n ∷ [])) (c ∷ past) next below.1 (omega (arith, length-append job (TURN ∷ n ∷ [])))
    (omega arith) in
    record {
      commands = rest.commands;
      decoded = ap decode_job (sym (append_assoc job (TURN ∷ n ∷ []) (turn_bytes ns))) ∙ rest.decoded;
      program = rest.program ∙ program-turn c past refl;
      turns = rest.turns ∙ append_assoc (turns_of past) (n ∷ []) ns;
    }

-- 2 bytes a turn
length-bytes : (ns : List ℕ) → length (turn_bytes ns) ≡ 2 * length ns
unfolding turn_bytes
length-bytes [] = refl
length-bytes (n ∷ ns) = omega (arith, length-bytes ns)

-- no turn
none_left : (l : List ℕ) → length l ≡ 0 → l ≡ []
none_left [] e = refl
none_left (x ∷ l) e = absurd (omega arith)

-- with buffers that are long enough for these turns
pub turns-written :
    (run : Program → List ℕ → Run) (job : List ℕ) (b : Sizes) (past : List Command) → decode_job job ≡ accepted past
    → count_of TURN past ≡ 0 → (ns : List ℕ) → AllBelow (count_of NODE past) ns → length ns ≤ max_turns
    → (7 * length ns ≤ b.trace) × (3136 ≤ b.snapshot) × (4096 ≤ b.work) → length (job ++ turn_bytes ns) ≤ max_job
    → result_of run (decode_for (job ++ turn_bytes ns) b) ≡ report (program_of past) (run (program_of past) ns)
turns-written run job b past e without ns below few fits short =
    let x = extended ns job past e below (omega (arith, length-append job (turn_bytes ns), length-bytes ns)) (omega arith) in
    let all : turns_of x.commands ≡ ns =
    x.turns ∙ ap (λ (l : List ℕ). l ++ ns) (none_left (turns_of past) (length-turns past ∙ without)) in
    let count : count_of TURN x.commands ≡ length ns = sym (length-turns x.commands) ∙ ap length all in
    let d = decode_for_accepted (job ++ turn_bytes ns) b x.commands x.decoded (omega (arith, fits.0)) fits.1 fits.2 in
    rw (d, x.program, all)

-- The program that job, tables and work buffer stand for is that of the job's commands, and so are its turns.
use Prim.Native.Nat.{ℕ, ◌≤◌, ◌<◌}
use mathlib.Core.Path.{◌≡◌, sym, ◌∙◌}
use mathlib.Core.List.{List, map}
use native.Mathlib.Omega.{arith}
use lib.ListN.{length, get_or}
use lib.Seq.{ext_get_or}
use Rattle.model.specs.Table.{TURN}
use Rattle.model.specs.Command.{Command}
use Rattle.model.specs.Declared.{instruction, count_of, handler_of}
use Rattle.model.specs.Program.{program_of}
use Rattle.model.specs.State.{tabulate}
use Rattle.model.specs.Turn.{instruction_at}
use Rattle.model.proofs.Lists.{length-tabulate, get_or-tabulate}
use Rattle.model.proofs.Growth.{length-handler, length-turns}
use Rattle.model.proofs.Valid.{job-accepted, reads-valid}
use Rattle.model.proofs.Walking.{PassedEight}
use Rattle.command.specs.Instructions.{instruction_from}
use Rattle.tables.specs.Tables.{count_in, length_in}
use Rattle.tables.specs.Stands.{Stands}
use Rattle.handlers.specs.Loading.{places_of, place_in, slot_in, handlers_in, loaded}
use Rattle.handlers.proofs.Slots.{length-loaded, length-places, place-loaded, beyond-loaded}
use Rattle.handlers.proofs.Fetched.{places-read, fetched-loaded}
use Rattle.tables.specs.Programs.{program_in}
use Rattle.tables.proofs.Standing.{program-stands}
use Rattle.job.specs.Prepared.{PreparedHolds}
use Rattle.job.proofs.LastTurns.{turn_at_lem}

module _ (job t w : List ℕ) (past : List Command) (s : Stands t past) (size : 4096 ≤ length w) (passed : PassedEight job past) where
  short : length job ≤ 65536
  short = omega (arith, passed.size.highest)

  -- the handler of a node
  same-handler : (n : ℕ) → tabulate (length_in t n) (slot_in job (loaded w past) n) ≡ handler_of past n
  same-handler n =
      let e : length_in t n ≡ length (handler_of past n) = s.lengths n ∙ sym (length-handler past n) in
      ext_get_or (instruction 0 0) _ (handler_of past n) (length-tabulate (length_in t n) (slot_in job (loaded w past) n) ∙ e)
      (λ i h.
      let l : i < length_in t n = omega (arith, length-tabulate (length_in t n) (slot_in job (loaded w past) n)) in
      get_or-tabulate (length_in t n) i (slot_in job (loaded w past) n) (instruction 0 0) l ∙ fetched-loaded w size short passed.reads n i (omega arith))

  pub same-program : program_in t (handlers_in job t (loaded w past)) ≡ program_of past
  same-program = program-stands t past s (handlers_in job t (loaded w past)) same-handler

  same-fetched : (n i : ℕ) → i < length ((program_of past).handler n) → slot_in job (loaded w past) n i ≡ instruction_at (program_of past) n i
  unfolding program_of
  same-fetched = fetched-loaded w size short passed.reads

  -- the places in the slots, and the commands there
  same-held : (n i : ℕ) → i < length ((program_of past).handler n) → place_in (loaded w past) n i ≡ get_or (places_of past n) i 0
  unfolding program_of
  same-held n i h = place-loaded w size short passed.reads n i (omega (arith, length-places past n, length-handler past n))

  same_read : (n : ℕ) → map (instruction_from job) (places_of past n) ≡ (program_of past).handler n
  unfolding program_of
  same_read = places-read passed.reads

pub prepared : PreparedHolds
prepared job t w past e s size =
    let passed = (job-accepted job past e).read in
    let counted : count_in t TURN ≡ count_of TURN past = s.counts TURN (omega arith) in
    record {
      program = same-program job t w past s size passed;
      held = same-held job t w past s size passed;
      read = same_read job t w past s size passed;
      fetched = same-fetched job t w past s size passed;
      turns = counted ∙ sym (length-turns past);
      turn = λ k h. rw counted (turn_at_lem job past passed.reads k (omega (arith, length-turns past)));
      size = length-loaded w past;
      beyond = beyond-loaded w past (reads-valid passed.reads);
    }

-- Every accumulator, message and variable stays below 2^32, in every run of a job of bytes; so no output loses anything of them.
use Prim.Native.Nat.{ℕ, zero, suc, ◌+◌, ◌^◌, ◌<◌, ◌/◌, ◌*◌, ◌%◌}
use mathlib.Core.Path.{◌≡◌, ◌∙◌}
use mathlib.Core.Bool.{Bool, true, false, cond, ◌&&◌}
use mathlib.Core.List.{List, [], ◌∷◌}
use Rattle.std.proofs.Common.{Some, unwrap_or}
use native.Mathlib.Omega.{arith}
use native.Mathlib.Nat.{div-div-eq-div-mul, div-add-mod', mod-eq_of_lt}
use lib.Dec.{eqb}
use lib.ListN.{length, get_or, set}
use Rattle.model.specs.Table.{VAR, FUN, START, OperandKind, scope, owner, start, answer, node, port, target, function}
use Rattle.model.specs.Table.{argument, value, low, high, variable, jump, absent, width, operand_at, max_nodes, max_variables}
use Rattle.model.specs.Command.{Operands, Command, is, number_at, first_at, second_at, third_at, fourth_at, operands_at}
use Rattle.model.specs.Declared.{count_of, declared, is_reply, reply_of, belongs, Instruction, instruction, handler_of, starts_of}
use Rattle.model.specs.Program.{Program, program_of}
use Rattle.model.specs.State.{State, position_at, accumulator_at, initial_state}
use Rattle.model.specs.Turn.{sum32, performed, instruction_at, turn}
use Rattle.model.specs.Permission.{monitored_turn}
use Rattle.model.specs.Run.{state_at, monitored_run, unmonitored_run}
use Rattle.model.specs.Output.{bytes4}
use Rattle.model.specs.Refusal.{accepted, decode_job}
use Rattle.model.specs.Conclusion.{Reads, begin, further}
use Rattle.model.specs.Valid.{Bytes, ProgramFits, Fits}
use Rattle.model.proofs.Lists.{get_or-each, only-each, set-each, tabulate-each, replicate-each}
use Rattle.model.proofs.Valid.{job-accepted}
use Rattle.model.proofs.Reading.{read_at, number-four, number-one, number-none}
use Rattle.model.proofs.Ways.{Keeps, performed_with, turn_by, monitored_by}
use Rattle.model.proofs.Messages.{each_first, each-taken, each-delivered}
use Rattle.model.proofs.Runs.{run-each}

-- an operand is below 2^32
module _ (job : List ℕ) (bytes : Bytes job) (at : ℕ) where
  four_fit : number_at job at 4 < 2 ^ 32
  four_fit = rw (number-four job at) (omega (arith, bytes at, bytes (at + 1), bytes (at + 2), bytes (at + 3)))

  one-fits : number_at job at 1 < 2 ^ 32
  one-fits = rw (number-one job at) (omega (arith, bytes at))

  none-fits : number_at job at 0 < 2 ^ 32
  none-fits = rw (number-none job at) (omega arith)

  number_fits : (k : OperandKind) → number_at job at (width k) < 2 ^ 32
  number_fits scope = one-fits
  number_fits owner = one-fits
  number_fits start = four_fit
  number_fits answer = four_fit
  number_fits node = one-fits
  number_fits port = one-fits
  number_fits target = one-fits
  number_fits function = one-fits
  number_fits argument = four_fit
  number_fits value = four_fit
  number_fits low = four_fit
  number_fits high = four_fit
  number_fits variable = one-fits
  number_fits jump = one-fits
  number_fits absent = none-fits

-- the operands of every command are
pub record OperandsFit (x : Operands) : Type 0 where
  pub first : x.first < 2 ^ 32
  pub second : x.second < 2 ^ 32
  pub third : x.third < 2 ^ 32
  pub fourth : x.fourth < 2 ^ 32

abbrev pub CommandsFit : List Command → Type 0
CommandsFit [] = Unit {0}
CommandsFit (c ∷ past) = CommandsFit past × OperandsFit c.operands

reads_fit : {job : List ℕ} {place : ℕ} {past : List Command} → Bytes job → Reads job place past → CommandsFit past
reads_fit bytes begin = tt
reads_fit {job} bytes (further place past c next reads h e v) =
    let r = read_at job place c next e in
    let small : OperandsFit (operands_at job place r.kinds) = record {
      first = number_fits job bytes (first_at place) (operand_at r.kinds 0);
      second = number_fits job bytes (second_at place r.kinds)
          (operand_at r.kinds 1);
      third = number_fits job bytes (third_at place r.kinds) (operand_at r.kinds 2);
      fourth = number_fits job bytes (fourth_at place r.kinds) (operand_at r.kinds 3);
    } in
    (reads_fit bytes reads, rw (← r.command) small)

pub job_fit : (job : List ℕ) (past : List Command) → Bytes job → decode_job job ≡ accepted past → CommandsFit past
job_fit job past bytes e = reads_fit bytes (job-accepted job past e).read.reads

-- a declared value
declared-fits :
    (f : Command → List Command → ℕ) → ((c : Command) (before : List Command) → OperandsFit c.operands → f c before < 2 ^ 32)
    → (b : ℕ) (past : List Command) → CommandsFit past → (x : ℕ) → declared f b past x < 2 ^ 32
unfolding declared
declared-fits f small b [] fit x = omega arith
declared-fits f small b (c ∷ past) fit x = by_test (is b c && eqb (count_of b past) x) (declared-fits f small b past fit.0 x)
  where
    by_test : (t : Bool) → declared f b past x < 2 ^ 32 → cond t (f c past) (declared f b past x) < 2 ^ 32
    by_test true h = small c past fit.1
    by_test false h = h

-- the operands of a handler, and the first messages
handler-fits : (past : List Command) → CommandsFit past → (n i : ℕ) → i < length (handler_of past n)
    → (get_or (handler_of past n) i (instruction 0 0)).operand < 2 ^ 32
unfolding handler_of
handler-fits [] fit n = λ i h. absurd (omega arith)
handler-fits (c ∷ past) fit n =
    only-each (λ k (i : Instruction). i.operand < 2 ^ 32) (instruction 0 0) (handler_of past n) (belongs past c n)
    (instruction c.byte c.operands.first)
    (handler-fits past fit.0 n) (λ _. fit.1.first)

-- an answer, with any number below 2^32 where there is no REPLY
reply-fits : (past : List Command) → CommandsFit past → (f v other : ℕ) → other < 2 ^ 32 → unwrap_or (reply_of past f v) other < 2 ^ 32
unfolding reply_of
reply-fits [] fit f v other h = h
reply-fits (c ∷ past) fit f v other h = by_reply (is_reply f v c) (reply-fits past fit.0 f v other h)
  where
    by_reply :
        (t : Bool) → unwrap_or (reply_of past f v) other < 2 ^ 32
        → unwrap_or (cond t (Some c.operands.third) (reply_of past f v)) other < 2 ^ 32
    by_reply true ih = fit.1.third
    by_reply false ih = ih

starts_fit : (past : List Command) → CommandsFit past → (n i : ℕ) → i < length (starts_of past n) → get_or (starts_of past n) i 0 < 2 ^ 32
unfolding starts_of
starts_fit [] fit n = λ i h. absurd (omega arith)
starts_fit (c ∷ past) fit n =
    only-each (λ i m. m < 2 ^ 32) 0 (starts_of past n) (is START c && eqb c.operands.first n) c.operands.second
    (starts_fit past fit.0 n) (λ _. fit.1.second)

program-fits : (past : List Command) → CommandsFit past → ProgramFits (program_of past)
unfolding program_of
program-fits past fit =
    record {
      start_value = declared-fits (λ c before. c.operands.third) (λ c before o. o.third) VAR past fit;
      answer = λ f v. reply-fits past fit f v _ (declared-fits (λ c before. c.operands.first) (λ c before o. o.first) FUN past fit f);
      operand = λ n. get_or-each (λ k (i : Instruction). i.operand < 2 ^ 32) (instruction 0 0) (handler_of past n) (handler-fits past fit n)
          (λ k. omega arith);
      first_message = λ n. get_or-each (λ k m. m < 2 ^ 32) 0 (starts_of past n) (starts_fit past fit n) (λ k. omega arith);
    }

-- the start
initial_fits : (P : Program) → ProgramFits P → Fits (initial_state P)
unfolding initial_state
initial_fits P fit =
    record {
      accumulator = replicate-each (λ n a. a < 2 ^ 32) 0 max_nodes 0 (λ n. omega arith) (λ n. omega arith);
      message = replicate-each (λ n a. a < 2 ^ 32) 0 max_nodes 0 (λ n. omega arith) (λ n. omega arith);
      queue = each_first (λ n m. m.value < 2 ^ 32) P (λ n i h. fit.first_message n i);
      variable = tabulate-each (λ x a. a < 2 ^ 32) 0 max_variables P.start_value fit.start_value (λ x. omega arith);
    }

-- a turn
module _ (P : Program) (fit : ProgramFits P) (s : State) (n : ℕ) (h : Fits s) where
  set-fits : (l : List ℕ) (a : ℕ) → a < 2 ^ 32 → ((m : ℕ) → get_or l m 0 < 2 ^ 32) → (k m : ℕ) → get_or (set l k a) m 0 < 2 ^ 32
  set-fits l a small all k = set-each (λ m b. b < 2 ^ 32) 0 l k a small all

  performed-fits : (i : Instruction) → i.operand < 2 ^ 32 → Fits (performed P s n i)
  performed-fits i small =
      performed_with (λ a. a < 2 ^ 32) Fits P s n i
      (record {
        operand = small;
        message = h.message n;
        variable = h.variable
            i.operand;
        sum = λ a b. sum_fits a b;
        answer = fit.answer i.operand (accumulator_at s n);
      })
      (λ a l. record {
        accumulator = set-fits s.accumulator a l
            h.accumulator n;
        message = h.message;
        queue = h.queue;
        variable = h.variable;
      })
      (λ x. record {
        accumulator = h.accumulator;
        message = h.message;
        queue = h.queue;
        variable = set-fits s.variable
            (accumulator_at s n) (h.accumulator n) h.variable x;
      })
      (record { accumulator = h.accumulator; message = h.message; queue = h.queue; variable = h.variable })
      (λ j. record { accumulator = h.accumulator; message = h.message; queue = h.queue; variable = h.variable })
      (λ e. record {
        accumulator = h.accumulator;
        message = h.message;
        queue = each-delivered (λ t m. m.value < 2 ^ 32) (P.wired n i.operand) _ s.queue (λ t w. h.accumulator n) h.queue
            max_nodes;
        variable = h.variable;
      })
    where
      sum_fits : (a b : ℕ) → sum32 a b < 2 ^ 32
      sum_fits a b = omega arith

  pub turn-fits : Keeps Fits (turn P s n)
  turn-fits =
      turn_by (Keeps Fits) P s n (λ p w. tt)
      (λ p w.
      record {
        accumulator = set-fits s.accumulator 0 (omega arith) h.accumulator n;
        message = set-fits s.message _ (h.queue n 0 (omega (arith, w))) h.message n;
        queue = each-taken (λ t m. m.value < 2 ^ 32) s.queue n h.queue;
        variable = h.variable;
      })
      (λ l f. tt)
      (λ l f. performed-fits (instruction_at P n (position_at s n)) (fit.operand n (position_at s n)))
      (λ l.
      record {
        accumulator = set-fits s.accumulator 0 (omega arith) h.accumulator n;
        message = set-fits s.message 0 (omega arith) h.message n;
        queue = h.queue;
        variable = h.variable;
      })

  pub monitored-turn-fits : Keeps Fits (monitored_turn P s n)
  monitored-turn-fits = monitored_by (Keeps Fits) P s n turn-fits (λ e. tt)

-- every state of both runs of a job of bytes, with any turns
module _ (job : List ℕ) (past : List Command) (bytes : Bytes job) (reads : Reads job (length job) past) (turns : List ℕ) where
  fitting : ProgramFits (program_of past)
  fitting = program-fits past (reads_fit bytes reads)

  pub unmonitored_words : (k : ℕ) → Fits (state_at (unmonitored_run (program_of past) turns) k)
  unfolding unmonitored_run
  unmonitored_words = run-each Fits (turn (program_of past)) (turn-fits (program_of past) fitting) turns
      (initial_state (program_of past)) (initial_fits (program_of past) fitting)

  pub monitored_words : (k : ℕ) → Fits (state_at (monitored_run (program_of past) turns) k)
  unfolding monitored_run
  monitored_words = run-each Fits (monitored_turn (program_of past)) (monitored-turn-fits (program_of past) fitting) turns
      (initial_state (program_of past)) (initial_fits (program_of past) fitting)

-- the 4 bytes of a number below 2^32 are bytes, and spell it again
pub bytes_below : (v i : ℕ) → get_or (bytes4 v) i 0 < 256
bytes_below v zero = omega arith
bytes_below v (suc zero) = omega arith
bytes_below v (suc (suc zero)) = omega arith
bytes_below v (suc (suc (suc zero))) = omega arith
bytes_below v (suc (suc (suc (suc i)))) = omega arith

spelled : (v a b c p q r s : ℕ) → a * 256 + p ≡ v → b * 256 + q ≡ a → c * 256 + r ≡ b → s ≡ c → p + q * 256 + r * 65536 + s * 16777216 ≡ v
spelled v a b c p q r s e f g h = omega arith

pub bytes_spell : (v : ℕ) → v < 2 ^ 32 → number_at (bytes4 v) 0 4 ≡ v
bytes_spell v h =
    let second : v / 256 / 256 ≡ v / 65536 = div-div-eq-div-mul v 256 256 in
    let third : v / 65536 / 256 ≡ v / 16777216 = div-div-eq-div-mul v 65536 256 in
    let low : v / 16777216 < 256 = omega arith in
    number-four (bytes4 v) 0
    ∙ spelled v (v / 256) (v / 65536) (v / 16777216) (v % 256) (v / 256 % 256) (v / 65536 % 256) (v / 16777216 % 256) (div-add-mod' v 256)
    (rw second at (div-add-mod' (v / 256) 256))
    (rw third at (div-add-mod' (v / 65536) 256))
    (mod-eq_of_lt low)

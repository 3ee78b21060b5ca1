-- What is fetched, by the code's tests; and that it is the command of the handler, for an accepted job.
use Prim.Native.Nat.{ℕ, ◌+◌, ◌-◌, ◌*◌, ◌≤◌, ◌<◌}
use mathlib.Core.Path.{◌≡◌, refl, sym, ap, ◌∙◌}
use mathlib.Core.Bool.{Bool, true, false}
use mathlib.Core.List.{List, ◌++◌, map, map-append}
use Rattle.std.proofs.Common.{None, Some}
use native.Mathlib.Omega.{arith}
use lib.Dec.{ltb}
use lib.ListN.{length, get_or, get_or-map, drop}
use Rattle.std.specs.List.{slice_range}
use Rattle.std.proofs.lemmas.List.{get_or-take, get_or-drop}
use borrow.Author.Tests.{ltb-true, ltb-false, le-leb}
use Rattle.model.specs.Command.{Command, whole, read_command}
use Rattle.model.specs.Declared.{Instruction, instruction, is_handler, belongs, handler_of, only}
use Rattle.model.specs.Conclusion.{Reads, begin, further}
use Rattle.model.specs.Valid.{Valid}
use Rattle.model.proofs.Logic.{and_left}
use Rattle.model.proofs.Growth.{length-handler}
use Rattle.model.proofs.Lists.{length-tabulate, get_or-tabulate, get_or-default}
use Rattle.model.proofs.Naming.{handler_outside}
use Rattle.model.proofs.Reading.{read_at}
use Rattle.model.proofs.Valid.{limits, reads-valid, named}
use Rattle.command.specs.Instructions.{instruction_from, command_in}
use Rattle.command.proofs.Fetching.{command-inside, command-after}
use Rattle.command.proofs.Handled.{named-recognised}
use Rattle.tables.specs.Tables.{length_in}
use Rattle.handlers.specs.Loading.{slot_of, loaded, places_of, place_in, slot_in, handlers_in}
use Rattle.handlers.proofs.Slots.{length-loaded, length-places, number_two, place-loaded}

-- from a slot
module _ (job w : List ℕ) (n i : ℕ) where
  from_slot : slot_of n i + 2 ≤ length w → slot_in job w n i ≡ instruction_from job (place_in w n i)
  from_slot h = rw (le-leb (slot_of n i + 2) (length w) h)

  pub from_part :
      (at : ℕ) (part : List ℕ) (r : Instruction) → at ≡ slot_of n i → at + 2 ≤ length w → part ≡ slice_range w at (at + 2)
      → r ≡ instruction_from job (get_or part 0 0 + get_or part 1 0 * 256) → r ≡ slot_in job w n i
  from_part at part r a h e q =
      q ∙ rw (byte 0 at (omega arith) (omega arith), byte 1 (at + 1) (omega arith) refl, ← number_two w at, a) (sym (from_slot (omega arith)))
    where
      byte : (k i : ℕ) → k < 2 → i ≡ at + k → get_or part k 0 ≡ get_or w i 0
      byte k i z f = rw (e, f) (get_or-take (at + 2 - at) (drop at w) k 0 (omega arith) ∙ get_or-drop at w k 0)

-- the commands at the places of a handler are the commands of the handler
pub places-read :
    {job : List ℕ} {at : ℕ} {past : List Command} → Reads job at past → (n : ℕ)
    → map (instruction_from job) (places_of past n) ≡ handler_of past n
unfolding places_of handler_of
places-read begin n = refl
places-read {job} (further place past c next reads inside e v) n =
    map-append (instruction_from job) (places_of past n) (only (belongs past c n) c.place)
    ∙ rw (places-read reads n) (by_node (belongs past c n) refl)
  where
    by_node :
        (t : Bool) → belongs past c n ≡ t
        → handler_of past n ++ map (instruction_from job) (only t c.place)
        ≡ handler_of past n ++ only t (instruction c.byte c.operands.first)
    by_node true t =
        let r = read_at job place c next e in
        let there : read_command job c.place ≡ whole c next = ap (read_command job) r.here ∙ e in
        let same = named-recognised c.byte c.operands.first
        (record {
          handler = and_left (is_handler c) _ t;
          operand = (named past c (reads-valid reads, r.plain, v)).first;
        }) in
        rw (there, same)
    by_node false t = refl

-- a handler is that of a node
handler-inside : (past : List Command) → Valid past → (n i : ℕ) → i < length (handler_of past n) → n < 32
handler-inside past v n i h = by_range (ltb n 32) refl
  where
    by_range : (t : Bool) → ltb n 32 ≡ t → n < 32
    by_range true e = ltb-true n 32 e
    by_range false e = let z = ap length (handler_outside past v n (ltb-false n 32 e)) in absurd (omega arith)

-- what is fetched after loading
pub fetched-loaded :
    {job : List ℕ} {at : ℕ} {past : List Command} (w : List ℕ) → 4096 ≤ length w → length job ≤ 65536 → Reads job at past
    → (n i : ℕ) → i < length (handler_of past n) → slot_in job (loaded w past) n i ≡ get_or (handler_of past n) i (instruction 0 0)
fetched-loaded {job} {at} {past} w size long reads n i h =
    let valid = reads-valid reads in
    let node = handler-inside past valid n i h in
    let short : i < 64 = omega (arith, length-handler past n, (limits past valid).handlers n) in
    let there : i < length (places_of past n) = omega (arith, length-places past n, length-handler past n) in
    from_slot job (loaded w past) n i (omega (arith, length-loaded w past))
    ∙ ap (instruction_from job) (place-loaded w size long reads n i there)
    ∙ sym (get_or-map (instruction_from job) (places_of past n) i 0)
    ∙ ap (λ (l : List Instruction). get_or l i (instruction_from job 0)) (places-read reads n)
    ∙ get_or-default (handler_of past n) i (instruction_from job 0) (instruction 0 0) h

-- what stands at a position of the handlers in job, tables and work buffer
module _ (job t w : List ℕ) (n position : ℕ) where
  pub handlers-inside : position < length_in t n → command_in (handlers_in job t w n) position ≡ Some (slot_in job w n position)
  handlers-inside h =
      let l = length-tabulate (length_in t n) (slot_in job w n) in
      command-inside (handlers_in job t w n) position (omega (arith, l))
      ∙ ap Some (get_or-tabulate (length_in t n) position (slot_in job w n) (instruction 0 0) h)

  pub handlers-after : length_in t n ≤ position → command_in (handlers_in job t w n) position ≡ None
  handlers-after h = let l = length-tabulate (length_in t n) (slot_in job w n) in
      command-after (handlers_in job t w n) position (omega (arith, l))

-- Loading by a loop over the commands of an accepted job: what the loop keeps.
use Prim.Native.Nat.{ℕ, ◌+◌, ◌≤◌, ◌<◌}
use mathlib.Core.Path.{◌≡◌, refl, sym, ap, ◌∙◌}
use mathlib.Core.Bool.{Bool, true, false, cond, ◌&&◌}
use mathlib.Core.List.{List, [], ◌∷◌}
use native.Mathlib.Omega.{arith}
use lib.Dec.{eqb}
use lib.ListN.{length}
use borrow.Author.Tests.{eqb-true, eq-eqb, le-leb, lt-leb}
use Rattle.model.specs.Table.{BODY, SET, SKIP, group_of}
use Rattle.model.specs.Command.{Command, is, whole, read_command}
use Rattle.model.specs.Declared.{is_handler, open_body, body_length}
use Rattle.model.specs.Refusal.{Decoded, accepted, rejected, decode_job}
use Rattle.model.specs.Valid.{Valid}
use Rattle.model.proofs.Reading.{read_at}
use Rattle.model.proofs.Scanning.{Scanning, scanning-start, scanning_end, scanning-reads, scanning-passes, scanning-on, scanning-behind}
use Rattle.model.proofs.Retracing.{read-accepted}
use Rattle.model.proofs.Growth.{open_next, body_next}
use Rattle.model.proofs.Naming.{body_fresh}
use Rattle.model.proofs.Valid.{job-accepted, limits}
use Rattle.command.specs.Rows.{is_handler_byte}
use Rattle.std.proofs.Common.{None}
use Rattle.command.specs.Reading.{head_in}
use Rattle.command.proofs.Taken.{head_there}
use Rattle.handlers.specs.Loading.{slot_of, stored, loaded}
use Rattle.model.specs.Refusal.{IsAccepted, commands_of}

-- an accepted job has its commands
pub accepted-is : (d : Decoded) → IsAccepted d → d ≡ accepted (commands_of d)
accepted-is (accepted past) i = refl
accepted-is (rejected r) i = absurd i

-- a command of a group above 4 is no handler command
loaded-above : (w : List ℕ) (past : List Command) (c : Command) → 4 < group_of c.byte → loaded w (c ∷ past) ≡ loaded w past
unfolding loaded
loaded-above w past c above = rw (le-leb SET c.byte (omega arith), lt-leb c.byte SKIP (omega arith))

-- the commands before a place are loaded: `w` are the bytes at the start, `u` those now
pub record Keeping (job : List ℕ) (all : List Command) (w u : List ℕ) (place opened index : ℕ) : Type 0 where
  pub past : List Command
  pub scanning : Scanning job all place past
  pub valid : Valid past
  pub open_node : opened ≡ open_body past
  pub position : index ≡ body_length past (open_body past)
  pub same : u ≡ loaded w past

pub keeping_start : (job : List ℕ) (all : List Command) (w : List ℕ) → decode_job job ≡ accepted all → Keeping job all w w 0 0 0
unfolding open_body body_length loaded
keeping_start job all w e =
    record {
      past = [];
      scanning = scanning-start job all (read-accepted job all (job-accepted job all e).read);
      valid = tt;
      open_node = refl;
      position = refl;
      same = refl;
    }

module _ {job : List ℕ} {all : List Command} {w u : List ℕ} {place opened index : ℕ} (k : Keeping job all w u place opened index) where
  pub keeping_end : length job ≤ place → u ≡ loaded w all
  keeping_end h = k.same ∙ ap (loaded w) (scanning_end k.scanning h)

  -- the position is inside a handler
  pub keeping_position : index ≤ 64
  keeping_position = omega (arith, k.position, (limits k.past k.valid).handlers (open_body k.past))

  module _ (h : place < length job) where
    -- a whole command is read
    pub keeping_reads : {A : Type 0} → None ≡ head_in (read_command job place) → A
    keeping_reads e = let r = scanning-reads k.scanning h in head_there job place r.0 r.1 r.2 e

    module _ (c : Command) (next : ℕ) (read : read_command job place ≡ whole c next) where
      more : Valid (c ∷ k.past)
      more = (k.valid, (read_at job place c next read).plain, scanning-passes k.scanning h c next read)

      -- the position in the handler that is open after the command
      next-position :
          cond (is BODY c) 0
          (cond (is_handler c) (body_length k.past (open_body k.past) + 1) (body_length k.past (open_body k.past)))
          ≡ body_length (c ∷ k.past) (open_body (c ∷ k.past))
      next-position = rw (open_next c k.past) (by_body (is BODY c) refl)
        where
          by_body :
              (t : Bool) → is BODY c ≡ t
              → cond t 0 (cond (is_handler c) (body_length k.past (open_body k.past) + 1) (body_length k.past (open_body k.past)))
              ≡ body_length (c ∷ k.past) (cond t c.operands.first (open_body k.past))
          by_body true e =
              let b : c.byte ≡ BODY = eqb-true c.byte BODY e in
              let z : is_handler c ≡ false = rw b in
              sym (body_next c k.past c.operands.first ∙ rw z (body_fresh k.past c more e))
          by_body false e = sym (body_next c k.past (open_body k.past)
              ∙ rw (eq-eqb (open_body k.past) (open_body k.past) refl) (by_handler (is_handler c)))
            where
              by_handler :
                  (t : Bool) → cond (t && true) (body_length k.past (open_body k.past) + 1)
                  (body_length k.past (open_body k.past)) ≡ cond t (body_length k.past (open_body k.past) + 1)
                  (body_length k.past (open_body k.past))
              by_handler true = refl
              by_handler false = refl

      -- after the command, by its byte and operand in the head that the code has of it
      pub keeping_on :
          (byte first : ℕ) → byte ≡ c.byte → first ≡ c.operands.first
          → (x : List ℕ) (o i : ℕ)
          → x ≡ cond (is_handler_byte byte) (stored u (slot_of opened index) place) u
          → i ≡ cond (eqb byte BODY) 0 (cond (is_handler_byte byte) (index + 1) index)
          → o ≡ cond (eqb byte BODY) first opened
          → Keeping job all w x next o i
      unfolding loaded
      keeping_on byte first b a x o i e f g =
          let r = read_at job place c next read in
          record {
            past = c ∷ k.past;
            scanning = scanning-on k.scanning h c next read;
            valid = more;
            open_node = g ∙ rw (b, a, k.open_node, open_next c k.past);
            position = f ∙ rw (b, k.position) next-position;
            same = e ∙ rw (b, ← r.here, k.same, k.open_node, k.position);
          }

      -- no handler command stands behind a command of a group above 4
      pub keeping_behind : 4 < group_of c.byte → u ≡ loaded w all
      keeping_behind above =
          k.same ∙ sym (scanning-behind k.scanning h c next read (loaded w) 4 (loaded-above w) above)

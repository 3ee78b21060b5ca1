-- One more command in the tables: every section then says what the model says of one command more.
use Prim.Native.Nat.{ℕ}
use mathlib.Core.Path.{◌≡◌, ap, ◌∙◌}
use mathlib.Core.List.{List, ◌∷◌}
use Rattle.model.specs.Command.{Command}
use Rattle.command.specs.declared.read.Command.{Command as Code}
use Rattle.command.specs.Reading.{command_of}
use Rattle.tables.specs.Cells.{put_in}
use Rattle.tables.specs.Tables.{count_cells, progress_cells, count_in}
use Rattle.tables.specs.Stands.{Stands}
use Rattle.notes.specs.Notes.{Notes}
use Rattle.tables.specs.Writes.{one_more, made, written, command_writes, note_writes, tables_of}
use Rattle.tables.proofs.Sections.{length-written}
use Rattle.notes.proofs.After.{after, Admitted}
use Rattle.notes.proofs.Declaring.{counts-next, group-next, opened-next, flow_next, scope-next, owner-next, start-next}
use Rattle.notes.proofs.Declaring.{fun_answer_next, lengths-next, bodies-next, started-after, firsts-next}
use Rattle.notes.proofs.Marking.{reads-next, writes-next, anys-next, wires-next}
use Rattle.notes.proofs.Itemizing.{item-count-next, last-ranges-next, arguments-next, spans-next, calls-next, last-replies-next}
use Rattle.notes.proofs.Itemizing.{replies-after}

-- the tables stand for one command more
stands-next : {t : List ℕ} {past : List Command} {c : Command} → Admitted t past c → Stands (after t c) (c ∷ past)
unfolding after tables_of
stands-next {t} {past} {c} one =
    record {
      size = length-written t (note_writes t c) ∙ one.stands.size;
      counts = counts-next one;
      group = group-next one;
      opened = opened-next one;
      flow = flow_next one;
      scope = scope-next one;
      owner = owner-next one;
      start_value = start-next one;
      fun_answer = fun_answer_next one;
      lengths = lengths-next one;
      bodies = bodies-next one;
      started = started-after one;
      firsts = firsts-next one;
      wires = wires-next one;
      reads = reads-next one;
      writes = writes-next one;
      anys = anys-next one;
      item_count = item-count-next one;
      last_ranges = last-ranges-next one;
      arguments = arguments-next one;
      spans = spans-next one;
      calls = calls-next one;
      last_replies = last-replies-next one;
      replies = replies-after one;
      cells = ap (λ (u : List ℕ). written u (note_writes u c)) one.stands.cells;
    }

-- the tables after the writes as the code makes them, one after the other
pub stands-noted :
    (t : List ℕ) (c : Code) (have : ℕ) (u₁ u₂ u₃ : List ℕ) → have ≡ count_in t c.byte
    → u₁ ≡ written t (command_writes t (command_of c)) → u₂ ≡ put_in u₁ count_cells c.byte (one_more have)
    → u₃ ≡ put_in u₂ progress_cells 0 c.group → Notes t c u₃
unfolding made after
stands-noted t c have u₁ u₂ u₃ h e₁ e₂ e₃ past g s v few =
    rw (e₃, e₂, e₁, h, g) (stands-next {c = command_of c} (record { stands = s; valid = v; few = few }))

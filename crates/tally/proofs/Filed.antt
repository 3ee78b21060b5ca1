-- The counts made from bytes are those of the run.
use Prim.Native.Nat.{ℕ, ◌*◌, ◌/◌, ◌≤◌, ◌<◌}
use mathlib.Core.Path.{◌≡◌, ap, ◌∙◌}
use mathlib.Core.List.{List, [], ◌++◌, append-nil}
use native.Mathlib.Omega.{arith}
use lib.ListN.{length, drop, length-append, length-map}
use Rattle.model.specs.Program.{Program, program_of}
use Rattle.model.specs.Run.{Run, Step, entries_of, entry_at}
use Rattle.model.specs.Output.{trace_in, snapshot_bytes}
use Rattle.model.specs.Result.{written}
use Rattle.model.specs.Tally.{reaches, takes, tally_of}
use Rattle.model.proofs.Counting.{count-agree}
use Rattle.model.proofs.Bounds.{length-trace}
use Rattle.writing.proofs.Putting.{same_first}
use Rattle.output.specs.Finding.{entry_from}
use Rattle.output.proofs.Finding.{waiting_found}
use Rattle.output.proofs.Rereading.{node_back, kind_back, number_of_back}
use Rattle.tally.specs.Tallies.{entries_held, tally_in}
use Rattle.tally.specs.Filed.{filed_tally, FiledHolds, FiledAloneHolds, LeftHolds}

module _ (P : Program) (r : Run) (more rest : List ℕ) where
  abbrev trace : List ℕ
  trace = trace_in r ++ more

  abbrev steps : ℕ
  steps = length r.steps

  entries : length (entries_of r.steps) ≡ steps
  entries = length-map r.steps (λ (t : Step). t.made)

  -- each entry has its node, kind and number
  reaches-back : (n k : ℕ) → k < steps → reaches P n (entry_from trace k) ≡ reaches P n (entry_at r k)
  reaches-back n k h =
      let es = entries_of r.steps in
      let i : k < length es = omega (arith, entries) in
      rw (node_back es more k i, kind_back es more k i, number_of_back es more k i)

  takes_back : (n k : ℕ) → k < steps → takes n (entry_from trace k) ≡ takes n (entry_at r k)
  takes_back n k h =
      let es = entries_of r.steps in
      let i : k < length es = omega (arith, entries) in
      rw (node_back es more k i, kind_back es more k i)

  -- so the counts are those of the run, if as many entries are held
  counts-back : (turns n : ℕ) → entries_held turns trace ≡ steps → n < P.nodes
      → tally_in P turns trace (snapshot_bytes P r.final ++ rest) n ≡ tally_of P (entry_at r) steps r.final n
  counts-back turns n held h =
      rw (
        held,
        count-agree (λ j. reaches P n (entry_from trace j)) (λ j. reaches P n (entry_at r j)) steps (reaches-back n),
        count-agree (λ j. takes n (entry_from trace j)) (λ j. takes n (entry_at r j)) steps (takes_back n),
        waiting_found P r.final rest n h,
      )

  size : length (trace_in r) ≡ 7 * steps
  size = length-trace (entries_of r.steps) ∙ ap (λ (k : ℕ). 7 * k) entries

pub filed_holds : FiledHolds
filed_holds P r more rest n h =
    let long : length r.steps ≤ length (trace_in r ++ more) / 7 =
    omega (arith, size P r more rest, length-append (trace_in r) more) in
    counts-back P r more rest (length r.steps) n (omega (arith, long)) h

pub filed_alone_holds : FiledAloneHolds
filed_alone_holds P r turns rest n long h =
    rw (append-nil (trace_in r)) at (counts-back P r [] rest turns n (rw (append-nil (trace_in r)) held) h)
  where
    bytes : length (trace_in r) ≡ 7 * length r.steps
    bytes = size P r [] rest

    held : entries_held turns (trace_in r) ≡ length r.steps
    held = omega (arith, bytes)

pub left-holds : LeftHolds
left-holds job past r trace snapshot before e =
    let P = program_of past in
    rw e
    (ap (λ (l : List ℕ). written l before)
    (same_first (filed_tally P r (drop (length (trace_in r)) trace) (drop (length (snapshot_bytes P r.final)) snapshot))
    (tally_of P (entry_at r) (length r.steps) r.final) P.nodes (filed_holds P r _ _)))

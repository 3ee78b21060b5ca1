-- What is told and left of a job that is accepted.
use Prim.Native.Nat.{ℕ, ◌≤◌}
use mathlib.Core.Path.{◌≡◌, refl, ◌∙◌}
use mathlib.Core.List.{List}
use Rattle.std.proofs.Common.{Ok}
use native.Mathlib.Omega.{arith}
use Rattle.model.specs.Table.{NODE, max_nodes}
use Rattle.model.specs.Declared.{handler_of}
use Rattle.model.specs.Program.{program_of}
use Rattle.model.specs.Refusal.{decode_job}
use Rattle.model.proofs.Valid.{job-valid, limits}
use Rattle.writing.specs.Writing.{Writes, joined}
use Rattle.writing.proofs.Placing.{placed-front}
use Rattle.tables.specs.Tables.{count_in}
use Rattle.tables.specs.Programs.{program_in}
use Rattle.tables.proofs.Standing.{program-stands}
use Rattle.job.proofs.Judged.{Accepted}
use Rattle.tally.specs.Tallies.{tally_in, nodes_told, tallies_after}

module _ (job t : List ℕ) (a : Accepted (decode_job job) t) (nodes : ℕ) (counted : nodes ≡ count_in t NODE) where
  nodes-same : nodes ≡ (program_of a.past).nodes
  unfolding program_of
  nodes-same = counted ∙ a.stands.counts NODE (omega arith)

  pub few-nodes : nodes ≤ max_nodes
  unfolding program_of
  few-nodes = omega (arith, nodes-same, (limits a.past (job-valid job a.past a.decoded).commands).nodes)

  pub told_of : Ok nodes ≡ nodes_told (decode_job job)
  told_of = rw (a.decoded, nodes-same)

  pub left_of :
      (turns : ℕ) (trace snapshot before after : List ℕ) (next : ℕ)
      → Writes (joined (tally_in (program_in t (handler_of a.past)) turns trace snapshot) nodes) before 0 after next
      → after ≡ tallies_after (decode_job job) turns trace snapshot before
  left_of turns trace snapshot before after next w =
      let P = program-stands t a.past a.stands (handler_of a.past) (λ n. refl) in
      let counts = rw (P, nodes-same) at (w.buffer ∙ placed-front before _) in
      rw a.decoded counts

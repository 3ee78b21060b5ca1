-- The tables of the job count its nodes and variables.
use Rattle.std.proofs.Common.{ℕ, List, ◌∙◌, refl, arith}
use Rattle.model.specs.Refusal.{Decoded, accepted, rejected, commands_of}
use Rattle.model.specs.Table.{NODE, VAR}
use Rattle.tables.specs.Stands.{Stands}
use Rattle.tables.proofs.Blank.{stands-blank}
use Rattle.std.proofs.Common.{Result}
use Rattle.command.specs.declared.refusal.Refusal.{Refusal as Refused}
use Rattle.job.specs.Decoding.{Decides}
use Rattle.conformance.proofs.buffers.snapshot_size.Goals as goal

-- the tables of any job
stands_for : (d : Decoded) (t : List ℕ) (r : Result (Unit {0}) Refused) → Decides d t r → Stands t (commands_of d)
stands_for (accepted past) t r h = h.judged.tables past refl
stands_for (rejected q) t r h = rw (h.cleared q refl) stands-blank

pub returns : goal.returns
returns c =
    let stands = stands_for _ _ _ c.decode.ensures in
    let nodes = c.count_of-nodes.ensures ∙ stands.counts NODE (omega arith) in
    let variables = c.count_of-variables.ensures ∙ stands.counts VAR (omega arith) in
    rw (nodes, variables) at c.size_of.ensures

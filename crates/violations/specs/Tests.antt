-- What the code counts and answers, in the model's words.
use Rattle.std.specs.Prelude.{ℕ, List, Option, Some, None}
use Rattle.model.specs.Table.{FLOW, NODE, VAR, FUN}
use Rattle.model.specs.Refusal.{Counts}
use Rattle.tables.specs.Tables.{count_in}
use Rattle.command.specs.declared.refusal.Reason.{Reason}
use Rattle.command.specs.Refusals.{number_of}
use Rattle.violations.specs.declared.Counts.{Counts as Counted}

-- how many flows, nodes, variables and functions are declared
abbrev pub counts_as : Counted → Counts
counts_as d = record { flows = d.flows; nodes = d.nodes; variables = d.variables; functions = d.functions }

-- what the tables count
abbrev pub counts_in : List ℕ → Counts
counts_in t = record { flows = count_in t FLOW; nodes = count_in t NODE; variables = count_in t VAR; functions = count_in t FUN }

-- the number of the test that refuses a command; 0 if none does
abbrev pub number_if : Option Reason → ℕ
number_if (Some r) = number_of r
number_if None = 0

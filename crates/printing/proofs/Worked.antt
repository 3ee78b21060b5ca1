-- The definitions agree with K1, by computation.
use mathlib.Core.Path.{refl}
use Rattle.text.specs.Text.{digits_within, decimal, field, fields}
use Rattle.writing.specs.Writing.{joined}
use Rattle.output.specs.Finding.{part_at}
use Rattle.lines.specs.Lines.{entry_line, end_line, messages_at, node_line, variable_line, snapshot_lines, run_lines, tally_line}
use Rattle.model.specs.Table.{operands_in, operands_of, is_among, largest_in, largest_of}
use Rattle.model.specs.Command.{number_at, read_command}
use Rattle.model.specs.Declared.{count_of, count_among, occurs, declared, open_body, body_length, handler_of, has, starts_of, started_in, turns_of}
use Rattle.model.specs.Program.{program_of}
use Rattle.model.specs.State.{tabulate, initial_state}
use Rattle.model.specs.Turn.{some_below, delivered, turn}
use Rattle.model.specs.Permission.{monitored_turn}
use Rattle.model.specs.Run.{run_from, monitored_run}
use Rattle.model.specs.Output.{trace_bytes, messages_bytes, nodes_bytes, variables_bytes, snapshot_bytes}
use Rattle.model.specs.Refusal.{any_of, group_falls, violation, decode_from, decode, refuse_first, decode_job, decode_for}
use Rattle.model.specs.Result.{report, monitored}
use Rattle.model.specs.Dispatch.{count_below}
use Rattle.model.specs.Examples.{enough, times, k1, k1_read, four}
use Rattle.printing.specs.Example.{k1_lines, K1Prints}

pub k1_prints : K1Prints
unfolding operands_in operands_of is_among largest_in largest_of
    number_at read_command
    count_of count_among occurs declared open_body body_length handler_of has starts_of started_in turns_of
    program_of tabulate initial_state
    some_below delivered turn monitored_turn
    run_from monitored_run
    trace_bytes messages_bytes nodes_bytes variables_bytes snapshot_bytes
    any_of group_falls violation decode_from decode refuse_first decode_job decode_for
    report monitored
    enough times k1 k1_read four
    digits_within decimal field fields joined entry_line end_line messages_at part_at node_line variable_line snapshot_lines run_lines tally_line
    count_below
    k1_lines
k1_prints = refl

-- The definitions agree with the worked jobs and with the readings of open points, by computation.
use mathlib.Core.Path.{refl}
use Rattle.model.specs.Table.{operands_in, operands_of, is_among, largest_in, largest_of}
use Rattle.model.specs.Command.{number_at, read_command}
use Rattle.model.specs.Declared.{count_of, count_among, occurs, in_span, declared, reply_of, open_body, body_length, handler_of, has}
use Rattle.model.specs.Declared.{starts_of, started_in, turns_of}
use Rattle.model.specs.Program.{program_of}
use Rattle.model.specs.State.{tabulate, initial_state}
use Rattle.model.specs.Turn.{some_below, delivered, turn}
use Rattle.model.specs.Permission.{monitored_turn}
use Rattle.model.specs.Run.{run_from, unmonitored_run, monitored_run}
use Rattle.model.specs.Output.{trace_bytes, messages_bytes, nodes_bytes, variables_bytes, snapshot_bytes}
use Rattle.model.specs.Refusal.{any_of, group_falls, violation, decode_from, decode, refuse_first, decode_job, decode_for}
use Rattle.model.specs.Result.{report, monitored, unmonitored}
use Rattle.model.specs.Examples.{outcome, enough, monitored_row, unmonitored_row, times, k1, k1_read, k7, four, traced, node_part}
use Rattle.model.specs.Examples.{idle_node, waits, ends, no_entry, k1_first, k1_last, examples, ExamplesHold}
use Rattle.model.specs.Readings.{within, nodes, global, turns, order_rows, variable, undeclared_rows, sight_rows, declared_rows, turn_rows}
use Rattle.model.specs.Readings.{calling_then, calling_of, calling, span, arg, answered, called, forbidden, span_rows, reply, any}
use Rattle.model.specs.Readings.{replies, reply_rows, read, write, handling, rests, unused_rows, two_senders, sent_both, self_sender, sender_rows, ReadingsHold}

rows_hold : ExamplesHold × ReadingsHold
unfolding operands_in operands_of is_among largest_in largest_of
    number_at read_command
    count_of count_among occurs in_span declared reply_of open_body body_length handler_of has starts_of started_in turns_of
    program_of tabulate initial_state
    some_below delivered turn monitored_turn
    run_from unmonitored_run monitored_run
    trace_bytes messages_bytes nodes_bytes variables_bytes snapshot_bytes
    any_of group_falls violation decode_from decode refuse_first decode_job decode_for
    report monitored unmonitored
    outcome enough monitored_row unmonitored_row times four traced node_part idle_node waits ends no_entry
    k1 k1_read k7 k1_first k1_last examples
    within nodes global turns order_rows variable undeclared_rows sight_rows declared_rows turn_rows
    calling_then calling_of calling span arg answered called forbidden span_rows
    reply any replies reply_rows
    read write handling rests unused_rows
    two_senders sent_both self_sender sender_rows
rows_hold = (refl, refl)

-- K1 to K11, and 32 and 33 nodes
pub examples_hold : ExamplesHold
examples_hold = rows_hold.0

-- the open points
pub readings_hold : ReadingsHold
readings_hold = rows_hold.1

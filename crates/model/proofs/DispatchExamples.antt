-- The definitions agree with the dispatched jobs worked by hand, by computation.
use mathlib.Core.Path.{refl}
use Rattle.model.specs.Table.{operands_in, operands_of, is_among, largest_in, largest_of}
use Rattle.model.specs.Command.{number_at, read_command}
use Rattle.model.specs.Declared.{count_of, count_among, occurs, in_span, declared, reply_of, open_body, body_length, handler_of, has}
use Rattle.model.specs.Declared.{starts_of, started_in}
use Rattle.model.specs.Program.{program_of}
use Rattle.model.specs.State.{tabulate, initial_state}
use Rattle.model.specs.Turn.{some_below, delivered, turn}
use Rattle.model.specs.Permission.{monitored_turn}
use Rattle.model.specs.Output.{trace_bytes, messages_bytes, nodes_bytes, variables_bytes, snapshot_bytes}
use Rattle.model.specs.Refusal.{any_of, group_falls, violation, decode_from, decode, refuse_first, decode_job}
use Rattle.model.specs.Result.{report}
use Rattle.model.specs.Dispatch.{count_below, first_from, choose, dispatch_from, unmonitored_dispatch, monitored_dispatch, examined_in}
use Rattle.model.specs.DispatchResult.{decode_under, decode_dispatch, dispatch_monitored, dispatch_unmonitored}
use Rattle.model.specs.Examples.{enough, times, k1, k1_read, k7, four, traced, node_part, idle_node, waits, ends, no_entry}
use Rattle.model.specs.DispatchExamples.{dispatch_outcome, row_with, dispatched_row, refused_row, k1_front, served_first, served_next}
use Rattle.model.specs.DispatchExamples.{served_last, three_ready, dispatch_rows, DispatchExamplesHold}
use Rattle.model.specs.DispatchExamples.{ReadyCountExamplesHold}

pub dispatch_examples_hold : DispatchExamplesHold
unfolding operands_in operands_of is_among largest_in largest_of
    number_at read_command
    count_of count_among occurs in_span declared reply_of open_body body_length handler_of has starts_of started_in
    program_of tabulate initial_state
    some_below delivered turn monitored_turn
    trace_bytes messages_bytes nodes_bytes variables_bytes snapshot_bytes
    any_of group_falls violation decode_from decode refuse_first decode_job
    report
    first_from choose dispatch_from unmonitored_dispatch monitored_dispatch examined_in
    decode_under decode_dispatch dispatch_monitored dispatch_unmonitored
    enough times k1 k1_read k7 four traced node_part idle_node waits ends no_entry
    dispatch_outcome row_with dispatched_row refused_row k1_front served_first served_next served_last three_ready dispatch_rows
dispatch_examples_hold = refl

pub ready_count_examples_hold : ReadyCountExamplesHold
unfolding operands_in operands_of is_among largest_in largest_of
    number_at read_command
    count_of count_among occurs in_span declared reply_of open_body body_length handler_of has starts_of started_in
    program_of tabulate initial_state
    some_below delivered turn monitored_turn
    any_of group_falls violation decode_from decode refuse_first decode_job
    count_below first_from choose dispatch_from monitored_dispatch
    times k1 k1_read four k1_front three_ready
ready_count_examples_hold = (refl, refl)

-- The definitions agree with the tallies worked by hand, by computation.
use mathlib.Core.Path.{refl}
use Rattle.model.specs.Table.{operands_in, operands_of, is_among, largest_in, largest_of}
use Rattle.model.specs.Command.{number_at, read_command}
use Rattle.model.specs.Declared.{count_of, count_among, occurs, in_span, declared, reply_of, open_body, body_length, handler_of, has}
use Rattle.model.specs.Declared.{starts_of, started_in, turns_of}
use Rattle.model.specs.Program.{program_of}
use Rattle.model.specs.State.{tabulate, initial_state}
use Rattle.model.specs.Turn.{some_below, delivered, turn}
use Rattle.model.specs.Permission.{monitored_turn}
use Rattle.model.specs.Run.{run_from, monitored_run, unmonitored_run}
use Rattle.model.specs.Refusal.{any_of, group_falls, violation, decode_from, decode, refuse_first, decode_job}
use Rattle.model.specs.Dispatch.{count_below, first_from, choose, dispatch_from, monitored_dispatch}
use Rattle.model.specs.Examples.{times, k1, k1_read, k7, four}
use Rattle.model.specs.DispatchExamples.{k1_front}
use Rattle.model.specs.Tally.{count_if}
use Rattle.model.specs.TallyExamples.{tally_outcome, four_counts, row_of, stop_row, three_wired, tally_rows, TallyExamplesHold}

pub tally_examples_hold : TallyExamplesHold
unfolding operands_in operands_of is_among largest_in largest_of
    number_at read_command
    count_of count_among occurs in_span declared reply_of open_body body_length handler_of has starts_of started_in turns_of
    program_of tabulate initial_state
    some_below delivered turn monitored_turn run_from monitored_run unmonitored_run
    any_of group_falls violation decode_from decode refuse_first decode_job
    count_below first_from choose dispatch_from monitored_dispatch
    times k1 k1_read k7 four k1_front
    count_if
    tally_outcome four_counts row_of stop_row three_wired tally_rows
tally_examples_hold = refl

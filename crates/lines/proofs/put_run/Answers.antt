use Rattle.lines.proofs.Parts.{entries-room, answer-room, snapshot-room, run-put}
use Rattle.lines.proofs.put_run.Goals as goal

pub put_entry_lines-end-requires : goal.put_entry_lines-end-requires
put_entry_lines-end-requires c = record {
  turns_in_bounds = c.requires.turns_in_bounds;
  turns_in_bounds_2 = entries-room _ _ _ _ _ _ _ c.requires.variables_in_bounds_2;
}

pub put_end-first-requires : goal.put_end-first-requires
put_end-first-requires c = answer-room _ _ _ _ _ _ _ c.requires.variables_in_bounds_2 _ _
    c.put_entry_lines-end.ensures

pub put_snapshot_lines-requires : goal.put_snapshot_lines-requires
put_snapshot_lines-requires c = record {
  variables_in_bounds = c.requires.variables_in_bounds;
  variables_in_bounds_2 = snapshot-room _ _ _ _ _ _ _ c.requires.variables_in_bounds_2 _ _ c.put_entry_lines-end.ensures _ _ c.put_end-first.ensures;
}

pub returns : goal.returns
returns c = run-put _ _ _ _ _ _ _ c.requires.variables_in_bounds_2 _ _ c.put_entry_lines-end.ensures _ _ c.put_end-first.ensures _ _
    c.put_snapshot_lines.ensures

use Rattle.edit_events.proofs.Ending.{begin_is_event, commit_is_event, free_is_event, split_is_event, undone_is_rooted, written_is_rooted}
use Rattle.edit_events.proofs.Reading.{read_is_path}
use Rattle.edit_events.proofs.Undoing.{undo_is_event}
use Rattle.edit_events.proofs.Writing.{table_is_event, write_is_event}
use Rattle.edit_events.proofs.laws.edit_event_laws.Goals as goal

pub returns : goal.returns
returns g c = record {
  begin = begin_is_event g.L.Language.language;
  commit = commit_is_event g.L.Language.language;
  free = free_is_event g.L.Language.language;
  path = read_is_path;
  root = written_is_rooted g.L.Language.language;
  undo_root = undone_is_rooted;
  split = split_is_event g.L.Language.language;
  write = write_is_event g.L.Language.language;
  table = table_is_event g.L.Language.language;
  undo = undo_is_event g.L.Language.language;
}

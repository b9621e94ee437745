use Rattle.edit_events.proofs.Descending.{change_goes_down, undo_goes_down}
use Rattle.edit_events.proofs.Planning.{begin_stands, commit_stands, free_stands}
use Rattle.edit_events.proofs.Reading.{read_goes_on, wanted_fits}
use Rattle.edit_events.proofs.laws.asking_laws.Goals as goal

pub returns : goal.returns
returns c = record {
  change = change_goes_down;
  undo = undo_goes_down;
  goes_on = read_goes_on;
  fits = wanted_fits;
  begin = begin_stands;
  commit = commit_stands;
  free = free_stands;
}

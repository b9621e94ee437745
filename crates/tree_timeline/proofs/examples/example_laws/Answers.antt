use Rattle.std.proofs.Common.{refl}
use Rattle.tree_timeline.proofs.examples.example_laws.Goals as goal
use Rattle.tree_timeline.proofs.ExampleTimes.{timeline, covers_whole, covers_left, covers_right}
use Rattle.tree_timeline.proofs.ExampleReads.{walk, light, search}

pub returns : goal.returns
returns c = record {
  timeline = timeline;
  before = covers_whole;
  halves = (covers_left, covers_right);
  walk = walk;
  light = light;
  search = search;
  found = refl;
}

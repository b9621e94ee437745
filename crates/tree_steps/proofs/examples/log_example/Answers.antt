use Rattle.tree_steps.proofs.examples.log_example.Goals as goal
use Rattle.tree_steps.proofs.ExampleLog.{example_timeline}

pub returns : goal.returns
returns c = example_timeline

use Rattle.tree_plan_steps.proofs.ExampleRun.{example_runs}
use Rattle.tree_plan_steps.proofs.laws.example_laws.Goals as goal

pub returns : goal.returns
returns c = record { runs = example_runs }

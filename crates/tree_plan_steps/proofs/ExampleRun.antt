-- For the proofs: the example's groups, one after the other.
use Rattle.history.proofs.SmallMaking.{c7}
use Rattle.tree_plan_steps.specs.Example.{ExampleRuns}
use Rattle.tree_plan_steps.proofs.Example.{begin, commit, create, opening_stands, run7}
use Rattle.tree_plan_steps.proofs.ExampleUndo.{example_undoes}

pub example_runs : ExampleRuns
example_runs = record {
  journal = run7.0;
  judged = c7;
  happens = run7.1;
  stands = opening_stands;
  begin = begin;
  create = create;
  commit = commit;
  undone = example_undoes;
}

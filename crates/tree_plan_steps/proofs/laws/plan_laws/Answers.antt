use Rattle.tree_plan_steps.proofs.Leaves.{put_changes_leaf, remove_changes_leaf}
use Rattle.tree_plan_steps.proofs.Splits.{root_split_is_split, split_is_split}
use Rattle.tree_plan_steps.proofs.laws.plan_laws.Goals as goal

pub returns-clause-put : goal.returns-clause-put
returns-clause-put c = put_changes_leaf

pub returns-clause-remove : goal.returns-clause-remove
returns-clause-remove c = remove_changes_leaf

pub returns-clause-split : goal.returns-clause-split
returns-clause-split c = split_is_split

pub returns-clause-root_split : goal.returns-clause-root_split
returns-clause-root_split c = root_split_is_split

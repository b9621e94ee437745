use Rattle.tree_plan_steps.proofs.UndoItems.{last_undo_is_newest, last_undo_is_read, older_is_undo}
use Rattle.tree_plan_steps.proofs.laws.undo_item_laws.Goals as goal

pub returns-clause-limits : goal.returns-clause-limits
returns-clause-limits c = older_is_undo

pub returns-clause-newest : goal.returns-clause-newest
returns-clause-newest c = last_undo_is_newest

pub returns-clause-read : goal.returns-clause-read
returns-clause-read c = last_undo_is_read

use Rattle.plan_steps.proofs.Creates.{create_is_created}
use Rattle.plan_steps.proofs.Rows.{row_is_changed}
use Rattle.plan_steps.proofs.Undoes.{undo_step_is_undone}
use Rattle.plan_steps.proofs.laws.change_laws.Goals as goal

pub returns-clause-change : goal.returns-clause-change
returns-clause-change c = row_is_changed

pub returns-clause-create : goal.returns-clause-create
returns-clause-create c = create_is_created

pub returns-clause-undo : goal.returns-clause-undo
returns-clause-undo c = undo_step_is_undone

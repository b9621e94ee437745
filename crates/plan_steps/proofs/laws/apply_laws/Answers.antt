use Rattle.plan_steps.proofs.Applying.{change_applies, undo_applies}
use Rattle.plan_steps.proofs.laws.apply_laws.Goals as goal

pub returns-clause-change : goal.returns-clause-change
returns-clause-change c = change_applies

pub returns-clause-undo : goal.returns-clause-undo
returns-clause-undo c = undo_applies

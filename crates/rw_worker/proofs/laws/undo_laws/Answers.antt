use Rattle.rw_worker.proofs.BackLaws.{undoes_in_order}
use Rattle.rw_worker.proofs.laws.undo_laws.Goals as goal

pub returns-clause-order : goal.returns-clause-order
returns-clause-order c = undoes_in_order

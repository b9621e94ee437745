use Rattle.transaction_edits.specs.Stages as transaction
use Rattle.rw_worker.specs.Undoing.{freed}
use Rattle.rw_worker.specs.UndoStages.{work_of}
use Rattle.rw_worker.proofs.LiftLaws.{transaction_ends_calm}
use Rattle.rw_worker.proofs.undo_stages.free_on.Goals as goal

pub returns-in-Some-clause-work : goal.returns-in-Some-clause-work
returns-in-Some-clause-work c =
    transaction_ends_calm (transaction.work_of c.args.edit) freed c.told.result c.in-Some.told (work_of c.freed.result) c.in-Some.is c.told.ensures
    c.freed.ensures.work

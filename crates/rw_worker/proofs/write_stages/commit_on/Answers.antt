use Rattle.transaction_edits.specs.Stages as transaction
use Rattle.rw_worker.specs.Writing.{committed}
use Rattle.rw_worker.specs.WriteStages.{work_of}
use Rattle.rw_worker.proofs.LiftLaws.{transaction_ends}
use Rattle.rw_worker.proofs.write_stages.commit_on.Goals as goal

pub returns-in-Some-clause-work : goal.returns-in-Some-clause-work
returns-in-Some-clause-work c =
    transaction_ends (transaction.work_of c.args.edit) (committed c.args.rows) c.told.result c.in-Some.told (work_of c.committed.result) c.in-Some.is c.told.ensures
    c.committed.ensures.work

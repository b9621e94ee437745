use Rattle.transaction_edits.specs.Stages as transaction
use Rattle.rw_worker.specs.Writing.{begun_then}
use Rattle.rw_worker.specs.WriteStages.{with_first, work_of}
use Rattle.rw_worker.proofs.LiftLaws.{transaction_ends}
use Rattle.rw_worker.proofs.write_stages.begin_on.Goals as goal

pub returns-in-Some-clause-work : goal.returns-in-Some-clause-work
returns-in-Some-clause-work c =
    transaction_ends (transaction.work_of c.args.edit) (begun_then (with_first c.args.first c.args.todo)) c.told.result c.in-Some.told (work_of c.begun.result) c.in-Some.is c.told.ensures
    c.begun.ensures.work

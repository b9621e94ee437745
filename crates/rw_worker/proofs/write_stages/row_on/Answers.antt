use Rattle.row_edits.specs.RowStages as row
use Rattle.rw_worker.specs.Writing.{edited_then}
use Rattle.rw_worker.specs.WriteStages.{to_do, work_of}
use Rattle.rw_worker.proofs.LiftLaws.{row_ends}
use Rattle.rw_worker.proofs.write_stages.row_on.Goals as goal

pub returns-in-Some-clause-work : goal.returns-in-Some-clause-work
returns-in-Some-clause-work c =
    row_ends (row.work_of c.args.edit) (edited_then (to_do c.args.todo c.args.trx)) c.told.result c.in-Some.told (work_of c.after_change.result) c.in-Some.is c.told.ensures
    c.after_change.ensures.work

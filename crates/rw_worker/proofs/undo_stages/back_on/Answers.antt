use Rattle.row_edits.specs.BackStages as back
use Rattle.rw_worker.specs.Undoing.{taken_then, undone}
use Rattle.rw_worker.specs.UndoStages.{work_of}
use Rattle.rw_worker.proofs.LiftLaws.{row_ends_calm}
use Rattle.rw_worker.proofs.undo_stages.back_on.Goals as goal

pub returns-in-Some-clause-work : goal.returns-in-Some-clause-work
returns-in-Some-clause-work c =
    row_ends_calm (back.work_of c.args.edit) (taken_then c.args.session (undone c.args.left c.args.session)) c.told.result c.in-Some.told (work_of c.after_undo.result) c.in-Some.is c.told.ensures
    c.after_undo.ensures.work

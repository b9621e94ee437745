-- For the proofs: what is left, and what is known, at each stage of an undoing.
use Rattle.std.specs.Prelude.{◌≡◌, true, None}
use Rattle.question_tree.specs.Questions.{tells, stops, told}
use Rattle.row_edits.specs.BackStages as back
use Rattle.transaction_edits.specs.Stages as transaction
use Rattle.statement_work.specs.Works.{Rested, Again}
use Rattle.rw_worker.specs.Aims.{Work}
use Rattle.rw_worker.specs.Lifting.{row_over, transaction_over}
use Rattle.rw_worker.specs.Undoing.{freed, taken_then, undoing, undone}
use Rattle.rw_worker.specs.declared.undo_stages.UndoStage.{UndoStage}
use Rattle.rw_worker.specs.declared.undo_stages.UndoStage.TheVariants as stage

abbrev pub work_of : UndoStage → Work
work_of (stage.Looking s) = undoing s
work_of (stage.Back edit s n) = row_over true (back.work_of edit) (taken_then s (undone n s))
work_of (stage.Freeing edit) = transaction_over true (transaction.work_of edit) freed
work_of stage.Rested = tells Rested
work_of (stage.Again s) = tells (Again s)
work_of stage.Stopped = stops

abbrev pub Stands : UndoStage → Type 0
Stands (stage.Looking s) = Unit {0}
Stands (stage.Back edit s n) = told (back.work_of edit) ≡ None
Stands (stage.Freeing edit) = told (transaction.work_of edit) ≡ None
Stands stage.Rested = Unit {0}
Stands (stage.Again s) = Unit {0}
Stands stage.Stopped = Unit {0}

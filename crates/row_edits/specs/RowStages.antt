-- For the proofs: the work that is left at each stage of a row's change.
use Rattle.question_tree.specs.Questions.{tells, stops}
use Rattle.row_edits.specs.declared.row_stages.RowStage.{RowStage}
use Rattle.row_edits.specs.declared.row_stages.RowStage.TheVariants as stage
use Rattle.row_edits.specs.RowEdits.{RowWork, row, arrived, splitting, undo_wanted, slots_wanted, changing}
use Rattle.row_edits.specs.Ways.{way_of}

abbrev pub work_of : RowStage → RowWork
work_of (stage.Down task walk) =
    way_of walk task.change.item.key (arrived (row task.splits task.change) task.change)
work_of (stage.Arrived task path) = arrived (row task.splits task.change) task.change path
work_of (stage.Splitting task path meta) =
    splitting (row task.splits task.change) task.change.item path meta
work_of (stage.Undo change path meta) = undo_wanted change path meta
work_of (stage.Slots change path meta undo) = slots_wanted change path meta undo
work_of (stage.Changing basis) = changing basis
work_of (stage.Told told) = tells told
work_of stage.Stopped = stops

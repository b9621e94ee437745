-- For the proofs: the work that is left at each stage of an undo.
use Rattle.question_tree.specs.Questions.{tells, stops}
use Rattle.row_edits.specs.declared.back_stages.BackStage.{BackStage}
use Rattle.row_edits.specs.declared.back_stages.BackStage.TheVariants as stage
use Rattle.row_edits.specs.BackEdits.{BackWork, back, landed, lacking, slots_wanted, splitting, undo_wanted, undoing}
use Rattle.row_edits.specs.Ways.{way_of}

abbrev pub work_of : BackStage → BackWork
work_of (stage.Looking session at) = undo_wanted session at
work_of (stage.Down task walk) =
    way_of walk task.undo.key
    (landed (back task.splits task.session task.undo) task.session task.undo)
work_of (stage.Lacking task path) =
    lacking (back task.splits task.session task.undo) task.undo.old path
work_of (stage.Splitting task path meta) =
    splitting (back task.splits task.session task.undo) task.undo.old path meta
work_of (stage.Ready session undo path) = slots_wanted session undo path
work_of (stage.Undoing basis) = undoing basis
work_of (stage.Told told) = tells told
work_of stage.Stopped = stops

-- For the proofs: what is known at each stage of an undo.
use Rattle.std.specs.Prelude.{◌≡◌, ℕ, Bool, true, false, List, Option, Some, None}
use Rattle.page_image.specs.Image.{Image}
use Rattle.page_image.specs.Meta.{IsMeta, IsSlots}
use Rattle.page_view.specs.Undo.{IsOld}
use Rattle.tree_change.specs.Way.{IsWayTo}
use Rattle.undo_versions.specs.declared.items.UndoItem.{UndoItem}
use Rattle.row_edits.specs.declared.changes.BackGround.{BackGround}
use Rattle.row_edits.specs.declared.back_stages.BackStage.{BackStage}
use Rattle.row_edits.specs.declared.back_stages.BackStage.TheVariants as stage
use Rattle.row_edits.specs.declared.room.Room.TheVariants as room
use Rattle.row_edits.specs.BackPlans.{can_by}
use Rattle.row_edits.specs.BackEdits.{room_back}

-- the way to the key was read, and the leaf can be changed back
pub record IsBackReady (undo : UndoItem) (path : List Image) : Type 0 where
  pub old : IsOld undo.key undo.old
  pub way : IsWayTo undo.key path
  pub can : can_by undo.old path undo.key ≡ true

-- the plan of the undo can be made
pub record IsBackGround (basis : BackGround) : Type 0 where
  pub ready : IsBackReady basis.undo basis.path
  pub slots : IsSlots basis.slots

abbrev pub Stands : BackStage → Type 0
Stands (stage.Looking session at) = Unit {0}
Stands (stage.Down task walk) = IsOld task.undo.key task.undo.old
Stands (stage.Lacking task path) = IsOld task.undo.key task.undo.old × IsWayTo task.undo.key path
Stands (stage.Splitting task path meta) = IsOld task.undo.key task.undo.old × IsWayTo task.undo.key path × IsMeta meta
    × (room_back task.undo.old path meta ≡ room.Split)
Stands (stage.Ready session undo path) = IsBackReady undo path
Stands (stage.Undoing basis) = IsBackGround basis
Stands (stage.Told told) = Unit {0}
Stands stage.Stopped = Unit {0}

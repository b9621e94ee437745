-- For the proofs: what is known at each stage of a row's change.
use Rattle.std.specs.Prelude.{◌≡◌, Bool, true, List}
use Rattle.page_image.specs.declared.kind.Kind.TheVariants as kind
use Rattle.page_image.specs.Image.{Image}
use Rattle.page_image.specs.Meta.{IsMeta, IsSlots}
use Rattle.tree_change.specs.Way.{IsWayTo}
use Rattle.row_edits.specs.declared.changes.RowChange.{RowChange}
use Rattle.row_edits.specs.declared.changes.RowGround.{RowGround}
use Rattle.row_edits.specs.declared.room.Room.TheVariants as room
use Rattle.row_edits.specs.declared.row_stages.RowStage.{RowStage}
use Rattle.row_edits.specs.declared.row_stages.RowStage.TheVariants as stage
use Rattle.row_edits.specs.Rooms.{has_room, room_of}
use Rattle.row_edits.specs.RowPlans.{IsChange, has_pages}

-- the way to the item's leaf was read
pub record IsArrived (change : RowChange) (path : List Image) : Type 0 where
  pub is : IsChange change
  pub way : IsWayTo change.item.key path

-- a page on it is to be split, and can be
pub record IsToSplit (change : RowChange) (path : List Image) (meta : Image) : Type 0 where
  pub is : IsChange change
  pub way : IsWayTo change.item.key path
  pub is_meta : IsMeta meta
  pub split : room_of change.item path meta ≡ room.Split

-- each page on it has room
pub record IsRoomy (change : RowChange) (path : List Image) (meta : Image) : Type 0 where
  pub is : IsChange change
  pub way : IsWayTo change.item.key path
  pub is_meta : IsMeta meta
  pub room : has_room change.item path ≡ true

-- the plan of the change can be made
pub record IsRowGround (basis : RowGround) : Type 0 where
  pub roomy : IsRoomy basis.change basis.path basis.meta
  pub undo : basis.undo.kind ≡ kind.Undo
  pub slots : IsSlots basis.slots
  pub space : has_pages basis ≡ true

abbrev pub Stands : RowStage → Type 0
Stands (stage.Down task walk) = IsChange task.change
Stands (stage.Arrived task path) = IsArrived task.change path
Stands (stage.Splitting task path meta) = IsToSplit task.change path meta
Stands (stage.Undo change path meta) = IsRoomy change path meta
Stands (stage.Slots change path meta undo) = IsRoomy change path meta × (undo.kind ≡ kind.Undo)
Stands (stage.Changing basis) = IsRowGround basis
Stands (stage.Told edited) = Unit {0}
Stands stage.Stopped = Unit {0}

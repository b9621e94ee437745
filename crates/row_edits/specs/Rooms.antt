-- Stated: whether the way of a change has room for it, and the split that it needs.
use Rattle.std.specs.Prelude.{◌≡◌, ◌+◌, ◌&&◌, ℕ, Bool, true, false, not, nat_lt, nat_le, List, [], ◌∷◌, Result, Ok, Err}
use Rattle.rm_base.specs.declared.limits.TheConstants.{MAX_PAGE_ID}
use Rattle.page_image.specs.Image.{Image}
use Rattle.page_image.specs.Meta.{page_count}
use Rattle.page_view.specs.declared.leaf.LeafItem.{LeafItem}
use Rattle.redo_record.specs.declared.plans.Plan.{Plan}
use Rattle.redo_record.specs.declared.plans.TreeNo.{TreeNo}
use Rattle.tree_change.specs.Effects.{Keeps}
use Rattle.tree_change.specs.Places.{page_on}
use Rattle.tree_change.specs.Room.{lacks_room}
use Rattle.tree_change.specs.Splits.{IsSplitOf, SpaceFor}
use Rattle.row_edits.specs.declared.room.Room.{Room}
use Rattle.row_edits.specs.declared.room.Room.TheVariants as room

-- the first where the test holds, else the second
abbrev pub by : {A : Type 0} → Bool → A → A → A
by true a b = a
by false a b = b

-- each page has room for the item
unfoldable pub has_room : LeafItem → List Image → Bool
has_room item [] = true
has_room item (page ∷ rest) = not (lacks_room item page) && has_room item rest

-- there are pages for a split: two and a level for one of the root, else one
abbrev pub space_by : Bool → Image → ℕ → Bool
space_by true root count = nat_lt root.level 8 && nat_le (count + 1) MAX_PAGE_ID
space_by false root count = nat_le count MAX_PAGE_ID

unfoldable pub has_space : LeafItem → List Image → Image → Bool
has_space item path meta =
    space_by (lacks_room item (page_on path 0)) (page_on path 0) (page_count meta)

-- the room on the way of the item's change, by the meta page's count
abbrev pub room_of : LeafItem → List Image → Image → Room
room_of item path meta =
    by (has_room item path) room.Enough (by (has_space item path meta) room.Split room.Full)

abbrev pub by_answer : Result Plan TreeNo → Room
by_answer (Ok plan) = room.Split
by_answer (Err why) = room.Full

-- the plan splits the first page that has no room, where there is space for it; the tree keeps its
-- items
pub record IsSplitFor (item : LeafItem) (path : List Image) (meta : Image) (plan : Plan)
    : Type 0 where
  pub space : SpaceFor (lacks_room item (page_on path 0)) (page_on path 0) (page_count meta)
  pub splits : IsSplitOf (lacks_room item (page_on path 0)) item path meta plan
  pub keeps : Keeps item.key path meta plan

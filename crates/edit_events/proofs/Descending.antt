-- For the proofs: the machines that change a leaf ask for the pages of a search.
use Rattle.std.proofs.Common.{◌≡◌, ℕ, zero, suc, Bool, true, false, List, [], ◌∷◌, ◌++◌, Option, Some, None, refl}
use Rattle.rm_base.specs.declared.places.UndoPtr.{UndoPtr}
use Rattle.page_image.specs.Image.{Image}
use Rattle.page_image.specs.Meta.{counters_of}
use Rattle.page_view.specs.declared.leaf.LeafItem.{LeafItem}
use Rattle.bplus_tree.specs.Tree.{is_leaf}
use Rattle.range_reader.specs.Walked.{child_in}
use Rattle.question_tree.specs.Questions.{Ask, tells, asks, stops}
use Rattle.tree_timeline.specs.Types.{Key}
use Rattle.undo_versions.specs.declared.items.UndoItem.{UndoItem}
use Rattle.row_edits.specs.declared.changes.RowChange.{RowChange}
use Rattle.row_edits.specs.declared.room.Room.{Room}
use Rattle.row_edits.specs.declared.room.Room.TheVariants as room
use Rattle.row_edits.specs.declared.wishes.Edited.TheVariants as edited
use Rattle.row_edits.specs.BackPlans.{can_by}
use Rattle.row_edits.specs.BackEdits as back
use Rattle.row_edits.specs.BackEdits.{BackWork, room_back}
use Rattle.row_edits.specs.Rooms.{by, room_of}
use Rattle.row_edits.specs.RowEdits.{RowWork, arrived, by_room, changing, grounded, is_page, row, row_work, slots_wanted}
use Rattle.row_edits.specs.RowPlans.{has_pages}
use Rattle.row_edits.specs.Ways.{way}
use Rattle.row_edits.specs.Wishes.{Wish, Input, ReadsUndo, page_in}
use Rattle.edit_events.specs.Descending.{ChangeGoesDown, GoesDown, GoesDownBehind, GoesDownFrom, UndoGoesDown}
use Rattle.edit_events.specs.Reading.{AreInner, EndsAtLeaf, next_of}
use Rattle.edit_events.proofs.Reading.{inner_last, leaf_last, next_last}

-- a way, where the work behind each way that ends at a leaf is as it is to be
way_down : {A : Type 0} (n : ℕ) (key : Key) (root : ℕ) (path : List Image) (page : ℕ)
    (k : List Image → Ask Wish Input A) → page ≡ next_of key root path → AreInner path
    → ((p : List Image) → EndsAtLeaf p → GoesDown key root p (k p))
    → GoesDown key root path (way n key path page k)
unfolding way
way_down zero key root path page k e inner h = tt
way_down (suc n) key root path page k e inner h = (
  e,
  inner,
  λ im.
      go im (is_leaf im.kind) (λ t. h (path ++ im ∷ []) (leaf_last path im inner t))
      (λ f. way_down n key root (path ++ im ∷ []) (child_in im key) k (next_last key root path im)
      (inner_last path im inner f) h) refl,
)
  where
    go : (im : Image) (b : Bool)
        → (is_leaf im.kind ≡ true → GoesDown key root (path ++ im ∷ []) (k (path ++ im ∷ [])))
        → (is_leaf im.kind ≡ false
        → GoesDown key root (path ++ im ∷ []) (way n key (path ++ im ∷ []) (child_in im key) k))
        → is_leaf im.kind ≡ b
        → GoesDown key root (path ++ im ∷ [])
        (by b (k (path ++ im ∷ [])) (way n key (path ++ im ∷ []) (child_in im key) k))
    go im true here below e = here e
    go im false here below e = below e

-- ---- a row's change

slots_by : (change : RowChange) (key : Key) (root : ℕ) (path : List Image) (meta undo slots : Image) (b : Bool)
    → EndsAtLeaf path
    → GoesDown key root path (by b (changing (grounded change path meta undo slots)) (tells edited.SpaceFull))
slots_by change key root path meta undo slots true ends = ends
slots_by change key root path meta undo slots false ends = tt

undo_by : (change : RowChange) (key : Key) (root : ℕ) (path : List Image) (meta : Image) (b : Bool) → EndsAtLeaf path
    → GoesDown key root path
    (by b (asks (ReadsUndo (counters_of meta).undo_page) (λ x. slots_wanted change path meta (page_in x))) stops)
undo_by change key root path meta true ends =
    λ undo slots. slots_by change key root path meta undo slots
    (has_pages (grounded change path meta undo slots)) ends
undo_by change key root path meta false ends = tt

room_by : (again : RowWork) (change : RowChange) (key : Key) (root : ℕ) (path : List Image) (meta : Image) (r : Room)
    → EndsAtLeaf path → GoesDown key root [] again
    → GoesDown key root path (by_room r again change path meta)
room_by again change key root path meta room.Enough ends h =
    undo_by change key root path meta (is_page (counters_of meta).undo_page) ends
room_by again change key root path meta room.Split ends h = (ends, h)
room_by again change key root path meta room.Full ends h = tt

row_down : (n : ℕ) (change : RowChange) → GoesDown change.item.key change.root [] (row n change)
unfolding row
row_down zero change = tt
row_down (suc n) change =
    way_down 9 change.item.key change.root [] change.root (arrived (row n change) change) refl tt
    (λ path ends meta. room_by (row n change) change change.item.key change.root path meta
    (room_of change.item path meta) ends (row_down n change))

pub change_goes_down : ChangeGoesDown
unfolding row_work
change_goes_down change = row_down 32768 change

-- ---- an undo

back_room : (again : BackWork) (key : Key) (root : ℕ) (old : LeafItem) (path : List Image) (meta : Image) (r : Room)
    → EndsAtLeaf path → GoesDown key root [] again
    → GoesDown key root path (back.by_room r again (Some old) path meta)
back_room again key root old path meta room.Enough ends h = tt
back_room again key root old path meta room.Split ends h = (ends, h)
back_room again key root old path meta room.Full ends h = tt

back_lacks : (again : BackWork) (key : Key) (root : ℕ) (o : Option LeafItem) (path : List Image)
    → EndsAtLeaf path → GoesDown key root [] again → GoesDown key root path (back.lacking again o path)
back_lacks again key root None path ends h = tt
back_lacks again key root (Some old) path ends h =
    λ meta. back_room again key root old path meta (room_back (Some old) path meta) ends h

back_lands : (again : BackWork) (session : ℕ) (undo : UndoItem) (path : List Image) (b : Bool)
    → EndsAtLeaf path → GoesDown undo.key undo.root [] again
    → GoesDown undo.key undo.root path
    (by b (back.slots_wanted session undo path) (back.lacking again undo.old path))
back_lands again session undo path true ends h = λ slots. ends
back_lands again session undo path false ends h = back_lacks again undo.key undo.root undo.old path ends h

back_down : (n session : ℕ) (undo : UndoItem) → GoesDown undo.key undo.root [] (back.back n session undo)
unfolding back.back
back_down zero session undo = tt
back_down (suc n) session undo =
    way_down 9 undo.key undo.root [] undo.root (back.landed (back.back n session undo) session undo) refl tt
    (λ path ends. back_lands (back.back n session undo) session undo path
    (can_by undo.old path undo.key) ends (back_down n session undo))

read_down : (session : ℕ) (o : Option UndoItem) → GoesDownFrom o (back.undo_read session o)
read_down session None = refl
read_down session (Some undo) = back_down 32768 session undo

look_down : (session : ℕ) (at : UndoPtr) (b : Bool)
    → GoesDownBehind at
    (by b (asks (ReadsUndo at.page) (λ x. back.undo_read session (back.older (page_in x) at))) stops)
look_down session at true = λ im. read_down session (back.older im at)
look_down session at false = tt

pub undo_goes_down : UndoGoesDown
undo_goes_down session at = look_down session at (is_page at.page)

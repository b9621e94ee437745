-- One plan for each change, and one for each undo.
use Rattle.std.proofs.Common.{◌≡◌, ◌⊎◌, inl, inr, ℕ, zero, suc, Bool, true, false, List, [], ◌∷◌, ◌++◌, Option, Some, None, refl, sym, ap, subst}
use Rattle.rm_base.specs.declared.places.UndoPtr.{UndoPtr}
use Rattle.page_image.specs.Image.{Image}
use Rattle.page_image.specs.Meta.{counters_of}
use Rattle.page_view.specs.declared.leaf.LeafItem.{LeafItem}
use Rattle.bplus_tree.specs.Tree.{is_leaf}
use Rattle.range_reader.specs.Walked.{child_in}
use Rattle.question_tree.specs.Questions.{Ask, tells, asks, stops}
use Rattle.undo_versions.specs.declared.items.UndoItem.{UndoItem}
use Rattle.row_edits.specs.declared.changes.RowChange.{RowChange}
use Rattle.row_edits.specs.declared.room.Room.{Room}
use Rattle.row_edits.specs.declared.room.Room.TheVariants as room
use Rattle.row_edits.specs.declared.wishes.Edited.TheVariants as edited
use Rattle.row_edits.specs.declared.wishes.Taken.TheVariants as taken
use Rattle.row_edits.specs.BackPlans.{can_by}
use Rattle.row_edits.specs.BackEdits as back
use Rattle.row_edits.specs.BackEdits.{BackWork, room_back}
use Rattle.row_edits.specs.Rooms.{by, room_of}
use Rattle.row_edits.specs.RowEdits.{RowWork, arrived, by_room, changing, grounded, is_page, row, row_work, slots_wanted}
use Rattle.row_edits.specs.RowPlans.{has_pages}
use Rattle.row_edits.specs.Ways.{way}
use Rattle.row_edits.specs.Wishes.{Wish, Input, Handed, Ran, Steps, ReadsUndo, ReadsSlots, ReadsMeta, Runs, Splits, Changes, TakesBack, page_in}
use Rattle.row_edits.specs.Laws.{Given, nothing, with_step, with_meta, with_undo, with_slots, IsOneChange, ChangesOnce, IsOneUndo, IsUndoOf, ReadsItem, UndoesOnce}

-- ---- a row's change

-- a way, where the work behind each way that may be read is as it is to be
row_way : (n : ℕ) (change : RowChange) (path : List Image) (page : ℕ) (k : List Image → RowWork)
    → ((p : List Image) → IsOneChange change (record { path = p; meta = None; undo = None; slots = None }) (k p))
    → IsOneChange change (record { path = path; meta = None; undo = None; slots = None }) (way n change.item.key path page k)
unfolding way
row_way zero change path page k h = tt
row_way (suc n) change path page k h = (refl, refl, (λ im. go (is_leaf im.kind) im (h (path ++ im ∷ [])) (row_way n change (path ++ im ∷ []) (child_in im change.item.key) k h)))
  where
    go : (b : Bool) (im : Image)
        → IsOneChange change (record { path = path ++ im ∷ []; meta = None; undo = None; slots = None }) (k (path ++ im ∷ []))
        → IsOneChange change (record { path = path ++ im ∷ []; meta = None; undo = None; slots = None }) (way n change.item.key (path ++ im ∷ []) (child_in im change.item.key) k)
        → IsOneChange change (record { path = path ++ im ∷ []; meta = None; undo = None; slots = None }) (by b (k (path ++ im ∷ [])) (way n change.item.key (path ++ im ∷ []) (child_in im change.item.key) k))
    go true im here below = here
    go false im here below = below

slots_by : (change : RowChange) (path : List Image) (meta undo slots : Image) (b : Bool) → has_pages (grounded change path meta undo slots) ≡ b
    → IsOneChange change (record { path = path; meta = Some meta; undo = Some undo; slots = Some slots })
    (by b (changing (grounded change path meta undo slots)) (tells edited.SpaceFull))
slots_by change path meta undo slots true e = (refl, refl, refl, refl, refl, refl)
slots_by change path meta undo slots false e = inr (meta, undo, slots, refl, refl, refl, e)

undo_by : (change : RowChange) (path : List Image) (meta : Image) (b : Bool)
    → IsOneChange change (record { path = path; meta = Some meta; undo = None; slots = None })
    (by b (asks (ReadsUndo (counters_of meta).undo_page) (λ x. slots_wanted change path meta (page_in x))) stops)
undo_by change path meta true = λ undo slots. slots_by change path meta undo slots (has_pages (grounded change path meta undo slots)) refl
undo_by change path meta false = tt

room_by : (again : RowWork) (change : RowChange) (path : List Image) (meta : Image) (r : Room) → room_of change.item path meta ≡ r
    → IsOneChange change nothing again
    → IsOneChange change (record { path = path; meta = Some meta; undo = None; slots = None }) (by_room r again change path meta)
room_by again change path meta room.Enough e h = undo_by change path meta (is_page (counters_of meta).undo_page)
room_by again change path meta room.Split e h = (refl, refl, refl, h)
room_by again change path meta room.Full e h = inl (meta, refl, e)

row_once : (n : ℕ) (change : RowChange) → IsOneChange change nothing (row n change)
unfolding row
row_once zero change = tt
row_once (suc n) change =
    row_way 9 change [] change.root (arrived (row n change) change)
    (λ path meta. room_by (row n change) change path meta (room_of change.item path meta) refl (row_once n change))

pub changes_once : ChangesOnce
unfolding row_work
changes_once change = row_once 32768 change

-- ---- an undo

back_way : (n session : ℕ) (undo : UndoItem) (path : List Image) (page : ℕ) (k : List Image → BackWork)
    → ((p : List Image) → IsOneUndo session undo (record { path = p; meta = None; undo = None; slots = None }) (k p))
    → IsOneUndo session undo (record { path = path; meta = None; undo = None; slots = None }) (way n undo.key path page k)
unfolding way
back_way zero session undo path page k h = tt
back_way (suc n) session undo path page k h = (refl, refl, (λ im. go (is_leaf im.kind) im (h (path ++ im ∷ [])) (back_way n session undo (path ++ im ∷ []) (child_in im undo.key) k h)))
  where
    go : (b : Bool) (im : Image)
        → IsOneUndo session undo (record { path = path ++ im ∷ []; meta = None; undo = None; slots = None }) (k (path ++ im ∷ []))
        → IsOneUndo session undo (record { path = path ++ im ∷ []; meta = None; undo = None; slots = None }) (way n undo.key (path ++ im ∷ []) (child_in im undo.key) k)
        → IsOneUndo session undo (record { path = path ++ im ∷ []; meta = None; undo = None; slots = None }) (by b (k (path ++ im ∷ [])) (way n undo.key (path ++ im ∷ []) (child_in im undo.key) k))
    go true im here below = here
    go false im here below = below

back_room : (again : BackWork) (session : ℕ) (undo : UndoItem) (old : LeafItem) (path : List Image) (meta : Image) (r : Room) → undo.old ≡ Some old
    → room_back undo.old path meta ≡ r → IsOneUndo session undo nothing again
    → IsOneUndo session undo (record { path = path; meta = Some meta; undo = None; slots = None }) (back.by_room r again (Some old) path meta)
back_room again session undo old path meta room.Enough is e h = tt
back_room again session undo old path meta room.Split is e h = (is, refl, refl, h)
back_room again session undo old path meta room.Full is e h = (meta, refl, e)

back_lacks : (again : BackWork) (session : ℕ) (undo : UndoItem) (o : Option LeafItem) (path : List Image) → undo.old ≡ o → IsOneUndo session undo nothing again
    → IsOneUndo session undo (record { path = path; meta = None; undo = None; slots = None }) (back.lacking again o path)
back_lacks again session undo None path is h = tt
back_lacks again session undo (Some old) path is h =
    λ meta. back_room again session undo old path meta (room_back (Some old) path meta) is (ap (λ (p : Option LeafItem). room_back p path meta) is) h

back_lands : (again : BackWork) (session : ℕ) (undo : UndoItem) (path : List Image) (b : Bool) → IsOneUndo session undo nothing again
    → IsOneUndo session undo (record { path = path; meta = None; undo = None; slots = None })
    (by b (back.slots_wanted session undo path) (back.lacking again undo.old path))
back_lands again session undo path true h = λ slots. (refl, refl, refl, refl, refl)
back_lands again session undo path false h = back_lacks again session undo undo.old path refl h

back_once : (n session : ℕ) (undo : UndoItem) → IsOneUndo session undo nothing (back.back n session undo)
unfolding back.back
back_once zero session undo = tt
back_once (suc n) session undo =
    back_way 9 session undo [] undo.root (back.landed (back.back n session undo) session undo)
    (λ path. back_lands (back.back n session undo) session undo path (can_by undo.old path undo.key) (back_once n session undo))

read_once : (session : ℕ) (o : Option UndoItem) → IsUndoOf session o (back.undo_read session o)
read_once session None = refl
read_once session (Some undo) = back_once 32768 session undo

look_once : (session : ℕ) (at : UndoPtr) (b : Bool)
    → ReadsItem session at (by b (asks (ReadsUndo at.page) (λ x. back.undo_read session (back.older (page_in x) at))) stops)
look_once session at true = (refl, (λ im. read_once session (back.older im at)))
look_once session at false = tt

pub undoes_once : UndoesOnce
undoes_once session at = look_once session at (is_page at.page)

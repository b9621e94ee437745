-- Stated: what a row's change, and the undo of a change, ask for on every way through.
use Rattle.std.specs.Prelude.{◌≡◌, ◌⊎◌, ℕ, Bool, true, false, List, [], ◌∷◌, ◌++◌, Option, Some, None}
use Rattle.rm_base.specs.declared.places.UndoPtr.{UndoPtr}
use Rattle.page_image.specs.Image.{Image}
use Rattle.question_tree.specs.Questions.{Ask, tells, asks, stops}
use Rattle.undo_versions.specs.declared.items.UndoItem.{UndoItem}
use Rattle.row_edits.specs.declared.changes.RowChange.{RowChange}
use Rattle.row_edits.specs.declared.changes.BackGround.{BackGround}
use Rattle.row_edits.specs.declared.room.Room.TheVariants as room
use Rattle.row_edits.specs.declared.wishes.Edited.TheVariants as edited
use Rattle.row_edits.specs.declared.wishes.Taken.TheVariants as taken
use Rattle.row_edits.specs.BackEdits.{BackWork, older, room_back, undo_wanted}
use Rattle.row_edits.specs.Rooms.{room_of}
use Rattle.row_edits.specs.RowEdits.{RowWork, grounded, row_work}
use Rattle.tree_change.specs.Places.{leaf_on, with_key}
use Rattle.tree_change.specs.Way.{IsWayTo}
use Rattle.row_edits.specs.RowPlans.{first_of, has_pages, old_in}
use Rattle.row_edits.specs.Wishes.{Wish, Input, Handed, Ran, Steps, ReadsUndo, ReadsSlots, ReadsMeta, Runs, Splits, Changes, TakesBack}

-- the pages that were given since the change began at its root: those of the way, and the last meta,
-- undo and slots page
pub record Given : Type 0 where
  pub path : List Image
  pub meta : Option Image
  pub undo : Option Image
  pub slots : Option Image

abbrev pub nothing : Given
nothing = record { path = []; meta = None; undo = None; slots = None }

abbrev pub with_step : Given → Image → Given
with_step given im = record { path = given.path ++ im ∷ []; meta = given.meta; undo = given.undo; slots = given.slots }

abbrev pub with_meta : Given → Image → Given
with_meta given im = record { path = given.path; meta = Some im; undo = given.undo; slots = given.slots }

abbrev pub with_undo : Given → Image → Given
with_undo given im = record { path = given.path; meta = given.meta; undo = Some im; slots = given.slots }

abbrev pub with_slots : Given → Image → Given
with_slots given im = record { path = given.path; meta = given.meta; undo = given.undo; slots = Some im }

-- no page is left for a split, or none for the undo item or the root of a table
abbrev pub LacksPage : RowChange → Given → Type 0
LacksPage change given =
    ((meta : Image) × (given.meta ≡ Some meta) × (room_of change.item given.path meta ≡ room.Full))
    ⊎ ((meta undo slots : Image) × (given.meta ≡ Some meta) × (given.undo ≡ Some undo)
    × (given.slots ≡ Some slots) × (has_pages (grounded change given.path meta undo slots) ≡ false))

-- A row's change asks for the pages of the way to its key, each behind those that it was given. It
-- splits for its own item alone, by the way and the meta page that it was given, and begins at the
-- root again. It is made by one plan, which stands on exactly the pages that it was given, and is
-- then told. SpaceFull is told only where a page is needed and none is left.
abbrev pub IsOneChange : RowChange → Given → RowWork → Type 0
IsOneChange change given (tells edited.Made) = ⊥
IsOneChange change given (tells edited.SpaceFull) = LacksPage change given
IsOneChange change given (asks (Steps key path page) k) =
    (key ≡ change.item.key) × (path ≡ given.path)
    × ((im : Image) → IsOneChange change (with_step given im) (k (Handed im)))
IsOneChange change given (asks (ReadsUndo page) k) =
    (im : Image) → IsOneChange change (with_undo given im) (k (Handed im))
IsOneChange change given (asks ReadsSlots k) =
    (im : Image) → IsOneChange change (with_slots given im) (k (Handed im))
IsOneChange change given (asks ReadsMeta k) =
    (im : Image) → IsOneChange change (with_meta given im) (k (Handed im))
IsOneChange change given (asks (Runs (Splits item path meta)) k) =
    (item ≡ change.item) × (path ≡ given.path) × (given.meta ≡ Some meta)
    × IsOneChange change nothing (k Ran)
IsOneChange change given (asks (Runs (Changes basis)) k) =
    (basis.change ≡ change) × (basis.path ≡ given.path) × (given.meta ≡ Some basis.meta)
    × (given.undo ≡ Some basis.undo) × (given.slots ≡ Some basis.slots)
    × (k Ran ≡ tells edited.Made)
IsOneChange change given (asks (Runs (TakesBack basis)) k) = ⊥
IsOneChange change given stops = Unit {0}

abbrev pub ChangesOnce : Type 0
ChangesOnce = (change : RowChange) → IsOneChange change nothing (row_work change)

-- An undo asks for the pages of the way to the key of its undo item. Only where an old item is to be
-- put back it reads the meta page, splits, or is to be tried again, and this only where no page is
-- left for a split. It is made by one plan, which stands on the pages that it was given, and then
-- the place of the undo item before is told.
abbrev pub IsOneUndo : ℕ → UndoItem → Given → BackWork → Type 0
IsOneUndo session undo given (tells (taken.Back at)) = ⊥
IsOneUndo session undo given (tells taken.Again) =
    (meta : Image) × (given.meta ≡ Some meta) × (room_back undo.old given.path meta ≡ room.Full)
IsOneUndo session undo given (asks (Steps key path page) k) =
    (key ≡ undo.key) × (path ≡ given.path)
    × ((im : Image) → IsOneUndo session undo (with_step given im) (k (Handed im)))
IsOneUndo session undo given (asks (ReadsUndo page) k) = ⊥
IsOneUndo session undo given (asks ReadsSlots k) =
    (im : Image) → IsOneUndo session undo (with_slots given im) (k (Handed im))
IsOneUndo session undo given (asks ReadsMeta k) =
    (im : Image) → IsOneUndo session undo (with_meta given im) (k (Handed im))
IsOneUndo session undo given (asks (Runs (Splits item path meta)) k) =
    (undo.old ≡ Some item) × (path ≡ given.path) × (given.meta ≡ Some meta)
    × IsOneUndo session undo nothing (k Ran)
IsOneUndo session undo given (asks (Runs (Changes basis)) k) = ⊥
IsOneUndo session undo given (asks (Runs (TakesBack basis)) k) =
    (basis.session ≡ session) × (basis.undo ≡ undo) × (basis.path ≡ given.path)
    × (given.slots ≡ Some basis.slots) × (k Ran ≡ tells (taken.Back undo.before))
IsOneUndo session undo given stops = Unit {0}

-- the undo of what the undo item says, where there is one
abbrev pub IsUndoOf : ℕ → Option UndoItem → BackWork → Type 0
IsUndoOf session None work = work ≡ stops
IsUndoOf session (Some undo) work = IsOneUndo session undo nothing work

-- the undo item is read at its place first
abbrev pub ReadsItem : ℕ → UndoPtr → BackWork → Type 0
ReadsItem session at (asks (ReadsUndo page) k) =
    (page ≡ at.page) × ((im : Image) → IsUndoOf session (older im at) (k (Handed im)))
ReadsItem session at stops = Unit {0}
ReadsItem session at other = ⊥

-- the item with a key in the leaf at the end of its way is the one that the tree has
abbrev pub FoundInTree : Type 0
FoundInTree =
    (key : List ℕ) (path : List Image) (w : IsWayTo key path)
    → old_in (leaf_on path) key ≡ first_of (with_key key w.items)

abbrev pub UndoesOnce : Type 0
UndoesOnce = (session : ℕ) (at : UndoPtr) → ReadsItem session at (undo_wanted session at)

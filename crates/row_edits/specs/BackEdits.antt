-- Stated: what the undo of a change asks for, one thing after the other.
use Rattle.std.specs.Prelude.{◌≡◌, ℕ, zero, suc, Bool, true, false, List, [], ◌∷◌, Option, Some, None}
use Rattle.page_image.specs.Image.{Image}
use Rattle.page_view.specs.declared.leaf.LeafItem.{LeafItem}
use Rattle.rm_base.specs.declared.places.UndoPtr.{UndoPtr}
use Rattle.question_tree.specs.Questions.{Ask, tells, asks, stops}
use Rattle.undo_versions.specs.declared.items.UndoItem.{UndoItem}
use Rattle.undo_versions.specs.Reading as reading
use Rattle.row_edits.specs.declared.changes.BackGround.{BackGround}
use Rattle.row_edits.specs.declared.room.Room.{Room}
use Rattle.row_edits.specs.declared.room.Room.TheVariants as room
use Rattle.row_edits.specs.declared.row_stages.TheConstants.{MOST_SPLITS}
use Rattle.row_edits.specs.declared.stepping.TheConstants.{WAY_PAGES}
use Rattle.row_edits.specs.declared.wishes.Act.{Act}
use Rattle.row_edits.specs.declared.wishes.Act.TheVariants as act
use Rattle.row_edits.specs.declared.wishes.Fetch.TheVariants as fetch
use Rattle.row_edits.specs.declared.wishes.Taken.{Taken}
use Rattle.row_edits.specs.declared.wishes.Taken.TheVariants as taken
use Rattle.row_edits.specs.BackPlans.{can_by}
use Rattle.row_edits.specs.Rooms.{by, room_of}
use Rattle.row_edits.specs.RowEdits.{is_page}
use Rattle.row_edits.specs.Ways.{way}
use Rattle.row_edits.specs.Wishes.{Wish, Input, ReadsUndo, ReadsSlots, ReadsMeta, Runs, TakesBack, Splits, page_in}

abbrev pub BackWork : Type 0
BackWork = Ask Wish Input Taken

abbrev pub Path : Type 0
Path = List Image

abbrev pub older : Image → UndoPtr → Option UndoItem
older = reading.older

-- the one plan of the undo; then the place of the undo item before is told
abbrev pub undoing : BackGround → BackWork
undoing basis = asks (Runs (TakesBack basis)) (λ y. tells (taken.Back basis.undo.before))

abbrev pub grounded : ℕ → UndoItem → Path → Image → BackGround
grounded session undo path slots =
    record { session = session; undo = undo; path = path; slots = slots }

abbrev pub slots_wanted : ℕ → UndoItem → Path → BackWork
slots_wanted session undo path =
    asks ReadsSlots (λ x. undoing (grounded session undo path (page_in x)))

-- the room on the way of the old item
abbrev pub room_back : Option LeafItem → Path → Image → Room
room_back None path meta = room.Enough
room_back (Some old) path meta = room_of old path meta

-- a split for the old item, and then the undo again
abbrev pub splitting : BackWork → Option LeafItem → Path → Image → BackWork
splitting again None path meta = stops
splitting again (Some old) path meta = asks (Runs (Splits old path meta)) (λ y. again)

-- a page is split, where one can be; else the undo is to be tried again
abbrev pub by_room : Room → BackWork → Option LeafItem → Path → Image → BackWork
by_room room.Enough again old path meta = stops
by_room room.Split again old path meta = splitting again old path meta
by_room room.Full again old path meta = tells taken.Again

-- the leaf has no room for the old item: the meta page is asked for, and only then
abbrev pub lacking : BackWork → Option LeafItem → Path → BackWork
lacking again None path = stops
lacking again (Some old) path =
    asks ReadsMeta (λ x. by_room (room_back (Some old) path (page_in x)) again (Some old) path (page_in x))

-- at the leaf
abbrev pub landed : BackWork → ℕ → UndoItem → Path → BackWork
landed again session undo path =
    by (can_by undo.old path undo.key) (slots_wanted session undo path)
    (lacking again undo.old path)

-- from the root down to the leaf, and again from the root after each split, of which there are at
-- most so many
unfoldable pub back : ℕ → ℕ → UndoItem → BackWork
back zero session undo = stops
back (suc n) session undo =
    way WAY_PAGES undo.key [] undo.root (landed (back n session undo) session undo)

abbrev pub undo_read : ℕ → Option UndoItem → BackWork
undo_read session None = stops
undo_read session (Some undo) = back MOST_SPLITS session undo

-- the undo item at the place is read first
abbrev pub undo_wanted : ℕ → UndoPtr → BackWork
undo_wanted session at =
    by (is_page at.page) (asks (ReadsUndo at.page) (λ x. undo_read session (older (page_in x) at)))
    stops

abbrev pub look_fetch : UndoPtr → Option Act
look_fetch at = by (is_page at.page) (Some (act.Fetch (fetch.Undo at.page))) None

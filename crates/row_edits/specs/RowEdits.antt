-- Stated: what a row's change asks for, one thing after the other.
use Rattle.std.specs.Prelude.{◌≡◌, ℕ, zero, suc, Bool, true, false, nat_le, List, [], ◌∷◌, Option, Some, None}
use Rattle.rm_base.specs.declared.limits.TheConstants.{MAX_PAGE_ID}
use Rattle.page_image.specs.Image.{Image}
use Rattle.page_image.specs.Meta.{counters_of}
use Rattle.page_view.specs.declared.leaf.LeafItem.{LeafItem}
use Rattle.question_tree.specs.Questions.{Ask, tells, asks, stops}
use Rattle.row_edits.specs.declared.changes.RowChange.{RowChange}
use Rattle.row_edits.specs.declared.changes.RowGround.{RowGround}
use Rattle.row_edits.specs.declared.room.Room.{Room}
use Rattle.row_edits.specs.declared.room.Room.TheVariants as room
use Rattle.row_edits.specs.declared.row_stages.TheConstants.{MOST_SPLITS}
use Rattle.row_edits.specs.declared.stepping.TheConstants.{WAY_PAGES}
use Rattle.row_edits.specs.declared.wishes.Act.{Act}
use Rattle.row_edits.specs.declared.wishes.Act.TheVariants as act
use Rattle.row_edits.specs.declared.wishes.Fetch.TheVariants as fetch
use Rattle.row_edits.specs.declared.wishes.Edited.{Edited}
use Rattle.row_edits.specs.declared.wishes.Edited.TheVariants as edited
use Rattle.row_edits.specs.Rooms.{by, room_of}
use Rattle.row_edits.specs.RowPlans.{has_pages}
use Rattle.row_edits.specs.Ways.{way}
use Rattle.row_edits.specs.Wishes.{Wish, Input, ReadsUndo, ReadsSlots, ReadsMeta, Runs, Changes, Splits, page_in}

abbrev pub RowWork : Type 0
RowWork = Ask Wish Input Edited

abbrev pub is_page : ℕ → Bool
is_page n = nat_le n MAX_PAGE_ID

-- the one plan of the change
abbrev pub changing : RowGround → RowWork
changing basis = asks (Runs (Changes basis)) (λ y. tells edited.Made)

-- where pages are needed, for the undo item or for the root of a table, they have to be left
abbrev pub with_slots : RowGround → RowWork
with_slots basis = by (has_pages basis) (changing basis) (tells edited.SpaceFull)

abbrev pub grounded : RowChange → List Image → Image → Image → Image → RowGround
grounded change path meta undo slots =
    record { change = change; path = path; meta = meta; undo = undo; slots = slots }

abbrev pub slots_wanted : RowChange → List Image → Image → Image → RowWork
slots_wanted change path meta undo =
    asks ReadsSlots (λ x. with_slots (grounded change path meta undo (page_in x)))

-- the undo page in use is the one that the meta page names
abbrev pub undo_wanted : RowChange → List Image → Image → RowWork
undo_wanted change path meta =
    by (is_page (counters_of meta).undo_page)
    (asks (ReadsUndo (counters_of meta).undo_page) (λ x. slots_wanted change path meta (page_in x)))
    stops

abbrev pub undo_fetch : Image → Option Act
undo_fetch meta =
    by (is_page (counters_of meta).undo_page)
    (Some (act.Fetch (fetch.Undo (counters_of meta).undo_page))) None

-- a split, and then the change again
abbrev pub splitting : RowWork → LeafItem → List Image → Image → RowWork
splitting again item path meta = asks (Runs (Splits item path meta)) (λ y. again)

-- with room on its way the change goes on; else a page is split, where one can be
abbrev pub by_room : Room → RowWork → RowChange → List Image → Image → RowWork
by_room room.Enough again change path meta = undo_wanted change path meta
by_room room.Split again change path meta = splitting again change.item path meta
by_room room.Full again change path meta = tells edited.SpaceFull

abbrev pub arrived : RowWork → RowChange → List Image → RowWork
arrived again change path =
    asks ReadsMeta
    (λ x. by_room (room_of change.item path (page_in x)) again change path (page_in x))

-- from the root down to the leaf, and again from the root after each split, of which there are at
-- most so many
unfoldable pub row : ℕ → RowChange → RowWork
row zero change = stops
row (suc n) change =
    way WAY_PAGES change.item.key [] change.root (arrived (row n change) change)

unfoldable pub row_work : RowChange → RowWork
row_work change = row MOST_SPLITS change

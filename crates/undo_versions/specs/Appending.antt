-- Stated: where the next undo item goes, and the records that put it there.
use Rattle.std.specs.Prelude.{◌<◌, ◌+◌, ℕ, Bool, true, false, List, [], ◌∷◌, ◌++◌, length, drop, nat_le, Some, None}
use Rattle.rm_base.specs.Fields.{field, number}
use Rattle.page_image.specs.declared.kind.Kind.TheVariants.{Undo}
use Rattle.page_image.specs.Image.{Image, free_of}
use Rattle.page_image.specs.Meta.{page_count}
use Rattle.page_view.specs.Undo.{undo_bytes}
use Rattle.redo_record.specs.declared.redo.Record.{Record}
use Rattle.redo_record.specs.declared.redo.Record.TheVariants.{Make, Patch, InsertSlot}
use Rattle.undo_versions.specs.declared.items.UndoItem.{UndoItem}
use Rattle.undo_versions.specs.declared.appending.UndoStep.{UndoStep}
use Rattle.undo_versions.specs.Reading.{undone_of}

-- the bytes of an item
abbrev pub bytes_of : UndoItem → List ℕ
bytes_of item = undo_bytes (undone_of item)

-- the item and its slot fit the undo page
abbrev pub fits_bytes : Image → List ℕ → Bool
fits_bytes undo bytes = nat_le (length bytes + 2) (free_of undo)

-- the item joins the undo page at its end
abbrev pub appended_bytes : Image → List ℕ → UndoStep
appended_bytes undo bytes =
    record {
      at = record { page = undo.page; slot = length undo.items };
      records = InsertSlot undo.page (length undo.items) bytes ∷ [];
      made = None;
    }

-- the page becomes an undo page with this item
abbrev pub begun_with : ℕ → List ℕ → UndoStep
begun_with page bytes =
    record {
      at = record { page = page; slot = 0 };
      records = Make page Undo 0 ∷ InsertSlot page 0 bytes ∷ [];
      made = Some page;
    }

-- a page is made, the next one by the meta page's count, exactly where the item does not fit
abbrev pub step_by : Bool → Image → Image → List ℕ → UndoStep
step_by true meta undo bytes = appended_bytes undo bytes
step_by false meta undo bytes = begun_with (page_count meta) bytes

abbrev pub undo_step : Image → Image → UndoItem → UndoStep
undo_step meta undo item = step_by (fits_bytes undo (bytes_of item)) meta undo (bytes_of item)

-- the item needs a new page
abbrev pub NeedsPage : Image → UndoItem → Type 0
NeedsPage undo item = free_of undo < length (bytes_of item) + 2

-- the meta page counts so many pages, and names this one as the undo page in use
abbrev pub counts_undo : Image → ℕ → ℕ → Record
counts_undo meta count page = Patch meta.page 36 (field 4 count ++ field 4 page)

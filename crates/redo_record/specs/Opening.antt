-- Stated: the group that every log begins with.
use Rattle.std.specs.Prelude.{ℕ, List, [], ◌∷◌, ◌++◌}
use Rattle.rm_base.specs.declared.limits.TheConstants.{CATALOG_ROOT_PAGE_ID, FIRST_FREE_PAGE_ID, FIRST_UNDO_PAGE_ID, META_PAGE_ID, SLOTS_PAGE_ID}
use Rattle.rm_base.specs.Fields.{field}
use Rattle.page_image.specs.declared.kind.Kind.TheVariants.{Meta, Slots, Leaf, Undo}
use Rattle.redo_record.specs.declared.redo.Record.{Record}
use Rattle.redo_record.specs.declared.redo.Record.TheVariants.{Make, Patch}
use Rattle.redo_record.specs.declared.redo.Group.{Group}
use Rattle.redo_record.specs.declared.opening.TheConstants.{META_FIELDS_AT, FORMAT_NUMBER, FIRST_TRX_ID, NO_STAMP}

-- the meta page's fields: the format, the number of pages, the undo page, the next number of a transaction, the last stamp
abbrev pub meta_fields : List ℕ
meta_fields = field 4 FORMAT_NUMBER ++ (field 4 FIRST_FREE_PAGE_ID ++ (field 4 FIRST_UNDO_PAGE_ID ++ (field 8 FIRST_TRX_ID ++ field 8 NO_STAMP)))

-- the meta page, the slots page, an empty root leaf and an undo page are made
abbrev pub opening_records : List Record
opening_records =
    Make META_PAGE_ID Meta 0
    ∷ Patch META_PAGE_ID META_FIELDS_AT meta_fields
    ∷ Make SLOTS_PAGE_ID Slots 0
    ∷ Make CATALOG_ROOT_PAGE_ID Leaf 0
    ∷ Make FIRST_UNDO_PAGE_ID Undo 0
    ∷ []

abbrev pub opening : Group
opening = record { lsn = 1; records = opening_records }

-- Stated: the undo item that stands at a place of a page.
use Rattle.std.specs.Prelude.{◌+◌, ℕ, Bool, true, false, List, length, drop, nat_eq, nat_lt, nat_le, slice_index, slice_get, if◌then◌else◌, ◌&&◌, Option, Some, None, option_and_then}
use Rattle.rm_base.specs.declared.limits.TheConstants.{MAX_KEY_BYTES, MAX_PAGE_ID, MAX_RECORD_BYTES, RECORD_OVERHEAD_BYTES}
use Rattle.rm_base.specs.Fields.{number}
use Rattle.rm_base.specs.declared.places.UndoPtr.{UndoPtr}
use Rattle.page_image.specs.declared.kind.Kind.{Kind}
use Rattle.page_image.specs.declared.kind.Kind.TheVariants.{Unmade, Meta, Slots, Stamps, Leaf, Inner, Undo}
use Rattle.page_image.specs.Image.{Image}
use Rattle.page_view.specs.Undo.{Undone, undo_of}
use Rattle.undo_versions.specs.declared.items.UndoItem.{UndoItem}

-- the test whether bytes spell a leaf item, a key behind its length, what was there, and an undo item
abbrev pub holds_leaf : List ℕ → Bool
holds_leaf item =
    nat_le (slice_index item 0) MAX_KEY_BYTES && nat_le (RECORD_OVERHEAD_BYTES + slice_index item 0) (length item)
    && nat_le (length item) MAX_RECORD_BYTES && nat_le (slice_index item (1 + slice_index item 0)) 1

abbrev pub holds_key : List ℕ → Bool
holds_key old = nat_eq (length old) (1 + slice_index old 0) && nat_le (slice_index old 0) MAX_KEY_BYTES

abbrev pub holds_old : ℕ → List ℕ → Bool
holds_old mark old = if nat_eq mark 0 then holds_key old else (nat_eq mark 1 && holds_leaf old)

unfoldable pub holds_undo : List ℕ → Bool
holds_undo item =
    nat_lt 19 (length item) && nat_le (number 4 (drop 8 item)) MAX_PAGE_ID && holds_old (slice_index item 18) (drop 19 item)

-- the parts of an undo item
abbrev pub item_of : Undone → UndoItem
item_of undo =
    record { trx = undo.trx; root = undo.root; before = undo.before; key = undo.key; old = undo.old }

abbrev pub undone_of : UndoItem → Undone
undone_of item =
    record { trx = item.trx; root = item.root; before = item.before; key = item.key; old = item.old }

-- the undo item that bytes spell, or none where they spell none
abbrev pub undo_in : List ℕ → Option Undone
undo_in item = if holds_undo item then Some (undo_of item) else None

abbrev pub is_undo : Kind → Bool
is_undo Unmade = false
is_undo Meta = false
is_undo Slots = false
is_undo Stamps = false
is_undo Leaf = false
is_undo Inner = false
is_undo Undo = true

-- the undo item at a place, or none: the page has another number or is no undo page, or no undo item stands there
abbrev pub undo_at : Image → UndoPtr → Option Undone
undo_at page at =
    if is_undo page.kind && nat_eq page.page at.page then option_and_then undo_in (slice_get page.items at.slot) else None

abbrev pub item_or_none : Option Undone → Option UndoItem
item_or_none None = None
item_or_none (Some undo) = Some (item_of undo)

abbrev pub older : Image → UndoPtr → Option UndoItem
older page at = item_or_none (undo_at page at)

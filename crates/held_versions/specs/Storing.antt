-- Stated: the store that pages hold, read off them.
use Rattle.std.specs.Prelude.{◌+◌, ◌*◌, ℕ, zero, suc, List, [], ◌∷◌, Option, Some, None, drop, map, take, nat_eq, nat_lt, slice_index, slice_index_or, if◌then◌else◌}
use Rattle.rm_base.specs.Fields.{number}
use Rattle.rm_base.specs.declared.places.UndoPtr.{UndoPtr}
use Rattle.page_image.specs.Meta.{counters_of}
use Rattle.page_image.specs.Image.{Image}
use Rattle.page_view.specs.declared.leaf.LeafItem.{LeafItem}
use Rattle.page_view.specs.Leaf.{leaf_of}
use Rattle.sql_values.specs.declared.values.Sort.{Sort}
use Rattle.sql_values.specs.declared.values.Sort.TheVariants as sort
use Rattle.sql_values.specs.declared.schemas.Column.{Column}
use Rattle.sql_values.specs.declared.schemas.Schema.{Schema}
use Rattle.row_codec.specs.Reading.{read_row}
use Rattle.sql_database.specs.Catalog.{schema_row}
use Rattle.commit_stamps.specs.Fields.{slot_of}
use Rattle.commit_stamps.specs.Stamping.{stamp_in, stamp_page}
use Rattle.undo_versions.specs.declared.items.UndoItem.{UndoItem}
use Rattle.undo_versions.specs.Chains.{versions}
use Rattle.undo_versions.specs.Reading.{older}
use Rattle.version_store.specs.Stores.{Store, UndoEntry, catalog}
use Rattle.version_store.specs.Versions.{Version}
use Rattle.held_versions.specs.Counting.{holder, sessions}
use Rattle.held_versions.specs.Tables.{text_column}
use Rattle.held_versions.specs.Versions.{of_key}

-- ---- what an item of the catalog says, by where it stands in the value

abbrev pub sort_with : ℕ → Sort
sort_with n = if nat_eq n 2 then sort.Text else sort.Int

-- so many columns: each the length of its name, its name, and its sort's number
abbrev pub columns_in : ℕ → List ℕ → List Column
columns_in zero bytes = []
columns_in (suc n) [] = []
columns_in (suc n) (size ∷ bytes) =
    record { name = take size bytes; sort = sort_with (slice_index (drop size bytes) 0) }
    ∷ columns_in n (drop 1 (drop size bytes))

-- the root, behind the three bytes before a text; behind it the key's place, the number of columns,
-- and the columns
abbrev pub root_in : LeafItem → ℕ
root_in item = number 4 (drop 3 item.value)

abbrev pub behind_root : LeafItem → List ℕ
behind_root item = drop 4 (drop 3 item.value)

abbrev pub schema_in : LeafItem → Schema
schema_in item = record {
  table = item.key;
  columns = columns_in (slice_index (behind_root item) 1) (drop 2 (behind_root item));
  key = slice_index (behind_root item) 0;
}

abbrev pub table_version : LeafItem → Version
table_version item = record {
  trx = item.trx;
  row = Some (schema_row (schema_in item));
  root = root_in item;
}

-- the schema of the first table with that root
abbrev pub schema_at : ℕ → List (List ℕ) → Option Schema
schema_at r [] = None
schema_at r (x ∷ xs) =
    if nat_eq (root_in (leaf_of x)) r then Some (schema_in (leaf_of x)) else schema_at r xs

-- ---- what an item of a table says

abbrev pub key_sort : Schema → Sort
key_sort s = (slice_index_or s.columns s.key text_column).sort

abbrev pub row_version : Schema → LeafItem → Version
row_version s item = record {
  trx = item.trx;
  row = if item.deleted then None else read_row s.columns s.key (key_sort s) item.key item.value;
  root = 0;
}

-- ---- chains and undo lists: a pointer leads to an earlier place, so none is longer than its first

abbrev pub longest : UndoPtr → ℕ
longest at = suc (at.page * 65536 + at.slot)

abbrev pub chain_at : (ℕ → Image) → List (List ℕ) → List LeafItem
chain_at pages [] = []
chain_at pages (x ∷ xs) = versions pages (longest (leaf_of x).older) (leaf_of x)

abbrev pub entry_of : UndoItem → UndoEntry
entry_of undo = record { root = undo.root; key = undo.key }

abbrev pub entries_by : (UndoPtr → List UndoEntry) → Option UndoItem → List UndoEntry
entries_by rest None = []
entries_by rest (Some undo) = entry_of undo ∷ rest undo.before

abbrev pub entries_from : (ℕ → Image) → ℕ → UndoPtr → List UndoEntry
entries_from pages zero at = []
entries_from pages (suc n) at =
    if nat_eq at.page 0 then []
    else entries_by (λ before. entries_from pages n before) (older (pages at.page) at)

-- ---- the store

-- of a page that is no root of a table there are no rows
abbrev pub rows_by : (ℕ → Image) → List (List ℕ) → Option Schema → List Version
rows_by pages items None = []
rows_by pages items (Some s) = map (row_version s) (chain_at pages items)

abbrev pub rows_of : (ℕ → List (List ℕ)) → (ℕ → Image) → ℕ → List ℕ → List Version
rows_of items pages r k =
    if nat_eq r catalog then map table_version (chain_at pages (of_key k (items catalog)))
    else rows_by pages (of_key k (items r)) (schema_at r (items catalog))

abbrev pub store_of : (ℕ → List (List ℕ)) → (ℕ → Image) → Store
store_of items pages = record {
  rows = rows_of items pages;
  stamp = λ t. stamp_in (pages (stamp_page t)) t;
  last = (counters_of (pages 0)).last;
  next = (counters_of (pages 0)).next;
  pages = (counters_of (pages 0)).pages;
  slot = λ s. if nat_lt s sessions then holder (slot_of (pages 1) s) else None;
  undo = λ s. entries_from pages (longest (slot_of (pages 1) s).last) (slot_of (pages 1) s).last;
}

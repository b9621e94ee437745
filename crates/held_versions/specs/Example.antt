-- Stated: an example, a table with one row of two versions: its pages, and the store they hold.
use Rattle.std.specs.Prelude.{ℕ, false, List, [], ◌∷◌, ◌++◌, Some, None, codes, nat_eq, if◌then◌else◌}
use Rattle.rm_base.specs.Fields.{field}
use Rattle.rm_base.specs.declared.places.UndoPtr.{UndoPtr}
use Rattle.page_image.specs.declared.kind.Kind.{Kind}
use Rattle.page_image.specs.declared.kind.Kind.TheVariants.{Meta, Slots, Stamps, Leaf, Undo}
use Rattle.page_image.specs.Image.{Image, unmade, zeros}
use Rattle.page_view.specs.declared.leaf.LeafItem.{LeafItem}
use Rattle.page_view.specs.Leaf.{leaf_bytes}
use Rattle.page_view.specs.Undo.{Undone, undo_bytes}
use Rattle.sql_values.specs.declared.values.Sort.TheVariants as sort
use Rattle.sql_values.specs.declared.values.Value.TheVariants.{Text}
use Rattle.sql_values.specs.declared.schemas.Column.{Column}
use Rattle.sql_values.specs.declared.schemas.Schema.{Schema}
use Rattle.row_codec.specs.Records.{value_bytes}
use Rattle.sql_catalog.specs.Catalog.{catalog_row}
use Rattle.sql_database.specs.Catalog.{schema_row}
use Rattle.commit_stamps.specs.Fields.{slot_bytes}
use Rattle.version_store.specs.Stores.{Store, catalog, put, put_row}
use Rattle.version_store.specs.Versions.{Row, Version}

-- a table t of a key and a value, which stands at page 1028
abbrev pub text : List ℕ → Column
text name = record { name = name; sort = sort.Text }

abbrev pub schema : Schema
schema = record {
  table = codes "t";
  columns = text (codes "k") ∷ (text (codes "v") ∷ []);
  key = 0;
}

abbrev pub root : ℕ
root = 1028

-- transaction 1 wrote the row a, 1, and transaction 2 writes the row a, 2
abbrev pub row : List ℕ → Row
row value = Text (codes "a") ∷ (Text value ∷ [])

-- the places of the undo items
abbrev pub nowhere : UndoPtr
nowhere = record { page = 0; slot = 0 }

abbrev pub place : ℕ → UndoPtr
place slot = record { page = 1027; slot = slot }

abbrev pub item : List ℕ → ℕ → UndoPtr → List ℕ → LeafItem
item key trx older value =
    record { key = key; deleted = false; trx = trx; older = older; value = value }

abbrev pub table_item : LeafItem
table_item = item (codes "t") 1 (place 0) (value_bytes 0 (catalog_row schema root))

abbrev pub first_item : LeafItem
first_item = item (codes "a") 1 (place 1) (value_bytes 0 (row (codes "1")))

abbrev pub second_item : LeafItem
second_item = item (codes "a") 2 (place 2) (value_bytes 0 (row (codes "2")))

-- transaction 1 made the table and then the row, transaction 2 replaced it
abbrev pub table_undo : Undone
table_undo = record {
  trx = 1;
  root = catalog;
  before = nowhere;
  key = codes "t";
  old = None;
}

abbrev pub first_undo : Undone
first_undo = record { trx = 1; root = root; before = place 0; key = codes "a"; old = None }

abbrev pub second_undo : Undone
second_undo = record {
  trx = 2;
  root = root;
  before = nowhere;
  key = codes "a";
  old = Some first_item;
}

-- ---- the pages

abbrev pub with_items : Kind → ℕ → List (List ℕ) → Image
with_items kind page items = record {
  kind = kind;
  page = page;
  lsn = 1;
  structure = 1;
  next = 0;
  level = 0;
  items = items;
  body = [];
}

-- fields, and zeros up to the end of the page
abbrev pub with_fields : Kind → ℕ → List ℕ → ℕ → Image
with_fields kind page fields left = record {
  kind = kind;
  page = page;
  lsn = 1;
  structure = 1;
  next = 0;
  level = 0;
  items = [];
  body = fields ++ zeros left;
}

-- the format, the count of pages, the undo page, the next number and the last stamp
abbrev pub meta_fields : List ℕ
meta_fields = field 4 1 ++ (field 4 1029 ++ (field 4 1027 ++ (field 8 3 ++ field 8 1)))

abbrev pub pages : ℕ → Image
pages q =
    if nat_eq q 0 then with_fields Meta 0 meta_fields 4036
    else (if nat_eq q 1
    then with_fields Slots 1 (slot_bytes (record { trx = 2; last = place 2 })) 4048
    else (if nat_eq q 2 then with_fields Stamps 2 (field 8 1) 4056
    else (if nat_eq q catalog then with_items Leaf catalog (leaf_bytes table_item ∷ [])
    else (if nat_eq q 1027
    then with_items Undo 1027
    (undo_bytes table_undo ∷ (undo_bytes first_undo ∷ (undo_bytes second_undo ∷ [])))
    else (if nat_eq q root then with_items Leaf root (leaf_bytes second_item ∷ [])
    else unmade q)))))

-- the items of its trees
abbrev pub items : ℕ → List (List ℕ)
items r =
    if nat_eq r catalog then leaf_bytes table_item ∷ []
    else (if nat_eq r root then leaf_bytes second_item ∷ [] else [])

-- ---- the store

abbrev pub table_version : Version
table_version = record { trx = 1; row = Some (schema_row schema); root = root }

abbrev pub first_version : Version
first_version = record { trx = 1; row = Some (row (codes "1")); root = 0 }

abbrev pub second_version : Version
second_version = record { trx = 2; row = Some (row (codes "2")); root = 0 }

-- session 0 has transaction 2, which can be undone
abbrev pub store : Store
store = record {
  rows = put_row (put_row (λ r k. []) catalog (codes "t") (table_version ∷ [])) root (codes "a")
      (second_version ∷ (first_version ∷ []));
  stamp = put (λ t. 0) 1 1;
  last = 1;
  next = 3;
  pages = 1029;
  slot = put (λ s. None) 0 (Some 2);
  undo = put (λ s. []) 0 (record { root = root; key = codes "a" } ∷ []);
}

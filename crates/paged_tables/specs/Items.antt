-- Stated: rows and tables as the items of trees.
use Rattle.std.specs.Prelude.{ℕ, false, List, map, find, bytes_eq, Option}
use Rattle.sql_values.specs.declared.schemas.Schema.{Schema}
use Rattle.sql_values.specs.declared.values.Value.{Value}
use Rattle.page_view.specs.declared.leaf.LeafItem.{LeafItem}
use Rattle.page_view.specs.Leaf.{leaf_bytes}
use Rattle.row_codec.specs.Keys.{key_bytes}
use Rattle.row_codec.specs.Records.{key_cell, value_bytes}
use Rattle.sql_catalog.specs.Catalog.{catalog_row}

-- an item that is not deleted, of no transaction, with no older version
abbrev pub live_item : List ℕ → List ℕ → LeafItem
live_item key value = record { key = key; deleted = false; trx = 0; older = record { page = 0; slot = 0 }; value = value }

-- a row as an item, where the key is the column at that place
abbrev pub row_item : ℕ → List Value → List ℕ
row_item key row = leaf_bytes (live_item (key_bytes (key_cell key row)) (value_bytes key row))

abbrev pub row_items : ℕ → List (List Value) → List (List ℕ)
row_items key rows = map (row_item key) rows

-- a table: its schema and the root of its tree
pub record Entry : Type 0 where
  pub schema : Schema
  pub root : ℕ

-- the name of a table is the key of its item
abbrev pub entry_item : Entry → List ℕ
entry_item e = row_item 0 (catalog_row e.schema e.root)

abbrev pub entry_items : List Entry → List (List ℕ)
entry_items entries = map entry_item entries

-- the table with that name
abbrev pub entry_named : List Entry → List ℕ → Option Entry
entry_named entries name = find (λ e. bytes_eq e.schema.table name) entries

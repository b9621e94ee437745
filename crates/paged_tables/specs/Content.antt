-- Stated: the database that the pages hold.
use Rattle.std.specs.Prelude.{◌≡◌, ◌≢◌, ℕ, List, codes, Some, None, Contains, option_map}
use Rattle.rm_base.specs.declared.limits.TheConstants.{CATALOG_ROOT_PAGE_ID}
use Rattle.std.specs.List.{AllByRecursion}
use Rattle.page_image.specs.Image.{Image}
use Rattle.page_store.specs.Stored.{Stored, pages_of, given_back}
use Rattle.bplus_tree.specs.Forest.{Forest, IsFull}
use Rattle.sql_values.specs.declared.schemas.Schema.{Schema}
use Rattle.sql_values.specs.declared.values.Value.{Value}
use Rattle.row_codec.specs.Keys.{key_bytes}
use Rattle.row_codec.specs.Records.{IsRecord, key_cell, value_bytes}
use Rattle.sql_catalog.specs.Catalog.{AreBounded}
use Rattle.sql_values.specs.Tables.{IsTable, table_named}
use Rattle.sql_database.specs.Database.{Database}
use Rattle.paged_tables.specs.Items.{Entry, entry_items, entry_named, row_items}

-- a row of the schema that an item can hold
abbrev pub IsStored : Schema → List Value → Type 0
IsStored schema row = IsRecord schema row (key_bytes (key_cell schema.key row)) (value_bytes schema.key row)

-- a table that an item of the catalog can hold
pub record IsEntry (e : Entry) : Type 0 where
  pub table : IsTable e.schema
  pub bounded : AreBounded e.schema e.root

-- the tree of a table has its rows, and is not that of the catalog
pub record HoldsRows (roots : List ℕ) (items : ℕ → List (List ℕ)) (e : Entry) (rows : List (List Value)) : Type 0 where
  pub rooted : Contains roots e.root
  pub other : e.root ≢ CATALOG_ROOT_PAGE_ID
  pub items_are : items e.root ≡ row_items e.schema.key rows
  pub stored : AllByRecursion (IsStored e.schema) rows

-- Trees stand side by side on the pages. The tree of the catalog has an item for each table, with its schema and the
-- root of its own tree, which has the table's rows by their keys. No two tables have one tree.
pub record Holds (pages : ℕ → Image) (d : Database) : Type 0 where
  pub roots : List ℕ
  pub items : ℕ → List (List ℕ)
  pub forest : Forest pages roots items
  pub entries : List Entry
  pub rooted : Contains roots CATALOG_ROOT_PAGE_ID
  pub catalog : items CATALOG_ROOT_PAGE_ID ≡ entry_items entries
  pub each : AllByRecursion IsEntry entries
  pub schemas : (t : List ℕ) → table_named d.schemas t ≡ option_map (λ e. e.schema) (entry_named entries t)
  pub tables : (t : List ℕ) (e : Entry) → entry_named entries t ≡ Some e → HoldsRows roots items e (d.tables t)
  pub apart : (t u : List ℕ) (e f : Entry) → entry_named entries t ≡ Some e → entry_named entries u ≡ Some f → e.root ≡ f.root → t ≡ u
  pub word : table_named d.schemas (codes "table") ≡ None

-- the database that a store has, with the changes that can be given back, and without them
abbrev pub HoldsNow : Stored → Database → Type 0
HoldsNow s d = Holds (pages_of s) d

abbrev pub HoldsKept : Stored → Database → Type 0
HoldsKept s d = Holds (pages_of (given_back s)) d

-- a tree of the store is full: at most one page is left, or its level is the highest
abbrev pub IsFullNow : Stored → Type 0
IsFullNow s = (root : ℕ) × IsFull (pages_of s) root

-- the pages held a database, and now the tree of that table is full
abbrev pub IsFullTable : (ℕ → Image) → List ℕ → (ℕ → Image) → Type 0
IsFullTable old t new = (d : Database) × (h : Holds old d) × (e : Entry) × (entry_named h.entries t ≡ Some e) × IsFull new e.root

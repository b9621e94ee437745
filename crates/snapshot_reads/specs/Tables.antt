-- Stated: what a statement reads: a table's name in the catalog, and rows of ranges of a table.
use Rattle.std.specs.Prelude.{◌≡◌, ◌≢◌, ℕ, List, [], ◌∷◌, Option, Some, None, flat_map, option_to_list}
use Rattle.std.specs.List.{AllByRecursion}
use Rattle.rm_base.specs.declared.key_range.KeyRange.{KeyRange}
use Rattle.page_image.specs.Image.{Image}
use Rattle.page_view.specs.declared.leaf.LeafItem.{LeafItem}
use Rattle.page_view.specs.Keys.{Ascend}
use Rattle.sql_values.specs.declared.schemas.Schema.{Schema}
use Rattle.row_codec.specs.Records.{IsRecord}
use Rattle.sql_database.specs.Catalog.{schema_row}
use Rattle.tree_timeline.specs.Found.{InRange}
use Rattle.tree_timeline.specs.Types.{Bound, Key}
use Rattle.version_store.specs.Stores.{Store, catalog}
use Rattle.version_store.specs.Versions.{Row, Version}
use Rattle.range_reader.specs.Uses.{FoundBy}
use Rattle.held_versions.specs.Tables.{SpellsTable}
use Rattle.snapshot_reads.specs.Pasts.{IsFixed}

-- the rows that items spell
abbrev pub Decoded : Schema → List LeafItem → List Row → Type 0
Decoded s [] rows = rows ≡ []
Decoded s (item ∷ items) rows =
    (r : Row) × (more : List Row)
    × IsRecord s r item.key item.value
    × Decoded s items more
    × (rows ≡ r ∷ more)

-- a table is found over these uses, with its root
pub record TableFound {U : Type 0} (image : U → Image) (n : ℕ) (own : Option ℕ) (a : Key)
    (us : List U) (s : Schema) (root : ℕ) : Type 0 where
  pub entry : LeafItem
  pub others : List LeafItem
  pub found : FoundBy image n own catalog (Some a) (Some a) us (entry ∷ others)
  pub spells : SpellsTable entry s root

-- no table of that name is
abbrev pub NoTableFound : {U : Type 0} → (U → Image) → ℕ → Option ℕ → Key → List U → Type 0
NoTableFound image n own a us = FoundBy image n own catalog (Some a) (Some a) us []

-- the rows of a range are found over these uses
pub record RowsFound {U : Type 0} (image : U → Image) (n : ℕ) (own : Option ℕ) (root : ℕ)
    (s : Schema) (range : KeyRange) (us : List U) (rows : List Row) : Type 0 where
  pub items : List LeafItem
  pub found : FoundBy image n own root range.low range.high us items
  pub decoded : Decoded s items rows

-- a store's catalog has this table with this root, and keeps it
pub record Knows (S : Store) (own : Option ℕ) (a : Key) (s : Schema) (root : ℕ) : Type 0 where
  pub version : Version
  pub only : S.rows catalog a ≡ version ∷ []
  pub fixed : IsFixed S own version
  pub root_is : version.root ≡ root
  pub row_is : version.row ≡ Some (schema_row s)

-- Rows in the order of ascending keys of a range, each what stands under its key; and nothing
-- stands under each other key of the range.
pub record AreRowsOf (row : Key → Option Row) (low high : Bound) (rows : List Row) : Type 0 where
  pub keys : List Key
  pub ascend : Ascend keys
  pub inside : AllByRecursion (InRange low high) keys
  pub rows_are : rows ≡ flat_map (λ k. option_to_list (row k)) keys
  pub absent : (k : Key) → InRange low high k → AllByRecursion (λ other. other ≢ k) keys
      → row k ≡ None

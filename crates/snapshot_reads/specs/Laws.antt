-- Stated: what a reader finds, page after page while the log grows, is what its snapshot has.
use Rattle.std.specs.Prelude.{◌≡◌, ◌≤◌, ℕ, false, List, map, Option, Some, None, bytes_eq}
use Rattle.rm_base.specs.declared.key_range.KeyRange.{KeyRange}
use Rattle.page_view.specs.declared.leaf.LeafItem.{LeafItem}
use Rattle.sql_values.specs.declared.schemas.Schema.{Schema}
use Rattle.sql_database.specs.Catalog.{schema_row}
use Rattle.tree_timeline.specs.Types.{Bound, Items, Key, PagesAt}
use Rattle.tree_timeline.specs.Walks.{Visit}
use Rattle.version_store.specs.Contents.{Content, catalog_name}
use Rattle.version_store.specs.Stores.{Store}
use Rattle.version_store.specs.Versions.{Row}
use Rattle.range_reader.specs.Uses.{FoundBy}
use Rattle.snapshot_reads.specs.Keeping.{Keeps}
use Rattle.snapshot_reads.specs.Pasts.{Past}
use Rattle.snapshot_reads.specs.Tables.{AreRowsOf, Knows, NoTableFound, RowsFound, TableFound}
use Rattle.snapshot_reads.specs.Times.{Latched, Rises, image_at, itself}

-- The pages of a log keep its stores, and in each of these a reader sees this content.
pub record Reads (at : PagesAt) (items : ℕ → ℕ → Items) (S : ℕ → Store) (base end n : ℕ)
    (own : Option ℕ) (f : Content) : Type 0 where
  pub keeps : Keeps at items S base end
  pub past : Past S base end n own f

-- uses with the latches at times that rise, from an LSN on at which the snapshot stood
pub record UsesWithin (at : PagesAt) (S : ℕ → Store) (base n from end : ℕ) (us : List Visit)
    : Type 0 where
  pub since : base ≤ from
  pub stands : n ≤ (S from).last
  pub rises : Rises end from us
  pub latched : Latched at us

-- a table that is found by its name is there: the content's row has its schema, and each later
-- store has it at its root
abbrev pub FoundTablesAreThere : Type 0
FoundTablesAreThere =
    (at : PagesAt) (items : ℕ → ℕ → Items) (S : ℕ → Store) (base end n : ℕ) (own : Option ℕ)
    (f : Content) → Reads at items S base end n own f
    → (from upto : ℕ) (us : List Visit) → UsesWithin at S base n from upto us → upto ≤ end
    → (a : Key) (s : Schema) (root : ℕ) → TableFound (image_at at) n own a us s root
    → Knows (S upto) own a s root × (f catalog_name a ≡ Some (schema_row s))

-- where none is found, the content has none
abbrev pub MissingTablesAreNot : Type 0
MissingTablesAreNot =
    (at : PagesAt) (items : ℕ → ℕ → Items) (S : ℕ → Store) (base end n : ℕ) (own : Option ℕ)
    (f : Content) → Reads at items S base end n own f
    → (from upto : ℕ) (us : List Visit) → UsesWithin at S base n from upto us → upto ≤ end
    → (a : Key) → NoTableFound (image_at at) n own a us → f catalog_name a ≡ None

-- what is known of a table stays so
abbrev pub TablesStayKnown : Type 0
TablesStayKnown =
    (at : PagesAt) (items : ℕ → ℕ → Items) (S : ℕ → Store) (base end n : ℕ) (own : Option ℕ)
    (f : Content) → Reads at items S base end n own f
    → (i j : ℕ) → base ≤ i → i ≤ j → j ≤ end → (a : Key) (s : Schema) (root : ℕ)
    → Knows (S i) own a s root → Knows (S j) own a s root

-- the rows that are found in a range of a table are the content's, no more and no fewer, in the
-- order of their keys
abbrev pub FoundRowsAreThere : Type 0
FoundRowsAreThere =
    (at : PagesAt) (items : ℕ → ℕ → Items) (S : ℕ → Store) (base end n : ℕ) (own : Option ℕ)
    (f : Content) → Reads at items S base end n own f
    → (from : ℕ) (us : List Visit) → UsesWithin at S base n from end us
    → (a : Key) → bytes_eq a catalog_name ≡ false
    → (s : Schema) (root : ℕ) → Knows (S from) own a s root
    → (range : KeyRange) (rows : List Row) → RowsFound (image_at at) n own root s range us rows
    → AreRowsOf (f a) range.low range.high rows

-- what is found over the images that were handed out is found over the uses, whatever their times
abbrev pub ImagesSuffice : Type 0
ImagesSuffice =
    (at : PagesAt) (n : ℕ) (own : Option ℕ) (root : ℕ) (low high : Bound) (us : List Visit)
    (found : List LeafItem) → FoundBy itself n own root low high (map (image_at at) us) found
    → FoundBy (image_at at) n own root low high us found

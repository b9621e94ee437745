-- Stated: what the items of the catalog and of a table say.
use Rattle.std.specs.Prelude.{◌≡◌, ◌⊎◌, ℕ, true, false, [], ◌∷◌, codes, Some, None}
use Rattle.sql_values.specs.Tables.{IsTable}
use Rattle.page_view.specs.declared.leaf.LeafItem.{LeafItem}
use Rattle.sql_values.specs.declared.values.Sort.TheVariants as sort
use Rattle.sql_values.specs.declared.schemas.Column.{Column}
use Rattle.sql_values.specs.declared.schemas.Schema.{Schema}
use Rattle.row_codec.specs.Records.{IsRecord}
use Rattle.sql_catalog.specs.Catalog.{catalog_row, AreBounded}
use Rattle.sql_database.specs.Catalog.{schema_row}
use Rattle.version_store.specs.Versions.{Row, Version}

-- the catalog as a table: a column for a table's name, and one for its columns and its root
abbrev pub text_column : Column
text_column = record { name = codes "table"; sort = sort.Text }

abbrev pub catalog_schema : Schema
catalog_schema = record {
  table = codes "table";
  columns = text_column ∷ (text_column ∷ []);
  key = 0;
}

-- an item of the catalog spells a table and its root
pub record SpellsTable (item : LeafItem) (s : Schema) (root : ℕ) : Type 0 where
  pub table : IsTable s
  pub bounded : AreBounded s root
  pub spelt : IsRecord catalog_schema (catalog_row s root) item.key item.value

-- it says the version whose row is the table's schema, at its root
pub record SaysTable (item : LeafItem) (v : Version) : Type 0 where
  pub lives : item.deleted ≡ false
  pub schema : Schema
  pub spells : SpellsTable item schema v.root
  pub row : v.row ≡ Some (schema_row schema)

-- an item of a table is marked as deleted, or spells a row of the schema
abbrev pub RowSpelled : Schema → LeafItem → Type 0
RowSpelled s item =
    (item.deleted ≡ true)
    ⊎ ((item.deleted ≡ false) × ((r : Row) × IsRecord s r item.key item.value))

-- it says the version without a row, or with that row
abbrev pub SaysRow : Schema → LeafItem → Version → Type 0
SaysRow s item v =
    ((item.deleted ≡ true) × (v.row ≡ None))
    ⊎ ((item.deleted ≡ false) × ((r : Row) × IsRecord s r item.key item.value × (v.row ≡ Some r)))

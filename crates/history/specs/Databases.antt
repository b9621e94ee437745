-- Stated: when a content by name and key stands for a database.
use Rattle.std.specs.Prelude.{◌≡◌, ℕ, false, Option, Some, None, List, [], ◌∷◌, if◌then◌else◌, bytes_eq, option_map}
use Rattle.std.specs.declared.cmp.Ordering.{Ordering}
use Rattle.sql_values.specs.Tables.{table_named}
use Rattle.sql_values.specs.Order.{text_cmp}
use Rattle.sql_database.specs.Catalog.{schema_of}
use Rattle.sql_database.specs.Database.{Database, row_key}
use Rattle.version_store.specs.Contents.{Content, catalog_name}
use Rattle.version_store.specs.Versions.{Row}

-- the row under a key
abbrev pub under : (Row → List ℕ) → List ℕ → List Row → Option Row
under key_of k [] = None
under key_of k (r ∷ rs) = if bytes_eq (key_of r) k then Some r else under key_of k rs

abbrev pub AllAbove : (Row → List ℕ) → List ℕ → List Row → Type 0
AllAbove key_of k [] = Unit {0}
AllAbove key_of k (r ∷ rs) = (text_cmp k (key_of r) ≡ Ordering.Less) × AllAbove key_of k rs

abbrev pub Ascends : (Row → List ℕ) → List Row → Type 0
Ascends key_of [] = Unit {0}
Ascends key_of (r ∷ rs) = AllAbove key_of (key_of r) rs × Ascends key_of rs

-- these rows in the order of their keys, and no others
abbrev pub AreRows : (Row → List ℕ) → (List ℕ → Option Row) → List Row → Type 0
AreRows key_of row rs = Ascends key_of rs × ((k : List ℕ) → under key_of k rs ≡ row k)

-- A content stands for a database: the catalog's rows say the tables' schemas, and each table has its rows by
-- their keys. Nothing is said of the order in which a database lists its schemas: the catalog's rows are in the
-- order of names, a database's schemas in that of their making. The catalog's name is no table's.
pub record StandsFor (f : Content) (d : Database) : Type 0 where
  pub tables : (a : List ℕ) → table_named d.schemas a ≡ option_map schema_of (f catalog_name a)
  pub rows : (a : List ℕ) → bytes_eq a catalog_name ≡ false → AreRows (row_key d a) (f a) (d.tables a)
  pub none : (a k : List ℕ) → bytes_eq a catalog_name ≡ false → f catalog_name a ≡ None → f a k ≡ None
  pub free : f catalog_name catalog_name ≡ None
  pub bare : d.tables catalog_name ≡ []

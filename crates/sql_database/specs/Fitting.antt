-- Stated: changes that fit a database.
use Rattle.std.specs.Prelude.{◌≡◌, ◌≢◌, true, false, List, [], ◌∷◌, codes, Some, None, bytes_eq}
use Rattle.sql_values.specs.Tables.{table_named}
use Rattle.sql_values.specs.declared.values.Value.{Value}
use Rattle.sql_values.specs.declared.schemas.Schema.{Schema}
use Rattle.row_codec.specs.Keys.{key_bytes}
use Rattle.row_codec.specs.Records.{key_cell}
use Rattle.sql_statements.specs.declared.statements.Stmt.{Stmt}
use Rattle.sql_statements.specs.declared.statements.Stmt.TheVariants as stmt
use Rattle.sql_database.specs.declared.changes.Change.{Change}
use Rattle.sql_database.specs.Applied.{changed}
use Rattle.sql_database.specs.Catalog.{is_of_catalog, schema_of}
use Rattle.sql_database.specs.Database.{Database}

-- no table has the catalog's word for its name
abbrev pub NamesNoCatalog : Database → Type 0
NamesNoCatalog d = table_named d.schemas (codes "table") ≡ None

-- a change that makes a table makes one that is not there, under its name
pub record MakesTable (d : Database) (c : Change) : Type 0 where
  pub row : List Value
  pub says : c.row ≡ Some row
  pub named : (schema_of row).table ≡ c.key
  pub absent : table_named d.schemas c.key ≡ None
  pub free : bytes_eq c.key (codes "table") ≡ false

-- a change of a row is of a table that is there, and its row has the key that it stands under
pub record PlacesRow (d : Database) (c : Change) : Type 0 where
  pub schema : Schema
  pub named : table_named d.schemas c.table ≡ Some schema
  pub keyed : (row : List Value) → c.row ≡ Some row → key_bytes (key_cell schema.key row) ≡ c.key

pub record Fits (d : Database) (c : Change) : Type 0 where
  pub makes : is_of_catalog c ≡ true → MakesTable d c
  pub places : is_of_catalog c ≡ false → PlacesRow d c

-- each fits what those before it made
abbrev pub FitsAll : Database → List Change → Type 0
FitsAll d [] = Unit {0}
FitsAll d (c ∷ cs) = Fits d c × FitsAll (changed d c) cs

-- the tables whose rows are changed are there before any change
abbrev pub AreKnown : Database → List Change → Type 0
AreKnown d [] = Unit {0}
AreKnown d (c ∷ cs) = (is_of_catalog c ≡ false → table_named d.schemas c.table ≢ None) × AreKnown d cs

-- the statement makes no table under the catalog's word
abbrev pub IsProper : Stmt → Type 0
IsProper (stmt.Create s) = bytes_eq s.table (codes "table") ≡ false
IsProper (stmt.Insert t names rows) = Unit {0}
IsProper (stmt.Update t sets test) = Unit {0}
IsProper (stmt.Delete t test) = Unit {0}
IsProper (stmt.Select q) = Unit {0}
IsProper stmt.Begin = Unit {0}
IsProper stmt.Commit = Unit {0}
IsProper stmt.Rollback = Unit {0}

-- Stated: what holds of each database that a store has, and what can be changed in one.
use Rattle.std.specs.Prelude.{◌≡◌, ◌≢◌, ◌≤◌, ℕ, List, codes, length, Option, Some, None}
use Rattle.rm_base.specs.declared.limits.TheConstants.{MAX_KEY_BYTES}
use Rattle.std.specs.List.{AllByRecursion}
use Rattle.sql_values.specs.declared.schemas.Schema.{Schema}
use Rattle.sql_values.specs.declared.values.Value.{Value}
use Rattle.row_codec.specs.Records.{AreI64, FitsSchema, IsRecord, value_bytes}
use Rattle.sql_values.specs.Tables.{IsName, IsNamed, IsTable, table_named}
use Rattle.sql_database.specs.declared.changes.Change.{Change}
use Rattle.sql_database.specs.Database.{Database}

-- a row of a table: its cells fit the columns, its key is not NULL, and its INTs are i64
pub record IsRow (schema : Schema) (row : List Value) : Type 0 where
  pub fits : FitsSchema schema row
  pub ints : AreI64 row

-- each row of a table is one of its schema, and no table is named by the word under which tables are made
pub record IsSound (d : Database) : Type 0 where
  pub rows : (t : List ℕ) (s : Schema) → table_named d.schemas t ≡ Some s → AllByRecursion (IsRow s) (d.tables t)
  pub word : table_named d.schemas (codes "table") ≡ None

-- a schema that a table can have, under a name that is not that word
pub record IsNewTable (s : Schema) : Type 0 where
  pub table : IsTable s
  pub word : s.table ≢ codes "table"

-- A table that can be made: its names have their lengths, and no table has its name.
pub record CanCreate (schemas : List Schema) (s : Schema) : Type 0 where
  pub new : IsNewTable s
  pub name : IsName s.table
  pub columns : AllByRecursion IsNamed s.columns
  pub absent : table_named schemas s.table ≡ None

-- the row that is to stand under the key, where one is: a row of the schema, with that key, within the limits
abbrev pub IsPlaced : Schema → List ℕ → Option (List Value) → Type 0
IsPlaced schema key None = Unit {0}
IsPlaced schema key (Some row) = IsRecord schema row key (value_bytes schema.key row)

-- A change of a row that can be made: its table is there, its key has its length, and its row is one of the table.
pub record CanChange (schemas : List Schema) (c : Change) : Type 0 where
  pub schema : Schema
  pub named : table_named schemas c.table ≡ Some schema
  pub short : length c.key ≤ MAX_KEY_BYTES
  pub placed : IsPlaced schema c.key c.row

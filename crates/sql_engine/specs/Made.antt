-- Stated: the changes that a statement wants, and what is known of them before their INTs are read.
use Rattle.std.specs.Prelude.{◌≡◌, ◌≤◌, ℕ, List, length, Option, Some, None}
use Rattle.rm_base.specs.declared.limits.TheConstants.{MAX_KEY_BYTES, MAX_RECORD_BYTES}
use Rattle.sql_values.specs.declared.schemas.Schema.{Schema}
use Rattle.sql_values.specs.declared.values.Value.{Value}
use Rattle.row_codec.specs.Keys.{key_bytes}
use Rattle.row_codec.specs.Records.{FitsSchema, key_cell, record_length, value_bytes}
use Rattle.sql_values.specs.Tables.{table_named}
use Rattle.sql_database.specs.declared.changes.Change.{Change}

-- a row of the schema with that key, within the limits
pub record SuitsRow (schema : Schema) (key : List ℕ) (row : List Value) : Type 0 where
  pub fits : FitsSchema schema row
  pub key_is : key ≡ key_bytes (key_cell schema.key row)
  pub short : record_length key (value_bytes schema.key row) ≤ MAX_RECORD_BYTES

abbrev pub MaySuit : Schema → List ℕ → Option (List Value) → Type 0
MaySuit schema key None = Unit {0}
MaySuit schema key (Some row) = SuitsRow schema key row

-- a change that can be made where the INTs of its row are i64
pub record Suits (schemas : List Schema) (c : Change) : Type 0 where
  pub schema : Schema
  pub named : table_named schemas c.table ≡ Some schema
  pub short : length c.key ≤ MAX_KEY_BYTES
  pub row : MaySuit schema c.key c.row

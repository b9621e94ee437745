-- Stated: a database, and when two have the same content.
use Rattle.std.specs.Prelude.{◌≡◌, ℕ, List, []}
use Rattle.std.specs.Option.{option_map_or}
use Rattle.sql_values.specs.declared.values.Value.{Value}
use Rattle.sql_values.specs.declared.schemas.Schema.{Schema}
use Rattle.sql_values.specs.Tables.{table_named}
use Rattle.row_codec.specs.Keys.{key_bytes}
use Rattle.row_codec.specs.Records.{key_cell}

-- the rows of each table, by its name, in the order of their keys
abbrev pub Tables : Type 0
Tables = List ℕ → List (List Value)

-- the tables' schemas in the order of their making, and the rows of each table
pub record Database : Type 0 where
  pub schemas : List Schema
  pub tables : Tables

abbrev pub empty : Database
empty = record { schemas = []; tables = λ t. [] }

-- which column is a table's key
abbrev pub key_place : Database → List ℕ → ℕ
key_place d t = option_map_or (λ s. s.key) (table_named d.schemas t) 0

abbrev pub row_key : Database → List ℕ → List Value → List ℕ
row_key d t row = key_bytes (key_cell (key_place d t) row)

-- the same schema by each name, and the same rows: two databases that differ at most in the order of their schemas
pub record SameContent (d e : Database) : Type 0 where
  pub schemas : (t : List ℕ) → table_named d.schemas t ≡ table_named e.schemas t
  pub rows : (t : List ℕ) → d.tables t ≡ e.tables t

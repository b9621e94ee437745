-- Stated: what changes make of a database.
use Rattle.std.specs.Prelude.{ℕ, if◌then◌else◌, List, [], ◌∷◌, ◌++◌, fold, filter, Option, option_and_then, option_to_list, slice_get, unwrap_or, bytes_eq}
use Rattle.std.specs.Option.{option_map_or}
use Rattle.std.specs.Ordering.{is_lt, is_gt}
use Rattle.sql_values.specs.Tables.{table_named}
use Rattle.sql_values.specs.declared.values.Sort.{Sort}
use Rattle.sql_values.specs.declared.values.Sort.TheVariants as sort
use Rattle.sql_values.specs.declared.values.Value.{Value}
use Rattle.sql_values.specs.declared.values.Value.TheVariants.{Null, Text}
use Rattle.sql_values.specs.declared.schemas.Schema.{Schema}
use Rattle.sql_values.specs.Order.{text_cmp}
use Rattle.row_codec.specs.Reading.{read_key}
use Rattle.sql_database.specs.declared.changes.Change.{Change}
use Rattle.sql_database.specs.Catalog.{is_of_catalog, schema_of}
use Rattle.sql_database.specs.Database.{Database, Tables, row_key}

-- the rows with lesser keys, the row that stands under this key, if any, and those with greater keys
abbrev pub placed : (List Value → List ℕ) → List ℕ → Option (List Value) → List (List Value) → List (List Value)
placed key_of key row others =
    filter (λ r. is_lt (text_cmp (key_of r) key)) others
    ++ (option_to_list row ++ filter (λ r. is_gt (text_cmp (key_of r) key)) others)

-- the rows of one table in place of those that it had
abbrev pub with_rows : Tables → List ℕ → List (List Value) → Tables
with_rows tables t given = λ u. if bytes_eq u t then given else tables u

-- a table more, with no rows
abbrev pub with_table : Database → Schema → Database
with_table d s = record { schemas = d.schemas ++ s ∷ []; tables = with_rows d.tables s.table [] }

abbrev pub with_row : Database → Change → Database
with_row d c = record d { tables = with_rows d.tables c.table (placed (row_key d c.table) c.key c.row (d.tables c.table)) }

abbrev pub with_catalog : Database → Option (List Value) → Database
with_catalog d row = option_map_or (λ r. with_table d (schema_of r)) row d

-- one change: a table more, or the row that stands under a key of a table from now on
abbrev pub changed : Database → Change → Database
changed d c = if is_of_catalog c then with_catalog d c.row else with_row d c

-- one change after the other
abbrev pub applied : Database → List Change → Database
applied d cs = fold changed d cs

abbrev pub key_sort : Schema → Sort
key_sort s = option_map_or (λ c. c.sort) (slice_get s.columns s.key) sort.Int

-- the key of a change as a value: of the catalog the table's name, else of the sort of the table's key
abbrev pub change_key : Database → Change → Value
change_key d c =
    if is_of_catalog c then Text c.key
    else unwrap_or (option_and_then (λ s. read_key (key_sort s) c.key) (table_named d.schemas c.table)) Null

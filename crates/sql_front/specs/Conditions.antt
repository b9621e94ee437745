-- Stated: the further conditions of statements, and what a CREATE makes.
use Rattle.std.specs.Prelude.{ℕ, Bool, ◌&&◌, not, List, length, map, nat_lt}
use Rattle.rm_base.specs.declared.limits.TheConstants.{MAX_COLUMNS}
use Rattle.std.specs.List.{list_any, position_or_len}
use Rattle.std.specs.Str.{bytes_eq}
use Rattle.sql_values.specs.declared.schemas.Schema.{Schema}
use Rattle.sql_front.specs.declared.definitions.Definition.{Definition}
use Rattle.sql_statements.specs.declared.statements.SetItem.{SetItem}

-- a table has at most 16 columns, each with a name of its own
unfoldable pub is_new_column : List Definition → List ℕ → Bool
is_new_column before name = nat_lt (length before) MAX_COLUMNS && not (list_any (λ d. bytes_eq d.column.name name) before)

unfoldable pub has_key : List Definition → Bool
has_key columns = list_any (λ d. d.is_key) columns

-- no column so far is the key
abbrev pub is_keyless : List Definition → Bool
is_keyless before = not (has_key before)

-- how many columns stand before the key
unfoldable pub key_place : List Definition → ℕ
key_place columns = position_or_len (λ d. d.is_key) columns

-- the table with these columns
unfoldable pub schema : List ℕ → List Definition → Schema
schema table columns = record { table = table; columns = map (λ d. d.column) columns; key = key_place columns }

-- no name stands twice
unfoldable pub is_new : List (List ℕ) → List ℕ → Bool
is_new before name = not (list_any (λ other. bytes_eq other name) before)

unfoldable pub is_new_set : List SetItem → List ℕ → Bool
is_new_set before name = not (list_any (λ item. bytes_eq item.name name) before)

-- a table is joined with another
unfoldable pub is_other : List ℕ → List ℕ → Bool
is_other left right = not (bytes_eq left right)

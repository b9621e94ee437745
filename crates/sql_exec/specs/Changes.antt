-- Stated: changes of rows, and the keys that they need.
use Rattle.std.specs.Prelude.{ℕ, Bool, ◌&&◌, nat_le, if◌then◌else◌, List, [], ◌∷◌, ◌++◌, map, length, Option, Some, None, Result, Ok, Err}
use Rattle.rm_base.specs.declared.limits.TheConstants.{MAX_KEY_BYTES}
use Rattle.std.specs.List.{list_any}
use Rattle.std.specs.Ordering.{is_eq}
use Rattle.sql_values.specs.declared.values.Value.{Value}
use Rattle.sql_values.specs.declared.schemas.Schema.{Schema}
use Rattle.sql_values.specs.Order.{value_cmp}
use Rattle.row_codec.specs.declared.TooLarge.{TooLarge}
use Rattle.row_codec.specs.Keys.{key_bytes}
use Rattle.row_codec.specs.Records.{fits_record, key_cell}
use Rattle.sql_database.specs.declared.changes.Change.{Change}

-- the limit of a key
abbrev pub fits_key : List ℕ → Bool
fits_key key = nat_le (length key) MAX_KEY_BYTES

-- the row that stands under its key from now on
unfoldable pub placing : Schema → List Value → Result Change TooLarge
placing schema row =
    if fits_key (key_bytes (key_cell schema.key row)) && fits_record schema.key row
    then Ok (record { table = schema.table; key = key_bytes (key_cell schema.key row); row = Some row }) else Err (record {})

-- that none stands under the row's key from now on
unfoldable pub removal : Schema → List Value → Result Change TooLarge
removal schema row =
    if fits_key (key_bytes (key_cell schema.key row))
    then Ok (record { table = schema.table; key = key_bytes (key_cell schema.key row); row = None }) else Err (record {})

abbrev pub is_same : Value → Value → Bool
is_same a b = is_eq (value_cmp a b)

-- the first key that is one of those before it
abbrev pub first_repeat : List Value → List Value → Option Value
first_repeat before [] = None
first_repeat before (k ∷ ks) = if list_any (is_same k) before then Some k else first_repeat (before ++ k ∷ []) ks

abbrev pub keys_of : ℕ → List (List Value) → List Value
keys_of key rows = map (key_cell key) rows

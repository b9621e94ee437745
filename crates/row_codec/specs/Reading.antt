-- Stated: how a value's bytes are read, cell after cell.
use Rattle.std.specs.Prelude.{◌≡◌, ◌+◌, ℕ, ◌&&◌, nat_eq, nat_le, List, [], ◌∷◌, ◌++◌, length, take, drop, negsuc, pos, ◌+ℤ◌, Option, Some, None, option_and_then, if◌then◌else◌, MatchOption}
use Rattle.std.specs.Int.{w64, cast_signed}
use Rattle.rm_base.specs.Fields.{number}
use Rattle.sql_values.specs.declared.values.Value.{Value}
use Rattle.sql_values.specs.declared.values.Value.TheVariants.{Null, Int, Text}
use Rattle.sql_values.specs.declared.values.Sort.{Sort}
use Rattle.sql_values.specs.declared.values.Sort.TheVariants as sort
use Rattle.sql_values.specs.declared.schemas.Column.{Column}
use Rattle.sql_values.specs.declared.schemas.Schema.{Schema}
use Rattle.sql_values.specs.Order.{Fits}
use Rattle.row_codec.specs.Keys.{IsKey, key_bytes}
use Rattle.row_codec.specs.Records.{IsRecord}

-- the INT of 8 bytes in two's complement, with the bytes of its cell
abbrev pub read_int : Sort → List ℕ → Option (Value × ℕ)
read_int sort.Int rest = if nat_le 8 (length rest) then Some (Int (cast_signed w64 (number 8 rest)), 9) else None
read_int sort.Text rest = None

-- the TEXT of a length in 2 bytes and so many bytes, with the bytes of its cell
abbrev pub read_text : Sort → List ℕ → Option (Value × ℕ)
read_text sort.Int rest = None
read_text sort.Text rest =
    if nat_le 2 (length rest) && nat_le (2 + number 2 rest) (length rest)
    then Some (Text (take (number 2 rest) (drop 2 rest)), 3 + number 2 rest) else None

-- the cell at the start of the bytes, with its length
abbrev pub read_cell : Sort → List ℕ → Option (Value × ℕ)
read_cell s [] = None
read_cell s (tag ∷ rest) =
    if nat_eq tag 0 then Some (Null, 1)
    else (if nat_eq tag 1 then read_int s rest else (if nat_eq tag 2 then read_text s rest else None))

-- the cells of the columns, put after those that are there, with the bytes left
abbrev pub read_onto : List Value → List Column → List ℕ → Option (List Value × List ℕ)
read_onto cells [] bytes = Some (cells, bytes)
read_onto cells (c ∷ cs) bytes =
    option_and_then (λ read. read_onto (cells ++ read.0 ∷ []) cs (drop read.1 bytes)) (read_cell c.sort bytes)

-- the key of the sort with these bytes
abbrev pub read_key : Sort → List ℕ → Option Value
read_key sort.Int key =
    if nat_eq (length key) 8 then Some (Int (negsuc 9223372036854775807 +ℤ pos (number 8 key))) else None
read_key sort.Text key = Some (Text key)

-- what was spelled is what is read
abbrev pub ReadsKeysBack : Type 0
ReadsKeysBack = (s : Sort) (key : Value) → IsKey key → Fits key s → read_key s (key_bytes key) ≡ Some key

-- the row, where no byte is left
abbrev pub whole : Option (List Value × List ℕ) → Option (List Value)
whole None = None
whole (Some (row, [])) = Some row
whole (Some (row, b ∷ bs)) = None

-- the cells before the key, the key, and the cells after it
abbrev pub read_row : List Column → ℕ → Sort → List ℕ → List ℕ → Option (List Value)
read_row columns at key_sort key value =
    option_and_then
    (λ before. option_and_then
    (λ k. whole (read_onto (before.0 ++ k ∷ []) (drop (at + 1) columns) before.1))
    (read_key key_sort key))
    (read_onto [] (take at columns) value)

-- a row with this key and value, or that there is none
abbrev pub IsRowOrNone : Schema → List ℕ → List ℕ → Option (List Value) → Type 0
IsRowOrNone schema key value row =
    MatchOption row ((r : List Value) → ¬ IsRecord schema r key value) (λ r. IsRecord schema r key value)

-- Stated: A row as a leaf item's key and value.
use Rattle.std.specs.Prelude.{◌≡◌, ◌≢◌, ◌≤◌, ◌+◌, ℕ, Bool, nat_le, List, [], ◌∷◌, ◌++◌, length, slice_get, slice_index_or, take, drop, IsSomeAnd, FitsSigned}
use Rattle.rm_base.specs.declared.limits.TheConstants.{MAX_KEY_BYTES, MAX_RECORD_BYTES, RECORD_OVERHEAD_BYTES}
use Rattle.std.specs.List.{flat_map}
use Rattle.std.specs.Int.{w64, cast_unsigned}
use Rattle.rm_base.specs.Fields.{field}
use Rattle.sql_values.specs.declared.values.Value.{Value}
use Rattle.sql_values.specs.declared.values.Value.TheVariants.{Null, Int, Text}
use Rattle.sql_values.specs.declared.schemas.Column.{Column}
use Rattle.sql_values.specs.declared.schemas.Schema.{Schema}
use Rattle.sql_values.specs.Order.{Fits}
use Rattle.row_codec.specs.Keys.{key_bytes}

-- 0 for NULL; 1 and two's complement in 8 bytes for an INT; 2, the length in 2 bytes and the bytes for a TEXT
abbrev pub cell_bytes : Value → List ℕ
cell_bytes Null = 0 ∷ []
cell_bytes (Int n) = 1 ∷ field 8 (cast_unsigned w64 n)
cell_bytes (Text t) = 2 ∷ (field 2 (length t) ++ t)

abbrev pub cells_bytes : List Value → List ℕ
cells_bytes cells = flat_map cell_bytes cells

-- the cells of all columns but the key, in order
abbrev pub value_bytes : ℕ → List Value → List ℕ
value_bytes key row = cells_bytes (take key row) ++ cells_bytes (drop (key + 1) row)

-- the key's value of a row
abbrev pub key_cell : ℕ → List Value → Value
key_cell key row = slice_index_or row key Null

-- the bytes of a leaf item with that key and value: both, and 16 bytes beside them
abbrev pub record_length : List ℕ → List ℕ → ℕ
record_length key value = RECORD_OVERHEAD_BYTES + length key + length value

-- whether the leaf item of a row, whose key is the cell at that place, is not too large
abbrev pub fits_record : ℕ → List Value → Bool
fits_record key row = nat_le (record_length (key_bytes (key_cell key row)) (value_bytes key row)) MAX_RECORD_BYTES

-- the cells fit the columns, one for one
abbrev pub FitColumns : List Column → List Value → Type 0
FitColumns [] [] = Unit {0}
FitColumns [] (v ∷ vs) = ⊥
FitColumns (c ∷ cs) [] = ⊥
FitColumns (c ∷ cs) (v ∷ vs) = Fits v c.sort × FitColumns cs vs

-- the key is there, and not NULL
abbrev pub HasKey : List Value → ℕ → Type 0
HasKey row key = IsSomeAnd (slice_get row key) (λ k. k ≢ Null)

-- a row of the schema: its cells fit the columns, and its key is not NULL
pub record FitsSchema (schema : Schema) (row : List Value) : Type 0 where
  pub cells : FitColumns schema.columns row
  pub key : HasKey row schema.key

-- the INTs of a row are i64
abbrev pub AreI64 : List Value → Type 0
AreI64 [] = Unit {0}
AreI64 (Null ∷ vs) = AreI64 vs
AreI64 (Int n ∷ vs) = FitsSigned w64 n × AreI64 vs
AreI64 (Text t ∷ vs) = AreI64 vs

-- a row of the schema whose leaf item has this key and this value, within the limits of both
pub record IsRecord (schema : Schema) (row : List Value) (key value : List ℕ) : Type 0 where
  pub fits : FitsSchema schema row
  pub ints : AreI64 row
  pub key_is : key ≡ key_bytes (key_cell schema.key row)
  pub value_is : value ≡ value_bytes schema.key row
  pub short_key : length key ≤ MAX_KEY_BYTES
  pub short_record : record_length key value ≤ MAX_RECORD_BYTES

-- a key and a value are those of one row alone
abbrev pub OneRow : Type 0
OneRow =
    (schema : Schema) (r s : List Value) (key value : List ℕ)
    → IsRecord schema r key value → IsRecord schema s key value → r ≡ s

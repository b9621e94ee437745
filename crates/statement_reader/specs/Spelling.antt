-- Stated: the decoder of what items spell.
use Rattle.std.specs.Prelude.{◌≡◌, ◌&&◌, not, ℕ, zero, suc, Bool, true, false, nat_eq, nat_le, nat_lt, bytes_eq, List, [], ◌∷◌, length, drop, slice_get, slice_index, Option, Some, None, option_map, option_and_then, if◌then◌else◌}
use Rattle.rm_base.specs.declared.limits.TheConstants.{MAX_COLUMNS, MAX_KEY_BYTES, MAX_RECORD_BYTES}
use Rattle.rm_base.specs.Fields.{number, AreBytes}
use Rattle.sql_values.specs.Tables.{IsTable}
use Rattle.page_view.specs.declared.leaf.LeafItem.{LeafItem}
use Rattle.sql_values.specs.declared.values.Value.TheVariants.{Text}
use Rattle.sql_values.specs.declared.values.Sort.{Sort}
use Rattle.sql_values.specs.declared.values.Sort.TheVariants as sort
use Rattle.sql_values.specs.declared.schemas.Column.{Column}
use Rattle.sql_values.specs.declared.schemas.Schema.{Schema}
use Rattle.row_codec.specs.Reading.{read_row}
use Rattle.row_codec.specs.Records.{record_length, IsRecord}
use Rattle.sql_catalog.specs.Catalog.{schema_bytes, catalog_row, AreBounded}
use Rattle.statement_reader.specs.declared.tables.Table.{Table}
use Rattle.statement_reader.specs.Decoding.{Row, Decoder, catalog_schema}

-- ---- rows

-- within the limits the row that is read, cell by cell
abbrev pub row_if : Bool → Option Row → Option Row
row_if true row = row
row_if false row = None

abbrev pub is_short : LeafItem → Bool
is_short item =
    nat_le (length item.key) MAX_KEY_BYTES && nat_le (record_length item.key item.value) MAX_RECORD_BYTES

abbrev pub row_at : Option Column → Schema → LeafItem → Option Row
row_at None s item = None
row_at (Some column) s item = row_if (is_short item)
    (read_row s.columns s.key column.sort item.key item.value)

abbrev pub row_in : Schema → LeafItem → Option Row
row_in s item = row_at (slice_get s.columns s.key) s item

-- ---- tables

-- so many bytes, and those behind them
abbrev pub cut : ℕ → List ℕ → Option (List ℕ × List ℕ)
cut zero xs = Some ([], xs)
cut (suc n) [] = None
cut (suc n) (x ∷ xs) = option_map (λ (r : List ℕ × List ℕ). (x ∷ r.0, r.1)) (cut n xs)

abbrev pub sort_in : ℕ → Option Sort
sort_in n = if nat_eq n 1 then Some sort.Int else (if nat_eq n 2 then Some sort.Text else None)

-- a column's name, its sort and the bytes behind them
abbrev pub column_from : List ℕ → List ℕ → Option (Column × List ℕ)
column_from name [] = None
column_from name (s ∷ rest) = option_map (λ (t : Sort). (record { name = name; sort = t }, rest))
    (sort_in s)

abbrev pub column_in : List ℕ → Option (Column × List ℕ)
column_in [] = None
column_in (size ∷ rest) =
    option_and_then (λ (r : List ℕ × List ℕ). column_from r.0 r.1) (cut size rest)

abbrev pub columns_in : ℕ → List ℕ → Option (List Column)
columns_in zero [] = Some []
columns_in zero (b ∷ bs) = None
columns_in (suc n) bytes =
    option_and_then
    (λ (r : Column × List ℕ). option_map (λ (cs : List Column). r.0 ∷ cs) (columns_in n r.1))
    (column_in bytes)

-- the tests of a table and of its bounds
abbrev pub is_name : List ℕ → Bool
is_name name = nat_lt 0 (length name) && nat_le (length name) 32

abbrev pub are_named : List Column → Bool
are_named [] = true
are_named (c ∷ cs) = is_name c.name && are_named cs

abbrev pub differ_from : List ℕ → List Column → Bool
differ_from name [] = true
differ_from name (d ∷ ds) = not (bytes_eq d.name name) && differ_from name ds

abbrev pub differ : List Column → Bool
differ [] = true
differ (c ∷ cs) = differ_from c.name cs && differ cs

abbrev pub is_table : Schema → Bool
is_table s =
    nat_le 1 (length s.columns) &&
    (nat_le (length s.columns) MAX_COLUMNS &&
    (differ s.columns && nat_lt s.key (length s.columns)))

abbrev pub is_bounded : Schema → ℕ → Bool
is_bounded s root = is_name s.table && (are_named s.columns && nat_le root 32767)

-- the bytes are those of the table and its root
abbrev pub are_of : List ℕ → Schema → ℕ → Bool
are_of bytes s root = bytes_eq bytes (schema_bytes s root) && (is_table s && is_bounded s root)

abbrev pub table_if : Bool → Schema → ℕ → Option Table
table_if true s root = Some (record { schema = s; root = root })
table_if false s root = None

abbrev pub schema_with : List ℕ → List ℕ → List Column → Schema
schema_with name bytes columns = record
    { table = name; columns = columns; key = slice_index bytes 4 }

abbrev pub table_with : Option (List Column) → List ℕ → List ℕ → Option Table
table_with None name bytes = None
table_with (Some columns) name bytes =
    table_if (are_of bytes (schema_with name bytes columns) (number 4 bytes))
    (schema_with name bytes columns) (number 4 bytes)

abbrev pub table_at : List ℕ → List ℕ → Option Table
table_at name bytes = table_with (columns_in (slice_index bytes 5) (drop 6 bytes)) name bytes

-- the table of a row of the catalog
abbrev pub table_of : Row → Option Table
table_of (Text name ∷ (Text bytes ∷ [])) = table_at name bytes
table_of row = None

abbrev pub decoder : Decoder
decoder =
    record { table = λ item. option_and_then table_of (row_in catalog_schema item); row = row_in }

-- what a decoder gives of bytes is what they spell
pub record GivesSpelled (d : Decoder) : Type 0 where
  pub rows : (s : Schema) (item : LeafItem) (r : Row) → AreBytes item.key → AreBytes item.value
      → d.row s item ≡ Some r → IsRecord s r item.key item.value
  pub tables : (item : LeafItem) (t : Table) → AreBytes item.key → AreBytes item.value
      → d.table item ≡ Some t
      → IsTable t.schema × AreBounded t.schema t.root
      × IsRecord catalog_schema (catalog_row t.schema t.root) item.key item.value

-- For the proofs: what is read of an item is what it spells.
use Rattle.std.proofs.Common.{◌≡◌, ◌<◌, ℕ, List, [], ◌∷◌, ◌++◌, length, take, drop, Option, Some, None, refl, ap, ◌∙◌, arith, append_assoc, append-nil}
use Rattle.std.specs.Prelude.{slice_index, slice_index_or}
use Rattle.std.proofs.lemmas.List.{drop_at}
use Rattle.std.proofs.lemmas.Option.{slice_get-get_or}
use Rattle.std.proofs.Math.Seq.{drop-append_seam, take-append_seam}
use Rattle.rm_base.proofs.FieldLaws.{length-field, number-field}
use Rattle.rm_base.specs.Fields.{AreBytes, field, number}
use Rattle.page_view.specs.declared.leaf.LeafItem.{LeafItem}
use Rattle.sql_values.specs.declared.values.Sort.{Sort}
use Rattle.sql_values.specs.declared.values.Sort.TheVariants as sort
use Rattle.sql_values.specs.declared.schemas.Column.{Column}
use Rattle.sql_values.specs.declared.schemas.Schema.{Schema}
use Rattle.row_codec.specs.Reading.{IsRowOrNone, read_row}
use Rattle.row_codec.specs.Records.{IsRecord}
use Rattle.row_codec.proofs.ReadingLaws.{one_row, row_is}
use Rattle.sql_catalog.specs.Catalog.{columns_bytes, schema_bytes, sort_number}
use Rattle.version_store.specs.Versions.{Row}
use Rattle.held_versions.specs.Storing.{behind_root, columns_in, key_sort, root_in, schema_in, sort_with}
use Rattle.held_versions.specs.Tables.{SpellsTable, text_column}

-- ---- a table

sort_again : (s : Sort) → sort_with (sort_number s) ≡ s
sort_again sort.Int = refl
sort_again sort.Text = refl

abbrev with_column : List ℕ → Sort → List Column → List Column
with_column name kind rest = record { name = name; sort = kind } ∷ rest

columns_again : (cs : List Column) → columns_in (length cs) (columns_bytes cs) ≡ cs
columns_again [] = refl
columns_again (c ∷ cs) =
    let rest : List ℕ = columns_bytes cs in
    let size : ℕ = length c.name in
    let bytes : List ℕ = (c.name ++ (sort_number c.sort ∷ [])) ++ rest in
    let joined : bytes ≡ c.name ++ (sort_number c.sort ∷ rest) =
    append_assoc c.name (sort_number c.sort ∷ []) rest in
    let front : take size bytes ≡ c.name =
    ap (take size) joined ∙ take-append_seam c.name (sort_number c.sort ∷ rest) in
    let back : drop size bytes ≡ sort_number c.sort ∷ rest =
    ap (drop size) joined ∙ drop-append_seam c.name (sort_number c.sort ∷ rest) in
    ap (λ (name : List ℕ). with_column name (sort_with (slice_index (drop size bytes) 0))
    (columns_in (length cs) (drop 1 (drop size bytes)))) front
    ∙ ap (λ (left : List ℕ). with_column c.name (sort_with (slice_index left 0))
    (columns_in (length cs) (drop 1 left))) back
    ∙ ap (λ (kind : Sort). with_column c.name kind (columns_in (length cs) rest)) (sort_again c.sort)
    ∙ ap (with_column c.name c.sort) (columns_again cs)

-- the text of a table's item, behind its length
text_of : (item : LeafItem) (s : Schema) (root : ℕ) → SpellsTable item s root
    → drop 3 item.value ≡ schema_bytes s root
text_of item s root h =
    let bytes : List ℕ = schema_bytes s root in
    let size : List ℕ = field 2 (length bytes) in
    ap (drop 3) (h.spelt.value_is ∙ append-nil (2 ∷ (size ++ bytes)))
    ∙ drop_at size bytes 2 (length-field 2 (length bytes))

abbrev with_schema : List ℕ → List Column → ℕ → Schema
with_schema table columns key = record { table = table; columns = columns; key = key }

pub root_read : (item : LeafItem) (s : Schema) (root : ℕ) → SpellsTable item s root
    → root_in item ≡ root
root_read item s root h =
    let bound = h.bounded.page in
    ap (number 4) (text_of item s root h)
    ∙ number-field 4 root (s.key ∷ (length s.columns ∷ columns_bytes s.columns)) (omega arith)

pub schema_read : (item : LeafItem) (s : Schema) (root : ℕ) → SpellsTable item s root
    → schema_in item ≡ s
schema_read item s root h =
    let rest : List ℕ = s.key ∷ (length s.columns ∷ columns_bytes s.columns) in
    let behind : behind_root item ≡ rest =
    ap (drop 4) (text_of item s root h) ∙ drop_at (field 4 root) rest 4 (length-field 4 root) in
    ap (λ (left : List ℕ). with_schema item.key (columns_in (slice_index left 1) (drop 2 left)) (slice_index left 0)) behind
    ∙ ap (λ (columns : List Column). with_schema item.key columns s.key) (columns_again s.columns)
    ∙ ap (λ (table : List ℕ). with_schema table s.columns s.key) h.spelt.key_is

-- ---- a row

row_by : (s : Schema) (r : Row) (key value : List ℕ) (o : Option Row) → IsRowOrNone s key value o
    → IsRecord s r key value → o ≡ Some r
row_by s r key value None none is = absurd (none r is)
row_by s r key value (Some q) found is = ap Some (one_row s q r key value found is)

pub row_read : (s : Schema) (r : Row) (key value : List ℕ) → s.key < length s.columns
    → AreBytes key → AreBytes value → IsRecord s r key value
    → read_row s.columns s.key (key_sort s) key value ≡ Some r
row_read s r key value inside bytes_key bytes_value is =
    row_by s r key value (read_row s.columns s.key (key_sort s) key value)
    (row_is s key value (slice_index_or s.columns s.key text_column)
    (read_row s.columns s.key (key_sort s) key value) bytes_key bytes_value
    (slice_get-get_or s.columns s.key text_column inside) is.short_key is.short_record refl) is

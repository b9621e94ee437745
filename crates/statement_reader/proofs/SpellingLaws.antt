-- The decoder gives what items spell.
use Rattle.std.proofs.Common.{◌≡◌, ◌≢◌, ◌<◌, ◌≤◌, ◌^◌, ◌&&◌, ℕ, zero, suc, Bool, true, false, not, List, [], ◌∷◌, ◌++◌, length, drop, slice_get, slice_index, Option, Some, None, refl, sym, ◌∙◌, ap, subst, arith, inl, inr, append_assoc, nat_le, nat_lt}
use Rattle.rm_base.specs.declared.limits.TheConstants.{MAX_COLUMNS, MAX_KEY_BYTES, MAX_RECORD_BYTES}
use Rattle.std.specs.Prelude.{bytes_eq, option_map, option_and_then}
use Rattle.std.specs.List.{AllByRecursion}
use Rattle.std.proofs.lemmas.Slice.Eq.{bytes_eq-Decides}
use Rattle.std.proofs.lemmas.Bool.Decides.{Decides-and, Decides-not}
use Rattle.std.specs.Bool.{Decides}
use Rattle.rm_base.specs.Fields.{field, number, AreBytes}
use Rattle.rm_base.proofs.FieldLaws.{length-field, number-field}
use Rattle.sql_values.specs.Tables.{Differ, IsName, IsNamed, IsTable}
use Rattle.page_view.specs.declared.leaf.LeafItem.{LeafItem}
use Rattle.sql_values.specs.declared.values.Value.TheVariants.{Null, Int, Text}
use Rattle.sql_values.specs.declared.values.Sort.{Sort}
use Rattle.sql_values.specs.declared.values.Sort.TheVariants as sort
use Rattle.sql_values.specs.declared.schemas.Column.{Column}
use Rattle.sql_values.specs.declared.schemas.Schema.{Schema}
use Rattle.row_codec.specs.Reading.{read_row, IsRowOrNone}
use Rattle.row_codec.specs.Records.{IsRecord, record_length}
use Rattle.row_codec.proofs.ReadingLaws.{row_is, no_row, one_row}
use Rattle.sql_catalog.specs.Catalog.{sort_number, column_bytes, columns_bytes, schema_bytes, catalog_row, AreBounded}
use Rattle.statement_reader.specs.declared.tables.Table.{Table}
use Rattle.statement_reader.specs.Decoding.{Row, Decodes, IsEntryIn, catalog_schema}
use Rattle.statement_reader.specs.Spelling.{row_if, row_at, row_in, cut, sort_in, column_from, column_in, columns_in, is_name, are_named, differ_from, differ, is_table, is_bounded, are_of, table_if, schema_with, table_with, table_of, decoder, GivesSpelled}

-- ---- rows

none_past : {A : Type 0} (xs : List A) (i : ℕ) → slice_get xs i ≡ None → length xs ≤ i
none_past [] i e = omega arith
none_past {A} (x ∷ xs) zero e = absurd (apart e)
  where
    apart : Some x ≡ None → ⊥
    apart q = cc
none_past (x ∷ xs) (suc i) e = omega (arith, none_past xs i e)

le_of : (m n : ℕ) → nat_le m n ≡ true → m ≤ n
le_of m n e = grind (arith, e)

le_not : (m n : ℕ) → nat_le m n ≡ false → n < m
le_not m n e = grind (arith, e)

le_true : (m n : ℕ) → m ≤ n → nat_le m n ≡ true
le_true m n h = grind (arith, h)

le_decides : (m n : ℕ) → Decides (nat_le m n) (m ≤ n)
le_decides m n = (le_of m n, le_true m n)

lt_of : (m n : ℕ) → nat_lt m n ≡ true → m < n
lt_of m n e = grind (arith, e)

lt_true : (m n : ℕ) → m < n → nat_lt m n ≡ true
lt_true m n h = grind (arith, h)

lt_decides : (m n : ℕ) → Decides (nat_lt m n) (m < n)
lt_decides m n = (lt_of m n, lt_true m n)

row_right : (s : Schema) (item : LeafItem) → AreBytes item.key → AreBytes item.value → IsRowOrNone s item.key item.value (row_in s item)
row_right s item k v = go (slice_get s.columns s.key) refl
  where
    within : (column : Column) → slice_get s.columns s.key ≡ Some column → (a b : Bool)
        → nat_le (length item.key) MAX_KEY_BYTES ≡ a → nat_le (record_length item.key item.value) MAX_RECORD_BYTES ≡ b
        → IsRowOrNone s item.key item.value (row_if (a && b) (read_row s.columns s.key column.sort item.key item.value))
    within column e true true p q =
        row_is s item.key item.value column (read_row s.columns s.key column.sort item.key item.value) k v e
        (le_of (length item.key) MAX_KEY_BYTES p) (le_of (record_length item.key item.value) MAX_RECORD_BYTES q) refl
    within column e true false p q = no_row s item.key item.value (inr (inr (le_not (record_length item.key item.value) MAX_RECORD_BYTES q)))
    within column e false b p q = no_row s item.key item.value (inr (inl (le_not (length item.key) MAX_KEY_BYTES p)))

    go : (o : Option Column) → slice_get s.columns s.key ≡ o → IsRowOrNone s item.key item.value (row_at o s item)
    go None e = no_row s item.key item.value (inl (none_past s.columns s.key e))
    go (Some column) e =
        within column e (nat_le (length item.key) MAX_KEY_BYTES) (nat_le (record_length item.key item.value) MAX_RECORD_BYTES) refl refl

one_answer : (s : Schema) (key value : List ℕ) (a b : Option Row) → IsRowOrNone s key value a → IsRowOrNone s key value b → a ≡ b
one_answer s key value None None x y = refl
one_answer s key value None (Some r) x y = absurd (x r y)
one_answer s key value (Some r) None x y = absurd (y r x)
one_answer s key value (Some r) (Some q) x y = ap Some (one_row s r q key value x y)

-- ---- columns

suc_length : {A : Type 0} (x : A) (xs : List A) → length (x ∷ xs) ≡ suc (length xs)
suc_length x xs = omega arith

cut_there : (a b : List ℕ) → cut (length a) (a ++ b) ≡ Some (a, b)
cut_there [] b = refl
cut_there (x ∷ a) b =
    ap (λ (n : ℕ). cut n (x ∷ (a ++ b))) (suc_length x a) ∙ ap (option_map (λ (r : List ℕ × List ℕ). (x ∷ r.0, r.1))) (cut_there a b)

sort_there : (t : Sort) → sort_in (sort_number t) ≡ Some t
sort_there sort.Int = refl
sort_there sort.Text = refl

from_there : (c : Column) (rest : List ℕ) → column_from c.name (sort_number c.sort ∷ rest) ≡ Some (c, rest)
from_there c rest = ap (option_map (λ (t : Sort). (record { name = c.name; sort = t }, rest))) (sort_there c.sort)

column_there : (c : Column) (rest : List ℕ) → column_in (column_bytes c ++ rest) ≡ Some (c, rest)
column_there c rest =
    ap (λ (xs : List ℕ). option_and_then (λ (r : List ℕ × List ℕ). column_from r.0 r.1) (cut (length c.name) xs))
    (append_assoc c.name (sort_number c.sort ∷ []) rest)
    ∙ (ap (option_and_then (λ (r : List ℕ × List ℕ). column_from r.0 r.1)) (cut_there c.name (sort_number c.sort ∷ rest))
    ∙ from_there c rest)

columns_there : (cs : List Column) → columns_in (length cs) (columns_bytes cs) ≡ Some cs
columns_there [] = refl
columns_there (c ∷ cs) =
    ap (λ (n : ℕ). columns_in n (columns_bytes (c ∷ cs))) (suc_length c cs)
    ∙ (ap (option_and_then (λ (r : Column × List ℕ). option_map (λ (ds : List Column). r.0 ∷ ds) (columns_in (length cs) r.1))) (column_there c (columns_bytes cs))
    ∙ ap (option_map (λ (ds : List Column). c ∷ ds)) (columns_there cs))

-- ---- tests

name_decides : (name : List ℕ) → Decides (is_name name) (IsName name)
name_decides name = Decides-and (nat_lt 0 (length name)) (nat_le (length name) 32) (lt_decides 0 (length name)) (le_decides (length name) 32)

named_decides : (cs : List Column) → Decides (are_named cs) (AllByRecursion IsNamed cs)
named_decides [] = (λ e. tt, λ h. refl)
named_decides (c ∷ cs) = Decides-and (is_name c.name) (are_named cs) (name_decides c.name) (named_decides cs)

from_decides : (name : List ℕ) (cs : List Column) → Decides (differ_from name cs) (AllByRecursion (λ d. d.name ≢ name) cs)
from_decides name [] = (λ e. tt, λ h. refl)
from_decides name (d ∷ ds) =
    Decides-and (not (bytes_eq d.name name)) (differ_from name ds) (Decides-not (bytes_eq d.name name) (bytes_eq-Decides d.name name)) (from_decides name ds)

differ_decides : (cs : List Column) → Decides (differ cs) (Differ cs)
differ_decides [] = (λ e. tt, λ h. refl)
differ_decides (c ∷ cs) = Decides-and (differ_from c.name cs) (differ cs) (from_decides c.name cs) (differ_decides cs)

table_decides : (s : Schema) → Decides (is_table s) (IsTable s)
table_decides s =
    let last = Decides-and (differ s.columns) (nat_lt s.key (length s.columns)) (differ_decides s.columns) (lt_decides s.key (length s.columns)) in
    let more = Decides-and (nat_le (length s.columns) MAX_COLUMNS) (differ s.columns && nat_lt s.key (length s.columns)) (le_decides (length s.columns) MAX_COLUMNS) last in
    let all = Decides-and (nat_le 1 (length s.columns)) (nat_le (length s.columns) MAX_COLUMNS && (differ s.columns && nat_lt s.key (length s.columns)))
    (le_decides 1 (length s.columns)) more in
    (λ e. let h = all.0 e in record { some = h.0; few = h.1.0; differ = h.1.1.0; key = h.1.1.1 }, λ h. all.1 (h.some, (h.few, (h.differ, h.key))))

bounded_decides : (s : Schema) (root : ℕ) → Decides (is_bounded s root) (AreBounded s root)
bounded_decides s root =
    let last = Decides-and (are_named s.columns) (nat_le root 32767) (named_decides s.columns) (le_decides root 32767) in
    let all = Decides-and (is_name s.table) (are_named s.columns && nat_le root 32767) (name_decides s.table) last in
    (λ e. let h = all.0 e in record { table = h.0; columns = h.1.0; page = h.1.1 }, λ h. all.1 (h.table, (h.columns, h.page)))

of_decides : (bytes : List ℕ) (s : Schema) (root : ℕ) → Decides (are_of bytes s root) ((bytes ≡ schema_bytes s root) × (IsTable s × AreBounded s root))
of_decides bytes s root =
    Decides-and (bytes_eq bytes (schema_bytes s root)) (is_table s && is_bounded s root) (bytes_eq-Decides bytes (schema_bytes s root))
    (Decides-and (is_table s) (is_bounded s root) (table_decides s) (bounded_decides s root))

-- ---- tables

record Parts (f : List ℕ) (k c : ℕ) (rest : List ℕ) : Type 0 where
  key : slice_index (f ++ (k ∷ (c ∷ rest))) 4 ≡ k
  count : slice_index (f ++ (k ∷ (c ∷ rest))) 5 ≡ c
  columns : drop 6 (f ++ (k ∷ (c ∷ rest))) ≡ rest

parts : (f : List ℕ) (k c : ℕ) (rest : List ℕ) → length f ≡ 4 → Parts f k c rest
parts [] k c rest h = absurd (omega (arith, h))
parts (x ∷ []) k c rest h = absurd (omega (arith, h))
parts (x ∷ (y ∷ [])) k c rest h = absurd (omega (arith, h))
parts (x ∷ (y ∷ (z ∷ []))) k c rest h = absurd (omega (arith, h))
parts (x ∷ (y ∷ (z ∷ (w ∷ [])))) k c rest h = record { key = refl; count = refl; columns = refl }
parts (x ∷ (y ∷ (z ∷ (w ∷ (v ∷ more))))) k c rest h = absurd (omega (arith, h))

table_there : (s : Schema) (root : ℕ) → IsTable s → AreBounded s root → table_of (catalog_row s root) ≡ Some (record { schema = s; root = root })
table_there s root t b =
    let bytes : List ℕ = schema_bytes s root in
    let p = parts (field 4 root) s.key (length s.columns) (columns_bytes s.columns) (length-field 4 root) in
    let small : root < 256 ^ 4 = let most = b.page in omega (arith, most) in
    let n : number 4 bytes ≡ root = number-field 4 root (s.key ∷ (length s.columns ∷ columns_bytes s.columns)) small in
    let read : columns_in (slice_index bytes 5) (drop 6 bytes) ≡ Some s.columns =
    ap (λ (c : ℕ). columns_in c (drop 6 bytes)) p.count ∙ (ap (columns_in (length s.columns)) p.columns ∙ columns_there s.columns) in
    let same : schema_with s.table bytes s.columns ≡ s = ap (λ (k : ℕ). record { table = s.table; columns = s.columns; key = k }) p.key in
    ap (λ (o : Option (List Column)). table_with o s.table bytes) read
    ∙ (ap (λ (x : Schema). table_if (are_of bytes x (number 4 bytes)) x (number 4 bytes)) same
    ∙ (ap (λ (r : ℕ). table_if (are_of bytes s r) s r) n
    ∙ ap (λ (x : Bool). table_if x s root) ((of_decides bytes s root).1 (refl, (t, b)))))

no_some : {A : Type 0} {x : A} → None ≡ Some x → ⊥
no_some e = cc

some_is : {A : Type 0} {x y : A} → Some x ≡ Some y → x ≡ y
some_is e = cc

abbrev IsOf : Row → Table → Type 0
IsOf row t = IsTable t.schema × AreBounded t.schema t.root × (row ≡ catalog_row t.schema t.root)

with_back : (o : Option (List Column)) (name bytes : List ℕ) (t : Table) → table_with o name bytes ≡ Some t → IsOf (Text name ∷ (Text bytes ∷ [])) t
with_back None name bytes t e = absurd (no_some e)
with_back (Some columns) name bytes t e = go (are_of bytes s (number 4 bytes)) refl e
  where
    s : Schema
    s = schema_with name bytes columns

    go : (b : Bool) → are_of bytes s (number 4 bytes) ≡ b → table_if b s (number 4 bytes) ≡ Some t → IsOf (Text name ∷ (Text bytes ∷ [])) t
    go false f e = absurd (no_some e)
    go true f e =
        let h = (of_decides bytes s (number 4 bytes)).0 f in
        let row : Text name ∷ (Text bytes ∷ []) ≡ catalog_row s (number 4 bytes) = ap (λ (xs : List ℕ). Text name ∷ (Text xs ∷ [])) h.0 in
        subst (IsOf (Text name ∷ (Text bytes ∷ []))) (some_is e) (h.1.0, h.1.1, row)

table_back : (row : Row) (t : Table) → table_of row ≡ Some t → IsOf row t
table_back [] t e = absurd (no_some e)
table_back (Null ∷ rest) t e = absurd (no_some e)
table_back (Int n ∷ rest) t e = absurd (no_some e)
table_back (Text name ∷ []) t e = absurd (no_some e)
table_back (Text name ∷ (Null ∷ rest)) t e = absurd (no_some e)
table_back (Text name ∷ (Int n ∷ rest)) t e = absurd (no_some e)
table_back (Text name ∷ (Text bytes ∷ [])) t e = with_back (columns_in (slice_index bytes 5) (drop 6 bytes)) name bytes t e
table_back (Text name ∷ (Text bytes ∷ (x ∷ rest))) t e = absurd (no_some e)

table_agrees : (row : Row) (o : Option Table) → IsEntryIn (Some row) o → table_of row ≡ o
table_agrees row None h = go (table_of row) refl
  where
    go : (o : Option Table) → table_of row ≡ o → o ≡ None
    go None e = refl
    go (Some t) e = let b = table_back row t e in absurd (h t.schema t.root b.0 b.1 b.2)
table_agrees row (Some t) h = ap table_of h.2 ∙ table_there t.schema t.root h.0 h.1

entry_agrees : (o : Option Row) (found : Option Table) → IsEntryIn o found → option_and_then table_of o ≡ found
entry_agrees None found h = sym h
entry_agrees (Some row) found h = table_agrees row found h

pub decodes : Decodes decoder
decodes = record {
  rows = λ s item o k v h. one_answer s item.key item.value (row_in s item) o (row_right s item k v) h;
  tables = λ item found k v h.
      ap (option_and_then table_of) (one_answer catalog_schema item.key item.value (row_in catalog_schema item) h.0 (row_right catalog_schema item k v) h.1)
      ∙ entry_agrees h.0 found h.2;
}

row_spelt : (s : Schema) (item : LeafItem) (r : Row) → AreBytes item.key → AreBytes item.value → row_in s item ≡ Some r → IsRecord s r item.key item.value
row_spelt s item r k v e = subst (IsRowOrNone s item.key item.value) e (row_right s item k v)

table_spelt : (item : LeafItem) (t : Table) → AreBytes item.key → AreBytes item.value → (o : Option Row) → row_in catalog_schema item ≡ o
    → option_and_then table_of o ≡ Some t
    → IsTable t.schema × AreBounded t.schema t.root × IsRecord catalog_schema (catalog_row t.schema t.root) item.key item.value
table_spelt item t k v None f e = absurd (no_some e)
table_spelt item t k v (Some row) f e =
    let b = table_back row t e in
    (b.0, b.1, subst (λ (r : Row). IsRecord catalog_schema r item.key item.value) b.2 (row_spelt catalog_schema item row k v f))

pub gives_spelled : GivesSpelled decoder
gives_spelled = record {
  rows = λ s item r k v e. row_spelt s item r k v e;
  tables = λ item t k v e. table_spelt item t k v (row_in catalog_schema item) refl e;
}

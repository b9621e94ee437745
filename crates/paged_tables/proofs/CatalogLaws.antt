-- Tables as items of the catalog, and back.
use Rattle.std.proofs.Common.{◌≡◌, ◌≤◌, ◌+◌, ◌*◌, ℕ, Bool, true, false, cond, List, [], ◌∷◌, ◌++◌, length, map, Option, Some, None, Result, Ok, Err, refl, sym, ap, subst, ◌∙◌, length-append, append-nil, arith}
use Rattle.rm_base.specs.declared.limits.TheConstants.{CATALOG_ROOT_PAGE_ID}
use Rattle.std.specs.Prelude.{◌&&◌, filter, find, slice_get, bytes_eq, Contains}
use Rattle.std.specs.Result.{OkIff}
use Rattle.std.specs.List.{AllByRecursion}
use Rattle.std.specs.declared.cmp.Ordering.{Ordering}
use Rattle.std.specs.declared.cmp.Ordering.TheVariants.{Less, Equal, Greater}
use Rattle.std.specs.Ordering.{is_le, is_eq, ordering_reverse}
use Rattle.std.proofs.lemmas.Cmp.{nat_list_cmp_total}
use Rattle.std.proofs.lemmas.Map.Text.{is_eq-slice_cmp}
use Rattle.rm_base.specs.Fields.{field}
use Rattle.rm_base.specs.declared.key_range.KeyRange.{KeyRange}
use Rattle.rm_base.proofs.FieldLaws.{length-field}
use Rattle.sql_values.specs.Tables.{IsNamed, IsTable}
use Rattle.page_image.specs.Image.{Image}
use Rattle.bplus_tree.specs.Forest.{Forest}
use Rattle.sql_database.specs.Database.{Database}
use Rattle.sql_values.specs.declared.schemas.Column.{Column}
use Rattle.sql_values.specs.declared.schemas.Schema.{Schema}
use Rattle.sql_values.specs.declared.values.Value.{Value}
use Rattle.sql_values.specs.Order.{text_cmp}
use Rattle.page_view.specs.declared.leaf.LeafItem.{LeafItem}
use Rattle.page_view.specs.Leaf.{leaf_bytes, IsLeaf}
use Rattle.page_view.proofs.LeafLaws.{one_leaf}
use Rattle.bplus_tree.specs.Walk as walk
use Rattle.row_codec.specs.Keys.{key_bytes}
use Rattle.row_codec.specs.Records.{IsRecord, key_cell, record_length, value_bytes}
use Rattle.row_codec.specs.Reading.{IsRowOrNone}
use Rattle.row_codec.proofs.ReadingLaws.{one_row}
use Rattle.sql_catalog.specs.Catalog.{AreBounded, IsTableOrNone, catalog_row, column_bytes, columns_bytes, schema_bytes}
use Rattle.sql_catalog.proofs.Spelled.{one_table}
use Rattle.sql_meaning.specs.Ranges.{in_range}
use Rattle.paged_tables.specs.Items.{Entry, live_item, entry_item, entry_items, entry_named}
use Rattle.paged_tables.specs.Catalog.{catalog_schema, catalog_value}
use Rattle.paged_tables.specs.Content.{IsEntry, Holds}
use Rattle.paged_tables.proofs.ItemLaws.{filter-map, filter_alike, key_of_row, range_is}
use Rattle.paged_tables.proofs.EntryLaws.{has_name}

-- ---- the limits of a table's item

columns_short : (cs : List Column) → AllByRecursion IsNamed cs → length (columns_bytes cs) ≤ 34 * length cs
columns_short [] named = omega arith
columns_short (c ∷ cs) named =
    let name = named.0.1 in
    let one : length (column_bytes c) ≡ length c.name + 2 = simp length-append (omega arith) in
    omega (arith, one, columns_short cs named.1, length-append (column_bytes c) (columns_bytes cs))

length-schema_bytes : (s : Schema) (root : ℕ) → length (schema_bytes s root) ≡ 6 + length (columns_bytes s.columns)
length-schema_bytes s root =
    omega (arith, length-append (field 4 root) (s.key ∷ (length s.columns ∷ columns_bytes s.columns)), length-field 4 root)

pub length-catalog_value : (s : Schema) (root : ℕ) → length (catalog_value s root) ≡ 9 + length (columns_bytes s.columns)
length-catalog_value s root =
    let text : List ℕ = schema_bytes s root in
    let whole : length (catalog_value s root) ≡ length (2 ∷ (field 2 (length text) ++ text)) = ap length (append-nil (2 ∷ (field 2 (length text) ++ text))) in
    omega (arith, whole, length-append (field 2 (length text)) text, length-field 2 (length text), length-schema_bytes s root)

pub entry_short : (s : Schema) (root : ℕ) → IsTable s → AreBounded s root → record_length s.table (catalog_value s root) ≤ 1000
entry_short s root table bounded =
    let name = bounded.table.1 in
    let few = table.few in
    omega (arith, name, few, length-catalog_value s root, columns_short s.columns bounded.columns)

pub entry_leaf : (s : Schema) (root : ℕ) → IsTable s → AreBounded s root → IsLeaf (live_item s.table (catalog_value s root))
entry_leaf s root table bounded =
    let name = bounded.table.1 in
    let short = entry_short s root table bounded in
    record {
      short_key = omega arith;
      short = short;
      trx = omega arith;
      older_page = omega arith;
      older_slot = omega arith;
    }

pub entry_record : (s : Schema) (root : ℕ) → IsTable s → AreBounded s root → IsRecord catalog_schema (catalog_row s root) s.table (catalog_value s root)
entry_record s root table bounded =
    let name = bounded.table.1 in
    record {
      fits = record { cells = (tt, (tt, tt)); key = λ e. cc };
      ints = tt;
      key_is = refl;
      value_is = refl;
      short_key = omega arith;
      short_record = entry_short s root table bounded;
    }

-- ---- what an item is read as

pub entry_read : (item : LeafItem) (e : Entry) → IsLeaf item → IsEntry e → leaf_bytes item ≡ entry_item e
    → item ≡ live_item e.schema.table (catalog_value e.schema e.root)
entry_read item e leaf is spelled = one_leaf item (live_item e.schema.table (catalog_value e.schema e.root)) leaf (entry_leaf e.schema e.root is.table is.bounded) spelled

pub row_read : (schema : Schema) (key value : List ℕ) (e : Entry) (found : Option (List Value)) → schema ≡ catalog_schema → IsEntry e → key ≡ e.schema.table
    → value ≡ catalog_value e.schema e.root → IsRowOrNone schema key value found → found ≡ Some (catalog_row e.schema e.root)
row_read schema key value e found schema_is is key_is value_is read =
    let here : IsRecord schema (catalog_row e.schema e.root) key value =
    subst (λ (q : Schema). IsRecord q (catalog_row e.schema e.root) key value) (sym schema_is)
    (subst (λ (k : List ℕ). IsRecord catalog_schema (catalog_row e.schema e.root) k value) (sym key_is)
    (subst (λ (v : List ℕ). IsRecord catalog_schema (catalog_row e.schema e.root) e.schema.table v) (sym value_is) (entry_record e.schema e.root is.table is.bounded))) in
    go found read here
  where
    go : (o : Option (List Value)) → IsRowOrNone schema key value o → IsRecord schema (catalog_row e.schema e.root) key value → o ≡ Some (catalog_row e.schema e.root)
    go None none here = absurd (none (catalog_row e.schema e.root) here)
    go (Some r) some here = ap (λ (x : List Value). Some x) (one_row schema r (catalog_row e.schema e.root) key value some here)

pub table_read : (row : List Value) (e : Entry) (found : Option (Schema × ℕ)) → IsEntry e → row ≡ catalog_row e.schema e.root → IsTableOrNone row found
    → found ≡ Some (e.schema, e.root)
table_read row e None is row_is none = absurd (none e.schema e.root is.table is.bounded row_is)
table_read row e (Some f) is row_is some =
    let same = one_table f.0 e.schema f.1 e.root some.1 is.bounded (sym some.2 ∙ row_is) in
    ap (λ (x : Schema). let o : Option (Schema × ℕ) = Some (x, f.1) in o) same.0
    ∙ ap (λ (n : ℕ). let o : Option (Schema × ℕ) = Some (e.schema, n) in o) same.1

-- ---- the range of one name

both_le : (o p : Ordering) → p ≡ ordering_reverse o → (is_le p && is_le o) ≡ is_eq o
both_le Less p e = ap (λ (q : Ordering). is_le q && true) e
both_le Equal p e = ap (λ (q : Ordering). is_le q && true) e
both_le Greater p e = ap (λ (q : Ordering). is_le q && false) e

one_name : (r : KeyRange) (key name : List ℕ) → r.low ≡ Some name → r.high ≡ Some name → in_range key r ≡ bytes_eq key name
one_name r key name low high =
    ap (λ (o : Option (List ℕ)). in_range key (record { low = o; high = r.high })) low
    ∙ ap (λ (o : Option (List ℕ)). in_range key (record { low = Some name; high = o })) high
    ∙ both_le (text_cmp key name) (text_cmp name key) (nat_list_cmp_total.antisymm name key)
    ∙ is_eq-slice_cmp key name

pub entries_in_range : (r : KeyRange) (name : List ℕ) (entries : List Entry) → r.low ≡ Some name → r.high ≡ Some name
    → filter (walk.in_range r.low r.high) (entry_items entries) ≡ entry_items (filter (has_name name) entries)
entries_in_range r name entries low high =
    filter-map (walk.in_range r.low r.high) entry_item entries
    ∙ ap entry_items (filter_alike (λ e. walk.in_range r.low r.high (entry_item e)) (has_name name)
    (λ e. range_is r (entry_item e) ∙ ap (λ (key : List ℕ). in_range key r) (key_of_row 0 (catalog_row e.schema e.root)) ∙ one_name r e.schema.table name low high) entries)

first_chosen : {A : Type 0} (x : A) (b : Bool) (found : Option A) (kept : List A) → found ≡ slice_get kept 0 → cond b (Some x) found ≡ slice_get (cond b (x ∷ kept) kept) 0
first_chosen x true found kept e = refl
first_chosen x false found kept e = e

find_first : {A : Type 0} (p : A → Bool) (xs : List A) → find p xs ≡ slice_get (filter p xs) 0
find_first p [] = refl
find_first p (x ∷ xs) = first_chosen x (p x) (find p xs) (filter p xs) (find_first p xs)

none_first : (items : List LeafItem) (entries : List Entry) → map leaf_bytes items ≡ entry_items entries → slice_get items 0 ≡ None → slice_get entries 0 ≡ None
none_first [] [] same none = refl
none_first [] (e ∷ es) same none = absurd cc
none_first (x ∷ xs) entries same none = absurd cc

some_first : (items : List LeafItem) (entries : List Entry) (item : LeafItem) → map leaf_bytes items ≡ entry_items entries → slice_get items 0 ≡ Some item
    → (e : Entry) × (slice_get entries 0 ≡ Some e) × (leaf_bytes item ≡ entry_item e)
some_first [] entries item same some = absurd cc
some_first (x ∷ xs) [] item same some = absurd cc
some_first (x ∷ xs) (e ∷ es) item same some =
    let is : x ≡ item = cc in
    let first : leaf_bytes x ≡ entry_item e = cc in
    (e, refl, ap leaf_bytes (sym is) ∙ first)

-- no item has the name, or the first has that of the table
pub name_absent : (items : List LeafItem) (entries : List Entry) (name : List ℕ) → map leaf_bytes items ≡ entry_items (filter (has_name name) entries)
    → slice_get items 0 ≡ None → entry_named entries name ≡ None
name_absent items entries name same none = find_first (has_name name) entries ∙ none_first items (filter (has_name name) entries) same none

pub name_found : (items : List LeafItem) (entries : List Entry) (name : List ℕ) (item : LeafItem) → map leaf_bytes items ≡ entry_items (filter (has_name name) entries)
    → slice_get items 0 ≡ Some item → (e : Entry) × (entry_named entries name ≡ Some e) × (leaf_bytes item ≡ entry_item e)
name_found items entries name item same some =
    let found = some_first items (filter (has_name name) entries) item same some in
    (found.0, find_first (has_name name) entries ∙ found.1, found.2)

-- ---- the value of an item is not refused

ok_value : {T E : Type 0} (r : Result T E) (P : Type 0) (v : T) → OkIff r P v → P → r ≡ Ok v
ok_value (Ok x) P v h p = ap (λ y. Ok y) h.1
ok_value (Err e) P v h p = absurd (h p)

pub not_refused : {E : Type 0} (schema : Schema) (row : List Value) (s : Schema) (root : ℕ) (r : Result (List ℕ) E) → schema ≡ catalog_schema → row ≡ catalog_row s root
    → IsTable s → AreBounded s root
    → OkIff r (record_length (key_bytes (key_cell schema.key row)) (value_bytes schema.key row) ≤ 1000) (value_bytes schema.key row)
    → r ≡ Ok (catalog_value s root)
not_refused {E} schema row s root r schema_is row_is table bounded h =
    let at : OkIff r (record_length s.table (catalog_value s root) ≤ 1000) (catalog_value s root) =
    subst (λ (x : List Value). OkIff r (record_length (key_bytes (key_cell 0 x)) (value_bytes 0 x) ≤ 1000) (value_bytes 0 x)) row_is
    (subst (λ (q : Schema). OkIff r (record_length (key_bytes (key_cell q.key row)) (value_bytes q.key row) ≤ 1000) (value_bytes q.key row)) schema_is h) in
    ok_value r (record_length s.table (catalog_value s root) ≤ 1000) (catalog_value s root) at (entry_short s root table bounded)

-- ---- the items of a name

pub named_items : (pages : ℕ → Image) (d : Database) (h : Holds pages d) (r : KeyRange) (name : List ℕ) (root : ℕ) (items : List LeafItem) → root ≡ CATALOG_ROOT_PAGE_ID
    → r.low ≡ Some name → r.high ≡ Some name
    → ((roots : List ℕ) (its : ℕ → List (List ℕ)) → Forest pages roots its → Contains roots root → map leaf_bytes items ≡ filter (walk.in_range r.low r.high) (its root))
    → map leaf_bytes items ≡ entry_items (filter (has_name name) h.entries)
named_items pages d h r name root items root_is low high spelled =
    spelled h.roots h.items h.forest (subst (Contains h.roots) (sym root_is) h.rooted)
    ∙ ap (λ (p : ℕ). filter (walk.in_range r.low r.high) (h.items p)) root_is
    ∙ ap (filter (walk.in_range r.low r.high)) h.catalog
    ∙ entries_in_range r name h.entries low high

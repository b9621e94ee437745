-- Rows of items, one for one.
use Rattle.std.proofs.Common.{◌≡◌, ◌<◌, ◌+◌, ℕ, zero, suc, List, [], ◌∷◌, ◌++◌, length, map, take, get_or, Option, Some, None, Result, Ok, Err, refl, sym, ap, subst, ◌∙◌, arith}
use Rattle.std.specs.Prelude.{slice_get}
use Rattle.std.specs.Result.{OkIff}
use Rattle.std.specs.List.{AllByRecursion}
use Rattle.sql_values.specs.declared.schemas.Schema.{Schema}
use Rattle.sql_values.specs.declared.values.Value.{Value}
use Rattle.page_view.specs.declared.leaf.LeafItem.{LeafItem}
use Rattle.page_view.specs.Leaf.{leaf_bytes, IsLeaf}
use Rattle.page_view.proofs.LeafLaws.{one_leaf}
use Rattle.tree_change.specs.Effects.{with_item}
use Rattle.row_codec.specs.Records.{IsRecord, value_bytes}
use Rattle.row_codec.specs.Reading.{IsRowOrNone}
use Rattle.row_codec.proofs.ReadingLaws.{one_row}
use Rattle.paged_tables.specs.Items.{live_item, row_item, row_items}
use Rattle.paged_tables.specs.Content.{IsStored}
use Rattle.paged_tables.proofs.ItemLaws.{row_key_of}
use Rattle.paged_tables.proofs.ReadLaws.{all_at, take_item}

-- the item of a row is within the limits
pub stored_leaf : (schema : Schema) (row : List Value) → IsStored schema row → IsLeaf (live_item (row_key_of schema.key row) (value_bytes schema.key row))
stored_leaf schema row stored =
    let key = stored.short_key in
    let short = stored.short_record in
    record {
      short_key = omega arith;
      short = omega arith;
      trx = omega arith;
      older_page = omega arith;
      older_slot = omega arith;
    }

stored_item : (schema : Schema) (item : LeafItem) (row : List Value) → IsLeaf item → IsStored schema row → leaf_bytes item ≡ row_item schema.key row
    → item ≡ live_item (row_key_of schema.key row) (value_bytes schema.key row)
stored_item schema item row leaf stored spelled =
    one_leaf item (live_item (row_key_of schema.key row) (value_bytes schema.key row)) leaf (stored_leaf schema row stored) spelled

-- what is read of an item is its row
pub stored_read : (schema : Schema) (item : LeafItem) (key value : List ℕ) (row : List Value) (found : Option (List Value)) → IsLeaf item → IsStored schema row
    → leaf_bytes item ≡ row_item schema.key row → key ≡ item.key → value ≡ item.value → IsRowOrNone schema key value found → found ≡ Some row
stored_read schema item key value row found leaf stored spelled key_is value_is read =
    let is = stored_item schema item row leaf stored spelled in
    let here : IsRecord schema row key value =
    subst (λ (k : List ℕ). IsRecord schema row k value) (sym (key_is ∙ ap (λ (x : LeafItem). x.key) is))
    (subst (λ (v : List ℕ). IsRecord schema row (row_key_of schema.key row) v) (sym (value_is ∙ ap (λ (x : LeafItem). x.value) is)) stored) in
    go found read here
  where
    go : (o : Option (List Value)) → IsRowOrNone schema key value o → IsRecord schema row key value → o ≡ Some row
    go None none here = absurd (none row here)
    go (Some r) some here = ap (λ (x : List Value). Some x) (one_row schema r row key value some here)

pub read_at : {A : Type 0} (xs : List A) (i : ℕ) (x : A) → i < length xs → x ≡ get_or xs i x → slice_get xs i ≡ Some x
read_at [] i x lt is = absurd (omega arith)
read_at {A} (y ∷ ys) zero x lt is = ap (λ (z : A). Some z) (sym is)
read_at (y ∷ ys) (suc i) x lt is = read_at ys i x (omega arith) is

-- the item and the row at one place
pub row_at : (k : ℕ) (items : List LeafItem) (rows : List (List Value)) (i : ℕ) (item : LeafItem) → map leaf_bytes items ≡ row_items k rows
    → slice_get items i ≡ Some item → (row : List Value) × (slice_get rows i ≡ Some row) × (leaf_bytes item ≡ row_item k row)
row_at k [] rows i item same some = absurd cc
row_at k (x ∷ xs) [] i item same some = absurd cc
row_at k (x ∷ xs) (row ∷ rows) zero item same some =
    let is : x ≡ item = cc in
    let first : leaf_bytes x ≡ row_item k row = cc in
    (row, refl, ap leaf_bytes (sym is) ∙ first)
row_at k (x ∷ xs) (row ∷ rows) (suc i) item same some =
    let rest : map leaf_bytes xs ≡ row_items k rows = cc in
    row_at k xs rows i item rest some

pub length-rows : (k : ℕ) (items : List LeafItem) (rows : List (List Value)) → map leaf_bytes items ≡ row_items k rows → length items ≡ length rows
length-rows k [] [] same = refl
length-rows k [] (row ∷ rows) same = absurd cc
length-rows k (x ∷ xs) [] same = absurd cc
length-rows k (x ∷ xs) (row ∷ rows) same =
    let rest : map leaf_bytes xs ≡ row_items k rows = cc in
    ap suc (length-rows k xs rows rest)

-- ---- the item of a row that is put

pub ok_part : {T E : Type 0} (r : Result T E) (P : Type 0) (v x : T) → OkIff r P v → r ≡ Ok x → x ≡ v
ok_part (Ok y) P v x h is = let same : y ≡ x = cc in sym same ∙ h.1
ok_part (Err e) P v x h is = absurd cc

pub item_put : (schema : Schema) (row : List Value) (key value : List ℕ) (item : LeafItem) (items : List (List ℕ)) → IsRecord schema row key (value_bytes schema.key row)
    → item ≡ live_item key value → value ≡ value_bytes schema.key row → with_item item.key (leaf_bytes item) items ≡ with_item key (row_item schema.key row) items
item_put schema row key value item items stored is value_is =
    let bytes : leaf_bytes item ≡ row_item schema.key row =
    ap leaf_bytes is ∙ ap (λ (v : List ℕ). leaf_bytes (live_item key v)) value_is
    ∙ ap (λ (k : List ℕ). leaf_bytes (live_item k (value_bytes schema.key row))) stored.key_is in
    ap (λ (k : List ℕ). with_item k (leaf_bytes item) items) (ap (λ (x : LeafItem). x.key) is) ∙ ap (λ (b : List ℕ). with_item key b items) bytes

-- ---- the rows of items, one more

pub rows_more : (schema : Schema) (items : List LeafItem) (rows read : List (List Value)) (new : List (List Value)) (i : ℕ) (item : LeafItem) (row : List Value)
    → AllByRecursion (IsStored schema) rows → map leaf_bytes items ≡ row_items schema.key rows → slice_get items i ≡ Some item
    → ((r : List Value) → IsStored schema r → leaf_bytes item ≡ row_item schema.key r → row ≡ r)
    → read ≡ take i rows → new ≡ read ++ row ∷ [] → new ≡ take (i + 1) rows
rows_more schema items rows read new i item row stored same some is before after =
    let here = row_at schema.key items rows i item same some in
    let row_is : row ≡ here.0 = is here.0 (all_at (IsStored schema) rows i here.0 stored here.1) here.2 in
    after
    ∙ ap (λ (xs : List (List Value)). xs ++ row ∷ []) before
    ∙ ap (λ (r : List Value). take i rows ++ r ∷ []) row_is
    ∙ sym (take_item rows i here.0 here.1)

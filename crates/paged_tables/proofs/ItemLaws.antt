-- Rows as items: their keys, and the items that a test of keys lets through.
use Rattle.std.proofs.Common.{◌≡◌, ℕ, Bool, true, false, not, cond, List, [], ◌∷◌, ◌++◌, length, map, Option, Some, None, refl, sym, ap, ◌∙◌}
use Rattle.std.specs.Prelude.{◌&&◌, filter}
use Rattle.std.specs.declared.cmp.Ordering.{Ordering}
use Rattle.std.specs.declared.cmp.Ordering.TheVariants.{Less, Equal, Greater}
use Rattle.std.specs.Ordering.{is_lt, is_le, is_gt, ordering_reverse}
use Rattle.std.proofs.lemmas.Cmp.{nat_list_cmp_total}
use Rattle.std.proofs.lemmas.List.{take_at, map-append}
use Rattle.rm_base.specs.declared.key_range.KeyRange.{KeyRange}
use Rattle.sql_values.specs.declared.values.Value.{Value}
use Rattle.sql_values.specs.Order.{text_cmp}
use Rattle.page_view.specs.Leaf.{leaf_bytes}
use Rattle.page_view.specs.Keys.{key_in, key_cmp}
use Rattle.bplus_tree.specs.Walk as walk
use Rattle.tree_change.specs.Effects.{with_item, without_item}
use Rattle.row_codec.specs.Keys.{key_bytes}
use Rattle.row_codec.specs.Records.{key_cell}
use Rattle.sql_meaning.specs.Ranges.{is_past, is_before, in_range}
use Rattle.sql_database.specs.Applied.{placed}
use Rattle.paged_tables.specs.Items.{live_item, row_item, row_items}

-- ---- lists

pub filter-map : {A B : Type 0} (p : B → Bool) (f : A → B) (xs : List A) → filter p (map f xs) ≡ map f (filter (λ x. p (f x)) xs)
filter-map p f [] = refl
filter-map {A} {B} p f (x ∷ xs) =
    ap (λ (rest : List B). cond (p (f x)) (f x ∷ rest) rest) (filter-map p f xs) ∙ chosen (p (f x))
  where
    chosen : (b : Bool) → cond b (f x ∷ map f (filter (λ x. p (f x)) xs)) (map f (filter (λ x. p (f x)) xs))
        ≡ map f (cond b (x ∷ filter (λ x. p (f x)) xs) (filter (λ x. p (f x)) xs))
    chosen true = refl
    chosen false = refl

pub filter_alike : {A : Type 0} (p q : A → Bool) → ((x : A) → p x ≡ q x) → (xs : List A) → filter p xs ≡ filter q xs
filter_alike p q same [] = refl
filter_alike {A} p q same (x ∷ xs) =
    ap (λ (b : Bool). cond b (x ∷ filter p xs) (filter p xs)) (same x)
    ∙ ap (λ (rest : List A). cond (q x) (x ∷ rest) rest) (filter_alike p q same xs)

-- ---- keys of items

pub key_of_item : (key value : List ℕ) → key_in (leaf_bytes (live_item key value)) ≡ key
key_of_item key value = take_at key _ (length key) refl

abbrev pub row_key_of : ℕ → List Value → List ℕ
row_key_of k row = key_bytes (key_cell k row)

pub key_of_row : (k : ℕ) (row : List Value) → key_in (row_item k row) ≡ row_key_of k row
key_of_row k row = key_of_item (row_key_of k row) _

-- a test of keys lets through the items of the rows whose keys it lets through
pub rows_filtered : (k : ℕ) (test : List ℕ → Bool) (rows : List (List Value))
    → filter (λ item. test (key_in item)) (row_items k rows) ≡ row_items k (filter (λ r. test (row_key_of k r)) rows)
rows_filtered k test rows =
    filter-map (λ item. test (key_in item)) (row_item k) rows
    ∙ ap (row_items k) (filter_alike (λ r. test (key_in (row_item k r))) (λ r. test (row_key_of k r)) (λ r. ap test (key_of_row k r)) rows)

-- ---- a row that is put under its key, and a key under which no row is left

pub row_placed : (k : ℕ) (key : List ℕ) (row : List Value) (rows : List (List Value))
    → row_items k (placed (row_key_of k) key (Some row) rows) ≡ with_item key (row_item k row) (row_items k rows)
row_placed k key row rows =
    let lesser : List (List Value) = filter (λ r. is_lt (text_cmp (row_key_of k r) key)) rows in
    let greater : List (List Value) = filter (λ r. is_gt (text_cmp (row_key_of k r) key)) rows in
    map-append (row_item k) lesser (row ∷ greater)
    ∙ ap (λ (xs : List (List ℕ)). xs ++ row_item k row ∷ row_items k greater) (sym (rows_filtered k (λ x. is_lt (text_cmp x key)) rows))
    ∙ ap (λ (xs : List (List ℕ)). filter (λ item. is_lt (key_cmp (key_in item) key)) (row_items k rows) ++ row_item k row ∷ xs)
    (sym (rows_filtered k (λ x. is_gt (text_cmp x key)) rows))

pub none_placed : (k : ℕ) (key : List ℕ) (rows : List (List Value))
    → row_items k (placed (row_key_of k) key None rows) ≡ without_item key (row_items k rows)
none_placed k key rows =
    let lesser : List (List Value) = filter (λ r. is_lt (text_cmp (row_key_of k r) key)) rows in
    let greater : List (List Value) = filter (λ r. is_gt (text_cmp (row_key_of k r) key)) rows in
    map-append (row_item k) lesser greater
    ∙ ap (λ (xs : List (List ℕ)). xs ++ row_items k greater) (sym (rows_filtered k (λ x. is_lt (text_cmp x key)) rows))
    ∙ ap (λ (xs : List (List ℕ)). filter (λ item. is_lt (key_cmp (key_in item) key)) (row_items k rows) ++ xs)
    (sym (rows_filtered k (λ x. is_gt (text_cmp x key)) rows))

-- ---- keys in a range

not_less : (o p : Ordering) → o ≡ ordering_reverse p → not (is_lt o) ≡ is_le p
not_less o Less e = ap (λ (q : Ordering). not (is_lt q)) e
not_less o Equal e = ap (λ (q : Ordering). not (is_lt q)) e
not_less o Greater e = ap (λ (q : Ordering). not (is_lt q)) e

pub at_least_is : (a b : List ℕ) → walk.at_least a b ≡ is_le (text_cmp b a)
at_least_is a b = not_less (text_cmp a b) (text_cmp b a) (nat_list_cmp_total.antisymm a b)

from_is : (low : Option (List ℕ)) (item : List ℕ) → walk.from_low low item ≡ is_past low (key_in item)
from_is None item = refl
from_is (Some low) item = at_least_is (key_in item) low

to_is : (high : Option (List ℕ)) (item : List ℕ) → walk.to_high high item ≡ is_before (key_in item) high
to_is None item = refl
to_is (Some high) item = at_least_is high (key_in item)

pub range_is : (r : KeyRange) (item : List ℕ) → walk.in_range r.low r.high item ≡ in_range (key_in item) r
range_is r item =
    ap (λ (b : Bool). b && walk.to_high r.high item) (from_is r.low item)
    ∙ ap (λ (b : Bool). is_past r.low (key_in item) && b) (to_is r.high item)

pub rows_in_range : (k : ℕ) (r : KeyRange) (rows : List (List Value))
    → filter (walk.in_range r.low r.high) (row_items k rows) ≡ row_items k (filter (λ row. in_range (row_key_of k row) r) rows)
rows_in_range k r rows =
    filter_alike (walk.in_range r.low r.high) (λ item. in_range (key_in item) r) (range_is r) (row_items k rows)
    ∙ rows_filtered k (λ key. in_range key r) rows

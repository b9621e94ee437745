-- What items spell, as a decoder gives it.
use Rattle.std.proofs.Common.{◌≡◌, ◌≤◌, ◌+◌, ℕ, zero, suc, List, [], ◌∷◌, ◌++◌, length, drop, slice_get, get_or, Option, Some, None, refl, sym, ◌∙◌, ap, subst, arith}
use Rattle.std.specs.Prelude.{option_and_then, Result, Ok, Err, IfOk}
use Rattle.rm_base.specs.Fields.{AreBytes}
use Rattle.page_view.specs.declared.leaf.LeafItem.{LeafItem}
use Rattle.sql_values.specs.declared.schemas.Schema.{Schema}
use Rattle.row_codec.specs.Reading.{IsRowOrNone}
use Rattle.question_tree.specs.Questions.{tells, stops}
use Rattle.statement_reader.specs.declared.tables.Table.{Table}
use Rattle.statement_reader.specs.Decoding.{Row, Decoder, Decodes, IsEntryIn, IsEntryOrNone, catalog_schema, decode}
use Rattle.statement_reader.specs.Question.{told_table, table_told, rows_told}
use Rattle.statement_reader.specs.Machine.{table_answer, rows_by}

pub entry : (schema : Schema) (item : LeafItem) (row : Option Row) (table : Option Table) → schema ≡ catalog_schema → IsRowOrNone schema item.key item.value row
    → IsEntryIn row table → IsEntryOrNone item table
entry schema item row table e h i = (row, subst (λ (s : Schema). IsRowOrNone s item.key item.value row) e h, i)

pub no_entry : (d : Decoder) (item : LeafItem) → Decodes d → AreBytes item.key → AreBytes item.value → IsEntryOrNone item None
    → stops ≡ table_told (d.table item)
no_entry d item h k v e = sym (ap table_told (h.tables item None k v e))

pub one_entry : (d : Decoder) (item : LeafItem) (t : Table) → Decodes d → AreBytes item.key → AreBytes item.value → IsEntryOrNone item (Some t)
    → tells (Some t) ≡ table_told (d.table item)
one_entry d item t h k v e = sym (ap table_told (h.tables item (Some t) k v e))

pub row_is : (d : Decoder) (s : Schema) (item : LeafItem) (row : Option Row) → Decodes d → AreBytes item.key → AreBytes item.value
    → IsRowOrNone s item.key item.value row → row ≡ d.row s item
row_is d s item row h k v e = sym (h.rows s item row k v e)

-- the first of the items under a name
pub first_told : {E : Type 0} (d : Decoder) (items : List LeafItem) (item : LeafItem) (r : Result (Option (Option Table)) E) → 1 ≤ length items
    → item ≡ get_or items 0 item → IfOk r (λ table. table_answer table ≡ table_told (d.table item))
    → IfOk r (λ table. table_answer table ≡ told_table d items)
first_told d [] item r l e h = absurd (omega (arith, l))
first_told d (x ∷ xs) item (Ok t) l e h = h ∙ ap (λ (y : LeafItem). table_told (d.table y)) e
first_told d (x ∷ xs) item (Err f) l e h = tt

pub drop_item : {A : Type 0} (xs : List A) (i : ℕ) (x : A) → slice_get xs i ≡ Some x → drop i xs ≡ x ∷ drop (i + 1) xs
drop_item [] i x e = absurd cc
drop_item {A} (y ∷ ys) zero x e = let same : y ≡ x = cc in ap (λ (z : A). z ∷ ys) same
drop_item {A} (y ∷ ys) (suc i) x e =
    let one : suc (i + 1) ≡ suc i + 1 = omega arith in
    drop_item ys i x e ∙ ap (λ (n : ℕ). x ∷ drop n (y ∷ ys)) one

pub drop_none : {A : Type 0} (xs : List A) (i : ℕ) → length xs ≤ i → drop i xs ≡ []
drop_none [] zero h = refl
drop_none [] (suc i) h = refl
drop_none (y ∷ ys) zero h = absurd (omega (arith, h))
drop_none (y ∷ ys) (suc i) h = drop_none ys i (omega (arith, h))

-- one item more
pub one_decoded : (d : Decoder) (s : Schema) (rows : List Row) (items : List LeafItem) (i : ℕ) (item : LeafItem) (o : Option Row)
    → slice_get items i ≡ Some item → o ≡ d.row s item
    → decode d s rows (drop i items) ≡ option_and_then (λ r. decode d s (rows ++ r ∷ []) (drop (i + 1) items)) o
one_decoded d s rows items i item o is e =
    ap (decode d s rows) (drop_item items i item is) ∙ ap (option_and_then (λ (r : Row). decode d s (rows ++ r ∷ []) (drop (i + 1) items))) (sym e)

pub all_decoded : (d : Decoder) (s : Schema) (rows : List Row) (items : List LeafItem) (i : ℕ) (all : Option (List Row)) → length items ≤ i
    → decode d s rows (drop i items) ≡ all → all ≡ Some rows
all_decoded d s rows items i all h e = sym e ∙ ap (decode d s rows) (drop_none items i h)

pub not_decoded : (d : Decoder) (s : Schema) (rows : List Row) (items : List LeafItem) (i : ℕ) (item : LeafItem) (all : Option (List Row))
    → slice_get items i ≡ Some item → None ≡ d.row s item → decode d s rows (drop i items) ≡ all → all ≡ None
not_decoded d s rows items i item all is n e = sym e ∙ one_decoded d s rows items i item None is n

pub rows_answer : (d : Decoder) (t : Table) (before now : List Row) (items : List LeafItem) → decode d t.schema before items ≡ Some now
    → tells now ≡ rows_by d (Some t) before items
rows_answer d t before now items e = sym (ap rows_told e)

pub no_rows_answer : (d : Decoder) (t : Table) (before : List Row) (items : List LeafItem) → decode d t.schema before items ≡ None
    → stops ≡ rows_by d (Some t) before items
no_rows_answer d t before items e = sym (ap rows_told e)

-- The cells of rows, and of the rows joined of two.
use Rattle.std.proofs.Common.{◌≡◌, ◌≢◌, ◌<◌, ◌+◌, ℕ, zero, suc, true, List, [], ◌∷◌, ◌++◌, length, map, Some, refl, sym, ◌∙◌, ap, subst, arith}
use Rattle.std.proofs.lemmas.List.{get_or_append_left, get_or-append-add}
use Rattle.sql_values.specs.declared.values.Sort.{Sort}
use Rattle.sql_values.specs.declared.values.Sort.TheVariants as sort
use Rattle.sql_values.specs.declared.values.Value.{Value}
use Rattle.sql_values.specs.declared.values.Value.TheVariants as value
use Rattle.sql_values.specs.declared.schemas.Column.{Column}
use Rattle.sql_values.specs.declared.schemas.Schema.{Schema}
use Rattle.sql_values.specs.Order.{Fits, HaveOneSort}
use Rattle.row_codec.specs.Keys.{IsKey}
use Rattle.row_codec.specs.Records.{FitColumns, FitsSchema, HasKey, AreI64, key_cell}
use Rattle.sql_meaning.specs.declared.fields.Field.{Field}
use Rattle.sql_meaning.specs.declared.kinds.Kind.{Kind}
use Rattle.sql_meaning.specs.declared.kinds.Kind.TheVariants.{Int, Text}
use Rattle.sql_meaning.specs.Evaluation.{cell_of}
use Rattle.sql_meaning.specs.Kinds.{value_kind, sort_kind, cell_kind, are_comparable}
use Rattle.sql_meaning.specs.Names.{field_of}
use Rattle.sql_meaning.specs.Sorts.{FitFields}

-- a value that the kind allows
abbrev pub IsOfKind : Kind → Value → Type 0
IsOfKind k value.Null = Unit {0}
IsOfKind k (value.Int n) = k ≡ Int
IsOfKind k (value.Text t) = k ≡ Text

pub of_value : (v : Value) → IsOfKind (value_kind v) v
of_value value.Null = tt
of_value (value.Int n) = refl
of_value (value.Text t) = refl

of_sort : (s : Sort) (v : Value) → Fits v s → IsOfKind (sort_kind s) v
of_sort sort.Int value.Null h = tt
of_sort sort.Int (value.Int n) h = refl
of_sort sort.Int (value.Text t) h = absurd h
of_sort sort.Text value.Null h = tt
of_sort sort.Text (value.Int n) h = absurd h
of_sort sort.Text (value.Text t) h = refl

same_kind : (j k : Kind) (v : Value) → Some j ≡ Some k → IsOfKind j v → IsOfKind k v
same_kind j k v e h = let P : Kind → Type 0 = λ q. IsOfKind q v in let f : j ≡ k = cc in subst P f h

-- a cell has its column's kind
pub of_cell : (fields : List Field) (row : List Value) (p : ℕ) (k : Kind) → FitFields fields row → cell_kind fields p ≡ Some k → IsOfKind k (cell_of row p)
of_cell [] row p k fit h = cc
of_cell (f ∷ fs) [] p k fit h = absurd fit
of_cell (f ∷ fs) (v ∷ vs) zero k fit h = same_kind (sort_kind f.sort) k v h (of_sort f.sort v fit.0)
of_cell (f ∷ fs) (v ∷ vs) (suc p) k fit h = of_cell fs vs p k fit.1 h

-- values of comparable kinds have one sort
pub have_one_sort : (j k : Kind) (a b : Value) → IsOfKind j a → IsOfKind k b → are_comparable j k ≡ true → HaveOneSort a b
have_one_sort j k value.Null b ja kb h = tt
have_one_sort j k (value.Int m) value.Null ja kb h = tt
have_one_sort j k (value.Int m) (value.Int n) ja kb h = tt
have_one_sort j k (value.Int m) (value.Text t) ja kb h =
    let e : are_comparable Int Text ≡ true = ap (λ q. are_comparable q Text) (sym ja) ∙ ap (are_comparable j) (sym kb) ∙ h in cc
have_one_sort j k (value.Text s) value.Null ja kb h = tt
have_one_sort j k (value.Text s) (value.Int n) ja kb h =
    let e : are_comparable Text Int ≡ true = ap (λ q. are_comparable q Int) (sym ja) ∙ ap (are_comparable j) (sym kb) ∙ h in cc
have_one_sort j k (value.Text s) (value.Text t) ja kb h = tt

pub one_sort_turned : (a b : Value) → HaveOneSort a b → HaveOneSort b a
one_sort_turned value.Null value.Null h = tt
one_sort_turned value.Null (value.Int n) h = tt
one_sort_turned value.Null (value.Text t) h = tt
one_sort_turned (value.Int m) value.Null h = tt
one_sort_turned (value.Int m) (value.Int n) h = tt
one_sort_turned (value.Int m) (value.Text t) h = absurd h
one_sort_turned (value.Text s) value.Null h = tt
one_sort_turned (value.Text s) (value.Int n) h = absurd h
one_sort_turned (value.Text s) (value.Text t) h = tt

-- the fields of a table are those that a row of its schema fits
pub fit_fields : (table : List ℕ) (cs : List Column) (row : List Value) → FitColumns cs row → FitFields (map (field_of table) cs) row
fit_fields table [] [] h = tt
fit_fields table [] (v ∷ vs) h = absurd h
fit_fields table (c ∷ cs) [] h = absurd h
fit_fields table (c ∷ cs) (v ∷ vs) h = (h.0, fit_fields table cs vs h.1)

pub fit_both : (fs gs : List Field) (r s : List Value) → FitFields fs r → FitFields gs s → FitFields (fs ++ gs) (r ++ s)
fit_both [] gs [] s f g = g
fit_both [] gs (v ∷ vs) s f g = absurd f
fit_both (f ∷ fs) gs [] s h g = absurd h
fit_both (f ∷ fs) gs (v ∷ vs) s h g = (h.0, fit_both fs gs vs s h.1 g)

pub width_is : (cs : List Column) (row : List Value) → FitColumns cs row → length cs ≡ length row
width_is [] [] h = refl
width_is [] (v ∷ vs) h = absurd h
width_is (c ∷ cs) [] h = absurd h
width_is (c ∷ cs) (v ∷ vs) h = ap suc (width_is cs vs h.1)

-- an i64 cell that is not NULL is a key
pub cell_is_key : (row : List Value) (p : ℕ) → AreI64 row → cell_of row p ≢ value.Null → IsKey (cell_of row p)
cell_is_key [] p h n = absurd (n refl)
cell_is_key (value.Null ∷ vs) zero h n = absurd (n refl)
cell_is_key (value.Int i ∷ vs) zero h n = h.0
cell_is_key (value.Text t ∷ vs) zero h n = tt
cell_is_key (value.Null ∷ vs) (suc p) h n = cell_is_key vs p h n
cell_is_key (value.Int i ∷ vs) (suc p) h n = cell_is_key vs p h.1 n
cell_is_key (value.Text t ∷ vs) (suc p) h n = cell_is_key vs p h n

key_not_null : (row : List Value) (key : ℕ) → HasKey row key → cell_of row key ≢ value.Null
key_not_null [] key h = absurd h
key_not_null (v ∷ vs) zero h = h
key_not_null (v ∷ vs) (suc key) h = key_not_null vs key h

key_inside : (row : List Value) (key : ℕ) → HasKey row key → key < length row
key_inside [] key h = absurd h
key_inside (v ∷ vs) zero h = omega arith
key_inside (v ∷ vs) (suc key) h = let i : key < length vs = key_inside vs key h in omega arith

pub row_key : (schema : Schema) (row : List Value) → FitsSchema schema row → AreI64 row → IsKey (key_cell schema.key row)
row_key schema row fits ints = cell_is_key row schema.key ints (key_not_null row schema.key fits.key)

pub key_is_inside : (schema : Schema) (row : List Value) → FitsSchema schema row → schema.key < length row
key_is_inside schema row fits = key_inside row schema.key fits.key

pub left_cell : (left right : List Value) (p : ℕ) → p < length left → cell_of (left ++ right) p ≡ cell_of left p
left_cell left right p h = get_or_append_left left right value.Null p h

pub right_cell : (left right : List Value) (p : ℕ) → cell_of (left ++ right) (length left + p) ≡ cell_of right p
right_cell left right p = get_or-append-add left right p value.Null

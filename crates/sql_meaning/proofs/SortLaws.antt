-- An expression whose kind a column takes gives values that fit the column.
use Rattle.std.proofs.Common.{◌≡◌, ℕ, zero, suc, Bool, true, false, List, [], ◌∷◌, slice_get, slice_index_or, Option, Some, None, option_map, Result, Ok, Err, ℤ, pos, ◌+ℤ◌, ◌-ℤ◌, ◌*ℤ◌, if◌then◌else◌, refl, sym, ap, subst, ◌∙◌}
use Rattle.std.specs.Option.{option_map_or}
use Rattle.sql_values.specs.declared.arithmetic.Overflow.{Overflow}
use Rattle.sql_values.specs.declared.values.Sort.{Sort}
use Rattle.sql_values.specs.declared.values.Sort.TheVariants as sort
use Rattle.sql_values.specs.declared.values.Value.{Value}
use Rattle.sql_values.specs.declared.values.Value.TheVariants as value
use Rattle.sql_values.specs.Arithmetic.{IsNumber, calculated, int_of, fits_i64}
use Rattle.sql_values.specs.Order.{Fits}
use Rattle.sql_statements.specs.declared.expressions.Op.{Op}
use Rattle.sql_statements.specs.declared.expressions.Op.TheVariants.{Or, And, Eq, Ne, Lt, Le, Gt, Ge, Add, Sub, Mul}
use Rattle.sql_meaning.specs.declared.fields.Field.{Field}
use Rattle.sql_meaning.specs.declared.kinds.Kind.{Kind}
use Rattle.sql_meaning.specs.declared.kinds.Kind.TheVariants.{Null, Int, Text, Truth}
use Rattle.sql_meaning.specs.declared.resolved.Resolved.{Resolved}
use Rattle.sql_meaning.specs.Evaluation.{value_in, cell_of, computed, of_both, of_one}
use Rattle.sql_meaning.specs.Kinds.{kind, value_kind, sort_kind, cell_kind, is_number, is_text, takes, negated, denied, tested, joined, joined_kinds, of_truths, of_numbers, of_comparables, are_comparable, is_truth, is_value}
use Rattle.sql_meaning.specs.Refusals.{suits}
use Rattle.sql_meaning.specs.Sorts.{FitFields, SuitsMeansFits}
use Rattle.sql_meaning.specs.Terms.{Term, lit, cell, neg, opposite_of, is_null, two, term}

abbrev IsNull : Value → Type 0
IsNull value.Null = Unit {0}
IsNull (value.Int n) = ⊥
IsNull (value.Text t) = ⊥

abbrev IsText : Value → Type 0
IsText value.Null = Unit {0}
IsText (value.Int n) = ⊥
IsText (value.Text t) = Unit {0}

-- a value of the kind; a truth has none but NULL
abbrev IsOfKind : Kind → Value → Type 0
IsOfKind Null v = IsNull v
IsOfKind Int v = IsNumber v
IsOfKind Text v = IsText v
IsOfKind Truth v = IsNull v

of_value : (v : Value) → IsOfKind (value_kind v) v
of_value value.Null = tt
of_value (value.Int n) = tt
of_value (value.Text t) = tt

of_sort : (s : Sort) (v : Value) → Fits v s → IsOfKind (sort_kind s) v
of_sort sort.Int value.Null h = tt
of_sort sort.Int (value.Int n) h = tt
of_sort sort.Int (value.Text t) h = absurd h
of_sort sort.Text value.Null h = tt
of_sort sort.Text (value.Int n) h = absurd h
of_sort sort.Text (value.Text t) h = tt

-- NULL is of each kind
of_null : (k : Kind) → IsOfKind k value.Null
of_null Null = tt
of_null Int = tt
of_null Text = tt
of_null Truth = tt

same_kind : (j k : Kind) (v : Value) → Some j ≡ Some k → IsOfKind j v → IsOfKind k v
same_kind j k v e h = let P : Kind → Type 0 = λ q. IsOfKind q v in let f : j ≡ k = cc in subst P f h

of_cell : (fields : List Field) (row : List Value) (p : ℕ) (k : Kind) → FitFields fields row → cell_kind fields p ≡ Some k → IsOfKind k (cell_of row p)
of_cell [] row p k fit h = cc
of_cell (f ∷ fs) [] p k fit h = absurd fit
of_cell (f ∷ fs) (v ∷ vs) zero k fit h = same_kind (sort_kind f.sort) k v h (of_sort f.sort v fit.0)
of_cell (f ∷ fs) (v ∷ vs) (suc p) k fit h = of_cell fs vs p k fit.1 h

int_number : (b : Bool) (z : ℤ) (v : Value) → (let r : Result Value Overflow = if b then Ok (value.Int z) else Err (record {}) in r) ≡ Ok v → IsNumber v
int_number true z v h = let P : Value → Type 0 = λ q. IsNumber q in let e : value.Int z ≡ v = cc in subst P e tt
int_number false z v h = cc

null_number : (v : Value) → (let r : Result Value Overflow = Ok value.Null in r) ≡ Ok v → IsNumber v
null_number v h = let P : Value → Type 0 = λ q. IsNumber q in let e : value.Null ≡ v = cc in subst P e tt

null_null : (v : Value) → (let r : Result Value Overflow = Ok value.Null in r) ≡ Ok v → IsNull v
null_null v h = let P : Value → Type 0 = λ q. IsNull q in let e : value.Null ≡ v = cc in subst P e tt

calculated_number : (f : ℤ → ℤ → ℤ) (a b v : Value) → calculated f a b ≡ Ok v → IsNumber v
calculated_number f (value.Int a) (value.Int b) v h = int_number (fits_i64 (f a b)) (f a b) v h
calculated_number f value.Null b v h = null_number v h
calculated_number f (value.Int a) value.Null v h = null_number v h
calculated_number f (value.Int a) (value.Text t) v h = null_number v h
calculated_number f (value.Text t) b v h = null_number v h

negated_number : (r : Result Value Overflow) (v : Value) → of_one (computed Sub (value.Int (pos 0))) r ≡ Ok v → IsNumber v
negated_number (Ok a) v h = calculated_number ◌-ℤ◌ (value.Int (pos 0)) a v h
negated_number (Err e) v h = cc

both_number : (f : ℤ → ℤ → ℤ) (r s : Result Value Overflow) (v : Value) → of_both (calculated f) r s ≡ Ok v → IsNumber v
both_number f (Ok a) (Ok b) v h = calculated_number f a b v h
both_number f (Ok a) (Err e) v h = cc
both_number f (Err e) s v h = cc

both_null : (r s : Result Value Overflow) (v : Value) → of_both {A = Value} {B = Value} {C = Value} (λ a b. Ok value.Null) r s ≡ Ok v → IsNull v
both_null (Ok a) (Ok b) v h = null_null v h
both_null (Ok a) (Err e) v h = cc
both_null (Err e) s v h = cc

if_kind : (b : Bool) (j k : Kind) → (if b then Some j else None) ≡ Some k → Some j ≡ Some k
if_kind true j k h = h
if_kind false j k h = cc

negated_kind : (o : Option Kind) (k : Kind) → negated o ≡ Some k → Some Int ≡ Some k
negated_kind None k h = cc
negated_kind (Some j) k h = if_kind (is_number j) Int k h

denied_kind : (o : Option Kind) (k : Kind) → denied o ≡ Some k → Some Truth ≡ Some k
denied_kind None k h = cc
denied_kind (Some j) k h = if_kind (is_truth j) Truth k h

tested_kind : (o : Option Kind) (k : Kind) → tested o ≡ Some k → Some Truth ≡ Some k
tested_kind None k h = cc
tested_kind (Some j) k h = if_kind (is_value j) Truth k h

-- what an operator gives, and what its values are
abbrev OfOp : Op → Type 0
OfOp op =
    (o q : Option Kind) (r s : Result Value Overflow) (k : Kind) (v : Value)
    → joined op o q ≡ Some k → of_both (computed op) r s ≡ Ok v → IsOfKind k v

of_joined : (op : Op) (j : Kind) → ((a b : Kind) (k : Kind) → joined_kinds op a b ≡ Some k → Some j ≡ Some k) → ((r s : Result Value Overflow) (v : Value) → of_both (computed op) r s ≡ Ok v → IsOfKind j v) → OfOp op
of_joined op j f g None q r s k v h e = cc
of_joined op j f g (Some a) None r s k v h e = cc
of_joined op j f g (Some a) (Some b) r s k v h e = same_kind j k v (f a b k h) (g r s v e)

truths : (a b k : Kind) → of_truths a b ≡ Some k → Some Truth ≡ Some k
truths a b k h = if_kind _ Truth k h

comparables : (a b k : Kind) → of_comparables a b ≡ Some k → Some Truth ≡ Some k
comparables a b k h = if_kind _ Truth k h

numbers : (a b k : Kind) → of_numbers a b ≡ Some k → Some Int ≡ Some k
numbers a b k h = if_kind _ Int k h

of_op : (op : Op) → OfOp op
of_op Or = of_joined Or Truth truths both_null
of_op And = of_joined And Truth truths both_null
of_op Eq = of_joined Eq Truth comparables both_null
of_op Ne = of_joined Ne Truth comparables both_null
of_op Lt = of_joined Lt Truth comparables both_null
of_op Le = of_joined Le Truth comparables both_null
of_op Gt = of_joined Gt Truth comparables both_null
of_op Ge = of_joined Ge Truth comparables both_null
of_op Add = of_joined Add Int numbers (both_number ◌+ℤ◌)
of_op Sub = of_joined Sub Int numbers (both_number ◌-ℤ◌)
of_op Mul = of_joined Mul Int numbers (both_number ◌*ℤ◌)

of_term : (fields : List Field) (row : List Value) → FitFields fields row → (t : Term) (k : Kind) (v : Value) → kind fields t ≡ Some k → value_in row t ≡ Ok v → IsOfKind k v
of_term fields row fit (lit w) k v h e =
    let P : Value → Type 0 = λ q. IsOfKind k q in
    let same : w ≡ v = cc in
    subst P same (same_kind (value_kind w) k w h (of_value w))
of_term fields row fit (cell p) k v h e =
    let P : Value → Type 0 = λ q. IsOfKind k q in
    let same : cell_of row p ≡ v = cc in
    subst P same (of_cell fields row p k fit h)
of_term fields row fit (neg x) k v h e = same_kind Int k v (negated_kind (kind fields x) k h) (negated_number (value_in row x) v e)
of_term fields row fit (opposite_of x) k v h e = same_kind Truth k v (denied_kind (kind fields x) k h) (null_null v e)
of_term fields row fit (is_null x n) k v h e = same_kind Truth k v (tested_kind (kind fields x) k h) (null_null v e)
of_term fields row fit (two op x y) k v h e = of_op op (kind fields x) (kind fields y) (value_in row x) (value_in row y) k v h e

taken : (s : Sort) (k : Kind) (v : Value) → takes s k ≡ true → IsOfKind k v → Fits v s
taken sort.Int k value.Null h i = tt
taken sort.Int k (value.Int n) h i = tt
taken sort.Int Null (value.Text t) h i = absurd i
taken sort.Int Int (value.Text t) h i = absurd i
taken sort.Int Text (value.Text t) h i = cc
taken sort.Int Truth (value.Text t) h i = absurd i
taken sort.Text k value.Null h i = tt
taken sort.Text Null (value.Int n) h i = absurd i
taken sort.Text Int (value.Int n) h i = cc
taken sort.Text Text (value.Int n) h i = absurd i
taken sort.Text Truth (value.Int n) h i = absurd i
taken sort.Text k (value.Text t) h i = tt

suited : (fields : List Field) (row : List Value) → FitFields fields row → (t : Term) (o : Option Kind) (s : Sort) (v : Value) → kind fields t ≡ o → option_map_or (takes s) o false ≡ true → value_in row t ≡ Ok v → Fits v s
suited fields row fit t None s v e h r = cc
suited fields row fit t (Some k) s v e h r = taken s k v h (of_term fields row fit t k v e r)

pub suits_means_fits : SuitsMeansFits
unfolding suits
suits_means_fits fields row e s v fit h r = suited fields row fit (term e) (kind fields (term e)) s v refl h r

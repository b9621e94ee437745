-- Stated: what an expression gives in a row.
use Rattle.std.specs.Prelude.{ℕ, Bool, true, false, not, List, slice_index_or, Result, Ok, Err, Option, Some, None, ℤ, pos, ◌+ℤ◌, ◌-ℤ◌, ◌*ℤ◌, if◌then◌else◌}
use Rattle.std.specs.Option.{option_map_or}
use Rattle.std.specs.Ordering.{is_eq, is_ne, is_lt, is_le, is_gt, is_ge}
use Rattle.std.specs.declared.cmp.Ordering.{Ordering}
use Rattle.sql_values.specs.declared.arithmetic.Overflow.{Overflow}
use Rattle.sql_values.specs.declared.values.Value.{Value}
use Rattle.sql_values.specs.declared.values.Value.TheVariants.{Null, Int, Text}
use Rattle.sql_values.specs.declared.logic.Truth.{Truth}
use Rattle.sql_values.specs.declared.logic.Truth.TheVariants.{Yes, No, Unknown}
use Rattle.sql_values.specs.Arithmetic.{calculated}
use Rattle.sql_values.specs.Order.{comparison}
use Rattle.sql_values.specs.Truths.{both, either, opposite}
use Rattle.sql_statements.specs.declared.expressions.Op.{Op}
use Rattle.sql_statements.specs.declared.expressions.Op.TheVariants.{Or, And, Eq, Ne, Lt, Le, Gt, Ge, Add, Sub, Mul}
use Rattle.sql_meaning.specs.Terms.{Term, lit, cell, neg, opposite_of, is_null, two}

-- the value at a place of a row
abbrev pub cell_of : List Value → ℕ → Value
cell_of row place = slice_index_or row place Null

-- an INT is computed exactly or overflows; NULL gives NULL
abbrev pub computed : Op → Value → Value → Result Value Overflow
computed Add a b = calculated ◌+ℤ◌ a b
computed Sub a b = calculated ◌-ℤ◌ a b
computed Mul a b = calculated ◌*ℤ◌ a b
computed Or a b = Ok Null
computed And a b = Ok Null
computed Eq a b = Ok Null
computed Ne a b = Ok Null
computed Lt a b = Ok Null
computed Le a b = Ok Null
computed Gt a b = Ok Null
computed Ge a b = Ok Null

-- both sides are evaluated
abbrev pub of_both : {A B C : Type 0} → (A → B → Result C Overflow) → Result A Overflow → Result B Overflow → Result C Overflow
of_both f (Ok a) (Ok b) = f a b
of_both f (Ok a) (Err e) = Err e
of_both f (Err e) b = Err e

abbrev pub of_one : {A B : Type 0} → (A → Result B Overflow) → Result A Overflow → Result B Overflow
of_one f (Ok a) = f a
of_one f (Err e) = Err e

-- the value of an expression in a row; a condition has none, and NULL stands for it
abbrev pub value_in : List Value → Term → Result Value Overflow
value_in row (lit v) = Ok v
value_in row (cell p) = Ok (cell_of row p)
value_in row (neg x) = of_one (computed Sub (Int (pos 0))) (value_in row x)
value_in row (opposite_of x) = Ok Null
value_in row (is_null x n) = Ok Null
value_in row (two op x y) = of_both (computed op) (value_in row x) (value_in row y)

-- whether a comparison accepts two values in this order
abbrev pub holds : Op → Ordering → Bool
holds Eq o = is_eq o
holds Ne o = is_ne o
holds Lt o = is_lt o
holds Le o = is_le o
holds Gt o = is_gt o
holds Ge o = is_ge o
holds Or o = false
holds And o = false
holds Add o = false
holds Sub o = false
holds Mul o = false

abbrev pub truth_of : Bool → Truth
truth_of b = if b then Yes else No

-- a comparison with NULL is Unknown
abbrev pub compared : Op → Value → Value → Truth
compared op a b = option_map_or (λ o. truth_of (holds op o)) (comparison a b) Unknown

-- IS NULL, or IS NOT NULL
abbrev pub null_truth : Bool → Value → Truth
null_truth n Null = truth_of (not n)
null_truth n (Int i) = truth_of n
null_truth n (Text t) = truth_of n

-- AND does not evaluate its right side where the left is No
abbrev pub and_of : Result Truth Overflow → Result Truth Overflow → Result Truth Overflow
and_of (Ok No) t = Ok No
and_of (Ok Yes) t = of_one (λ b. Ok (both Yes b)) t
and_of (Ok Unknown) t = of_one (λ b. Ok (both Unknown b)) t
and_of (Err e) t = Err e

-- OR does not evaluate its right side where the left is Yes
abbrev pub or_of : Result Truth Overflow → Result Truth Overflow → Result Truth Overflow
or_of (Ok Yes) t = Ok Yes
or_of (Ok No) t = of_one (λ b. Ok (either No b)) t
or_of (Ok Unknown) t = of_one (λ b. Ok (either Unknown b)) t
or_of (Err e) t = Err e

-- the truth of two sides, of which the operator takes the truths or the values
abbrev pub joined : Op → Result Truth Overflow → Result Truth Overflow → Result Value Overflow → Result Value Overflow → Result Truth Overflow
joined And s t a b = and_of s t
joined Or s t a b = or_of s t
joined Eq s t a b = of_both (λ x y. Ok (compared Eq x y)) a b
joined Ne s t a b = of_both (λ x y. Ok (compared Ne x y)) a b
joined Lt s t a b = of_both (λ x y. Ok (compared Lt x y)) a b
joined Le s t a b = of_both (λ x y. Ok (compared Le x y)) a b
joined Gt s t a b = of_both (λ x y. Ok (compared Gt x y)) a b
joined Ge s t a b = of_both (λ x y. Ok (compared Ge x y)) a b
joined Add s t a b = of_both (λ x y. Ok (compared Add x y)) a b
joined Sub s t a b = of_both (λ x y. Ok (compared Sub x y)) a b
joined Mul s t a b = of_both (λ x y. Ok (compared Mul x y)) a b

-- the truth of a condition in a row; NULL is Unknown
abbrev pub truth_in : List Value → Term → Result Truth Overflow
truth_in row (lit v) = Ok Unknown
truth_in row (cell p) = Ok Unknown
truth_in row (neg x) = Ok Unknown
truth_in row (opposite_of x) = of_one (λ t. Ok (opposite t)) (truth_in row x)
truth_in row (is_null x n) = of_one (λ v. Ok (null_truth n v)) (value_in row x)
truth_in row (two op x y) = joined op (truth_in row x) (truth_in row y) (value_in row x) (value_in row y)

-- a row without a test passes it
abbrev pub test_in : List Value → Option Term → Result Truth Overflow
test_in row None = Ok Yes
test_in row (Some t) = truth_in row t

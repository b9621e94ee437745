-- Stated: values over all rows.
use Rattle.std.specs.Prelude.{ℕ, ℤ, pos, ◌+ℤ◌, if◌then◌else◌, Bool, true, false, not, List, length, count_by, fold, Result, Ok}
use Rattle.std.specs.List.{list_all}
use Rattle.std.specs.Ordering.{is_lt, is_gt}
use Rattle.sql_values.specs.declared.arithmetic.Overflow.{Overflow}
use Rattle.sql_values.specs.declared.values.Value.{Value}
use Rattle.sql_values.specs.declared.values.Value.TheVariants.{Null, Int, Text}
use Rattle.sql_values.specs.Arithmetic.{int_of}
use Rattle.sql_values.specs.Order.{value_cmp}
use Rattle.sql_meaning.specs.declared.resolved.Resolved.{Resolved}
use Rattle.sql_meaning.specs.declared.actions.Total.{Total}
use Rattle.sql_meaning.specs.declared.actions.Total.TheVariants.{CountAll, Count, Sum, Min, Max}
use Rattle.sql_meaning.specs.Evaluation.{value_in}
use Rattle.sql_meaning.specs.Terms.{term}
use Rattle.sql_exec.specs.Kept.{each, and_then}

abbrev pub is_null : Value → Bool
is_null Null = true
is_null (Int n) = false
is_null (Text t) = false

-- how many are not NULL
abbrev pub count_values : List Value → ℕ
count_values vs = count_by (λ v. not (is_null v)) vs

-- what a value adds to a total
abbrev pub number : Value → ℤ
number Null = pos 0
number (Int n) = n
number (Text t) = pos 0

-- the exact total of the INTs
abbrev pub exact_total : List Value → ℤ
exact_total vs = fold (λ z v. z +ℤ number v) (pos 0) vs

-- NULL over nothing, else the exact total, or Overflow where it leaves i64
abbrev pub sum_of : List Value → Result Value Overflow
sum_of vs = if list_all is_null vs then Ok Null else int_of (exact_total vs)

-- the lesser of two values; NULL counts for none
abbrev pub less_of : Value → Value → Value
less_of a Null = a
less_of a (Int n) = if is_lt (value_cmp (Int n) a) then Int n else a
less_of a (Text t) = if is_lt (value_cmp (Text t) a) then Text t else a

abbrev pub more_of : Value → Value → Value
more_of a Null = a
more_of a (Int n) = if is_gt (value_cmp (Int n) a) then Int n else a
more_of a (Text t) = if is_gt (value_cmp (Text t) a) then Text t else a

abbrev pub lesser : Value → Value → Value
lesser Null b = b
lesser (Int m) b = less_of (Int m) b
lesser (Text s) b = less_of (Text s) b

abbrev pub greater : Value → Value → Value
greater Null b = b
greater (Int m) b = more_of (Int m) b
greater (Text s) b = more_of (Text s) b

-- the least of the values that are not NULL, and NULL over nothing
abbrev pub least_of : List Value → Value
least_of vs = fold lesser Null vs

abbrev pub greatest_of : List Value → Value
greatest_of vs = fold greater Null vs

-- an expression in each row
abbrev pub column_of : List (List Value) → Resolved → Result (List Value) Overflow
column_of rows e = each (λ row. value_in row (term e)) rows

abbrev pub total_of : List (List Value) → Total → Result Value Overflow
total_of rows CountAll = int_of (pos (length rows))
total_of rows (Count e) = and_then (λ vs. int_of (pos (count_values vs))) (column_of rows e)
total_of rows (Sum e) = and_then sum_of (column_of rows e)
total_of rows (Min e) = and_then (λ vs. Ok (least_of vs)) (column_of rows e)
total_of rows (Max e) = and_then (λ vs. Ok (greatest_of vs)) (column_of rows e)

-- Stated: the sorts of expressions. NULL fits each place.
use Rattle.std.specs.Prelude.{Bool, true, false, ◌&&◌, ◌||◌, if◌then◌else◌, List, slice_get, ℕ, Option, Some, None, option_map}
use Rattle.sql_values.specs.declared.values.Sort.{Sort}
use Rattle.sql_values.specs.declared.values.Sort.TheVariants as sort
use Rattle.sql_values.specs.declared.values.Value.{Value}
use Rattle.sql_values.specs.declared.values.Value.TheVariants as value
use Rattle.sql_statements.specs.declared.expressions.Op.{Op}
use Rattle.sql_statements.specs.declared.expressions.Op.TheVariants.{Or, And, Eq, Ne, Lt, Le, Gt, Ge, Add, Sub, Mul}
use Rattle.sql_meaning.specs.declared.fields.Field.{Field}
use Rattle.sql_meaning.specs.declared.kinds.Kind.{Kind}
use Rattle.sql_meaning.specs.declared.kinds.Kind.TheVariants.{Null, Int, Text, Truth}
use Rattle.sql_meaning.specs.Terms.{Term, lit, cell, neg, opposite_of, is_null, two}

abbrev pub value_kind : Value → Kind
value_kind value.Null = Null
value_kind (value.Int n) = Int
value_kind (value.Text t) = Text

abbrev pub sort_kind : Sort → Kind
sort_kind sort.Int = Int
sort_kind sort.Text = Text

abbrev pub cell_kind : List Field → ℕ → Option Kind
cell_kind fields p = option_map (λ f. sort_kind f.sort) (slice_get fields p)

abbrev pub is_number : Kind → Bool
is_number Null = true
is_number Int = true
is_number Text = false
is_number Truth = false

abbrev pub is_text : Kind → Bool
is_text Null = true
is_text Int = false
is_text Text = true
is_text Truth = false

abbrev pub is_truth : Kind → Bool
is_truth Null = true
is_truth Int = false
is_truth Text = false
is_truth Truth = true

abbrev pub is_value : Kind → Bool
is_value Null = true
is_value Int = true
is_value Text = true
is_value Truth = false

-- whether a column of the sort takes values of the kind
abbrev pub takes : Sort → Kind → Bool
takes sort.Int k = is_number k
takes sort.Text k = is_text k

-- a sign takes an INT, NOT a truth, and IS NULL an INT or a TEXT
abbrev pub negated : Option Kind → Option Kind
negated None = None
negated (Some k) = if is_number k then Some Int else None

abbrev pub denied : Option Kind → Option Kind
denied None = None
denied (Some k) = if is_truth k then Some Truth else None

abbrev pub tested : Option Kind → Option Kind
tested None = None
tested (Some k) = if is_value k then Some Truth else None

-- two INTs, or two TEXTs
abbrev pub are_comparable : Kind → Kind → Bool
are_comparable a b = (is_number a && is_number b) || (is_text a && is_text b)

abbrev pub of_truths : Kind → Kind → Option Kind
of_truths a b = if is_truth a && is_truth b then Some Truth else None

abbrev pub of_numbers : Kind → Kind → Option Kind
of_numbers a b = if is_number a && is_number b then Some Int else None

abbrev pub of_comparables : Kind → Kind → Option Kind
of_comparables a b = if are_comparable a b then Some Truth else None

abbrev pub joined_kinds : Op → Kind → Kind → Option Kind
joined_kinds Or a b = of_truths a b
joined_kinds And a b = of_truths a b
joined_kinds Eq a b = of_comparables a b
joined_kinds Ne a b = of_comparables a b
joined_kinds Lt a b = of_comparables a b
joined_kinds Le a b = of_comparables a b
joined_kinds Gt a b = of_comparables a b
joined_kinds Ge a b = of_comparables a b
joined_kinds Add a b = of_numbers a b
joined_kinds Sub a b = of_numbers a b
joined_kinds Mul a b = of_numbers a b

abbrev pub joined : Op → Option Kind → Option Kind → Option Kind
joined op None b = None
joined op (Some a) None = None
joined op (Some a) (Some b) = joined_kinds op a b

-- the kind of an expression over these columns, or none where an operand has not the sort of its place
abbrev pub kind : List Field → Term → Option Kind
kind fields (lit v) = Some (value_kind v)
kind fields (cell p) = cell_kind fields p
kind fields (neg x) = negated (kind fields x)
kind fields (opposite_of x) = denied (kind fields x)
kind fields (is_null x n) = tested (kind fields x)
kind fields (two op x y) = joined op (kind fields x) (kind fields y)

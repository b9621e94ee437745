-- Stated: the keys that the rows of a statement can have, by its test.
use Rattle.std.specs.Prelude.{ℕ, ◌+◌, Bool, true, false, not, ◌&&◌, ◌||◌, ◌==◌, nat_lt, if◌then◌else◌, List, [], ◌∷◌, ◌++◌, length, slice_get, Option, Some, None, is_some, option_map, option_and_then, Result, Ok, Err, filter_map, flat_map}
use Rattle.std.specs.List.{list_any}
use Rattle.std.specs.Option.{option_map_or}
use Rattle.std.specs.Ordering.{is_lt, is_le}
use Rattle.rm_base.specs.declared.key_range.KeyRange.{KeyRange}
use Rattle.sql_values.specs.Tables.{table_named}
use Rattle.sql_values.specs.declared.arithmetic.Overflow.{Overflow}
use Rattle.sql_values.specs.declared.schemas.Schema.{Schema}
use Rattle.sql_values.specs.declared.values.Value.{Value}
use Rattle.sql_values.specs.declared.values.Value.TheVariants.{Null, Int, Text}
use Rattle.sql_values.specs.Arithmetic.{fits_i64}
use Rattle.sql_values.specs.Order.{text_cmp}
use Rattle.row_codec.specs.Keys.{key_bytes}
use Rattle.sql_statements.specs.declared.expressions.Op.{Op}
use Rattle.sql_statements.specs.declared.expressions.Op.TheVariants.{Or, And, Eq, Ne, Lt, Le, Gt, Ge, Add, Sub, Mul}
use Rattle.sql_statements.specs.declared.statements.Stmt.{Stmt}
use Rattle.sql_statements.specs.declared.statements.Stmt.TheVariants as stmt
use Rattle.sql_meaning.specs.declared.resolved.Resolved.{Resolved}
use Rattle.sql_meaning.specs.declared.actions.Action.{Action}
use Rattle.sql_meaning.specs.declared.actions.Action.TheVariants as action
use Rattle.sql_meaning.specs.Evaluation.{value_in, cell_of}
use Rattle.sql_meaning.specs.Names.{scope}
use Rattle.sql_meaning.specs.Places.{placed_action}
use Rattle.sql_meaning.specs.Refusals.{refusal}
use Rattle.sql_meaning.specs.Terms.{Term, lit, cell, neg, opposite_of, is_null, two, term}

-- the sides of the ANDs at the top of a test, in order
abbrev pub conjuncts : Term → List Term
conjuncts (two And x y) = conjuncts x ++ conjuncts y
conjuncts t = t ∷ []

-- The places of the keys of a statement's tables in the rows joined of both, and how many columns the left
-- table has.
pub record KeyPlaces : Type 0 where
  pub left : ℕ
  pub right : Option ℕ
  pub width : ℕ

-- what a conjunct says of the key at a place: how it compares with a literal, or which cell it equals
pub data Bound : Type 0 where
  by_literal : ℕ → Op → Value → Bound
  by_cell : ℕ → ℕ → Bound

abbrev pub is_right_key : KeyPlaces → ℕ → Bool
is_right_key keys p = option_map_or (λ k. k == p) keys.right false

abbrev pub is_key_place : KeyPlaces → ℕ → Bool
is_key_place keys p = keys.left == p || is_right_key keys p

-- = < <= > >=
abbrev pub bounds : Op → Bool
bounds Eq = true
bounds Lt = true
bounds Le = true
bounds Gt = true
bounds Ge = true
bounds Ne = false
bounds Or = false
bounds And = false
bounds Add = false
bounds Sub = false
bounds Mul = false

-- the comparison with its sides the other way round
abbrev pub turned : Op → Op
turned Lt = Gt
turned Le = Ge
turned Gt = Lt
turned Ge = Le
turned Eq = Eq
turned Ne = Ne
turned Or = Or
turned And = And
turned Add = Add
turned Sub = Sub
turned Mul = Mul

-- a literal that is not NULL; each INT of a statement is an i64
abbrev pub can_bound : Value → Bool
can_bound Null = false
can_bound (Int n) = fits_i64 n
can_bound (Text t) = true

abbrev pub literal_bound : KeyPlaces → Op → ℕ → Value → Option Bound
literal_bound keys op p v = if is_key_place keys p && (bounds op && can_bound v) then Some (by_literal p op v) else None

-- right.key = left.column, in either order
abbrev pub cell_bound : KeyPlaces → ℕ → ℕ → Option Bound
cell_bound keys p q =
    if is_right_key keys p && nat_lt q keys.width then Some (by_cell p q)
    else (if is_right_key keys q && nat_lt p keys.width then Some (by_cell q p) else None)

abbrev pub equal_cells : KeyPlaces → Op → ℕ → ℕ → Option Bound
equal_cells keys Eq p q = cell_bound keys p q
equal_cells keys _ p q = None

-- a key column compared with a literal, or the right key equal to a left column; other conjuncts say nothing
abbrev pub bound : KeyPlaces → Term → Option Bound
bound keys (two op (cell p) (lit v)) = literal_bound keys op p v
bound keys (two op (lit v) (cell p)) = literal_bound keys (turned op) p v
bound keys (two op (cell p) (cell q)) = equal_cells keys op p q
bound keys _ = None

-- what the conjuncts say, up to the first that says nothing
abbrev pub said : Option Bound → List Bound → List Bound
said None bs = []
said (Some b) bs = b ∷ bs

abbrev pub leading : KeyPlaces → List Term → List Bound
leading keys [] = []
leading keys (t ∷ ts) = said (bound keys t) (leading keys ts)

abbrev pub bounds_of : KeyPlaces → Option Term → List Bound
bounds_of keys None = []
bounds_of keys (Some t) = leading keys (conjuncts t)

-- = > >= bound a key from below, = < <= from above
abbrev pub is_low : Op → Bool
is_low Eq = true
is_low Gt = true
is_low Ge = true
is_low _ = false

abbrev pub is_high : Op → Bool
is_high Eq = true
is_high Lt = true
is_high Le = true
is_high _ = false

-- the key that a left row's cell gives; NULL gives none
abbrev pub value_bytes : Value → Option (List ℕ)
value_bytes Null = None
value_bytes (Int n) = Some (key_bytes (Int n))
value_bytes (Text t) = Some t

abbrev pub cell_bytes : Option (List Value) → ℕ → Option (List ℕ)
cell_bytes None p = None
cell_bytes (Some row) p = value_bytes (cell_of row p)

-- the end that a bound gives for the key at a place, on the side that the test of its comparison names
abbrev pub end_of : (Op → Bool) → ℕ → Option (List Value) → Bound → Option (List ℕ)
end_of side key row (by_literal p op v) = if key == p && side op then Some (key_bytes v) else None
end_of side key row (by_cell p q) = if key == p then cell_bytes row q else None

abbrev pub greater : List ℕ → Option (List ℕ) → List ℕ
greater a None = a
greater a (Some b) = if is_lt (text_cmp a b) then b else a

abbrev pub lesser : List ℕ → Option (List ℕ) → List ℕ
lesser a None = a
lesser a (Some b) = if is_lt (text_cmp b a) then b else a

abbrev pub greatest : List (List ℕ) → Option (List ℕ)
greatest [] = None
greatest (k ∷ ks) = Some (greater k (greatest ks))

abbrev pub least : List (List ℕ) → Option (List ℕ)
least [] = None
least (k ∷ ks) = Some (lesser k (least ks))

abbrev pub is_above : Option (List ℕ) → Option (List ℕ) → Bool
is_above None h = false
is_above (Some l) None = false
is_above (Some l) (Some h) = is_lt (text_cmp h l)

abbrev pub range_between : Option (List ℕ) → Option (List ℕ) → List KeyRange
range_between low high = if is_above low high then [] else record { low = low; high = high } ∷ []

-- from the greatest low end to the least high end, where it is not above
abbrev pub range_at : ℕ → Option (List Value) → List Bound → List KeyRange
range_at key row bs = range_between (greatest (filter_map (end_of is_low key row) bs)) (least (filter_map (end_of is_high key row) bs))

abbrev pub key_place : List Schema → List ℕ → ℕ
key_place schemas t = option_map_or (λ s. s.key) (table_named schemas t) 0

abbrev pub width_of : List Schema → List ℕ → ℕ
width_of schemas t = option_map_or (λ s. length s.columns) (table_named schemas t) 0

abbrev pub key_places : List Schema → List ℕ → Option (List ℕ) → KeyPlaces
key_places schemas left right = record {
  left = key_place schemas left;
  right = option_map (λ t. width_of schemas left + key_place schemas t) right;
  width = width_of schemas left;
}

-- the test of a statement: ON AND WHERE for a join
abbrev pub test_of_action : Action → Option Resolved
test_of_action action.Create = None
test_of_action (action.Insert tuples) = None
test_of_action (action.Update sets test) = test
test_of_action (action.Delete test) = test
test_of_action (action.Select output test order limit) = test
test_of_action action.Control = None

unfoldable pub statement_test : List Schema → Stmt → Option Term
statement_test schemas s = option_map term (test_of_action (placed_action (scope schemas s) s))

-- a key's own range, where the expression gives a value that is not NULL
abbrev pub own_range : Result Value Overflow → List KeyRange
own_range (Err e) = []
own_range (Ok Null) = []
own_range (Ok (Int n)) = record { low = Some (key_bytes (Int n)); high = Some (key_bytes (Int n)) } ∷ []
own_range (Ok (Text t)) = record { low = Some t; high = Some t } ∷ []

abbrev pub tuple_range : ℕ → List Resolved → List KeyRange
tuple_range key tuple = option_map_or (λ e. own_range (value_in [] (term e))) (slice_get tuple key) []

abbrev pub insert_ranges : ℕ → Action → List KeyRange
insert_ranges key (action.Insert tuples) = flat_map (tuple_range key) tuples
insert_ranges key action.Create = []
insert_ranges key (action.Update sets test) = []
insert_ranges key (action.Delete test) = []
insert_ranges key (action.Select output test order limit) = []
insert_ranges key action.Control = []

abbrev pub test_ranges : List Schema → Stmt → KeyPlaces → ℕ → Option (List Value) → List KeyRange
test_ranges schemas s keys key row = range_at key row (bounds_of keys (statement_test schemas s))

-- the ranges of the left or only table
abbrev pub left_ranges : List Schema → Stmt → List KeyRange
left_ranges schemas (stmt.Insert t names rows) = insert_ranges (key_place schemas t) (placed_action (scope schemas (stmt.Insert t names rows)) (stmt.Insert t names rows))
left_ranges schemas (stmt.Update t sets test) = test_ranges schemas (stmt.Update t sets test) (key_places schemas t None) (key_place schemas t) None
left_ranges schemas (stmt.Delete t test) = test_ranges schemas (stmt.Delete t test) (key_places schemas t None) (key_place schemas t) None
left_ranges schemas (stmt.Select q) = test_ranges schemas (stmt.Select q) (key_places schemas q.left (option_map (λ j. j.right) q.join)) (key_place schemas q.left) None
left_ranges schemas (stmt.Create s) = []
left_ranges schemas stmt.Begin = []
left_ranges schemas stmt.Commit = []
left_ranges schemas stmt.Rollback = []

-- the ranges of the right table for a row of the left one
abbrev pub right_ranges : List Schema → Stmt → List Value → List KeyRange
right_ranges schemas (stmt.Select q) row =
    option_map_or
    (λ j. test_ranges schemas (stmt.Select q) (key_places schemas q.left (Some j.right)) (width_of schemas q.left + key_place schemas j.right) (Some row))
    q.join []
right_ranges schemas (stmt.Insert t names rows) row = []
right_ranges schemas (stmt.Update t sets test) row = []
right_ranges schemas (stmt.Delete t test) row = []
right_ranges schemas (stmt.Create s) row = []
right_ranges schemas stmt.Begin row = []
right_ranges schemas stmt.Commit row = []
right_ranges schemas stmt.Rollback row = []

-- The ranges of a statement: of the only or left table, or with a left row of the right table. A statement
-- that is refused before anything is evaluated has none.
unfoldable pub ranges : List Schema → Stmt → Option (List Value) → List KeyRange
ranges schemas s None = if is_some (refusal schemas s) then [] else left_ranges schemas s
ranges schemas s (Some row) = if is_some (refusal schemas s) then [] else right_ranges schemas s row

-- whether a key lies in a range, ends included
abbrev pub is_past : Option (List ℕ) → List ℕ → Bool
is_past None k = true
is_past (Some l) k = is_le (text_cmp l k)

abbrev pub is_before : List ℕ → Option (List ℕ) → Bool
is_before k None = true
is_before k (Some h) = is_le (text_cmp k h)

abbrev pub in_range : List ℕ → KeyRange → Bool
in_range k r = is_past r.low k && is_before k r.high

abbrev pub in_ranges : List ℕ → List KeyRange → Bool
in_ranges k rs = list_any (in_range k) rs

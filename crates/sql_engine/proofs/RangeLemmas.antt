-- What is read in the ranges of one table, as the rows that pass a test.
use Rattle.std.proofs.Common.{◌≡◌, ℕ, ◌+◌, Bool, true, false, ◌||◌, if◌then◌else◌, List, [], ◌∷◌, map, Option, Some, None, is_some, option_map, refl, sym, ap, ◌∙◌}
use Rattle.std.specs.Prelude.{filter, filter_map}
use Rattle.std.specs.Option.{option_map_or}
use Rattle.std.proofs.lemmas.List.{append-nil}
use Rattle.rm_base.specs.declared.key_range.KeyRange.{KeyRange}
use Rattle.sql_values.specs.declared.schemas.Schema.{Schema}
use Rattle.sql_values.specs.declared.values.Value.{Value}
use Rattle.row_codec.specs.Keys.{key_bytes}
use Rattle.row_codec.specs.Records.{key_cell}
use Rattle.sql_statements.specs.declared.expressions.Expr.{Expr}
use Rattle.sql_statements.specs.declared.statements.Join.{Join}
use Rattle.sql_statements.specs.declared.statements.Select.{Select}
use Rattle.sql_statements.specs.declared.statements.SetItem.{SetItem}
use Rattle.sql_statements.specs.declared.statements.Stmt.{Stmt}
use Rattle.sql_statements.specs.declared.statements.Stmt.TheVariants as stmt
use Rattle.sql_values.specs.Tables.{table_named}
use Rattle.sql_meaning.specs.Ranges.{Bound, KeyPlaces, bounds_of, end_of, greatest, least, in_range, in_ranges, is_above, is_high, is_low, key_place, key_places, left_ranges, range_at, range_between, ranges, right_ranges, statement_test, test_ranges, width_of}
use Rattle.sql_meaning.specs.Refusals.{refusal}
use Rattle.sql_database.specs.Database.{Tables}
use Rattle.sql_engine.specs.Read.{ranges_rows, range_rows, table_rows}
use Rattle.sql_engine.proofs.NamedLemmas.{found_named}

-- one range at most
abbrev pub IsSingle : List KeyRange → Type 0
IsSingle [] = Unit {0}
IsSingle (a ∷ []) = Unit {0}
IsSingle (a ∷ (b ∷ more)) = ⊥

single_if : (b : Bool) (a : KeyRange) → IsSingle (if b then [] else a ∷ [])
single_if true a = tt
single_if false a = tt

single_between : (low high : Option (List ℕ)) → IsSingle (range_between low high)
single_between low high = single_if (is_above low high) (record { low = low; high = high })

single_at : (key : ℕ) (row : Option (List Value)) (bs : List Bound) → IsSingle (range_at key row bs)
single_at key row bs = single_between (greatest (filter_map (end_of is_low key row) bs)) (least (filter_map (end_of is_high key row) bs))

single_test : (schemas : List Schema) (s : Stmt) (keys : KeyPlaces) (key : ℕ) (row : Option (List Value)) → IsSingle (test_ranges schemas s keys key row)
single_test schemas s keys key row = single_at key row (bounds_of keys (statement_test schemas s))

single_unless : (b : Bool) (rs : List KeyRange) → IsSingle rs → IsSingle (if b then [] else rs)
single_unless true rs h = tt
single_unless false rs h = h

-- a test leaves one range at most
pub left_single : (schemas : List Schema) (s : Stmt) → IsSingle (left_ranges schemas s) → IsSingle (ranges schemas s None)
unfolding ranges
left_single schemas s h = single_unless (is_some (refusal schemas s)) (left_ranges schemas s) h

pub update_single : (schemas : List Schema) (t : List ℕ) (sets : List SetItem) (test : Option Expr) → IsSingle (ranges schemas (stmt.Update t sets test) None)
update_single schemas t sets test =
    left_single schemas (stmt.Update t sets test) (single_test schemas (stmt.Update t sets test) (key_places schemas t None) (key_place schemas t) None)

pub delete_single : (schemas : List Schema) (t : List ℕ) (test : Option Expr) → IsSingle (ranges schemas (stmt.Delete t test) None)
delete_single schemas t test =
    left_single schemas (stmt.Delete t test) (single_test schemas (stmt.Delete t test) (key_places schemas t None) (key_place schemas t) None)

pub select_single : (schemas : List Schema) (q : Select) → IsSingle (ranges schemas (stmt.Select q) None)
select_single schemas q =
    left_single schemas (stmt.Select q) (single_test schemas (stmt.Select q) (key_places schemas q.left (option_map (λ j. j.right) q.join)) (key_place schemas q.left) None)

single_right : (j : Option Join) (f : Join → List KeyRange) → ((i : Join) → IsSingle (f i)) → IsSingle (option_map_or f j [])
single_right None f h = tt
single_right (Some i) f h = h i

pub right_single : (schemas : List Schema) (q : Select) (row : List Value) → IsSingle (ranges schemas (stmt.Select q) (Some row))
unfolding ranges
right_single schemas q row =
    single_unless (is_some (refusal schemas (stmt.Select q))) (right_ranges schemas (stmt.Select q) row)
    (single_right q.join
    (λ j. test_ranges schemas (stmt.Select q) (key_places schemas q.left (Some j.right)) (width_of schemas q.left + key_place schemas j.right) (Some row))
    (λ j. single_test schemas (stmt.Select q) (key_places schemas q.left (Some j.right)) (width_of schemas q.left + key_place schemas j.right) (Some row)))

-- whether a row of a table lies in ranges
abbrev pub lies_in : Schema → List KeyRange → List Value → Bool
lies_in v rs row = in_ranges (key_bytes (key_cell v.key row)) rs

none_pass : (rows : List (List Value)) → filter (λ r. false) rows ≡ []
none_pass [] = refl
none_pass (r ∷ rs) = none_pass rs

or_none : (b : Bool) → b ≡ (b || false)
or_none true = refl
or_none false = refl

pass_alike : (p q : List Value → Bool) → ((r : List Value) → p r ≡ q r) → (rows : List (List Value)) → filter p rows ≡ filter q rows
pass_alike p q f [] = refl
pass_alike p q f (r ∷ rs) =
    ap (λ b. if b then r ∷ filter p rs else filter p rs) (f r) ∙ ap (λ ys. if q r then r ∷ ys else ys) (pass_alike p q f rs)

-- the rows in one range at most are those that lie in the ranges
in_single : (tables : Tables) (v : Schema) (rs : List KeyRange) → IsSingle rs → ranges_rows tables v rs ≡ filter (lies_in v rs) (tables v.table)
in_single tables v [] h = sym (none_pass (tables v.table))
in_single tables v (a ∷ []) h =
    append-nil (range_rows tables v a)
    ∙ pass_alike (λ r. in_range (key_bytes (key_cell v.key r)) a) (lies_in v (a ∷ [])) (λ r. or_none (in_range (key_bytes (key_cell v.key r)) a)) (tables v.table)
in_single tables v (a ∷ (b ∷ more)) h = absurd h

-- the same of the table with a name
pub rows_are : (tables : Tables) (schemas : List Schema) (t : List ℕ) (v : Schema) (rs : List KeyRange) → table_named schemas t ≡ Some v → IsSingle rs → table_rows tables schemas t rs ≡ filter (lies_in v rs) (tables t)
rows_are tables schemas t v rs e h =
    ap (λ (o : Option Schema). option_map_or (λ w. ranges_rows tables w rs) o []) e
    ∙ in_single tables v rs h
    ∙ ap (λ n. filter (lies_in v rs) (tables n)) (found_named schemas t v e)

pub map_alike : {A B : Type 0} (f g : A → B) → ((x : A) → f x ≡ g x) → (xs : List A) → map f xs ≡ map g xs
map_alike f g h [] = refl
map_alike f g h (x ∷ xs) = ap (λ y. y ∷ map f xs) (h x) ∙ ap (λ ys. g x ∷ ys) (map_alike f g h xs)

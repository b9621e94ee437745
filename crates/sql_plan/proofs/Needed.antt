-- A row outside a statement's ranges fails its test.
use Rattle.std.proofs.Common.{◌≡◌, ◌≢◌, ◌<◌, ◌+◌, ℕ, Bool, true, false, nat_lt, if◌then◌else◌, List, [], ◌∷◌, ◌++◌, length, flat_map, option_to_list, Option, Some, None, is_some, is_none, option_map, Ok, refl, sym, ◌∙◌, ap, subst, arith, append-nil}
use Rattle.std.specs.Option.{option_map_or, option_or}
use Rattle.std.proofs.lemmas.Bool.{ltb-true}
use Rattle.rm_base.specs.declared.key_range.KeyRange.{KeyRange}
use Rattle.sql_values.specs.Tables.{table_named}
use Rattle.sql_values.specs.declared.logic.Truth.TheVariants.{No}
use Rattle.sql_values.specs.declared.schemas.Schema.{Schema}
use Rattle.sql_values.specs.declared.values.Value.{Value}
use Rattle.sql_values.specs.declared.values.Value.TheVariants as value
use Rattle.row_codec.specs.Keys.{IsKey, key_bytes}
use Rattle.row_codec.specs.Records.{FitsSchema, AreI64, key_cell}
use Rattle.sql_statements.specs.declared.statements.Join.{Join}
use Rattle.sql_statements.specs.declared.statements.Stmt.{Stmt}
use Rattle.sql_statements.specs.declared.statements.Stmt.TheVariants as stmt
use Rattle.sql_meaning.specs.declared.fields.Field.{Field}
use Rattle.sql_meaning.specs.declared.kinds.Kind.{Kind}
use Rattle.sql_meaning.specs.declared.refusals.Refusal.{Refusal}
use Rattle.sql_meaning.specs.declared.refusals.Refusal.TheVariants.{NoColumn, WrongType}
use Rattle.sql_meaning.specs.declared.resolved.Resolved.{Resolved}
use Rattle.sql_meaning.specs.Evaluation.{cell_of, test_in}
use Rattle.sql_meaning.specs.Kinds.{kind, is_truth}
use Rattle.sql_meaning.specs.Names.{table_fields, tables, scope}
use Rattle.sql_meaning.specs.Places.{placed_action, placed_test, placed_on, both_tests}
use Rattle.sql_meaning.specs.Ranges.{KeyPlaces, bounds_of, value_bytes, cell_bytes, range_at, key_place, width_of, key_places, statement_test, left_ranges, right_ranges, ranges, in_ranges}
use Rattle.sql_meaning.specs.Refusals.{refusal, table_refusal, unknown_column, has_right_types, suits, is_condition, set_key, is_right}
use Rattle.sql_meaning.specs.Terms.{Term, term}
use Rattle.sql_plan.specs.Needed.{only_table, Sides, joined_tables, IsRowOf, LiesOutside, FailsTest, LeavesOutNone}
use Rattle.sql_plan.proofs.NeededTests.{test_no, and_both}
use Rattle.sql_plan.proofs.NeededEnds.{range_no}
use Rattle.sql_plan.proofs.NeededRows.{fit_fields, fit_both, width_is, cell_is_key, row_key, key_is_inside, left_cell, right_cell}
use Rattle.sql_plan.proofs.NeededBounds.{IsScene, TestHasKind, bounds_are_sound}

-- a statement that is not refused has right types
right_types : (a b : Option Refusal) (c : Bool) → option_or a (option_or b (if c then None else Some WrongType)) ≡ None → c ≡ true
right_types None None true h = refl
right_types None None false h = cc
right_types None (Some b) c h = cc
right_types (Some a) b c h = cc

some_kind : (o : Option Kind) → option_map_or is_truth o false ≡ true → is_some o ≡ true
some_kind None h = cc
some_kind (Some k) h = refl

condition_kind : (fields : List Field) (o : Option Resolved) → is_condition fields o ≡ true → TestHasKind fields (option_map term o)
unfolding suits
condition_kind fields None h = tt
condition_kind fields (Some e) h = some_kind (kind fields (term e)) h

right_kind : (schemas : List Schema) (s : Stmt) → is_right (scope schemas s) (set_key schemas s) (placed_action (scope schemas s) s) ≡ true → TestHasKind (scope schemas s) (statement_test schemas s)
unfolding statement_test
right_kind schemas (stmt.Create s) h = tt
right_kind schemas (stmt.Insert t names rows) h = tt
right_kind schemas (stmt.Update t sets test) h =
    condition_kind (scope schemas (stmt.Update t sets test)) (placed_test (scope schemas (stmt.Update t sets test)) test) (and_both _ _ h).1
right_kind schemas (stmt.Delete t test) h =
    condition_kind (scope schemas (stmt.Delete t test)) (placed_test (scope schemas (stmt.Delete t test)) test) h
right_kind schemas (stmt.Select q) h =
    condition_kind (scope schemas (stmt.Select q)) (both_tests (placed_on (scope schemas (stmt.Select q)) q.join) (placed_test (scope schemas (stmt.Select q)) q.test)) (and_both _ _ h).1
right_kind schemas stmt.Begin h = tt
right_kind schemas stmt.Commit h = tt
right_kind schemas stmt.Rollback h = tt

-- the test of a statement that is not refused has a kind
test_kind : (schemas : List Schema) (s : Stmt) → refusal schemas s ≡ None → TestHasKind (scope schemas s) (statement_test schemas s)
unfolding has_right_types
test_kind schemas s h =
    right_kind schemas s (and_both _ _ (right_types (table_refusal schemas s) (option_map NoColumn (unknown_column schemas s)) (has_right_types schemas s) h)).1

-- a row whose key is outside the range of its test's bounds fails the test
outside_fails :
    (fields : List Field) (keys : KeyPlaces) (key : ℕ) (left : Option (List Value)) (row : List Value) (test : Option Term)
    → IsScene fields keys key left row → TestHasKind fields test
    → in_ranges (key_bytes (cell_of row key)) (range_at key left (bounds_of keys test)) ≡ false → test_in row test ≡ Ok No
outside_fails fields keys key left row test scene h out =
    test_no keys row test
    (range_no (key_bytes (cell_of row key)) key left row (bounds_of keys test) (bounds_are_sound fields keys key left row scene test h) out)

-- the fields of the table with that name
abbrev fields_at : List Schema → List ℕ → List Field
fields_at schemas t = option_map_or table_fields (table_named schemas t) []

table_of_join : (left table : List ℕ) (join : Option Join) → (if is_none join then Some left else None) ≡ Some table → (join ≡ None) × (left ≡ table)
table_of_join left table None h = (refl, cc)
table_of_join left table (Some j) h = cc

-- what a statement with one table is: its tables, and its ranges
record HasOnly (schemas : List Schema) (s : Stmt) (table : List ℕ) : Type 0 where
  tables_are : tables s ≡ table ∷ []
  left_are : left_ranges schemas s ≡ range_at (key_place schemas table) None (bounds_of (key_places schemas table None) (statement_test schemas s))

ranged : List Schema → Stmt → List ℕ → Option (List ℕ) → List KeyRange
ranged schemas s table right = range_at (key_place schemas table) None (bounds_of (key_places schemas table right) (statement_test schemas s))

has_only : (schemas : List Schema) (s : Stmt) (table : List ℕ) → only_table s ≡ Some table → HasOnly schemas s table
unfolding ranged
has_only schemas (stmt.Update t sets test) table h =
    let e : t ≡ table = cc in record { tables_are = ap (λ x. x ∷ []) e; left_are = ap (λ x. ranged schemas (stmt.Update t sets test) x None) e }
has_only schemas (stmt.Delete t test) table h =
    let e : t ≡ table = cc in record { tables_are = ap (λ x. x ∷ []) e; left_are = ap (λ x. ranged schemas (stmt.Delete t test) x None) e }
has_only schemas (stmt.Select q) table h =
    let e = table_of_join q.left table q.join h in
    record {
      tables_are =
          ap (λ (j : Option Join). q.left ∷ option_to_list (option_map (λ i. i.right) j)) e.0 ∙ ap (λ x. x ∷ []) e.1;
      left_are =
          ap (λ (j : Option Join). ranged schemas (stmt.Select q) q.left (option_map (λ i. i.right) j)) e.0
          ∙ ap (λ x. ranged schemas (stmt.Select q) x None) e.1;
    }
has_only schemas (stmt.Create s) table h = cc
has_only schemas (stmt.Insert t names rows) table h = cc
has_only schemas stmt.Begin table h = cc
has_only schemas stmt.Commit table h = cc
has_only schemas stmt.Rollback table h = cc

-- what a statement with two tables is
record HasBoth (schemas : List Schema) (s : Stmt) (sides : Sides) : Type 0 where
  tables_are : tables s ≡ sides.left ∷ (sides.right ∷ [])
  left_are :
      left_ranges schemas s
      ≡ range_at (key_place schemas sides.left) None (bounds_of (key_places schemas sides.left (Some sides.right)) (statement_test schemas s))
  right_are :
      (row : List Value)
      → right_ranges schemas s row
      ≡ range_at (width_of schemas sides.left + key_place schemas sides.right) (Some row) (bounds_of (key_places schemas sides.left (Some sides.right)) (statement_test schemas s))

right_ranged : List Schema → Stmt → List Value → Sides → List KeyRange
right_ranged schemas s row sides =
    range_at (width_of schemas sides.left + key_place schemas sides.right) (Some row) (bounds_of (key_places schemas sides.left (Some sides.right)) (statement_test schemas s))

sides_of : List ℕ → Join → Sides
sides_of left j = record { left = left; right = j.right }

record IsJoin (left : List ℕ) (join : Option Join) (sides : Sides) : Type 0 where
  by : Join
  is : join ≡ Some by
  sides_are : sides_of left by ≡ sides

is_join : (left : List ℕ) (join : Option Join) (sides : Sides) → option_map (sides_of left) join ≡ Some sides → IsJoin left join sides
is_join left None sides h = cc
is_join left (Some j) sides h = record { by = j; is = refl; sides_are = cc }

has_both : (schemas : List Schema) (s : Stmt) (sides : Sides) → joined_tables s ≡ Some sides → HasBoth schemas s sides
unfolding ranged right_ranged sides_of
has_both schemas (stmt.Select q) sides h =
    let e : IsJoin q.left q.join sides = is_join q.left q.join sides h in
    record {
      tables_are =
          ap (λ (j : Option Join). q.left ∷ option_to_list (option_map (λ i. i.right) j)) e.is
          ∙ ap (λ (x : Sides). x.left ∷ (x.right ∷ [])) e.sides_are;
      left_are =
          ap (λ (j : Option Join). ranged schemas (stmt.Select q) q.left (option_map (λ i. i.right) j)) e.is
          ∙ ap (λ (x : Sides). ranged schemas (stmt.Select q) x.left (Some x.right)) e.sides_are;
      right_are = λ row.
          ap (λ (j : Option Join). option_map_or (λ i. right_ranged schemas (stmt.Select q) row (sides_of q.left i)) j []) e.is
          ∙ ap (right_ranged schemas (stmt.Select q) row) e.sides_are;
    }
has_both schemas (stmt.Update t sets test) sides h = cc
has_both schemas (stmt.Delete t test) sides h = cc
has_both schemas (stmt.Create s) sides h = cc
has_both schemas (stmt.Insert t names rows) sides h = cc
has_both schemas stmt.Begin sides h = cc
has_both schemas stmt.Commit sides h = cc
has_both schemas stmt.Rollback sides h = cc

-- the ranges of a statement that is not refused
ranges_left : (schemas : List Schema) (s : Stmt) → refusal schemas s ≡ None → ranges schemas s None ≡ left_ranges schemas s
unfolding ranges
ranges_left schemas s h = ap (λ (r : Option Refusal). if is_some r then [] else left_ranges schemas s) h

ranges_right : (schemas : List Schema) (s : Stmt) (row : List Value) → refusal schemas s ≡ None → ranges schemas s (Some row) ≡ right_ranges schemas s row
unfolding ranges
ranges_right schemas s row h = ap (λ (r : Option Refusal). if is_some r then [] else right_ranges schemas s row) h

no_key : (p : ℕ) (e : List ℕ) → cell_bytes None p ≡ Some e → ⊥
no_key p e h = cc

-- the scene of a row of the only table
only_scene :
    (schema : Schema) (row : List Value) (keys : KeyPlaces)
    → FitsSchema schema row → AreI64 row → IsScene (table_fields schema) keys schema.key None row
only_scene schema row keys fits ints = record {
  cells = fit_fields schema.table schema.columns row fits.cells;
  key_is = row_key schema row fits ints;
  left_keys = λ q e i h. absurd (no_key q e h);
  left_bytes = λ q e i h. absurd (no_key q e h);
}

is_key_at : (v w : Value) → v ≡ w → IsKey w → IsKey v
is_key_at v w e h = let P : Value → Type 0 = λ q. IsKey q in subst P (sym e) h

-- the scenes of a row joined of a left and a right row: for the left key, and for the right key
left_scene :
    (l r : Schema) (left right : List Value) (keys : KeyPlaces)
    → FitsSchema l left → AreI64 left → FitsSchema r right → IsScene (table_fields l ++ table_fields r) keys l.key None (left ++ right)
left_scene l r left right keys fits ints fits_right = record {
  cells = fit_both (table_fields l) (table_fields r) left right (fit_fields l.table l.columns left fits.cells) (fit_fields r.table r.columns right fits_right.cells);
  key_is = is_key_at (cell_of (left ++ right) l.key) (cell_of left l.key) (left_cell left right l.key (key_is_inside l left fits)) (row_key l left fits ints);
  left_keys = λ q e i h. absurd (no_key q e h);
  left_bytes = λ q e i h. absurd (no_key q e h);
}

not_null : (v : Value) (e : List ℕ) → value_bytes v ≡ Some e → v ≢ value.Null
not_null v e h n = let f : value_bytes value.Null ≡ Some e = ap value_bytes (sym n) ∙ h in cc

bytes_of : (v : Value) (e : List ℕ) → value_bytes v ≡ Some e → key_bytes v ≡ e
bytes_of value.Null e h = cc
bytes_of (value.Int n) e h = cc
bytes_of (value.Text t) e h = cc

within : (q w n : ℕ) → nat_lt q w ≡ true → w ≡ n → q < n
within q w n h e = let i : q < w = ltb-true q w h in omega arith

right_scene :
    (l r : Schema) (left right : List Value) (keys : KeyPlaces) → keys.width ≡ length left
    → FitsSchema l left → AreI64 left → FitsSchema r right → AreI64 right
    → IsScene (table_fields l ++ table_fields r) keys (length left + r.key) (Some left) (left ++ right)
right_scene l r left right keys wide fits ints fits_right ints_right = record {
  cells = fit_both (table_fields l) (table_fields r) left right (fit_fields l.table l.columns left fits.cells) (fit_fields r.table r.columns right fits_right.cells);
  key_is = is_key_at (cell_of (left ++ right) (length left + r.key)) (cell_of right r.key) (right_cell left right r.key) (row_key r right fits_right ints_right);
  left_keys = λ q e i h.
      is_key_at (cell_of (left ++ right) q) (cell_of left q) (left_cell left right q (within q keys.width (length left) i wide))
      (cell_is_key left q ints (not_null (cell_of left q) e h));
  left_bytes = λ q e i h.
      ap key_bytes (left_cell left right q (within q keys.width (length left) i wide)) ∙ bytes_of (cell_of left q) e h;
}

-- the fields, keys and widths of tables that the schemas name
scope_only : (schemas : List Schema) (s : Stmt) (table : List ℕ) (schema : Schema) → tables s ≡ table ∷ [] → table_named schemas table ≡ Some schema → scope schemas s ≡ table_fields schema
scope_only schemas s table schema t n =
    ap (flat_map (fields_at schemas)) t ∙ append-nil (fields_at schemas table) ∙ ap (λ (o : Option Schema). option_map_or table_fields o []) n

scope_both :
    (schemas : List Schema) (s : Stmt) (sides : Sides) (l r : Schema) → tables s ≡ sides.left ∷ (sides.right ∷ [])
    → table_named schemas sides.left ≡ Some l → table_named schemas sides.right ≡ Some r → scope schemas s ≡ table_fields l ++ table_fields r
scope_both schemas s sides l r t n m =
    ap (flat_map (fields_at schemas)) t
    ∙ ap (λ x. fields_at schemas sides.left ++ x) (append-nil (fields_at schemas sides.right))
    ∙ ap (λ (o : Option Schema). option_map_or table_fields o [] ++ fields_at schemas sides.right) n
    ∙ ap (λ (o : Option Schema). table_fields l ++ option_map_or table_fields o []) m

key_at : (schemas : List Schema) (table : List ℕ) (schema : Schema) → table_named schemas table ≡ Some schema → key_place schemas table ≡ schema.key
key_at schemas table schema n = ap (λ (o : Option Schema). option_map_or (λ (x : Schema). x.key) o 0) n

width_at : (schemas : List Schema) (table : List ℕ) (schema : Schema) → table_named schemas table ≡ Some schema → width_of schemas table ≡ length schema.columns
width_at schemas table schema n = ap (λ (o : Option Schema). option_map_or (λ (x : Schema). length x.columns) o 0) n

kind_in : (fields : List Field) (test : Option Term) (scoped : List Field) → scoped ≡ fields → TestHasKind scoped test → TestHasKind fields test
kind_in fields test scoped e h = let P : List Field → Type 0 = λ x. TestHasKind x test in subst P e h

-- a key outside one list of ranges is outside an equal one
still_outside : (k k' : List ℕ) (rs rs' : List KeyRange) → k' ≡ k → rs ≡ rs' → in_ranges k rs ≡ false → in_ranges k' rs' ≡ false
still_outside k k' rs rs' e f out = ap (λ x. in_ranges x rs') e ∙ ap (in_ranges k) (sym f) ∙ out

range_from : (key key' : ℕ) (left : Option (List Value)) (keys : KeyPlaces) (test : Option Term) → key ≡ key' → range_at key left (bounds_of keys test) ≡ range_at key' left (bounds_of keys test)
range_from key key' left keys test e = ap (λ k. range_at k left (bounds_of keys test)) e

only_fails :
    (schemas : List Schema) (s : Stmt) → refusal schemas s ≡ None
    → (table : List ℕ) (schema : Schema) (row : List Value) → only_table s ≡ Some table → IsRowOf schemas table schema row
    → LiesOutside schema row (ranges schemas s None) → FailsTest schemas s row
only_fails schemas s refused table schema row is h out =
    let only : HasOnly schemas s table = has_only schemas s table is in
    let keys : KeyPlaces = key_places schemas table None in
    let test : Option Term = statement_test schemas s in
    outside_fails (table_fields schema) keys schema.key None row test
    (only_scene schema row keys h.fits h.ints)
    (kind_in (table_fields schema) test (scope schemas s) (scope_only schemas s table schema only.tables_are h.named) (test_kind schemas s refused))
    (still_outside (key_bytes (key_cell schema.key row)) (key_bytes (cell_of row schema.key)) (ranges schemas s None) (range_at schema.key None (bounds_of keys test)) refl
    (ranges_left schemas s refused ∙ only.left_are ∙ range_from (key_place schemas table) schema.key None keys test (key_at schemas table schema h.named)) out)

left_fails :
    (schemas : List Schema) (s : Stmt) → refusal schemas s ≡ None
    → (sides : Sides) (l r : Schema) (left right : List Value) → joined_tables s ≡ Some sides
    → IsRowOf schemas sides.left l left → IsRowOf schemas sides.right r right
    → LiesOutside l left (ranges schemas s None) → FailsTest schemas s (left ++ right)
left_fails schemas s refused sides l r left right is h i out =
    let both : HasBoth schemas s sides = has_both schemas s sides is in
    let keys : KeyPlaces = key_places schemas sides.left (Some sides.right) in
    let test : Option Term = statement_test schemas s in
    outside_fails (table_fields l ++ table_fields r) keys l.key None (left ++ right) test
    (left_scene l r left right keys h.fits h.ints i.fits)
    (kind_in (table_fields l ++ table_fields r) test (scope schemas s) (scope_both schemas s sides l r both.tables_are h.named i.named) (test_kind schemas s refused))
    (still_outside (key_bytes (key_cell l.key left)) (key_bytes (cell_of (left ++ right) l.key)) (ranges schemas s None) (range_at l.key None (bounds_of keys test))
    (ap key_bytes (left_cell left right l.key (key_is_inside l left h.fits)))
    (ranges_left schemas s refused ∙ both.left_are ∙ range_from (key_place schemas sides.left) l.key None keys test (key_at schemas sides.left l h.named)) out)

right_fails :
    (schemas : List Schema) (s : Stmt) → refusal schemas s ≡ None
    → (sides : Sides) (l r : Schema) (left right : List Value) → joined_tables s ≡ Some sides
    → IsRowOf schemas sides.left l left → IsRowOf schemas sides.right r right
    → LiesOutside r right (ranges schemas s (Some left)) → FailsTest schemas s (left ++ right)
right_fails schemas s refused sides l r left right is h i out =
    let both : HasBoth schemas s sides = has_both schemas s sides is in
    let keys : KeyPlaces = key_places schemas sides.left (Some sides.right) in
    let test : Option Term = statement_test schemas s in
    let wide : width_of schemas sides.left ≡ length left =
    width_at schemas sides.left l h.named ∙ width_is l.columns left h.fits.cells in
    let place : width_of schemas sides.left + key_place schemas sides.right ≡ length left + r.key =
    ap (λ w. w + key_place schemas sides.right) wide ∙ ap (λ k. length left + k) (key_at schemas sides.right r i.named) in
    outside_fails (table_fields l ++ table_fields r) keys (length left + r.key) (Some left) (left ++ right) test
    (right_scene l r left right keys wide h.fits h.ints i.fits i.ints)
    (kind_in (table_fields l ++ table_fields r) test (scope schemas s) (scope_both schemas s sides l r both.tables_are h.named i.named) (test_kind schemas s refused))
    (still_outside (key_bytes (key_cell r.key right)) (key_bytes (cell_of (left ++ right) (length left + r.key))) (ranges schemas s (Some left)) (range_at (length left + r.key) (Some left) (bounds_of keys test))
    (ap key_bytes (right_cell left right r.key))
    (ranges_right schemas s left refused ∙ both.right_are left
    ∙ range_from (width_of schemas sides.left + key_place schemas sides.right) (length left + r.key) (Some left) keys test place) out)

-- a row outside a statement's ranges fails its test
pub leaves_out_none : (schemas : List Schema) (s : Stmt) → refusal schemas s ≡ None → LeavesOutNone schemas s
leaves_out_none schemas s h = record { only = only_fails schemas s h; left = left_fails schemas s h; right = right_fails schemas s h }

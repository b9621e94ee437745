-- The answer over the rows of a statement's ranges is the answer over all rows.
use Rattle.std.proofs.Common.{◌≡◌, ◌≢◌, ℕ, false, if◌then◌else◌, List, [], ◌∷◌, ◌++◌, map, Option, Some, None, is_none, is_some, option_map, option_to_list, find, filter, flat_map, zero, suc, MatchOption, refl, sym, ap, subst, ◌∙◌}
use Rattle.std.specs.List.{AllByRecursion}
use Rattle.std.specs.Option.{option_map_or, option_or}
use Rattle.sql_values.specs.Tables.{table_named}
use Rattle.sql_values.specs.declared.schemas.Schema.{Schema}
use Rattle.sql_values.specs.declared.values.Value.{Value}
use Rattle.sql_values.specs.declared.values.Value.TheVariants.{Null}
use Rattle.row_codec.specs.Records.{HasKey, key_cell}
use Rattle.sql_statements.specs.declared.expressions.Expr.{Expr}
use Rattle.sql_statements.specs.declared.statements.Join.{Join}
use Rattle.sql_statements.specs.declared.statements.Select.{Select}
use Rattle.sql_statements.specs.declared.statements.Stmt.{Stmt}
use Rattle.sql_statements.specs.declared.statements.Stmt.TheVariants as stmt
use Rattle.sql_meaning.specs.declared.refusals.Refusal.{Refusal}
use Rattle.sql_meaning.specs.declared.refusals.Refusal.TheVariants.{NoTable, NoColumn, WrongType}
use Rattle.sql_meaning.specs.Names.{tables, scope}
use Rattle.sql_meaning.specs.Places.{placed_action, placed_tuple}
use Rattle.sql_meaning.specs.Ranges.{left_ranges, ranges, statement_test, tuple_range}
use Rattle.sql_meaning.specs.Refusals.{refusal, exists, first_missing, table_refusal, unknown_column, has_right_types}
use Rattle.sql_plan.specs.Needed.{FailsTest, Sides, joined_tables, only_table}
use Rattle.sql_plan.proofs.Needed.{leaves_out_none}
use Rattle.sql_exec.specs.declared.outcomes.Outcome.{Outcome}
use Rattle.sql_exec.specs.declared.rows.RangeRows.{RangeRows}
use Rattle.sql_database.specs.Answers.{Answer, refused}
use Rattle.sql_exec.specs.Answer.{Answers, ComesFrom, Does, inserts, on_target, reply_of, source, target}
use Rattle.sql_exec.specs.Whole.{AnswersOver, Each, HasNeeded, IsNeedless, Without, whole}
use Rattle.sql_database.specs.Database.{Database}
use Rattle.sql_exec.specs.Kept.{pairs}
use Rattle.sql_exec.proofs.RangeLaws.{filtered_is_without, joined_is_without}
use Rattle.sql_exec.proofs.WholeLaws.{over_whole}
use Rattle.sql_engine.specs.Read.{AreOf, left_rows, mentioned, only, paired, ranges_rows, read_rows, right_rows, table_rows}
use Rattle.sql_engine.specs.Sound.{IsRow, IsSound}
use Rattle.sql_engine.proofs.ListLemmas.{all_weaker}
use Rattle.sql_engine.proofs.NamedLemmas.{SameNamed, answers_same, found_named}
use Rattle.sql_engine.proofs.RangeLemmas.{IsSingle, delete_single, lies_in, map_alike, right_single, rows_are, select_single, update_single}
use Rattle.sql_engine.proofs.InsertLemmas.{inserts_alike}

-- the schema of a table that is there
pub record HasSchema (schemas : List Schema) (t : List ℕ) : Type 0 where
  pub schema : Schema
  pub found : table_named schemas t ≡ Some schema

no_first : {A : Type 0} (a b : Option A) → option_or a b ≡ None → a ≡ None
no_first None b h = refl
no_first (Some x) b h = cc

no_second : {A : Type 0} (a b : Option A) → option_or a b ≡ None → b ≡ None
no_second None b h = h
no_second (Some x) b h = cc

no_map : (o : Option (List ℕ)) → option_map NoTable o ≡ None → o ≡ None
no_map None h = refl
no_map (Some t) h = cc

one_more : (schemas : List Schema) (t : List ℕ) (ts : List (List ℕ)) (rest : Option (List ℕ)) (o : Option Schema) → (rest ≡ None → AllByRecursion (HasSchema schemas) ts) → table_named schemas t ≡ o → (if is_none o then Some t else rest) ≡ None → AllByRecursion (HasSchema schemas) (t ∷ ts)
one_more schemas t ts rest None f e h = absurd cc
one_more schemas t ts rest (Some v) f e h = (record { schema = v; found = e }, f h)

all_there : (schemas : List Schema) (names : List (List ℕ)) → find (λ t. is_none (table_named schemas t)) names ≡ None → AllByRecursion (HasSchema schemas) names
all_there schemas [] h = tt
all_there schemas (t ∷ ts) h = one_more schemas t ts (find (λ u. is_none (table_named schemas u)) ts) (table_named schemas t) (all_there schemas ts) refl h

-- a statement that is not refused has its tables
pub have_schemas : (schemas : List Schema) (s : Stmt) → refusal schemas s ≡ None → AllByRecursion (HasSchema schemas) (tables s)
unfolding table_refusal
have_schemas schemas s h =
    let none = no_first (table_refusal schemas s) (option_or (option_map NoColumn (unknown_column schemas s)) (if has_right_types schemas s then None else Some WrongType)) h in
    all_there schemas (tables s) (no_map (find (λ t. is_none (table_named schemas t)) (tables s)) (no_second (exists schemas s) (first_missing schemas (tables s)) none))

-- a row that fails the statement's test is not needed
needless : (schemas : List Schema) (s : Stmt) (row : List Value) → FailsTest schemas s row → IsNeedless (target schemas s) (placed_action (scope schemas s) s) row
unfolding statement_test
needless schemas (stmt.Create s) row h = tt
needless schemas (stmt.Insert t names tuples) row h = absurd cc
needless schemas (stmt.Update t sets test) row h = h
needless schemas (stmt.Delete t test) row h = h
needless schemas (stmt.Select q) row h = h
needless schemas stmt.Begin row h = tt
needless schemas stmt.Commit row h = tt
needless schemas stmt.Rollback row h = tt

rows_known : (d : Database) (schemas : List Schema) → AreOf schemas d.schemas → IsSound d → (t : List ℕ) (v : Schema) → table_named schemas t ≡ Some v → AllByRecursion (IsRow v) (d.tables t)
rows_known d schemas of_all sound t v e =
    subst (λ (n : List ℕ). AllByRecursion (IsRow v) (d.tables n)) (found_named schemas t v e) (sound.rows v.table v (of_all t v e))

each_row : (P : List Value → Type 0) (v : Schema) → ((r : List Value) → IsRow v r → P r) → (rows : List (List Value)) → AllByRecursion (IsRow v) rows → Each P rows
each_row P v f [] h = tt
each_row P v f (r ∷ rs) h = (f r h.0, each_row P v f rs h.1)

-- the rows of one table that lie in the ranges are all rows without needless ones
only_without : (d : Database) (schemas : List Schema) → AreOf schemas d.schemas → IsSound d → (s : Stmt) → refusal schemas s ≡ None → (t : List ℕ) → only_table s ≡ Some t → HasSchema schemas t → IsSingle (ranges schemas s None)
    → Without (IsNeedless (target schemas s) (placed_action (scope schemas s) s)) (d.tables t) (left_rows d.tables schemas s t)
only_without d schemas of_all sound s none t one there single =
    let v = there.schema in
    let rs = ranges schemas s None in
    subst (λ (rows : List (List Value)). Without (IsNeedless (target schemas s) (placed_action (scope schemas s) s)) (d.tables t) rows)
    (sym (rows_are d.tables schemas t v rs there.found single))
    (filtered_is_without (target schemas s) (placed_action (scope schemas s) s) (lies_in v rs) (d.tables t)
    (each_row (λ r. lies_in v rs r ≡ false → IsNeedless (target schemas s) (placed_action (scope schemas s) s) r) v
    (λ r row out. needless schemas s r ((leaves_out_none schemas s none).only t v r one (record { named = there.found; fits = row.fits; ints = row.ints }) out))
    (d.tables t) (rows_known d schemas of_all sound t v there.found)))

sides_of : List ℕ → Join → Sides
sides_of left j = record { left = left; right = j.right }

-- pairs of rows that lie in the ranges are all pairs without needless ones
pairs_without : (d : Database) (schemas : List Schema) → AreOf schemas d.schemas → IsSound d → (q : Select) → refusal schemas (stmt.Select q) ≡ None → (j : Join) → q.join ≡ Some j → HasSchema schemas q.left → HasSchema schemas j.right
    → Without (IsNeedless (target schemas (stmt.Select q)) (placed_action (scope schemas (stmt.Select q)) (stmt.Select q))) (pairs (d.tables q.left) (map (λ l. d.tables j.right) (d.tables q.left)))
    (pairs (left_rows d.tables schemas (stmt.Select q) q.left) (right_rows d.tables schemas (stmt.Select q) j.right (left_rows d.tables schemas (stmt.Select q) q.left)))
unfolding sides_of
pairs_without d schemas of_all sound q none j joined left right =
    let s = stmt.Select q in
    let laws = leaves_out_none schemas (stmt.Select q) none in
    let is_joined : joined_tables (stmt.Select q) ≡ Some (sides_of q.left j) = ap (option_map (sides_of q.left)) joined in
    let lefts = rows_known d schemas of_all sound q.left left.schema left.found in
    let rights = rows_known d schemas of_all sound j.right right.schema right.found in
    let in_left = lies_in left.schema (ranges schemas (stmt.Select q) None) in
    let in_right = λ (l : List Value). lies_in right.schema (ranges schemas (stmt.Select q) (Some l)) in
    let needed = λ (row : List Value). IsNeedless (target schemas (stmt.Select q)) (placed_action (scope schemas (stmt.Select q)) (stmt.Select q)) row in
    let read_left = rows_are d.tables schemas q.left left.schema (ranges schemas (stmt.Select q) None) left.found (select_single schemas q) in
    let read_right = λ (ls : List (List Value)). map_alike (λ l. table_rows d.tables schemas j.right (ranges schemas (stmt.Select q) (Some l))) (λ l. filter (in_right l) (d.tables j.right)) (λ l. rows_are d.tables schemas j.right right.schema (ranges schemas (stmt.Select q) (Some l)) right.found (right_single schemas q l)) ls in
    let read_pairs = ap (λ ls. pairs ls (right_rows d.tables schemas (stmt.Select q) j.right ls)) read_left ∙ ap (λ rs. pairs (filter in_left (d.tables q.left)) rs) (read_right (filter in_left (d.tables q.left))) in
    subst (λ (rows : List (List Value)). Without needed (pairs (d.tables q.left) (map (λ l. d.tables j.right) (d.tables q.left))) rows) (sym read_pairs)
    (joined_is_without (target schemas (stmt.Select q)) (placed_action (scope schemas (stmt.Select q)) (stmt.Select q)) in_left in_right (d.tables q.left) (d.tables j.right)
    (each_row (λ l. Each (λ r. in_left l ≡ false → needed (l ++ r)) (d.tables j.right)) left.schema
    (λ l row. each_row (λ r. in_left l ≡ false → needed (l ++ r)) right.schema
    (λ r other out. needless schemas (stmt.Select q) (l ++ r)
    (laws.left (sides_of q.left j) left.schema right.schema l r is_joined (record { named = left.found; fits = row.fits; ints = row.ints }) (record { named = right.found; fits = other.fits; ints = other.ints }) out))
    (d.tables j.right) rights) (d.tables q.left) lefts)
    (each_row (λ l. Each (λ r. in_right l r ≡ false → needed (l ++ r)) (d.tables j.right)) left.schema
    (λ l row. each_row (λ r. in_right l r ≡ false → needed (l ++ r)) right.schema
    (λ r other out. needless schemas (stmt.Select q) (l ++ r)
    (laws.right (sides_of q.left j) left.schema right.schema l r is_joined (record { named = left.found; fits = row.fits; ints = row.ints }) (record { named = right.found; fits = other.fits; ints = other.ints }) out))
    (d.tables j.right) rights) (d.tables q.left) lefts))

key_there : (row : List Value) (key : ℕ) → HasKey row key → key_cell key row ≢ Null
key_there [] key h = absurd h
key_there (v ∷ vs) zero h = h
key_there (v ∷ vs) (suc key) h = key_there vs key h

-- an INSERT answers over the rows of its tuples' ranges what it answers over all rows
insert_over : (d : Database) (schemas : List Schema) → AreOf schemas d.schemas → IsSound d → (t : List ℕ) (names : Option (List (List ℕ))) (tuples : List (List Expr)) → refusal schemas (stmt.Insert t names tuples) ≡ None → HasSchema schemas t
    → on_target (table_named schemas t) (λ v. inserts v (left_rows d.tables schemas (stmt.Insert t names tuples) t) (map (placed_tuple (scope schemas (stmt.Insert t names tuples)) names) tuples))
    ≡ on_target (table_named schemas t) (λ v. inserts v (d.tables t) (map (placed_tuple (scope schemas (stmt.Insert t names tuples)) names) tuples))
unfolding ranges
insert_over d schemas of_all sound t names tuples none there =
    let v = there.schema in
    let acts = map (placed_tuple (scope schemas (stmt.Insert t names tuples)) names) tuples in
    let its_ranges = ap (λ (r : Option Refusal). if is_some r then [] else left_ranges schemas (stmt.Insert t names tuples)) none ∙ ap (λ (o : Option Schema). flat_map (tuple_range (option_map_or (λ (w : Schema). w.key) o 0)) acts) there.found in
    let its_rows = ap (λ (o : Option Schema). option_map_or (λ w. ranges_rows d.tables w (ranges schemas (stmt.Insert t names tuples) None)) o []) there.found ∙ ap (ranges_rows d.tables v) its_ranges in
    let keys = all_weaker (IsRow v) (λ r. key_cell v.key r ≢ Null) (λ r row. key_there r v.key row.fits.key) (d.tables v.table) (sound.rows v.table v (of_all t v there.found)) in
    ap (λ (o : Option Schema). on_target o (λ w. inserts w (left_rows d.tables schemas (stmt.Insert t names tuples) t) acts)) there.found
    ∙ ap (λ rows. inserts v rows acts) its_rows
    ∙ inserts_alike d.tables v acts keys
    ∙ ap (λ n. inserts v (d.tables n) acts) (found_named schemas t v there.found)
    ∙ sym (ap (λ (o : Option Schema). on_target o (λ w. inserts w (d.tables t) acts)) there.found)

-- where a statement is refused, its answer is the same over all rows
refused_alike : (schemas : List Schema) (s : Stmt) (given all : RangeRows) (x : Refusal) (o : Outcome) → refusal schemas s ≡ Some x → ComesFrom (Answers schemas given s) o → ComesFrom (Answers schemas all s) o
refused_alike schemas s given all x o e from = record {
  answer = from.answer;
  is =
      subst (λ (r : Option Refusal). MatchOption r (Does (target schemas s) (source s all) (placed_action (scope schemas s) s) from.answer) (λ q. from.answer ≡ refused (reply_of q))) (sym e)
      (subst (λ (r : Option Refusal). MatchOption r (Does (target schemas s) (source s given) (placed_action (scope schemas s) s) from.answer) (λ q. from.answer ≡ refused (reply_of q))) e from.is);
  gives = from.gives;
}

-- where it is not refused, it is enough that what it does is the same
does_alike : (schemas : List Schema) (s : Stmt) (given all : RangeRows) (o : Outcome) → refusal schemas s ≡ None
    → ((a : Answer) → Does (target schemas s) (source s given) (placed_action (scope schemas s) s) a → Does (target schemas s) (source s all) (placed_action (scope schemas s) s) a)
    → ComesFrom (Answers schemas given s) o → ComesFrom (Answers schemas all s) o
does_alike schemas s given all o e f from = record {
  answer = from.answer;
  is =
      subst (λ (r : Option Refusal). MatchOption r (Does (target schemas s) (source s all) (placed_action (scope schemas s) s) from.answer) (λ q. from.answer ≡ refused (reply_of q))) (sym e)
      (f from.answer (subst (λ (r : Option Refusal). MatchOption r (Does (target schemas s) (source s given) (placed_action (scope schemas s) s) from.answer) (λ q. from.answer ≡ refused (reply_of q))) e from.is));
  gives = from.gives;
}

-- what a SELECT sees of what is read
read_source : Database → List Schema → Select → Option Join → List (List Value)
read_source d schemas q k = seen k (option_map_or (λ j. paired d.tables schemas (stmt.Select q) j.right (left_rows d.tables schemas (stmt.Select q) q.left)) k (only (left_rows d.tables schemas (stmt.Select q) q.left)))
  where
    seen : Option Join → RangeRows → List (List Value)
    seen j given = option_map_or (λ i. pairs given.left given.right) j given.left

-- the rows of a SELECT that are read are all that it needs
select_needed : (d : Database) (schemas : List Schema) → AreOf schemas d.schemas → IsSound d → (q : Select) → refusal schemas (stmt.Select q) ≡ None → (k : Option Join) → q.join ≡ k → AllByRecursion (HasSchema schemas) (tables (stmt.Select q))
    → HasNeeded schemas (stmt.Select q) (whole d.tables (stmt.Select q)) (read_rows d.tables schemas (stmt.Select q))
unfolding read_source
select_needed d schemas of_all sound q none None e there =
    let needed = λ (row : List Value). IsNeedless (target schemas (stmt.Select q)) (placed_action (scope schemas (stmt.Select q)) (stmt.Select q)) row in
    let lefts = left_rows d.tables schemas (stmt.Select q) q.left in
    let all_is = ap (λ (k : Option Join). option_map_or (λ i. pairs (d.tables q.left) (option_map_or (λ (j : Join). map (λ l. d.tables j.right) (d.tables q.left)) k [])) k (d.tables q.left)) e in
    let read_is = ap (read_source d schemas q) e in
    subst (λ (rows : List (List Value)). Without needed rows (source (stmt.Select q) (read_rows d.tables schemas (stmt.Select q)))) (sym all_is)
    (subst (λ (rows : List (List Value)). Without needed (d.tables q.left) rows) (sym read_is)
    (only_without d schemas of_all sound (stmt.Select q) none q.left (ap (λ (k : Option Join). if is_none k then Some q.left else None) e) there.0 (select_single schemas q)))
select_needed d schemas of_all sound q none (Some j) e there =
    let needed = λ (row : List Value). IsNeedless (target schemas (stmt.Select q)) (placed_action (scope schemas (stmt.Select q)) (stmt.Select q)) row in
    let all_is = ap (λ (k : Option Join). option_map_or (λ i. pairs (d.tables q.left) (option_map_or (λ (j : Join). map (λ l. d.tables j.right) (d.tables q.left)) k [])) k (d.tables q.left)) e in
    let read_is = ap (read_source d schemas q) e in
    let right = subst (λ (k : Option Join). AllByRecursion (HasSchema schemas) (option_to_list (option_map (λ (i : Join). i.right) k))) e there.1 in
    subst (λ (rows : List (List Value)). Without needed rows (source (stmt.Select q) (read_rows d.tables schemas (stmt.Select q)))) (sym all_is)
    (subst (λ (rows : List (List Value)). Without needed (pairs (d.tables q.left) (map (λ l. d.tables j.right) (d.tables q.left))) rows) (sym read_is)
    (pairs_without d schemas of_all sound q none j e there.0 right.0))

not_refused : (d : Database) (schemas : List Schema) → AreOf schemas d.schemas → IsSound d → (s : Stmt) (o : Outcome) → refusal schemas s ≡ None → ComesFrom (Answers schemas (read_rows d.tables schemas s) s) o → ComesFrom (Answers schemas (whole d.tables s) s) o
not_refused d schemas of_all sound (stmt.Create s) o none from = from
not_refused d schemas of_all sound (stmt.Insert t names tuples) o none from =
    does_alike schemas (stmt.Insert t names tuples) (read_rows d.tables schemas (stmt.Insert t names tuples)) (whole d.tables (stmt.Insert t names tuples)) o none
    (λ a h. h ∙ insert_over d schemas of_all sound t names tuples none (have_schemas schemas (stmt.Insert t names tuples) none).0) from
not_refused d schemas of_all sound (stmt.Update t sets test) o none from =
    over_whole schemas (stmt.Update t sets test) d.tables (read_rows d.tables schemas (stmt.Update t sets test)) o
    (only_without d schemas of_all sound (stmt.Update t sets test) none t refl (have_schemas schemas (stmt.Update t sets test) none).0 (update_single schemas t sets test)) from
not_refused d schemas of_all sound (stmt.Delete t test) o none from =
    over_whole schemas (stmt.Delete t test) d.tables (read_rows d.tables schemas (stmt.Delete t test)) o
    (only_without d schemas of_all sound (stmt.Delete t test) none t refl (have_schemas schemas (stmt.Delete t test) none).0 (delete_single schemas t test)) from
not_refused d schemas of_all sound (stmt.Select q) o none from =
    over_whole schemas (stmt.Select q) d.tables (read_rows d.tables schemas (stmt.Select q)) o
    (select_needed d schemas of_all sound q none q.join refl (have_schemas schemas (stmt.Select q) none)) from
not_refused d schemas of_all sound stmt.Begin o none from = from
not_refused d schemas of_all sound stmt.Commit o none from = from
not_refused d schemas of_all sound stmt.Rollback o none from = from

by_refusal : (d : Database) (schemas : List Schema) → AreOf schemas d.schemas → IsSound d → (s : Stmt) (o : Outcome) (r : Option Refusal) → refusal schemas s ≡ r → ComesFrom (Answers schemas (read_rows d.tables schemas s) s) o → ComesFrom (Answers schemas (whole d.tables s) s) o
by_refusal d schemas of_all sound s o None e from = not_refused d schemas of_all sound s o e from
by_refusal d schemas of_all sound s o (Some x) e from = refused_alike schemas s (read_rows d.tables schemas s) (whole d.tables s) x o e from

-- an outcome over the rows that are read comes from the answer over the whole database
pub over_all : (d : Database) (schemas : List Schema) (s : Stmt) (o : Outcome) → AreOf schemas d.schemas → SameNamed schemas d.schemas (mentioned s) → IsSound d
    → ComesFrom (Answers schemas (read_rows d.tables schemas s) s) o → ComesFrom (AnswersOver d s) o
over_all d schemas s o of_all same sound from =
    let all = by_refusal d schemas of_all sound s o (refusal schemas s) refl from in
    record { answer = all.answer; is = answers_same schemas d.schemas s (whole d.tables s) all.answer same all.is; gives = all.gives }

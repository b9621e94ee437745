-- Stated: whole tables, and the rows that a statement does not need of them.
use Rattle.std.specs.Prelude.{◌≡◌, ◌≢◌, ◌⊎◌, ℕ, Bool, flat_map, filter, ◌++◌, false, List, [], ◌∷◌, map, Option, option_map, Ok}
use Rattle.std.specs.List.{list_any}
use Rattle.std.specs.Option.{option_map_or}
use Rattle.sql_database.specs.Answers.{Answer}
use Rattle.sql_database.specs.Database.{Database, Tables}
use Rattle.sql_values.specs.declared.logic.Truth.TheVariants.{No}
use Rattle.sql_values.specs.declared.schemas.Schema.{Schema}
use Rattle.sql_values.specs.declared.values.Value.{Value}
use Rattle.sql_values.specs.declared.values.Value.TheVariants.{Null}
use Rattle.row_codec.specs.Keys.{key_bytes}
use Rattle.row_codec.specs.Records.{key_cell}
use Rattle.sql_statements.specs.declared.statements.Stmt.{Stmt}
use Rattle.sql_statements.specs.declared.statements.Stmt.TheVariants as stmt
use Rattle.sql_meaning.specs.declared.resolved.Resolved.{Resolved}
use Rattle.sql_meaning.specs.declared.actions.Action.{Action}
use Rattle.sql_meaning.specs.declared.actions.Action.TheVariants as action
use Rattle.sql_meaning.specs.Evaluation.{test_in}
use Rattle.sql_meaning.specs.Names.{scope}
use Rattle.sql_meaning.specs.Places.{placed_action}
use Rattle.sql_meaning.specs.Ranges.{in_ranges, tuple_range}
use Rattle.sql_meaning.specs.Terms.{term}
use Rattle.sql_exec.specs.declared.rows.RangeRows.{RangeRows}
use Rattle.sql_exec.specs.declared.outcomes.Outcome.{Outcome}
use Rattle.sql_exec.specs.Answer.{Answers, ComesFrom, source, target}
use Rattle.sql_exec.specs.Changes.{is_same, keys_of}
use Rattle.sql_exec.specs.Kept.{each, pairs, values_in}

-- all rows that a statement could read: of its only or left table, and for a join of the right one for each left row
abbrev pub whole : Tables → Stmt → RangeRows
whole tables (stmt.Create s) = record { left = []; right = [] }
whole tables (stmt.Insert t names tuples) = record { left = tables t; right = [] }
whole tables (stmt.Update t sets test) = record { left = tables t; right = [] }
whole tables (stmt.Delete t test) = record { left = tables t; right = [] }
whole tables (stmt.Select q) = record { left = tables q.left; right = option_map_or (λ j. map (λ l. tables j.right) (tables q.left)) q.join [] }
whole tables stmt.Begin = record { left = []; right = [] }
whole tables stmt.Commit = record { left = []; right = [] }
whole tables stmt.Rollback = record { left = []; right = [] }

-- the answer over all rows of a database
abbrev pub AnswersOver : Database → Stmt → Answer → Type 0
AnswersOver d st a = Answers d.schemas (whole d.tables st) st a

-- the second list is the first without some that have the property
abbrev pub Without : (List Value → Type 0) → List (List Value) → List (List Value) → Type 0
Without P [] [] = Unit {0}
Without P [] (y ∷ ys) = ⊥
Without P (x ∷ xs) [] = P x × Without P xs []
Without P (x ∷ xs) (y ∷ ys) = ((x ≡ y) × Without P xs ys) ⊎ (P x × Without P xs (y ∷ ys))

-- no tuple has the row's key
abbrev pub HasOtherKey : ℕ → List (List Resolved) → List Value → Type 0
HasOtherKey key tuples row =
    (news : List (List Value)) → each (λ t. values_in [] t) tuples ≡ Ok news
    → list_any (λ k. is_same k (key_cell key row)) (keys_of key news) ≡ false

-- A row, or a pair, that a statement does not need: its test is No, or for an INSERT its key is no tuple's.
abbrev pub IsNeedless : Option Schema → Action → List Value → Type 0
IsNeedless schema action.Create row = Unit {0}
IsNeedless schema (action.Insert tuples) row = HasOtherKey (option_map_or (λ s. s.key) schema 0) tuples row
IsNeedless schema (action.Update sets test) row = test_in row (option_map term test) ≡ Ok No
IsNeedless schema (action.Delete test) row = test_in row (option_map term test) ≡ Ok No
IsNeedless schema (action.Select output test order limit) row = test_in row (option_map term test) ≡ Ok No
IsNeedless schema action.Control row = Unit {0}

-- the rows handed in are all rows without some that the statement does not need
abbrev pub HasNeeded : List Schema → Stmt → RangeRows → RangeRows → Type 0
HasNeeded schemas s all given = Without (IsNeedless (target schemas s) (placed_action (scope schemas s) s)) (source s all) (source s given)

-- over rows that have all that is needed, an outcome is the answer over whole tables
abbrev pub IsWhole : Type 0
IsWhole =
    (schemas : List Schema) (s : Stmt) (tables : Tables) (given : RangeRows) (o : Outcome)
    → HasNeeded schemas s (whole tables s) given → ComesFrom (Answers schemas given s) o → ComesFrom (Answers schemas (whole tables s) s) o

-- a row that lies in no range of an INSERT's tuples has the key of none
abbrev pub OutsideIsNeedless : Type 0
OutsideIsNeedless =
    (key : ℕ) (tuples : List (List Resolved)) (row : List Value)
    → key_cell key row ≢ Null → in_ranges (key_bytes (key_cell key row)) (flat_map (tuple_range key) tuples) ≡ false → HasOtherKey key tuples row

abbrev pub Each : (List Value → Type 0) → List (List Value) → Type 0
Each P [] = Unit {0}
Each P (x ∷ xs) = P x × Each P xs

-- rows that pass a test, as that of lying in a range, are all rows without some needless, where each that fails it is needless
abbrev pub FilteredIsWithout : Type 0
FilteredIsWithout =
    (schema : Option Schema) (act : Action) (q : List Value → Bool) (rows : List (List Value))
    → Each (λ r. q r ≡ false → IsNeedless schema act r) rows → Without (IsNeedless schema act) rows (filter q rows)

-- the same of pairs: left rows pass a test, and right rows one that depends on the left row
abbrev pub JoinedIsWithout : Type 0
JoinedIsWithout =
    (schema : Option Schema) (act : Action) (p : List Value → Bool) (q : List Value → List Value → Bool) (ls rs : List (List Value))
    → Each (λ l. Each (λ r. p l ≡ false → IsNeedless schema act (l ++ r)) rs) ls
    → Each (λ l. Each (λ r. q l r ≡ false → IsNeedless schema act (l ++ r)) rs) ls
    → Without (IsNeedless schema act) (pairs ls (map (λ l. rs) ls)) (pairs (filter p ls) (map (λ l. filter (q l) rs) (filter p ls)))

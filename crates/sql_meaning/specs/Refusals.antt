-- Stated: when a statement is refused before anything is evaluated.
use Rattle.std.specs.Prelude.{◌≡◌, ℕ, Bool, true, false, not, ◌&&◌, ◌==◌, if◌then◌else◌, List, [], ◌∷◌, length, zip, slice_get, Option, Some, None, is_some, is_none, option_map, find}
use Rattle.std.specs.List.{list_all}
use Rattle.std.specs.Option.{option_map_or, option_or}
use Rattle.sql_values.specs.Tables.{table_named}
use Rattle.sql_values.specs.declared.schemas.Schema.{Schema}
use Rattle.sql_statements.specs.declared.statements.Stmt.{Stmt}
use Rattle.sql_statements.specs.declared.statements.Stmt.TheVariants as stmt
use Rattle.sql_meaning.specs.declared.fields.Field.{Field}
use Rattle.sql_meaning.specs.declared.kinds.Kind.{Kind}
use Rattle.sql_meaning.specs.declared.resolved.Resolved.{Resolved}
use Rattle.sql_meaning.specs.declared.actions.Total.{Total}
use Rattle.sql_meaning.specs.declared.actions.Total.TheVariants.{CountAll, Count, Sum, Min, Max}
use Rattle.sql_meaning.specs.declared.actions.Output.{Output}
use Rattle.sql_meaning.specs.declared.actions.Output.TheVariants.{Star, Plain, Totals}
use Rattle.sql_meaning.specs.declared.actions.SetPlace.{SetPlace}
use Rattle.sql_meaning.specs.declared.actions.Action.{Action}
use Rattle.sql_meaning.specs.declared.actions.Action.TheVariants.{Create, Insert, Update, Delete, Select, Control}
use Rattle.sql_meaning.specs.declared.refusals.Refusal.{Refusal}
use Rattle.sql_meaning.specs.declared.refusals.Refusal.TheVariants.{TableExists, NoTable, NoColumn, WrongType}
use Rattle.sql_meaning.specs.Kinds.{kind, is_number, is_truth, is_value, takes}
use Rattle.sql_meaning.specs.Names.{tables, scope, table_mentions, tuple_mentions, first_unknown}
use Rattle.sql_meaning.specs.Places.{placed_action}
use Rattle.sql_meaning.specs.Terms.{term}

-- whether an expression has a kind that its place takes
unfoldable pub suits : List Field → (Kind → Bool) → Resolved → Bool
suits fields p e = option_map_or p (kind fields (term e)) false

-- WHERE and ON take truths
abbrev pub is_condition : List Field → Option Resolved → Bool
is_condition fields None = true
is_condition fields (Some e) = suits fields is_truth e

-- a value of a tuple has its column's sort
abbrev pub fits_field : Field → Resolved → Bool
fits_field f e = suits [] (takes f.sort) e

abbrev pub fits_fields : List Field → List Resolved → Bool
fits_fields fields tuple = length fields == length tuple && list_all (λ p. fits_field p.0 p.1) (zip fields tuple)

-- SET gives a column a value of its sort, and names no key
abbrev pub sets_right : List Field → ℕ → SetPlace → Bool
sets_right fields key s =
    not (s.place == key) && option_map_or (λ f. suits fields (takes f.sort) s.value) (slice_get fields s.place) false

-- SUM takes INT; COUNT, MIN and MAX take INT or TEXT
abbrev pub totals_right : List Field → Total → Bool
totals_right fields CountAll = true
totals_right fields (Count e) = suits fields is_value e
totals_right fields (Sum e) = suits fields is_number e
totals_right fields (Min e) = suits fields is_value e
totals_right fields (Max e) = suits fields is_value e

abbrev pub output_right : List Field → Output → Bool
output_right fields Star = true
output_right fields (Plain es) = list_all (suits fields is_value) es
output_right fields (Totals ts) = list_all (totals_right fields) ts

-- whether each operand has the sort of its place
abbrev pub is_right : List Field → ℕ → Action → Bool
is_right fields key Create = true
is_right fields key (Insert tuples) = list_all (fits_fields fields) tuples
is_right fields key (Update sets test) = list_all (sets_right fields key) sets && is_condition fields test
is_right fields key (Delete test) = is_condition fields test
is_right fields key (Select output test order limit) = output_right fields output && is_condition fields test
is_right fields key Control = true

-- the place of a table's key, which SET may not name
abbrev pub set_key : List Schema → Stmt → ℕ
set_key schemas (stmt.Create s) = 0
set_key schemas (stmt.Insert t names rows) = 0
set_key schemas (stmt.Update t sets test) = option_map_or (λ s. s.key) (table_named schemas t) 0
set_key schemas (stmt.Delete t test) = 0
set_key schemas (stmt.Select q) = 0
set_key schemas stmt.Begin = 0
set_key schemas stmt.Commit = 0
set_key schemas stmt.Rollback = 0

-- each tuple has as many values as columns are named, or as the table has where none are
abbrev pub counts_match : List Field → Stmt → Bool
counts_match fields (stmt.Create s) = true
counts_match fields (stmt.Insert t names rows) = list_all (λ r. length r == option_map_or length names (length fields)) rows
counts_match fields (stmt.Update t sets test) = true
counts_match fields (stmt.Delete t test) = true
counts_match fields (stmt.Select q) = true
counts_match fields stmt.Begin = true
counts_match fields stmt.Commit = true
counts_match fields stmt.Rollback = true

unfoldable pub has_right_types : List Schema → Stmt → Bool
has_right_types schemas s =
    counts_match (scope schemas s) s && is_right (scope schemas s) (set_key schemas s) (placed_action (scope schemas s) s)

abbrev pub exists : List Schema → Stmt → Option Refusal
exists schemas (stmt.Create s) = if is_some (table_named schemas s.table) then Some (TableExists s.table) else None
exists schemas (stmt.Insert t names rows) = None
exists schemas (stmt.Update t sets test) = None
exists schemas (stmt.Delete t test) = None
exists schemas (stmt.Select q) = None
exists schemas stmt.Begin = None
exists schemas stmt.Commit = None
exists schemas stmt.Rollback = None

abbrev pub first_missing : List Schema → List (List ℕ) → Option Refusal
first_missing schemas names = option_map NoTable (find (λ t. is_none (table_named schemas t)) names)

-- the table that exists, or the first that the schemas lack
unfoldable pub table_refusal : List Schema → Stmt → Option Refusal
table_refusal schemas s = option_or (exists schemas s) (first_missing schemas (tables s))

-- the first column of the text that is unknown; the tuples of an INSERT have no columns
unfoldable pub unknown_column : List Schema → Stmt → Option (List ℕ)
unknown_column schemas s =
    option_or (first_unknown (scope schemas s) (table_mentions s)) (first_unknown [] (tuple_mentions s))

-- why a statement is refused before anything is evaluated: by a table, else by a column, else by a wrong type
abbrev pub refusal : List Schema → Stmt → Option Refusal
refusal schemas s =
    option_or (table_refusal schemas s)
    (option_or (option_map NoColumn (unknown_column schemas s))
    (if has_right_types schemas s then None else Some WrongType))

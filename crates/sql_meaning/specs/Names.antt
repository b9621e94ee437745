-- Stated: tables and columns by their names.
use Rattle.std.specs.Prelude.{ℕ, Bool, true, ◌&&◌, ◌==◌, if◌then◌else◌, List, [], ◌∷◌, ◌++◌, map, Option, Some, None, is_none, option_map, option_to_list, bytes_eq, find, position, count_by, flat_map}
use Rattle.std.specs.Option.{option_map_or}
use Rattle.sql_values.specs.declared.schemas.Column.{Column}
use Rattle.sql_values.specs.declared.schemas.Schema.{Schema}
use Rattle.sql_values.specs.Tables.{table_named}
use Rattle.sql_statements.specs.declared.expressions.Expr.{Expr}
use Rattle.sql_statements.specs.declared.expressions.Expr.TheOpen.{Expr-F}
use Rattle.sql_statements.specs.declared.expressions.Expr.TheFolds.{fold-Expr}
use Rattle.sql_statements.specs.declared.statements.Agg.{Agg}
use Rattle.sql_statements.specs.declared.statements.Agg.TheVariants.{CountAll, Count, Sum, Min, Max}
use Rattle.sql_statements.specs.declared.statements.Selected.{Selected}
use Rattle.sql_statements.specs.declared.statements.Selected.TheVariants.{Star, Plain, Aggs}
use Rattle.sql_statements.specs.declared.statements.Join.{Join}
use Rattle.sql_statements.specs.declared.statements.OrderKey.{OrderKey}
use Rattle.sql_statements.specs.declared.statements.SetItem.{SetItem}
use Rattle.sql_statements.specs.declared.statements.Stmt.{Stmt}
use Rattle.sql_statements.specs.declared.statements.Stmt.TheVariants as stmt
use Rattle.sql_meaning.specs.declared.fields.Field.{Field}
use Rattle.sql_meaning.specs.declared.mentions.Mention.{Mention}

abbrev pub field_of : List ℕ → Column → Field
field_of table c = record { table = table; name = c.name; sort = c.sort }

-- the columns of a table's rows
abbrev pub table_fields : Schema → List Field
table_fields s = map (field_of s.table) s.columns

-- a column of that table, where one is given
abbrev pub is_of : Option (List ℕ) → Field → Bool
is_of None f = true
is_of (Some table) f = bytes_eq f.table table

abbrev pub is_named : Option (List ℕ) → List ℕ → Field → Bool
is_named table name f = bytes_eq f.name name && is_of table f

-- the place of the one column with that name
unfoldable pub place : List Field → Option (List ℕ) → List ℕ → Option ℕ
place fields table name = if count_by (is_named table name) fields == 1 then position (is_named table name) fields else None

-- the tables of a statement, in the order of the text
abbrev pub tables : Stmt → List (List ℕ)
tables (stmt.Create s) = []
tables (stmt.Insert t names rows) = t ∷ []
tables (stmt.Update t sets test) = t ∷ []
tables (stmt.Delete t test) = t ∷ []
tables (stmt.Select q) = q.left ∷ option_to_list (option_map (λ j. j.right) q.join)
tables stmt.Begin = []
tables stmt.Commit = []
tables stmt.Rollback = []

-- the columns of a statement's rows: those of its tables, one table after the other
abbrev pub scope : List Schema → Stmt → List Field
scope schemas s = flat_map (λ t. option_map_or table_fields (table_named schemas t) []) (tables s)

abbrev pub mention : Option (List ℕ) → List ℕ → Mention
mention table name = record { table = table; name = name }

abbrev pub mentions_step : Expr-F (List Mention) → List Mention
mentions_step (Expr-F.Lit v) = []
mentions_step (Expr-F.Col table name) = mention table name ∷ []
mentions_step (Expr-F.Neg x) = x
mentions_step (Expr-F.Not x) = x
mentions_step (Expr-F.IsNull x n) = x
mentions_step (Expr-F.Two op x y) = x ++ y

-- the columns that an expression names, in the order of the text
abbrev pub mentions : Expr → List Mention
mentions = fold-Expr (List Mention) mentions_step

abbrev pub all_mentions : List Expr → List Mention
all_mentions es = flat_map mentions es

abbrev pub test_mentions : Option Expr → List Mention
test_mentions None = []
test_mentions (Some e) = mentions e

abbrev pub set_mentions : SetItem → List Mention
set_mentions s = mention None s.name ∷ mentions s.value

abbrev pub agg_mentions : Agg → List Mention
agg_mentions CountAll = []
agg_mentions (Count e) = mentions e
agg_mentions (Sum e) = mentions e
agg_mentions (Min e) = mentions e
agg_mentions (Max e) = mentions e

abbrev pub selected_mentions : Selected → List Mention
selected_mentions Star = []
selected_mentions (Plain es) = all_mentions es
selected_mentions (Aggs as_) = flat_map agg_mentions as_

abbrev pub join_mentions : Option Join → List Mention
join_mentions None = []
join_mentions (Some j) = mentions j.on

abbrev pub order_mention : OrderKey → Mention
order_mention k = mention k.table k.name

-- the columns of a statement's tables that it names, in the order of the text
abbrev pub table_mentions : Stmt → List Mention
table_mentions (stmt.Create s) = []
table_mentions (stmt.Insert t None rows) = []
table_mentions (stmt.Insert t (Some names) rows) = map (mention None) names
table_mentions (stmt.Update t sets test) = flat_map set_mentions sets ++ test_mentions test
table_mentions (stmt.Delete t test) = test_mentions test
table_mentions (stmt.Select q) = selected_mentions q.items ++ (join_mentions q.join ++ (test_mentions q.test ++ map order_mention q.order))
table_mentions stmt.Begin = []
table_mentions stmt.Commit = []
table_mentions stmt.Rollback = []

-- those that stand in the tuples of an INSERT, which have no tables
abbrev pub tuple_mentions : Stmt → List Mention
tuple_mentions (stmt.Create s) = []
tuple_mentions (stmt.Insert t names rows) = flat_map all_mentions rows
tuple_mentions (stmt.Update t sets test) = []
tuple_mentions (stmt.Delete t test) = []
tuple_mentions (stmt.Select q) = []
tuple_mentions stmt.Begin = []
tuple_mentions stmt.Commit = []
tuple_mentions stmt.Rollback = []

-- a column that is none of the fields, or more than one
abbrev pub is_unknown : List Field → Mention → Bool
is_unknown fields m = is_none (place fields m.table m.name)

-- the column as the text has it, with its table's name and a dot where these are written
abbrev pub text_of : Mention → List ℕ
text_of m = option_map_or (λ t. t ++ 46 ∷ m.name) m.table m.name

abbrev pub first_unknown : List Field → List Mention → Option (List ℕ)
first_unknown fields ms = option_map text_of (find (is_unknown fields) ms)

-- Stated: the grammar of statements, and what each statement means.
use Rattle.std.specs.Prelude.{ℕ, ℤ, List, [], length, Option, Some, None, Bool, true, false}
use Rattle.sql_values.specs.declared.values.Sort.{Sort}
use Rattle.sql_values.specs.declared.values.Sort.TheVariants as sort
use Rattle.sql_words.specs.declared.reserved.Word.TheVariants as w
use Rattle.sql_words.specs.declared.signs.Sign.TheVariants as s
use Rattle.sql_front.specs.declared.definitions.Definition.{Definition}
use Rattle.sql_statements.specs.declared.expressions.Expr.{Expr}
use Rattle.sql_statements.specs.declared.statements.SetItem.{SetItem}
use Rattle.sql_statements.specs.declared.statements.Agg.{Agg}
use Rattle.sql_statements.specs.declared.statements.Agg.TheVariants as agg
use Rattle.sql_statements.specs.declared.statements.Selected.{Selected}
use Rattle.sql_statements.specs.declared.statements.Selected.TheVariants as selected
use Rattle.sql_statements.specs.declared.statements.Join.{Join}
use Rattle.sql_statements.specs.declared.statements.OrderKey.{OrderKey}
use Rattle.sql_statements.specs.declared.statements.Stmt.{Stmt}
use Rattle.sql_statements.specs.declared.statements.Stmt.TheVariants as stmt
use Rattle.sql_front.specs.Conditions.{is_new_column, is_keyless, has_key, schema, is_new, is_new_set, is_other}
use Rattle.sql_front.specs.Expressions.{an_expression}
use Rattle.sql_front.specs.Rules.{Rule, nothing, the, the_if, a_name, a_name_if, a_small_number, a_list, ◌>>=◌, ◌>>◌, ◌or◌}
use Rattle.sql_front.specs.Symbols.{Symbol, word, sign}

-- CREATE TABLE name ( column { , column } ), where a column is a name, INT or TEXT, and perhaps PRIMARY KEY

abbrev pub a_sort : Rule Sort
a_sort = (do the (word w.Text); nothing sort.Text) or (do the (word w.Int); nothing sort.Int)

abbrev pub a_key_mark : Bool → Rule Bool
a_key_mark allowed = (do the_if allowed (word w.Primary); the (word w.Key); nothing true) or nothing false

-- a 17th column, a second one of a name and a second key are forbidden
abbrev pub a_definition : List Definition → Rule Definition
a_definition before = do
  name ← a_name_if (is_new_column before)
  sort ← a_sort
  key ← a_key_mark (is_keyless before)
  nothing (record { column = record { name = name; sort = sort }; is_key = key })

-- a key is needed before the closing bracket
abbrev pub a_create : Rule Stmt
a_create = do
  the (word w.Table)
  table ← a_name
  the (sign s.Open)
  columns ← a_list a_definition
  the_if (has_key columns) (sign s.Close)
  nothing (stmt.Create (schema table columns))

-- INSERT INTO name [ ( name { , name } ) ] VALUES tuple { , tuple }, where a tuple is ( expr { , expr } )

abbrev pub a_new_name : List (List ℕ) → Rule (List ℕ)
a_new_name before = a_name_if (is_new before)

abbrev pub named_columns : Rule (Option (List (List ℕ)))
named_columns = (do the (sign s.Open); names ← a_list a_new_name; the (sign s.Close); nothing (Some names)) or nothing None

abbrev pub a_value : List Expr → Rule Expr
a_value before = an_expression

abbrev pub a_tuple : List (List Expr) → Rule (List Expr)
a_tuple before = do
  the (sign s.Open)
  values ← a_list a_value
  the (sign s.Close)
  nothing values

abbrev pub an_insert : Rule Stmt
an_insert = do
  the (word w.Into)
  table ← a_name
  columns ← named_columns
  the (word w.Values)
  rows ← a_list a_tuple
  nothing (stmt.Insert table columns rows)

-- UPDATE name SET name = expr { , name = expr } [ WHERE expr ] and DELETE FROM name [ WHERE expr ]

abbrev pub a_set_item : List SetItem → Rule SetItem
a_set_item before = do
  name ← a_name_if (is_new_set before)
  the (sign s.Eq)
  value ← an_expression
  nothing (record { name = name; value = value })

abbrev pub a_condition : Rule (Option Expr)
a_condition = (do the (word w.Where); test ← an_expression; nothing (Some test)) or nothing None

abbrev pub an_update : Rule Stmt
an_update = do
  table ← a_name
  the (word w.Set)
  sets ← a_list a_set_item
  test ← a_condition
  nothing (stmt.Update table sets test)

abbrev pub a_delete : Rule Stmt
a_delete = do
  the (word w.From)
  table ← a_name
  test ← a_condition
  nothing (stmt.Delete table test)

-- SELECT items FROM name [ JOIN name ON expr ] [ WHERE expr ], and behind items that are not over all rows
-- [ ORDER BY key { , key } ] [ LIMIT number ]

abbrev pub bracketed : Rule Expr
bracketed = do
  the (sign s.Open)
  arg ← an_expression
  the (sign s.Close)
  nothing arg

abbrev pub counted : Rule Agg
counted = do
  the (sign s.Open)
  (do the (sign s.Star); the (sign s.Close); nothing agg.CountAll) or (do arg ← an_expression; the (sign s.Close); nothing (agg.Count arg))

abbrev pub an_aggregate : List Agg → Rule Agg
an_aggregate before =
    (do the (word w.Count); counted)
    or ((do the (word w.Sum); arg ← bracketed; nothing (agg.Sum arg))
    or ((do the (word w.Min); arg ← bracketed; nothing (agg.Min arg))
    or (do the (word w.Max); arg ← bracketed; nothing (agg.Max arg))))

abbrev pub selected_items : Rule Selected
selected_items =
    (do the (sign s.Star); nothing selected.Star)
    or ((do items ← a_list an_aggregate; nothing (selected.Aggs items))
    or (do items ← a_list a_value; nothing (selected.Plain items)))

-- a table is joined with another
abbrev pub a_join : List ℕ → Rule (Option Join)
a_join left = (do
  the (word w.Join)
  right ← a_name_if (is_other left)
  the (word w.On)
  on ← an_expression
  nothing (Some (record { right = right; on = on }))) or nothing None

abbrev pub a_column : Rule (Option (List ℕ) × List ℕ)
a_column = do
  first ← a_name
  (do the (sign s.Dot); second ← a_name; nothing (Some first, second)) or nothing (None, first)

abbrev pub a_direction : Rule Bool
a_direction = (do the (word w.Desc); nothing true) or ((do the (word w.Asc); nothing false) or nothing false)

abbrev pub an_order_key : List OrderKey → Rule OrderKey
an_order_key before = do
  key ← a_column
  desc ← a_direction
  nothing (record { table = key.0; name = key.1; desc = desc })

abbrev pub orders : Rule (List OrderKey)
orders = (do the (word w.Order); the (word w.By); a_list an_order_key) or nothing []

abbrev pub a_limit : Rule (Option ℤ)
a_limit = (do the (word w.Limit); number ← a_small_number; nothing (Some number)) or nothing None

abbrev pub endings : Selected → Rule (List OrderKey × Option ℤ)
endings (selected.Aggs items) = nothing ([], None)
endings selected.Star = do order ← orders; most ← a_limit; nothing (order, most)
endings (selected.Plain items) = do order ← orders; most ← a_limit; nothing (order, most)

abbrev pub a_select : Rule Stmt
a_select = do
  items ← selected_items
  the (word w.From)
  left ← a_name
  joined ← a_join left
  test ← a_condition
  ends ← endings items
  nothing (stmt.Select (record { items = items; left = left; join = joined; test = test; order = ends.0; limit = ends.1 }))

-- ( create | insert | select | update | delete | BEGIN | COMMIT | ROLLBACK ) [ ; ]

abbrev pub a_transaction : Rule Stmt
a_transaction =
    (do the (word w.Begin); nothing stmt.Begin)
    or ((do the (word w.Commit); nothing stmt.Commit)
    or (do the (word w.Rollback); nothing stmt.Rollback))

abbrev pub a_change : Rule Stmt
a_change = (do the (word w.Update); an_update) or ((do the (word w.Delete); a_delete) or a_transaction)

abbrev pub a_command : Rule Stmt
a_command = (do the (word w.Create); a_create) or ((do the (word w.Insert); an_insert) or ((do the (word w.Select); a_select) or a_change))

abbrev pub a_statement : Rule Stmt
a_statement = do
  read ← a_command
  (do the (sign s.Semicolon); nothing read) or nothing read

-- a statement that keeps all further conditions
abbrev pub IsStatement : List Symbol → Stmt → Type 0
IsStatement ts stmt = a_statement (length ts) ts stmt

-- Stated: how statements are read, part by part.
use Rattle.std.specs.Prelude.{ℕ, ℤ, Bool, true, false, ◌||◌, if◌then◌else◌, List, [], Option, Some, None, Ok, Err}
use Rattle.sql_values.specs.declared.values.Sort.{Sort}
use Rattle.sql_values.specs.declared.values.Sort.TheVariants as sort
use Rattle.sql_words.specs.declared.reserved.Word.TheVariants as w
use Rattle.sql_words.specs.declared.signs.Sign.TheVariants as s
use Rattle.sql_words.specs.declared.tokens.Class.TheVariants as c
use Rattle.sql_front.specs.declared.definitions.Definition.{Definition}
use Rattle.sql_statements.specs.declared.expressions.Expr.{Expr}
use Rattle.sql_statements.specs.declared.statements.SetItem.{SetItem}
use Rattle.sql_statements.specs.declared.statements.Agg.{Agg}
use Rattle.sql_statements.specs.declared.statements.Agg.TheVariants as agg
use Rattle.sql_statements.specs.declared.statements.Selected.{Selected}
use Rattle.sql_statements.specs.declared.statements.Selected.TheVariants as selected
use Rattle.sql_statements.specs.declared.statements.Join.{Join}
use Rattle.sql_statements.specs.declared.statements.OrderKey.{OrderKey}
use Rattle.sql_statements.specs.declared.statements.Stmt.{Stmt}
use Rattle.sql_statements.specs.declared.statements.Stmt.TheVariants as stmt
use Rattle.sql_front.specs.Symbols.{Input, sees}
use Rattle.sql_front.specs.Input.{Reader, ◌>>=◌, ◌>>◌, pure, expect, expect_if, eat, any_name, name_if, small_number, listed}
use Rattle.sql_front.specs.Conditions.{is_new_column, is_keyless, has_key, schema, is_new, is_new_set, is_other}
use Rattle.sql_front.specs.ReadExpr.{expression, column, is_end}

-- ---- CREATE

unfoldable pub sort_word : Reader Sort
sort_word = do
  text ← eat (c.Reserved w.Text)
  if text then pure sort.Text else (do expect (c.Reserved w.Int); pure sort.Int)

unfoldable pub key_mark : Bool → Reader Bool
key_mark allowed i = if sees (c.Reserved w.Primary) i then (do expect_if allowed (c.Reserved w.Primary); expect (c.Reserved w.Key); pure true) i else Ok (false, i)

unfoldable pub definition : List Definition → Reader Definition
definition before = do
  name ← name_if (is_new_column before)
  sort ← sort_word
  key ← key_mark (is_keyless before)
  pure (record { column = record { name = name; sort = sort }; is_key = key })

unfoldable pub create : Reader Stmt
create = do
  expect (c.Reserved w.Table)
  table ← any_name
  expect (c.Sign s.Open)
  columns ← listed definition
  expect_if (has_key columns) (c.Sign s.Close)
  pure (stmt.Create (schema table columns))

-- ---- INSERT

unfoldable pub new_name : List (List ℕ) → Reader (List ℕ)
new_name before = name_if (is_new before)

unfoldable pub named_columns : Reader (Option (List (List ℕ)))
named_columns = do
  found ← eat (c.Sign s.Open)
  if found then (do names ← listed new_name; expect (c.Sign s.Close); pure (Some names)) else pure None

unfoldable pub value : List Expr → Reader Expr
value before = expression

unfoldable pub tuple : List (List Expr) → Reader (List Expr)
tuple before = do
  expect (c.Sign s.Open)
  values ← listed value
  expect (c.Sign s.Close)
  pure values

unfoldable pub insert : Reader Stmt
insert = do
  expect (c.Reserved w.Into)
  table ← any_name
  columns ← named_columns
  expect (c.Reserved w.Values)
  rows ← listed tuple
  pure (stmt.Insert table columns rows)

-- ---- UPDATE and DELETE

unfoldable pub set_item : List SetItem → Reader SetItem
set_item before = do
  name ← name_if (is_new_set before)
  expect (c.Sign s.Eq)
  value ← expression
  pure (record { name = name; value = value })

unfoldable pub condition : Reader (Option Expr)
condition = do
  found ← eat (c.Reserved w.Where)
  if found then (do test ← expression; pure (Some test)) else pure None

unfoldable pub update : Reader Stmt
update = do
  table ← any_name
  expect (c.Reserved w.Set)
  sets ← listed set_item
  test ← condition
  pure (stmt.Update table sets test)

unfoldable pub delete : Reader Stmt
delete = do
  expect (c.Reserved w.From)
  table ← any_name
  test ← condition
  pure (stmt.Delete table test)

-- ---- SELECT

unfoldable pub bracketed : Reader Expr
bracketed = do
  expect (c.Sign s.Open)
  arg ← expression
  expect (c.Sign s.Close)
  pure arg

unfoldable pub counted : Reader Agg
counted = do
  expect (c.Sign s.Open)
  star ← eat (c.Sign s.Star)
  if star then (do expect (c.Sign s.Close); pure agg.CountAll) else (do arg ← expression; expect (c.Sign s.Close); pure (agg.Count arg))

unfoldable pub aggregate : List Agg → Reader Agg
aggregate before = do
  count ← eat (c.Reserved w.Count)
  if count then counted else (do
    sum ← eat (c.Reserved w.Sum)
    if sum then (do arg ← bracketed; pure (agg.Sum arg)) else (do
      min ← eat (c.Reserved w.Min)
      if min then (do arg ← bracketed; pure (agg.Min arg)) else (do expect (c.Reserved w.Max); arg ← bracketed; pure (agg.Max arg))))

-- whether an aggregate comes next
unfoldable pub sees_aggregate : Input → Bool
sees_aggregate i = sees (c.Reserved w.Count) i || sees (c.Reserved w.Sum) i || sees (c.Reserved w.Min) i || sees (c.Reserved w.Max) i

unfoldable pub answers : Reader Selected
answers i = if sees_aggregate i then (do items ← listed aggregate; pure (selected.Aggs items)) i else (do items ← listed value; pure (selected.Plain items)) i

unfoldable pub selected_items : Reader Selected
selected_items = do
  star ← eat (c.Sign s.Star)
  if star then pure selected.Star else answers

unfoldable pub join : List ℕ → Reader (Option Join)
join left = do
  found ← eat (c.Reserved w.Join)
  if found then (do
    right ← name_if (is_other left)
    expect (c.Reserved w.On)
    on ← expression
    pure (Some (record { right = right; on = on }))) else pure None

unfoldable pub direction : Reader Bool
direction = do
  desc ← eat (c.Reserved w.Desc)
  if desc then pure true else (do asc ← eat (c.Reserved w.Asc); pure false)

unfoldable pub order_key : List OrderKey → Reader OrderKey
order_key before = do
  key ← column
  desc ← direction
  pure (record { table = key.0; name = key.1; desc = desc })

unfoldable pub orders : Reader (List OrderKey)
orders = do
  found ← eat (c.Reserved w.Order)
  if found then (do expect (c.Reserved w.By); listed order_key) else pure []

unfoldable pub limit : Reader (Option ℤ)
limit = do
  found ← eat (c.Reserved w.Limit)
  if found then (do number ← small_number; pure (Some number)) else pure None

-- ORDER BY and LIMIT, which values over all rows do not have
unfoldable pub endings : Selected → Reader (List OrderKey × Option ℤ)
endings (selected.Aggs items) = pure ([], None)
endings selected.Star = do order ← orders; most ← limit; pure (order, most)
endings (selected.Plain items) = do order ← orders; most ← limit; pure (order, most)

unfoldable pub select : Reader Stmt
select = do
  items ← selected_items
  expect (c.Reserved w.From)
  left ← any_name
  joined ← join left
  test ← condition
  ends ← endings items
  pure (stmt.Select (record { items = items; left = left; join = joined; test = test; order = ends.0; limit = ends.1 }))

-- ---- statements

unfoldable pub transaction : Reader Stmt
transaction = do
  begin ← eat (c.Reserved w.Begin)
  if begin then pure stmt.Begin else (do
    commit ← eat (c.Reserved w.Commit)
    if commit then pure stmt.Commit else (do expect (c.Reserved w.Rollback); pure stmt.Rollback))

unfoldable pub change : Reader Stmt
change = do
  found ← eat (c.Reserved w.Update)
  if found then update else (do
    found ← eat (c.Reserved w.Delete)
    if found then delete else transaction)

unfoldable pub command : Reader Stmt
command = do
  found ← eat (c.Reserved w.Create)
  if found then create else (do
    found ← eat (c.Reserved w.Insert)
    if found then insert else (do
      found ← eat (c.Reserved w.Select)
      if found then select else change))

unfoldable pub at_end : Reader (Unit {0})
at_end i = if is_end i then Ok (tt, i) else Err i

-- a whole statement
unfoldable pub statement : Reader Stmt
statement = do
  read ← command
  eat (c.Sign s.Semicolon)
  at_end
  pure read

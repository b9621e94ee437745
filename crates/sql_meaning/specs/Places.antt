-- Stated: A statement with places in place of names.
use Rattle.std.specs.Prelude.{ℕ, List, [], ◌∷◌, ◌++◌, map, slice_get, Option, Some, None, option_map, option_and_then, unwrap_or, bytes_eq, position}
use Rattle.std.specs.Option.{option_map_or}
use Rattle.sql_values.specs.declared.values.Value.TheVariants as value
use Rattle.sql_statements.specs.declared.expressions.Op.TheVariants as op
use Rattle.sql_statements.specs.declared.expressions.Expr.{Expr}
use Rattle.sql_statements.specs.declared.expressions.Expr.TheOpen.{Expr-F}
use Rattle.sql_statements.specs.declared.expressions.Expr.TheFolds.{fold-Expr}
use Rattle.sql_statements.specs.declared.statements.Agg.{Agg}
use Rattle.sql_statements.specs.declared.statements.Agg.TheVariants as agg
use Rattle.sql_statements.specs.declared.statements.Selected.{Selected}
use Rattle.sql_statements.specs.declared.statements.Selected.TheVariants as selected
use Rattle.sql_statements.specs.declared.statements.Join.{Join}
use Rattle.sql_statements.specs.declared.statements.OrderKey.{OrderKey}
use Rattle.sql_statements.specs.declared.statements.SetItem.{SetItem}
use Rattle.sql_statements.specs.declared.statements.Stmt.{Stmt}
use Rattle.sql_statements.specs.declared.statements.Stmt.TheVariants as stmt
use Rattle.sql_meaning.specs.declared.fields.Field.{Field}
use Rattle.sql_meaning.specs.declared.resolved.Resolved.{Resolved}
use Rattle.sql_meaning.specs.declared.resolved.Resolved.TheVariants.{Lit, Cell, Neg, Not, IsNull, Two}
use Rattle.sql_meaning.specs.declared.actions.Total.{Total}
use Rattle.sql_meaning.specs.declared.actions.Total.TheVariants as total
use Rattle.sql_meaning.specs.declared.actions.Output.{Output}
use Rattle.sql_meaning.specs.declared.actions.Output.TheVariants as output
use Rattle.sql_meaning.specs.declared.actions.OrderPlace.{OrderPlace}
use Rattle.sql_meaning.specs.declared.actions.SetPlace.{SetPlace}
use Rattle.sql_meaning.specs.declared.actions.Action.{Action}
use Rattle.sql_meaning.specs.declared.actions.Action.TheVariants as action
use Rattle.sql_meaning.specs.Names.{place}

abbrev pub placed_step : List Field → Expr-F Resolved → Resolved
placed_step fields (Expr-F.Lit v) = Lit v
placed_step fields (Expr-F.Col table name) = option_map_or Cell (place fields table name) (Lit value.Null)
placed_step fields (Expr-F.Neg x) = Neg x
placed_step fields (Expr-F.Not x) = Not x
placed_step fields (Expr-F.IsNull x n) = IsNull x n
placed_step fields (Expr-F.Two o x y) = Two o x y

-- an expression whose columns are those of these rows; a column that is none of them stands as NULL
abbrev pub placed : List Field → Expr → Resolved
placed fields = fold-Expr Resolved (placed_step fields)

abbrev pub placed_test : List Field → Option Expr → Option Resolved
placed_test fields None = None
placed_test fields (Some e) = Some (placed fields e)

-- the test of a join is ON AND WHERE
abbrev pub both_tests : Option Resolved → Option Resolved → Option Resolved
both_tests None w = w
both_tests (Some on) None = Some on
both_tests (Some on) (Some w) = Some (Two op.And on w)

abbrev pub placed_on : List Field → Option Join → Option Resolved
placed_on fields None = None
placed_on fields (Some j) = Some (placed fields j.on)

-- the value of a column in a tuple: NULL where the column is not named
abbrev pub named_value : List (List ℕ) → List Expr → Field → Resolved
named_value names tuple f =
    option_map_or (placed []) (option_and_then (slice_get tuple) (position (λ n. bytes_eq n f.name) names)) (Lit value.Null)

-- the values of a tuple in the order of the table's columns
abbrev pub placed_tuple : List Field → Option (List (List ℕ)) → List Expr → List Resolved
placed_tuple fields None tuple = map (placed []) tuple
placed_tuple fields (Some names) tuple = map (named_value names tuple) fields

abbrev pub placed_set : List Field → SetItem → SetPlace
placed_set fields s = record { place = unwrap_or (place fields None s.name) 0; value = placed fields s.value }

abbrev pub placed_agg : List Field → Agg → Total
placed_agg fields agg.CountAll = total.CountAll
placed_agg fields (agg.Count e) = total.Count (placed fields e)
placed_agg fields (agg.Sum e) = total.Sum (placed fields e)
placed_agg fields (agg.Min e) = total.Min (placed fields e)
placed_agg fields (agg.Max e) = total.Max (placed fields e)

abbrev pub placed_output : List Field → Selected → Output
placed_output fields selected.Star = output.Star
placed_output fields (selected.Plain es) = output.Plain (map (placed fields) es)
placed_output fields (selected.Aggs as_) = output.Totals (map (placed_agg fields) as_)

abbrev pub placed_order : List Field → OrderKey → OrderPlace
placed_order fields k = record { place = unwrap_or (place fields k.table k.name) 0; desc = k.desc }

-- what a statement does, over the rows that have these fields
abbrev pub placed_action : List Field → Stmt → Action
placed_action fields (stmt.Create s) = action.Create
placed_action fields (stmt.Insert t names rows) = action.Insert (map (placed_tuple fields names) rows)
placed_action fields (stmt.Update t sets test) = action.Update (map (placed_set fields) sets) (placed_test fields test)
placed_action fields (stmt.Delete t test) = action.Delete (placed_test fields test)
placed_action fields (stmt.Select q) =
    action.Select (placed_output fields q.items) (both_tests (placed_on fields q.join) (placed_test fields q.test)) (map (placed_order fields) q.order) q.limit
placed_action fields stmt.Begin = action.Control
placed_action fields stmt.Commit = action.Control
placed_action fields stmt.Rollback = action.Control

-- Stated: statements whose printed form keeps the limits.
use Rattle.std.specs.Prelude.{◌≤◌, List, [], ◌∷◌, length, Option, Some, None}
use Rattle.rm_base.specs.declared.limits.TheConstants.{MAX_STATEMENT_BYTES, MAX_STATEMENT_TOKENS}
use Rattle.sql_statements.specs.declared.expressions.Expr.{Expr}
use Rattle.sql_statements.specs.declared.statements.Agg.{Agg}
use Rattle.sql_statements.specs.declared.statements.Agg.TheVariants as agg
use Rattle.sql_statements.specs.declared.statements.Join.{Join}
use Rattle.sql_statements.specs.declared.statements.Selected.{Selected}
use Rattle.sql_statements.specs.declared.statements.Selected.TheVariants as selected
use Rattle.sql_statements.specs.declared.statements.Stmt.{Stmt}
use Rattle.sql_statements.specs.declared.statements.Stmt.TheVariants as stmt
use Rattle.sql_front.specs.Printed.{expr_symbols, printed}

-- an expression of at most 256 tokens as it is printed
abbrev pub IsShort : Expr → Type 0
IsShort x = length (expr_symbols x) ≤ MAX_STATEMENT_TOKENS

abbrev pub AllOf : {X : Type 0} → (X → Type 0) → List X → Type 0
AllOf P [] = Unit {0}
AllOf P (x ∷ xs) = P x × AllOf P xs

abbrev pub short_test : Option Expr → Type 0
short_test None = Unit {0}
short_test (Some test) = IsShort test

abbrev pub short_agg : Agg → Type 0
short_agg agg.CountAll = Unit {0}
short_agg (agg.Count x) = IsShort x
short_agg (agg.Sum x) = IsShort x
short_agg (agg.Min x) = IsShort x
short_agg (agg.Max x) = IsShort x

abbrev pub short_items : Selected → Type 0
short_items selected.Star = Unit {0}
short_items (selected.Plain items) = AllOf IsShort items
short_items (selected.Aggs items) = AllOf short_agg items

abbrev pub short_join : Option Join → Type 0
short_join None = Unit {0}
short_join (Some j) = IsShort j.on

-- each expression of a statement
abbrev pub AreShort : Stmt → Type 0
AreShort (stmt.Create schema) = Unit {0}
AreShort (stmt.Insert table columns rows) = AllOf (AllOf IsShort) rows
AreShort (stmt.Update table sets test) = AllOf (λ item. IsShort item.value) sets × short_test test
AreShort (stmt.Delete table test) = short_test test
AreShort (stmt.Select q) = short_items q.items × short_join q.join × short_test q.test
AreShort stmt.Begin = Unit {0}
AreShort stmt.Commit = Unit {0}
AreShort stmt.Rollback = Unit {0}

-- printed, a statement keeps the limits of a text and of its expressions
abbrev pub KeepsLimits : Stmt → Type 0
KeepsLimits x = AreShort x × (length (printed x) ≤ MAX_STATEMENT_BYTES)

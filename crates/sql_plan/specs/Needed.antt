-- Stated: no row that a statement needs lies outside its ranges.
use Rattle.std.specs.Prelude.{◌≡◌, ℕ, false, List, ◌++◌, Option, Some, None, option_map, is_none, if◌then◌else◌, Ok}
use Rattle.rm_base.specs.declared.key_range.KeyRange.{KeyRange}
use Rattle.sql_values.specs.declared.logic.Truth.TheVariants.{No}
use Rattle.sql_values.specs.declared.schemas.Schema.{Schema}
use Rattle.sql_values.specs.declared.values.Value.{Value}
use Rattle.row_codec.specs.Keys.{key_bytes}
use Rattle.row_codec.specs.Records.{FitsSchema, AreI64, key_cell}
use Rattle.sql_statements.specs.declared.statements.Stmt.{Stmt}
use Rattle.sql_statements.specs.declared.statements.Stmt.TheVariants as stmt
use Rattle.sql_meaning.specs.Evaluation.{test_in}
use Rattle.sql_values.specs.Tables.{table_named}
use Rattle.sql_meaning.specs.Ranges.{statement_test, ranges, in_ranges}

-- the one table whose rows a statement reads or changes: UPDATE, DELETE, and SELECT without JOIN
abbrev pub only_table : Stmt → Option (List ℕ)
only_table (stmt.Update t sets test) = Some t
only_table (stmt.Delete t test) = Some t
only_table (stmt.Select q) = if is_none q.join then Some q.left else None
only_table (stmt.Create s) = None
only_table (stmt.Insert t names rows) = None
only_table stmt.Begin = None
only_table stmt.Commit = None
only_table stmt.Rollback = None

-- the left and the right table of a SELECT with JOIN
pub record Sides : Type 0 where
  pub left : List ℕ
  pub right : List ℕ

abbrev pub joined_tables : Stmt → Option Sides
joined_tables (stmt.Select q) = option_map (λ j. record { left = q.left; right = j.right }) q.join
joined_tables (stmt.Update t sets test) = None
joined_tables (stmt.Delete t test) = None
joined_tables (stmt.Create s) = None
joined_tables (stmt.Insert t names rows) = None
joined_tables stmt.Begin = None
joined_tables stmt.Commit = None
joined_tables stmt.Rollback = None

-- a row of the table with that name: its cells fit the columns, its INTs are i64, and its key is not NULL
pub record IsRowOf (schemas : List Schema) (table : List ℕ) (schema : Schema) (row : List Value) : Type 0 where
  pub named : table_named schemas table ≡ Some schema
  pub fits : FitsSchema schema row
  pub ints : AreI64 row

-- the row's key lies in none of the ranges
abbrev pub LiesOutside : Schema → List Value → List KeyRange → Type 0
LiesOutside schema row rs = in_ranges (key_bytes (key_cell schema.key row)) rs ≡ false

-- the row does not pass the statement's test, and the test does not overflow
abbrev pub FailsTest : List Schema → Stmt → List Value → Type 0
FailsTest schemas s row = test_in row (statement_test schemas s) ≡ Ok No

-- A row outside the ranges of a statement with one table fails its test. Of a join, a left row outside its
-- ranges fails with each right row, and a right row outside those for a left row fails with that one.
pub record LeavesOutNone (schemas : List Schema) (s : Stmt) : Type 0 where
  pub only :
      (table : List ℕ) (schema : Schema) (row : List Value) → only_table s ≡ Some table → IsRowOf schemas table schema row
      → LiesOutside schema row (ranges schemas s None) → FailsTest schemas s row
  pub left :
      (sides : Sides) (l r : Schema) (left right : List Value) → joined_tables s ≡ Some sides
      → IsRowOf schemas sides.left l left → IsRowOf schemas sides.right r right
      → LiesOutside l left (ranges schemas s None) → FailsTest schemas s (left ++ right)
  pub right :
      (sides : Sides) (l r : Schema) (left right : List Value) → joined_tables s ≡ Some sides
      → IsRowOf schemas sides.left l left → IsRowOf schemas sides.right r right
      → LiesOutside r right (ranges schemas s (Some left)) → FailsTest schemas s (left ++ right)

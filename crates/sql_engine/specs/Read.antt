-- Stated: the schemas and the rows that a statement is answered from.
use Rattle.std.specs.Prelude.{◌≡◌, ℕ, List, [], ◌∷◌, map, filter, flat_map, Some, None, option_map, option_to_list}
use Rattle.std.specs.Option.{option_map_or}
use Rattle.rm_base.specs.declared.key_range.KeyRange.{KeyRange}
use Rattle.sql_values.specs.declared.schemas.Schema.{Schema}
use Rattle.sql_values.specs.declared.values.Value.{Value}
use Rattle.row_codec.specs.Keys.{key_bytes}
use Rattle.row_codec.specs.Records.{key_cell}
use Rattle.sql_statements.specs.declared.statements.Stmt.{Stmt}
use Rattle.sql_statements.specs.declared.statements.Stmt.TheVariants as stmt
use Rattle.sql_values.specs.Tables.{table_named}
use Rattle.sql_meaning.specs.Ranges.{in_range, ranges}
use Rattle.sql_exec.specs.declared.rows.RangeRows.{RangeRows}
use Rattle.sql_database.specs.Database.{Tables}

-- the tables that a statement names, in the order of the text
abbrev pub mentioned : Stmt → List (List ℕ)
mentioned (stmt.Create s) = s.table ∷ []
mentioned (stmt.Insert t names tuples) = t ∷ []
mentioned (stmt.Update t sets test) = t ∷ []
mentioned (stmt.Delete t test) = t ∷ []
mentioned (stmt.Select q) = q.left ∷ option_to_list (option_map (λ j. j.right) q.join)
mentioned stmt.Begin = []
mentioned stmt.Commit = []
mentioned stmt.Rollback = []

-- the schemas of the tables with these names, of those that there are
abbrev pub schemas_named : List Schema → List (List ℕ) → List Schema
schemas_named schemas names = flat_map (λ t. option_to_list (table_named schemas t)) names

-- each schema of the first list is that of its table in the second
abbrev pub AreOf : List Schema → List Schema → Type 0
AreOf schemas all = (t : List ℕ) (s : Schema) → table_named schemas t ≡ Some s → table_named all s.table ≡ Some s

-- the rows of a table whose keys lie in a range
abbrev pub range_rows : Tables → Schema → KeyRange → List (List Value)
range_rows tables s range = filter (λ r. in_range (key_bytes (key_cell s.key r)) range) (tables s.table)

-- those of each of the ranges, one range after the other
abbrev pub ranges_rows : Tables → Schema → List KeyRange → List (List Value)
ranges_rows tables s ranges = flat_map (range_rows tables s) ranges

-- the rows in the ranges of the table with that name, where there is one
abbrev pub table_rows : Tables → List Schema → List ℕ → List KeyRange → List (List Value)
table_rows tables schemas t ranges = option_map_or (λ s. ranges_rows tables s ranges) (table_named schemas t) []

abbrev pub left_rows : Tables → List Schema → Stmt → List ℕ → List (List Value)
left_rows tables schemas st t = table_rows tables schemas t (ranges schemas st None)

-- for each left row those of the right table
abbrev pub right_rows : Tables → List Schema → Stmt → List ℕ → List (List Value) → List (List (List Value))
right_rows tables schemas st t lefts = map (λ l. table_rows tables schemas t (ranges schemas st (Some l))) lefts

abbrev pub only : List (List Value) → RangeRows
only rows = record { left = rows; right = [] }

abbrev pub paired : Tables → List Schema → Stmt → List ℕ → List (List Value) → RangeRows
paired tables schemas st right lefts = record { left = lefts; right = right_rows tables schemas st right lefts }

-- the rows of a statement's ranges
abbrev pub read_rows : Tables → List Schema → Stmt → RangeRows
read_rows tables schemas (stmt.Create s) = only []
read_rows tables schemas (stmt.Insert t names tuples) = only (left_rows tables schemas (stmt.Insert t names tuples) t)
read_rows tables schemas (stmt.Update t sets test) = only (left_rows tables schemas (stmt.Update t sets test) t)
read_rows tables schemas (stmt.Delete t test) = only (left_rows tables schemas (stmt.Delete t test) t)
read_rows tables schemas (stmt.Select q) =
    option_map_or
    (λ j. paired tables schemas (stmt.Select q) j.right (left_rows tables schemas (stmt.Select q) q.left))
    q.join
    (only (left_rows tables schemas (stmt.Select q) q.left))
read_rows tables schemas stmt.Begin = only []
read_rows tables schemas stmt.Commit = only []
read_rows tables schemas stmt.Rollback = only []

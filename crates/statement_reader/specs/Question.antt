-- Stated: what a statement asks for: its tables in the catalog, in the order of the text, and then
-- the rows of its ranges, for a join those of the right table for each left row.
use Rattle.std.specs.Prelude.{ℕ, Bool, true, false, List, [], ◌∷◌, ◌++◌, Option, Some, None, option_map}
use Rattle.rm_base.specs.declared.limits.TheConstants.{CATALOG_ROOT_PAGE_ID}
use Rattle.rm_base.specs.declared.key_range.KeyRange.{KeyRange}
use Rattle.page_image.specs.Image.{Image}
use Rattle.page_view.specs.declared.leaf.LeafItem.{LeafItem}
use Rattle.sql_values.specs.declared.schemas.Schema.{Schema}
use Rattle.sql_statements.specs.declared.statements.Select.{Select}
use Rattle.sql_statements.specs.declared.statements.Stmt.{Stmt}
use Rattle.sql_statements.specs.declared.statements.Stmt.TheVariants as stmt
use Rattle.sql_meaning.specs.Ranges.{ranges}
use Rattle.sql_exec.specs.Answer.{is_join}
use Rattle.question_tree.specs.Questions.{Ask, tells, stops, then_on}
use Rattle.range_reader.specs.declared.fetch.Fetch.{Fetch}
use Rattle.range_reader.specs.declared.fetch.Snapshot.{Snapshot}
use Rattle.range_reader.specs.Finding.{find}
use Rattle.statement_reader.specs.declared.tables.Table.{Table}
use Rattle.statement_reader.specs.declared.tables.Found.{Found}
use Rattle.statement_reader.specs.Decoding.{Row, Decoder, decode}

abbrev pub Reading : Type 0 → Type 0
Reading A = Ask Fetch Image A

-- ---- the tables

-- the range of one key
abbrev pub only : List ℕ → KeyRange
only key = record { low = Some key; high = Some key }

-- where the catalog has the only or left table, and the right one
abbrev pub left_range : Stmt → Option KeyRange
left_range (stmt.Create s) = Some (only s.table)
left_range (stmt.Insert t names tuples) = Some (only t)
left_range (stmt.Update t sets test) = Some (only t)
left_range (stmt.Delete t test) = Some (only t)
left_range (stmt.Select q) = Some (only q.left)
left_range stmt.Begin = None
left_range stmt.Commit = None
left_range stmt.Rollback = None

abbrev pub join_range : Select → Option KeyRange
join_range q = option_map (λ j. only j.right) q.join

abbrev pub right_range : Stmt → Option KeyRange
right_range (stmt.Create s) = None
right_range (stmt.Insert t names tuples) = None
right_range (stmt.Update t sets test) = None
right_range (stmt.Delete t test) = None
right_range (stmt.Select q) = join_range q
right_range stmt.Begin = None
right_range stmt.Commit = None
right_range stmt.Rollback = None

-- the table of what was found under its name; an item that spells no table stops the work
abbrev pub table_told : Option Table → Reading (Option Table)
table_told None = stops
table_told (Some t) = tells (Some t)

abbrev pub told_table : Decoder → List LeafItem → Reading (Option Table)
told_table d [] = tells None
told_table d (item ∷ rest) = table_told (d.table item)

abbrev pub named : Decoder → Snapshot → Option KeyRange → (Option Table → Reading Found)
    → Reading Found
named d s None k = k None
named d s (Some range) k = then_on (then_on (find s CATALOG_ROOT_PAGE_ID range) (told_table d)) k

abbrev pub schema_in : Option Table → List Schema
schema_in None = []
schema_in (Some t) = t.schema ∷ []

abbrev pub schemas_of : Option Table → Option Table → List Schema
schemas_of left right = schema_in left ++ schema_in right

-- ---- the rows

abbrev pub rows_told : Option (List Row) → Reading (List Row)
rows_told None = stops
rows_told (Some rows) = tells rows

-- the rows of what was found in a range, behind those that are there; an item that spells no row
-- stops the work
abbrev pub told_rows : Decoder → Schema → List Row → List LeafItem → Reading (List Row)
told_rows d s rows items = rows_told (decode d s rows items)

-- one range of a table after the other
unfoldable pub over : Decoder → Snapshot → Table → (List Row → Reading Found) → List Row
    → List KeyRange → Reading Found
over d s t k rows [] = k rows
over d s t k rows (r ∷ rs) = then_on (then_on (find s t.root r) (told_rows d t.schema rows))
    (λ now. over d s t k now rs)

abbrev pub over_table : Decoder → Snapshot → Option Table → (List Row → Reading Found)
    → List KeyRange → Reading Found
over_table d s None k rs = k []
over_table d s (Some t) k rs = over d s t k [] rs

-- the ranges of the right table for one left row after the other
unfoldable pub each_row : Decoder → Snapshot → Stmt → List Schema → Option Table
    → (List (List Row) → Reading Found) → List (List Row) → List Row
    → Reading Found
each_row d s st schemas right k lists [] = k lists
each_row d s st schemas right k lists (l ∷ ls) =
    over_table d s right (λ rows. each_row d s st schemas right k (lists ++ rows ∷ []) ls)
    (ranges schemas st (Some l))

abbrev pub found : Option Table → Option Table → List Schema → List Row → List (List Row) → Found
found left right schemas lefts lists =
    record {
      left = left;
      right = right;
      schemas = schemas;
      rows = record { left = lefts; right = lists };
    }

abbrev pub joined : Bool → Decoder → Snapshot → Stmt → Option Table → Option Table → List Schema
    → List Row → Reading Found
joined false d s st left right schemas lefts = tells (found left right schemas lefts [])
joined true d s st left right schemas lefts =
    each_row d s st schemas right (λ lists. tells (found left right schemas lefts lists)) [] lefts

abbrev pub read_from : Decoder → Snapshot → Stmt → Option Table → Option Table → List Schema
    → Reading Found
read_from d s st left right schemas =
    over_table d s left (joined (is_join st) d s st left right schemas) (ranges schemas st None)

-- ---- the whole statement

unfoldable pub question : Decoder → Snapshot → Stmt → Reading Found
question d s st =
    named d s (left_range st)
    (λ left. named d s (right_range st)
    (λ right. read_from d s st left right (schemas_of left right)))

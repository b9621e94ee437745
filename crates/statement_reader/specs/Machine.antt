-- For the proofs: the work that is left to a reader of a statement.
use Rattle.std.specs.Prelude.{◌≡◌, ℕ, Bool, true, false, IsSome, is_some, List, [], ◌∷◌, ◌++◌, drop, Option, Some, None}
use Rattle.rm_base.specs.declared.key_range.KeyRange.{KeyRange}
use Rattle.page_view.specs.declared.leaf.LeafItem.{LeafItem}
use Rattle.sql_statements.specs.declared.statements.Stmt.{Stmt}
use Rattle.sql_exec.specs.Answer.{is_join}
use Rattle.question_tree.specs.Questions.{tells, stops, wanted, then_on}
use Rattle.range_reader.specs.declared.fetch.Snapshot.{Snapshot}
use Rattle.range_reader.specs.declared.reader.RangeReader.{RangeReader}
use Rattle.range_reader.specs.Finding.{Finding, find}
use Rattle.range_reader.specs.Machine.{finding_of, is_settled}
use Rattle.statement_reader.specs.declared.progress.Progress.{Progress}
use Rattle.statement_reader.specs.declared.progress.Stage.{Stage}
use Rattle.statement_reader.specs.declared.progress.Stage.TheVariants as stage
use Rattle.statement_reader.specs.declared.reader.StatementReader.{StatementReader}
use Rattle.statement_reader.specs.declared.tables.Table.{Table}
use Rattle.statement_reader.specs.declared.tables.Found.{Found}
use Rattle.statement_reader.specs.Decoding.{Row, Decoder}
use Rattle.statement_reader.specs.Question.{Reading, told_table, named, right_range, schemas_of, told_rows, over, over_table, each_row, found, joined, read_from}

-- the read of a range that goes on now
abbrev pub finding_in : Option RangeReader → Finding
finding_in None = stops
finding_in (Some f) = finding_of f

abbrev pub present : StatementReader → Finding
present r = finding_in r.reader

-- ---- what follows it

abbrev pub after_right : Decoder → Stmt → Snapshot → Option Table → Option Table → Reading Found
after_right d st s left right = read_from d s st left right (schemas_of left right)

abbrev pub after_left : Decoder → Stmt → Snapshot → Option Table → Reading Found
after_left d st s left = named d s (right_range st) (after_right d st s left)

abbrev pub after_lefts : Decoder → Stmt → Progress → List Row → Reading Found
after_lefts d st p lefts = joined (is_join st) d p.snapshot st p.left p.right p.schemas lefts

abbrev pub after_lists : Progress → List (List Row) → Reading Found
after_lists p lists = tells (found p.left p.right p.schemas p.lefts lists)

abbrev pub rows_from : Decoder → Stmt → Progress → List (List Row) → List Row → Reading Found
rows_from d st p lists ls = each_row d p.snapshot st p.schemas p.right (after_lists p) lists ls

-- the left rows from the next one on
unfoldable pub rows_left : Decoder → Stmt → Progress → Reading Found
rows_left d st p = rows_from d st p p.lists (drop p.next p.lefts)

abbrev pub after_row : Decoder → Stmt → Progress → List Row → Reading Found
after_row d st p rows = rows_from d st p (p.lists ++ rows ∷ []) (drop p.next p.lefts)

-- the ranges of a table from the next one on
abbrev pub over_from : Decoder → Snapshot → Option Table → (List Row → Reading Found) → List Row
    → List KeyRange → Reading Found
over_from d s None k rows rs = stops
over_from d s (Some t) k rows rs = over d s t k rows rs

unfoldable pub lefts_left : Decoder → Stmt → Progress → Reading Found
lefts_left d st p = over_from d p.snapshot p.left (after_lefts d st p) p.rows (drop p.at p.ranges)

unfoldable pub rights_left : Decoder → Stmt → Progress → Reading Found
rights_left d st p = over_from d p.snapshot p.right (after_row d st p) p.rows (drop p.at p.ranges)

abbrev pub rows_with : Decoder → Snapshot → Option Table → (List Row → Reading Found) → List Row
    → List KeyRange → Finding → Reading Found
rows_with d s None k rows rs m = stops
rows_with d s (Some t) k rows rs m = then_on (then_on m (told_rows d t.schema rows))
    (λ now. over d s t k now rs)

unfoldable pub stage_with : Decoder → Stmt → Stage → Progress → Finding → Reading Found
stage_with d st stage.Left p m = then_on (then_on m (told_table d)) (after_left d st p.snapshot)
stage_with d st stage.Right p m = then_on (then_on m (told_table d))
    (after_right d st p.snapshot p.left)
stage_with d st stage.Lefts p m = rows_with d p.snapshot p.left (after_lefts d st p) p.rows
    (drop p.at p.ranges) m
stage_with d st stage.Rights p m = rows_with d p.snapshot p.right (after_row d st p) p.rows
    (drop p.at p.ranges) m
stage_with d st stage.Done p m = after_lists p p.lists
stage_with d st stage.Stopped p m = stops

unfoldable pub stage_of : Decoder → Stmt → Progress → Option RangeReader → Reading Found
stage_of d st p o = stage_with d st p.stage p (finding_in o)

-- the present left row, from the first of its ranges on
unfoldable pub row_begun : Decoder → Stmt → Progress → Reading Found
row_begun d st p = over_table d p.snapshot p.right (after_row d st p) p.ranges

-- what is left of the statement
abbrev pub reading_of : Decoder → Stmt → StatementReader → Reading Found
reading_of d st r = stage_of d st r.progress r.reader

-- ---- when a page is asked for

abbrev pub reads : Stage → Option Table → Option Table → Bool
reads stage.Left left right = true
reads stage.Right left right = true
reads stage.Lefts left right = is_some left
reads stage.Rights left right = is_some right
reads stage.Done left right = false
reads stage.Stopped left right = false

abbrev pub is_end : Stage → Bool
is_end stage.Left = false
is_end stage.Right = false
is_end stage.Lefts = false
is_end stage.Rights = false
is_end stage.Done = true
is_end stage.Stopped = true

abbrev pub is_naming : Stage → Bool
is_naming stage.Left = true
is_naming stage.Right = true
is_naming stage.Lefts = false
is_naming stage.Rights = false
is_naming stage.Done = false
is_naming stage.Stopped = false

abbrev pub IsAsking : RangeReader → Type 0
IsAsking f = IsSome (wanted (finding_of f))

-- a page is asked for, or the statement is at its end
unfoldable pub Ready : Progress → Option RangeReader → Type 0
Ready p None = is_end p.stage ≡ true
Ready p (Some f) = (is_settled f ≡ true) × IsSome (wanted (finding_of f))
    × (reads p.stage p.left p.right ≡ true)

abbrev pub IsReady : StatementReader → Type 0
IsReady r = Ready r.progress r.reader

abbrev pub ReadyIfSome : Progress → Option RangeReader → Type 0
ReadyIfSome p None = Unit {0}
ReadyIfSome p (Some f) = Ready p (Some f)

-- a range is read, perhaps to its end
unfoldable pub Open : Progress → Option RangeReader → Type 0
Open p None = ⊥
Open p (Some f) = (is_settled f ≡ true) × (reads p.stage p.left p.right ≡ true)

abbrev pub IsOpen : StatementReader → Type 0
IsOpen r = Open r.progress r.reader

-- ---- answers of parts

abbrev pub table_answer : Option (Option Table) → Reading (Option Table)
table_answer None = stops
table_answer (Some t) = tells t

abbrev pub rows_by : Decoder → Option Table → List Row → List LeafItem → Reading (List Row)
rows_by d None rows items = stops
rows_by d (Some t) rows items = told_rows d t.schema rows items

abbrev pub root_in : Option Table → Option ℕ
root_in None = None
root_in (Some t) = Some t.root

abbrev pub find_at : Snapshot → ℕ → Option KeyRange → Finding
find_at s root None = stops
find_at s root (Some range) = find s root range

-- a left row is begun: a page is asked for, or its right rows are known
abbrev pub Begins : Decoder → Stmt → Progress → Progress → Option RangeReader → Type 0
Begins d st old new None = rows_left d st new ≡ rows_left d st old
Begins d st old new (Some f) = stage_of d st new (Some f) ≡ rows_left d st old

abbrev pub BeginsRight : Decoder → Stmt → Progress → Progress → Option RangeReader → Type 0
BeginsRight d st old new None = rows_left d st new ≡ row_begun d st old
BeginsRight d st old new (Some f) = stage_of d st new (Some f) ≡ row_begun d st old

abbrev pub found_at : Stage → Progress → Option Found
found_at stage.Left p = None
found_at stage.Right p = None
found_at stage.Lefts p = None
found_at stage.Rights p = None
found_at stage.Done p = Some (found p.left p.right p.schemas p.lefts p.lists)
found_at stage.Stopped p = None

-- what is known at the end
abbrev pub found_by : Progress → Option Found
found_by p = found_at p.stage p

-- Stated: what a statement reads: its tables by their names, one after the other, and then the rows
-- of its ranges.
use Rattle.std.specs.Prelude.{◌≡◌, ◌++◌, ℕ, Bool, true, false, List, [], ◌∷◌, Option, Some, None, flat_map, option_map, option_to_list}
use Rattle.rm_base.specs.declared.key_range.KeyRange.{KeyRange}
use Rattle.page_image.specs.Image.{Image}
use Rattle.sql_values.specs.declared.schemas.Schema.{Schema}
use Rattle.sql_statements.specs.declared.statements.Join.{Join}
use Rattle.sql_statements.specs.declared.statements.Stmt.{Stmt}
use Rattle.sql_statements.specs.declared.statements.Stmt.TheVariants as stmt
use Rattle.sql_meaning.specs.Ranges.{ranges}
use Rattle.sql_exec.specs.declared.rows.RangeRows.{RangeRows}
use Rattle.sql_engine.specs.Read.{mentioned}
use Rattle.version_store.specs.Versions.{Row}
use Rattle.snapshot_reads.specs.Tables.{NoTableFound, RowsFound, TableFound}

-- a table that is found, with its root, or none
abbrev pub Table : Type 0
Table = Option (Schema × ℕ)

abbrev pub schema_in : Table → Option Schema
schema_in table = option_map (λ (t : Schema × ℕ). t.0) table

abbrev pub schemas_in : List Table → List Schema
schemas_in tables = flat_map (λ t. option_to_list (schema_in t)) tables

abbrev pub first_of : List Table → Table
first_of [] = None
first_of (t ∷ ts) = t

-- what is found under a name
abbrev pub NameFound : {U : Type 0} → (U → Image) → ℕ → Option ℕ → List ℕ → List U → Table → Type 0
NameFound image n own a us None = NoTableFound image n own a us
NameFound image n own a us (Some t) = TableFound image n own a us t.0 t.1

-- one name after the other
abbrev pub NamesFound : {U : Type 0} → (U → Image) → ℕ → Option ℕ → List (List ℕ) → List U
    → List Table → Type 0
NamesFound image n own [] us tables = (us ≡ []) × (tables ≡ [])
NamesFound {U} image n own (a ∷ names) us tables =
    (here : List U) × (rest : List U) × (t : Table) × (more : List Table)
    × (us ≡ here ++ rest)
    × NameFound image n own a here t
    × NamesFound image n own names rest more
    × (tables ≡ t ∷ more)

-- the rows of one range after the other of a table; none where there is no table
abbrev pub TableRows : {U : Type 0} → (U → Image) → ℕ → Option ℕ → Table → List KeyRange → List U
    → List Row → Type 0
TableRows image n own None ranges us rows = (us ≡ []) × (rows ≡ [])
TableRows image n own (Some t) [] us rows = (us ≡ []) × (rows ≡ [])
TableRows {U} image n own (Some t) (r ∷ rs) us rows =
    (here : List U) × (rest : List U) × (first : List Row) × (more : List Row)
    × (us ≡ here ++ rest)
    × RowsFound image n own t.1 t.0 r here first
    × TableRows image n own (Some t) rs rest more
    × (rows ≡ first ++ more)

-- whether a statement reads rows of its table: a CREATE only looks for the name
abbrev pub reads_rows : Stmt → Bool
reads_rows (stmt.Create s) = false
reads_rows (stmt.Insert t names tuples) = true
reads_rows (stmt.Update t sets test) = true
reads_rows (stmt.Delete t test) = true
reads_rows (stmt.Select q) = true
reads_rows stmt.Begin = false
reads_rows stmt.Commit = false
reads_rows stmt.Rollback = false

abbrev pub LeftRows : {U : Type 0} → (U → Image) → ℕ → Option ℕ → Bool → Table → List KeyRange
    → List U → List Row → Type 0
LeftRows image n own true t ranges us rows = TableRows image n own t ranges us rows
LeftRows image n own false t ranges us rows = (us ≡ []) × (rows ≡ [])

-- for each left row those of the right table
abbrev pub RightRows : {U : Type 0} → (U → Image) → ℕ → Option ℕ → Table → (Row → List KeyRange)
    → List Row → List U → List (List Row) → Type 0
RightRows image n own t ranges [] us rights = (us ≡ []) × (rights ≡ [])
RightRows {U} image n own t ranges (l ∷ lefts) us rights =
    (here : List U) × (rest : List U) × (first : List Row) × (more : List (List Row))
    × (us ≡ here ++ rest)
    × TableRows image n own t (ranges l) here first
    × RightRows image n own t ranges lefts rest more
    × (rights ≡ first ∷ more)

-- the join of a SELECT, where it has one
abbrev pub join_of : Stmt → Option Join
join_of (stmt.Create s) = None
join_of (stmt.Insert t names tuples) = None
join_of (stmt.Update t sets test) = None
join_of (stmt.Delete t test) = None
join_of (stmt.Select q) = q.join
join_of stmt.Begin = None
join_of stmt.Commit = None
join_of stmt.Rollback = None

abbrev pub JoinRows : {U : Type 0} → (U → Image) → ℕ → Option ℕ → List Table
    → (Row → List KeyRange) → Option Join → List Row → List U → List (List Row) → Type 0
JoinRows image n own others ranges None lefts us rights = (us ≡ []) × (rights ≡ [])
JoinRows image n own others ranges (Some j) lefts us rights =
    RightRows image n own (first_of others) ranges lefts us rights

-- The schemas of its tables, and the rows of its ranges, are found over these uses: first the
-- names, then the left or only table's rows, then the right one's.
pub record StatementFound {U : Type 0} (image : U → Image) (n : ℕ) (own : Option ℕ) (st : Stmt)
    (us : List U) (schemas : List Schema) (rows : RangeRows) : Type 0 where
  pub before : List U
  pub lefts : List U
  pub rights : List U
  pub parts : us ≡ before ++ (lefts ++ rights)
  pub left : Table
  pub others : List Table
  pub names : NamesFound image n own (mentioned st) before (left ∷ others)
  pub schemas_are : schemas ≡ schemas_in (left ∷ others)
  pub left_rows :
      LeftRows image n own (reads_rows st) left (ranges schemas st None) lefts rows.left
  pub right_rows :
      JoinRows image n own others (λ l. ranges schemas st (Some l)) (join_of st) rows.left rights
      rows.right

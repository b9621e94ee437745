-- Stated: what a statement finds over its uses.
use Rattle.std.specs.Prelude.{◌≡◌, ◌+◌, ℕ, Bool, true, false, List, [], ◌∷◌, ◌++◌, Option, Some, None}
use Rattle.rm_base.specs.declared.limits.TheConstants.{CATALOG_ROOT_PAGE_ID}
use Rattle.rm_base.specs.declared.key_range.KeyRange.{KeyRange}
use Rattle.page_image.specs.Image.{Image}
use Rattle.page_view.specs.declared.leaf.LeafItem.{LeafItem}
use Rattle.sql_values.specs.declared.schemas.Schema.{Schema}
use Rattle.sql_statements.specs.declared.statements.Stmt.{Stmt}
use Rattle.sql_meaning.specs.Ranges.{ranges}
use Rattle.sql_exec.specs.Answer.{is_join}
use Rattle.question_tree.specs.Questions.{Ask, Gives, Leads, after, left, wanted}
use Rattle.range_reader.specs.declared.fetch.Fetch.{Fetch}
use Rattle.range_reader.specs.declared.fetch.Snapshot.{Snapshot}
use Rattle.range_reader.specs.Finding.{Fits}
use Rattle.range_reader.specs.Laws.{IsOrderly}
use Rattle.range_reader.specs.Uses.{FoundBy}
use Rattle.statement_reader.specs.declared.tables.Table.{Table}
use Rattle.statement_reader.specs.declared.tables.Found.{Found}
use Rattle.statement_reader.specs.Decoding.{Row, Decoder, decode}
use Rattle.statement_reader.specs.Question.{left_range, right_range, schemas_of, question}

-- the versions found in a range of a tree
abbrev pub RangeFound : Snapshot → ℕ → KeyRange → List Image → List LeafItem → Type 0
RangeFound s root range us items = FoundBy
    (λ im. im) s.stamp s.own root range.low range.high us items

-- the first item under a name is the table's; without one there is no table
abbrev pub IsTableOf : Decoder → List LeafItem → Option Table → Type 0
IsTableOf d [] table = table ≡ None
IsTableOf d (item ∷ rest) table = (t : Table) × (d.table item ≡ Some t) × (table ≡ Some t)

abbrev pub NameFound : Decoder → Snapshot → Option KeyRange → List Image → Option Table → Type 0
NameFound d s None us table = (us ≡ []) × (table ≡ None)
NameFound d s (Some range) us table =
    (items : List LeafItem) × RangeFound s CATALOG_ROOT_PAGE_ID range us items × IsTableOf d items table

-- the rows of one range of a table after the other
abbrev pub RangesFound : Decoder → Snapshot → Table → List KeyRange → List Image → List Row → Type 0
RangesFound d s t [] us rows = (us ≡ []) × (rows ≡ [])
RangesFound d s t (r ∷ rs) us rows =
    (here : List Image) × (rest : List Image) × (items : List LeafItem) × (first : List Row)
    × (more : List Row)
    × (us ≡ here ++ rest) × RangeFound s t.root r here items
    × (decode d t.schema [] items ≡ Some first)
    × RangesFound d s t rs rest more × (rows ≡ first ++ more)

-- none where there is no table
abbrev pub RowsFound : Decoder → Snapshot → Option Table → List KeyRange → List Image → List Row
    → Type 0
RowsFound d s None rs us rows = (us ≡ []) × (rows ≡ [])
RowsFound d s (Some t) rs us rows = RangesFound d s t rs us rows

-- for each left row those of the right table
abbrev pub RightsFound : Decoder → Snapshot → Stmt → List Schema → Option Table → List Row
    → List Image → List (List Row) → Type 0
RightsFound d s st schemas right [] us lists = (us ≡ []) × (lists ≡ [])
RightsFound d s st schemas right (l ∷ ls) us lists =
    (here : List Image) × (rest : List Image) × (first : List Row) × (more : List (List Row))
    × (us ≡ here ++ rest) × RowsFound d s right (ranges schemas st (Some l)) here first
    × RightsFound d s st schemas right ls rest more × (lists ≡ first ∷ more)

abbrev pub JoinFound : Bool → Decoder → Snapshot → Stmt → List Schema → Option Table → List Row
    → List Image → List (List Row) → Type 0
JoinFound false d s st schemas right lefts us lists = (us ≡ []) × (lists ≡ [])
JoinFound true d s st schemas right lefts us lists = RightsFound d s st schemas right lefts us lists

-- the uses of a statement in their order: for its tables, for the rows of its ranges, and for those
-- of the right table
pub record StatementFound (d : Decoder) (s : Snapshot) (st : Stmt) (us : List Image)
    (a : Found) : Type 0 where
  pub left_uses : List Image
  pub right_uses : List Image
  pub row_uses : List Image
  pub join_uses : List Image
  pub parts : us ≡ left_uses ++ (right_uses ++ (row_uses ++ join_uses))
  pub left_table : NameFound d s (left_range st) left_uses a.left
  pub right_table : NameFound d s (right_range st) right_uses a.right
  pub schemas_are : a.schemas ≡ schemas_of a.left a.right
  pub left_rows : RowsFound d s a.left (ranges a.schemas st None) row_uses a.rows.left
  pub right_rows : JoinFound
      (is_join st) d s st a.schemas a.right a.rows.left join_uses a.rows.right

-- what a statement tells is what it finds over what it was given
abbrev pub TellsStatement : Type 0
TellsStatement =
    (d : Decoder) (s : Snapshot) (st : Stmt) (us : List Image) (a : Found)
    → Gives Fits (question d s st) us a → StatementFound d s st us a

-- a child is asked for only right after the page above it
abbrev pub StatementsOrderly : Type 0
StatementsOrderly = (d : Decoder) (s : Snapshot) (st : Stmt) (down : Bool)
    → IsOrderly down (question d s st)

-- each page that is given as it stands now leaves one fetch less
abbrev pub FetchesFall : Type 0
FetchesFall =
    (d : Decoder) (s : Snapshot) (st : Stmt) (now : Fetch → Image) (us : List Image)
    (m : Ask Fetch Image Found) (q : Fetch)
    → Leads Fits (question d s st) us m
    → wanted m ≡ Some q
    → left now m ≡ 1 + left now (after m (now q))

-- What the reader of a statement finds over images is what the statement finds over its uses.
use Rattle.std.proofs.Common.{◌≡◌, ◌≤◌, ℕ, List, [], ◌∷◌, ◌++◌, map, option_map, option_to_list, Option, Some, None, is_some, refl, sym, ap, subst, ◌∙◌, append_assoc}
use Rattle.std.proofs.lemmas.List.{append-nil}
use Rattle.rm_base.specs.declared.key_range.KeyRange.{KeyRange}
use Rattle.page_image.specs.Image.{Image}
use Rattle.sql_values.specs.declared.schemas.Schema.{Schema}
use Rattle.sql_statements.specs.declared.statements.Join.{Join}
use Rattle.sql_statements.specs.declared.statements.Select.{Select}
use Rattle.sql_statements.specs.declared.statements.Stmt.{Stmt}
use Rattle.sql_statements.specs.declared.statements.Stmt.TheVariants as stmt
use Rattle.sql_meaning.specs.Ranges.{ranges}
use Rattle.sql_database.specs.Database.{Database}
use Rattle.sql_database.specs.Statements.{IsEvaluated}
use Rattle.sql_exec.specs.declared.rows.RangeRows.{RangeRows}
use Rattle.sql_engine.specs.Read.{mentioned}
use Rattle.range_reader.specs.declared.fetch.Snapshot.{Snapshot}
use Rattle.statement_reader.specs.declared.tables.Found.{Found}
use Rattle.statement_reader.specs.declared.tables.Table.{Table}
use Rattle.statement_reader.specs.Answered as reader
use Rattle.statement_reader.specs.Decoding.{Decoder}
use Rattle.statement_reader.specs.Question as question
use Rattle.tree_timeline.specs.Types.{Items, Key, PagesAt}
use Rattle.tree_timeline.specs.Walks.{Visit}
use Rattle.version_store.specs.Contents.{Content}
use Rattle.version_store.specs.Stores.{Store}
use Rattle.version_store.specs.Versions.{Row}
use Rattle.history.specs.Databases.{StandsFor}
use Rattle.snapshot_reads.specs.Keeping.{Keeps}
use Rattle.snapshot_reads.specs.Pasts.{Past}
use Rattle.snapshot_reads.specs.Times.{Latched, Rises, image_at}
use Rattle.snapshot_reads.proofs.Imaging.{Parted, empty_uses, parted}
use Rattle.snapshot_reads.proofs.Rising.{Meet, latched_left, latched_right, meet, rises_left, rises_right}
use Rattle.reads_joined.specs.Statements.{JoinRows, LeftRows, NameFound, NamesFound, StatementFound, TableRows, join_of, reads_rows, schemas_in}
use Rattle.reads_joined.specs.Reader.{GivesSpelled, ReaderIsAnswered}
use Rattle.reads_joined.proofs.Answering.{uses_answered}
use Rattle.reads_joined.proofs.ReaderTables.{name_there, no_ranges, pair_of, rights_there, rows_there}

-- ---- a statement

none_read : (decoder : Decoder) (s : Snapshot) (table : Option Table) (us : List Image)
    (rows : List Row) → reader.RowsFound decoder s table [] us rows → (us ≡ []) × (rows ≡ [])
none_read decoder s None us rows told = told
none_read decoder s (Some t) us rows told = told

schemas_one : (left : Option Table)
    → question.schemas_of left None ≡ schemas_in (pair_of left ∷ [])
schemas_one None = refl
schemas_one (Some t) = refl

schemas_two : (left right : Option Table)
    → question.schemas_of left right ≡ schemas_in (pair_of left ∷ (pair_of right ∷ []))
schemas_two None None = refl
schemas_two None (Some u) = refl
schemas_two (Some t) None = refl
schemas_two (Some t) (Some u) = refl

-- the uses of a statement in their four parts, and where the names are known
record Split (at : PagesAt) (end from : ℕ) (us : List Visit) (a b c e : List Image) : Type 0 where
  first : List Visit
  second : List Visit
  third : List Visit
  fourth : List Visit
  whole : us ≡ (first ++ second) ++ (third ++ fourth)
  first_is : map (image_at at) first ≡ a
  second_is : map (image_at at) second ≡ b
  third_is : map (image_at at) third ≡ c
  fourth_is : map (image_at at) fourth ≡ e
  time : ℕ
  upto : from ≤ time
  below : time ≤ end
  first_rise : Rises time from first
  second_rise : Rises time from second
  third_rise : Rises end time third
  fourth_rise : Rises end time fourth
  first_latched : Latched at first
  second_latched : Latched at second
  third_latched : Latched at third
  fourth_latched : Latched at fourth

split_up : (at : PagesAt) (end from : ℕ) (us : List Visit) (a b c e : List Image)
    → map (image_at at) us ≡ a ++ (b ++ (c ++ e)) → Rises end from us → Latched at us
    → Split at end from us a b c e
split_up at end from us a b c e parts rise latched =
    let p : Parted (image_at at) us a (b ++ (c ++ e)) =
    parted (image_at at) 0 None us a (b ++ (c ++ e)) parts in
    let q : Parted (image_at at) p.right b (c ++ e) =
    parted (image_at at) 0 None p.right b (c ++ e) p.right_is in
    let r : Parted (image_at at) q.right c e =
    parted (image_at at) 0 None q.right c e q.right_is in
    let whole : us ≡ (p.left ++ q.left) ++ (r.left ++ r.right) =
    p.whole
    ∙ (ap (λ vs. p.left ++ vs) (q.whole ∙ ap (λ vs. q.left ++ vs) r.whole)
    ∙ sym (append_assoc p.left q.left (r.left ++ r.right))) in
    let rise2 : Rises end from ((p.left ++ q.left) ++ (r.left ++ r.right)) =
    subst (λ vs. Rises end from vs) whole rise in
    let latched2 : Latched at ((p.left ++ q.left) ++ (r.left ++ r.right)) =
    subst (λ vs. Latched at vs) whole latched in
    let m : Meet end from (p.left ++ q.left) (r.left ++ r.right) =
    meet end from (p.left ++ q.left) (r.left ++ r.right) rise2 in
    let names : Latched at (p.left ++ q.left) =
    latched_left at (p.left ++ q.left) (r.left ++ r.right) latched2 in
    let rows : Latched at (r.left ++ r.right) =
    latched_right at (p.left ++ q.left) (r.left ++ r.right) latched2 in
    record {
      first = p.left;
      second = q.left;
      third = r.left;
      fourth = r.right;
      whole = whole;
      first_is = p.left_is;
      second_is = q.left_is;
      third_is = r.left_is;
      fourth_is = r.right_is;
      time = m.time;
      upto = m.upto;
      below = m.below;
      first_rise = rises_left m.time from p.left q.left m.first;
      second_rise = rises_right m.time from p.left q.left m.first;
      third_rise = rises_left end m.time r.left r.right m.second;
      fourth_rise = rises_right end m.time r.left r.right m.second;
      first_latched = latched_left at p.left q.left names;
      second_latched = latched_right at p.left q.left names;
      third_latched = latched_left at r.left r.right rows;
      fourth_latched = latched_right at r.left r.right rows;
    }

module _ (at : PagesAt) (items : ℕ → ℕ → Items) (S : ℕ → Store) (base end : ℕ) (s : Snapshot)
    (f : Content) (keeps : Keeps at items S base end) (past : Past S base end s.stamp s.own f)
    (d : Database) (is : StandsFor f d) (decoder : Decoder) (decodes : GivesSpelled decoder)
    (from : ℕ) (b : base ≤ from) (low : s.stamp ≤ (S from).last) (us : List Visit)
    (w x y z : List Image) (k : Split at end from us w x y z)
  where
    name_of : (a : Key) (table : Option Table)
        → reader.NameFound decoder s (Some (question.only a)) w table
        → NameFound (image_at at) s.stamp s.own a (Split.first k) (pair_of table)
    name_of a table told =
        name_there at items S base end s f keeps past d is decoder decodes from (Split.time k) b
        (Split.upto k) (Split.below k) low a (Split.first k) table (Split.first_rise k)
        (Split.first_latched k)
        (subst (λ vs. reader.NameFound decoder s (Some (question.only a)) vs table)
        (sym (Split.first_is k)) told)

    right_name : (a : Key) (table : Option Table)
        → reader.NameFound decoder s (Some (question.only a)) x table
        → NameFound (image_at at) s.stamp s.own a (Split.second k) (pair_of table)
    right_name a table told =
        name_there at items S base end s f keeps past d is decoder decodes from (Split.time k) b
        (Split.upto k) (Split.below k) low a (Split.second k) table (Split.second_rise k)
        (Split.second_latched k)
        (subst (λ vs. reader.NameFound decoder s (Some (question.only a)) vs table)
        (sym (Split.second_is k)) told)

    left_of : (a : Key) (table : Option Table) (rs : List KeyRange) (rows : List Row)
        → NameFound (image_at at) s.stamp s.own a (Split.first k) (pair_of table)
        → reader.RowsFound decoder s table rs y rows
        → TableRows (image_at at) s.stamp s.own (pair_of table) rs (Split.third k) rows
    left_of a table rs rows name told =
        rows_there at items S base end s f keeps past d is decoder decodes from (Split.time k) b
        (Split.upto k) (Split.below k) low a table (Split.first k) (Split.first_rise k)
        (Split.first_latched k) name rs (Split.third k) rows
        (subst (λ vs. reader.RowsFound decoder s table rs vs rows) (sym (Split.third_is k)) told)
        (Split.third_rise k) (Split.third_latched k)

    no_uses : (vs : List Visit) (ims : List Image) → map (image_at at) vs ≡ ims → ims ≡ [] → vs ≡ []
    no_uses vs ims e none = empty_uses (image_at at) s.stamp s.own vs (e ∙ none)

    -- a statement with one table
    one_table : (st : Stmt) (a : Key) (left right : Option Table) (schemas : List Schema)
        (rows : RangeRows) → mentioned st ≡ a ∷ [] → join_of st ≡ None
        → schemas ≡ question.schemas_of left right → right ≡ None → x ≡ []
        → NameFound (image_at at) s.stamp s.own a (Split.first k) (pair_of left)
        → LeftRows (image_at at) s.stamp s.own (reads_rows st) (pair_of left)
        (ranges schemas st None) (Split.third k) rows.left
        → z ≡ [] → rows.right ≡ []
        → StatementFound (image_at at) s.stamp s.own st us schemas rows
    one_table st a left right schemas rows named joined schemas_are none no_second name lefts
        no_fourth
        no_rights = record {
          before = Split.first k ++ Split.second k;
          lefts = Split.third k;
          rights = Split.fourth k;
          parts = Split.whole k;
          left = pair_of left;
          others = [];
          names = subst
              (λ names. NamesFound (image_at at) s.stamp s.own names
              (Split.first k ++ Split.second k)
              (pair_of left ∷ [])) (sym named) (
                Split.first k,
                Split.second k,
                pair_of left,
                [],
                refl,
                name,
                (no_uses (Split.second k) x (Split.second_is k) no_second, refl),
                refl,
              );
          schemas_are = schemas_are
              ∙ (ap (λ r. question.schemas_of left r) none ∙ schemas_one left);
          left_rows = lefts;
          right_rows = subst
              (λ j. JoinRows (image_at at) s.stamp s.own []
              (λ l. ranges schemas st (Some l)) j rows.left
              (Split.fourth k) rows.right) (sym joined)
              (no_uses (Split.fourth k) z (Split.fourth_is k) no_fourth, no_rights);
        }

    -- a SELECT
    select : (q : Select) (a : Found)
        → reader.NameFound decoder s (Some (question.only q.left)) w a.left
        → a.schemas ≡ question.schemas_of a.left a.right
        → reader.RowsFound decoder s a.left (ranges a.schemas (stmt.Select q) None) y a.rows.left
        → (j : Option Join) → q.join ≡ j
        → reader.NameFound decoder s (option_map (λ (i : Join). question.only i.right) j) x a.right
        → reader.JoinFound (is_some j) decoder s (stmt.Select q) a.schemas a.right a.rows.left z
        a.rows.right
        → StatementFound (image_at at) s.stamp s.own (stmt.Select q) us a.schemas a.rows
    select q a left schemas_are lefts None e right joins =
        one_table (stmt.Select q) q.left a.left a.right a.schemas a.rows
        (ap (λ j. q.left ∷ option_to_list (option_map (λ (i : Join). i.right) j)) e) e schemas_are
        right.1 right.0 (name_of q.left a.left left)
        (left_of q.left a.left (ranges a.schemas (stmt.Select q) None) a.rows.left
        (name_of q.left a.left left) lefts) joins.0 joins.1
    select q a left schemas_are lefts (Some j) e right joins = record {
      before = Split.first k ++ Split.second k;
      lefts = Split.third k;
      rights = Split.fourth k;
      parts = Split.whole k;
      left = pair_of a.left;
      others = pair_of a.right ∷ [];
      names = subst
          (λ j. NamesFound (image_at at) s.stamp s.own
          (q.left ∷ option_to_list (option_map (λ (i : Join). i.right) j))
          (Split.first k ++ Split.second k) (pair_of a.left ∷ (pair_of a.right ∷ []))) (sym e) (
            Split.first k,
            Split.second k,
            pair_of a.left,
            pair_of a.right ∷ [],
            refl,
            name_of q.left a.left left,
            (
              Split.second k,
              [],
              pair_of a.right,
              [],
              sym (append-nil (Split.second k)),
              right_name j.right a.right right,
              (refl, refl),
              refl,
            ),
            refl,
          );
      schemas_are = schemas_are ∙ schemas_two a.left a.right;
      left_rows = left_of q.left a.left (ranges a.schemas (stmt.Select q) None) a.rows.left
          (name_of q.left a.left left) lefts;
      right_rows = subst
          (λ j. JoinRows (image_at at) s.stamp s.own (pair_of a.right ∷ [])
          (λ l. ranges a.schemas (stmt.Select q) (Some l)) j a.rows.left
          (Split.fourth k) a.rows.right)
          (sym e)
          (rights_there at items S base end s f keeps past d is decoder decodes from
          (Split.time k) b
          (Split.upto k) (Split.below k) low j.right a.right (Split.second k) (Split.second_rise k)
          (Split.second_latched k) (right_name j.right a.right right) (stmt.Select q) a.schemas
          a.rows.left (Split.fourth k) a.rows.right
          (subst (λ vs. reader.RightsFound decoder s
          (stmt.Select q) a.schemas a.right a.rows.left vs
          a.rows.right) (sym (Split.fourth_is k)) joins) (Split.fourth_rise k)
          (Split.fourth_latched k));
    }

    create : (t : Schema) (a : Found)
        → reader.NameFound decoder s (Some (question.only t.table)) w a.left
        → a.schemas ≡ question.schemas_of a.left a.right → x ≡ [] → a.right ≡ None
        → reader.RowsFound decoder s a.left (ranges a.schemas (stmt.Create t) None) y a.rows.left
        → z ≡ [] → a.rows.right ≡ []
        → StatementFound (image_at at) s.stamp s.own (stmt.Create t) us a.schemas a.rows
    create t a left schemas_are no_second none lefts no_fourth no_rights =
        let nothing = none_read decoder s a.left y a.rows.left
        (subst (λ rs. reader.RowsFound decoder s a.left rs y a.rows.left)
        (no_ranges a.schemas t) lefts) in
        one_table (stmt.Create t) t.table a.left a.right a.schemas a.rows refl refl schemas_are none
        no_second (name_of t.table a.left left)
        (no_uses (Split.third k) y (Split.third_is k) nothing.0, nothing.1) no_fourth no_rights

pub reader_found : (at : PagesAt) (items : ℕ → ℕ → Items) (S : ℕ → Store) (base end : ℕ)
    (s : Snapshot) (f : Content) (keeps : Keeps at items S base end)
    (past : Past S base end s.stamp s.own f) (d : Database) → StandsFor f d
    → (decoder : Decoder) → GivesSpelled decoder → (from : ℕ) → base ≤ from
    → s.stamp ≤ (S from).last → (us : List Visit) → Rises end from us → Latched at us
    → (st : Stmt) → IsEvaluated st → (a : Found)
    → reader.StatementFound decoder s st (map (image_at at) us) a
    → StatementFound (image_at at) s.stamp s.own st us a.schemas a.rows
reader_found at items S base end s f keeps past d is decoder decodes from b low us rise latched
    (stmt.Create t) ev a r =
    create at items S base end s f keeps past d is decoder decodes from b low us r.left_uses
    r.right_uses r.row_uses r.join_uses
    (split_up at end from us r.left_uses r.right_uses r.row_uses r.join_uses r.parts rise latched)
    t a r.left_table r.schemas_are r.right_table.0 r.right_table.1 r.left_rows r.right_rows.0
    r.right_rows.1
reader_found at items S base end s f keeps past d is decoder decodes from b low us rise latched
    (stmt.Insert t names tuples) ev a r =
    let k = split_up at end from us r.left_uses r.right_uses r.row_uses r.join_uses r.parts rise
    latched in
    let name = name_of at items S base end s f keeps past d is decoder decodes from b low us
    r.left_uses r.right_uses r.row_uses r.join_uses k t a.left r.left_table in
    one_table at items S base end s f keeps past d is decoder decodes from b low us r.left_uses
    r.right_uses r.row_uses r.join_uses k (stmt.Insert t names tuples) t a.left a.right a.schemas
    a.rows refl refl r.schemas_are r.right_table.1 r.right_table.0 name
    (left_of at items S base end s f keeps past d is decoder decodes from b low us r.left_uses
    r.right_uses r.row_uses r.join_uses k t a.left
    (ranges a.schemas (stmt.Insert t names tuples) None) a.rows.left name r.left_rows)
    r.right_rows.0 r.right_rows.1
reader_found at items S base end s f keeps past d is decoder decodes from b low us rise latched
    (stmt.Update t sets test) ev a r =
    let k = split_up at end from us r.left_uses r.right_uses r.row_uses r.join_uses r.parts rise
    latched in
    let name = name_of at items S base end s f keeps past d is decoder decodes from b low us
    r.left_uses r.right_uses r.row_uses r.join_uses k t a.left r.left_table in
    one_table at items S base end s f keeps past d is decoder decodes from b low us r.left_uses
    r.right_uses r.row_uses r.join_uses k (stmt.Update t sets test) t a.left a.right a.schemas
    a.rows refl refl r.schemas_are r.right_table.1 r.right_table.0 name
    (left_of at items S base end s f keeps past d is decoder decodes from b low us r.left_uses
    r.right_uses r.row_uses r.join_uses k t a.left
    (ranges a.schemas (stmt.Update t sets test) None) a.rows.left name r.left_rows)
    r.right_rows.0 r.right_rows.1
reader_found at items S base end s f keeps past d is decoder decodes from b low us rise latched
    (stmt.Delete t test) ev a r =
    let k = split_up at end from us r.left_uses r.right_uses r.row_uses r.join_uses r.parts rise
    latched in
    let name = name_of at items S base end s f keeps past d is decoder decodes from b low us
    r.left_uses r.right_uses r.row_uses r.join_uses k t a.left r.left_table in
    one_table at items S base end s f keeps past d is decoder decodes from b low us r.left_uses
    r.right_uses r.row_uses r.join_uses k (stmt.Delete t test) t a.left a.right a.schemas
    a.rows refl refl r.schemas_are r.right_table.1 r.right_table.0 name
    (left_of at items S base end s f keeps past d is decoder decodes from b low us r.left_uses
    r.right_uses r.row_uses r.join_uses k t a.left
    (ranges a.schemas (stmt.Delete t test) None) a.rows.left name r.left_rows)
    r.right_rows.0 r.right_rows.1
reader_found at items S base end s f keeps past d is decoder decodes from b low us rise latched
    (stmt.Select q) ev a r =
    select at items S base end s f keeps past d is decoder decodes from b low us r.left_uses
    r.right_uses r.row_uses r.join_uses
    (split_up at end from us r.left_uses r.right_uses r.row_uses r.join_uses r.parts rise latched)
    q a r.left_table r.schemas_are r.left_rows q.join refl r.right_table r.right_rows
reader_found at items S base end s f keeps past d is decoder decodes from b low us rise latched
    stmt.Begin ev a r = absurd ev
reader_found at items S base end s f keeps past d is decoder decodes from b low us rise latched
    stmt.Commit ev a r = absurd ev
reader_found at items S base end s f keeps past d is decoder decodes from b low us rise latched
    stmt.Rollback ev a r = absurd ev

pub reader_is_answered : ReaderIsAnswered
reader_is_answered at items S base end s f d r is from us u decoder decodes st ev a told =
    uses_answered at items S base end s.stamp s.own f d r is from us u st a.schemas a.rows
    (reader_found at items S base end s f r.keeps r.past d is decoder decodes from u.since u.stands
    us u.rises u.latched st ev a told)

-- The answer of a statement over its uses.
use Rattle.std.proofs.Common.{◌≡◌, ℕ, Bool, true, false, List, [], ◌∷◌, ◌++◌, Option, Some, None, refl, sym, ◌∙◌, ap, subst, append_assoc, append-nil}
use Rattle.rm_base.specs.declared.limits.TheConstants.{CATALOG_ROOT_PAGE_ID}
use Rattle.std.specs.Prelude.{option_and_then}
use Rattle.rm_base.specs.declared.key_range.KeyRange.{KeyRange}
use Rattle.page_image.specs.Image.{Image}
use Rattle.page_view.specs.declared.leaf.LeafItem.{LeafItem}
use Rattle.sql_values.specs.declared.schemas.Schema.{Schema}
use Rattle.sql_statements.specs.declared.statements.Stmt.{Stmt}
use Rattle.sql_meaning.specs.Ranges.{ranges}
use Rattle.sql_exec.specs.Answer.{is_join}
use Rattle.question_tree.specs.Questions.{tells, then_on, Gives}
use Rattle.question_tree.proofs.QuestionLaws.{split, fall}
use Rattle.range_reader.specs.declared.fetch.Snapshot.{Snapshot}
use Rattle.range_reader.specs.Finding.{find, Fits}
use Rattle.range_reader.specs.Laws.{IsOrderly}
use Rattle.range_reader.proofs.UseLaws.{tells_found}
use Rattle.range_reader.proofs.OrderLaws.{finds_orderly, orderly_on}
use Rattle.statement_reader.specs.declared.tables.Table.{Table}
use Rattle.statement_reader.specs.declared.tables.Found.{Found}
use Rattle.statement_reader.specs.Decoding.{Row, Decoder, decode}
use Rattle.statement_reader.specs.Question.{Reading, left_range, right_range, table_told, told_table, named, schemas_of, rows_told, told_rows, over, over_table, each_row, found, joined, read_from, question}
use Rattle.statement_reader.specs.Answered.{RangeFound, IsTableOf, NameFound, RangesFound, RowsFound, RightsFound, JoinFound, StatementFound, TellsStatement, StatementsOrderly, FetchesFall}

-- nothing is used where nothing is asked
told_now : {A : Type 0} (b a : A) (us : List Image) → Gives Fits (tells b) us a → (us ≡ []) × (b ≡ a)
told_now b a [] h = (refl, h)
told_now b a (u ∷ us) h = absurd h

-- what was found in a range, with what its items spell
in_range : {A : Type 0} (s : Snapshot) (root : ℕ) (range : KeyRange) (f : List LeafItem → Reading A) (us : List Image) (a : A)
    → ((items : List LeafItem) (vs : List Image) → Gives Fits (f items) vs a → vs ≡ [])
    → Gives Fits (then_on (find s root range) f) us a
    → (items : List LeafItem) × RangeFound s root range us items × Gives Fits (f items) [] a
in_range s root range f us a ends h =
    let r = split Fits (find s root range) f us a h in
    let none = ends r.0 r.2 r.5 in
    let all : us ≡ r.1 = r.3 ∙ (ap (λ (xs : List Image). r.1 ++ xs) none ∙ append-nil r.1) in (
      r.0,
      subst (λ (xs : List Image). RangeFound s root range xs r.0) (sym all) (tells_found s root range r.1 r.0 r.4),
      subst (λ (xs : List Image). Gives Fits (f r.0) xs a) none r.5,
    )

-- ---- tables

table_ends : (o : Option Table) (us : List Image) (a : Option Table) → Gives Fits (table_told o) us a → us ≡ []
table_ends None us a h = absurd h
table_ends (Some t) us a h = (told_now (Some t) a us h).0

told_table_ends : (d : Decoder) (a : Option Table) (items : List LeafItem) (us : List Image) → Gives Fits (told_table d items) us a → us ≡ []
told_table_ends d a [] us h = (told_now None a us h).0
told_table_ends d a (item ∷ rest) us h = table_ends (d.table item) us a h

table_of : (o : Option Table) (a : Option Table) → Gives Fits (table_told o) [] a → (t : Table) × (o ≡ Some t) × (a ≡ Some t)
table_of None a h = absurd h
table_of (Some t) a h = (t, refl, sym h)

is_table_of : (d : Decoder) (items : List LeafItem) (a : Option Table) → Gives Fits (told_table d items) [] a → IsTableOf d items a
is_table_of d [] a h = sym h
is_table_of d (item ∷ rest) a h = table_of (d.table item) a h

name_found : (d : Decoder) (s : Snapshot) (o : Option KeyRange) (k : Option Table → Reading Found) (us : List Image) (a : Found)
    → Gives Fits (named d s o k) us a
    → (here : List Image) × (rest : List Image) × (table : Option Table) × (us ≡ here ++ rest) × NameFound d s o here table × Gives Fits (k table) rest a
name_found d s None k us a h = ([], us, None, refl, (refl, refl), h)
name_found d s (Some range) k us a h =
    let r = split Fits (then_on (find s CATALOG_ROOT_PAGE_ID range) (told_table d)) k us a h in
    let q = in_range s CATALOG_ROOT_PAGE_ID range (told_table d) r.1 r.0 (told_table_ends d r.0) r.4 in
    (r.1, r.2, r.0, r.3, (q.0, q.1, is_table_of d q.0 r.0 q.2), r.5)

-- ---- rows

no_some : {A : Type 0} {x : A} → None ≡ Some x → ⊥
no_some e = cc

none_not_some : {A B : Type 0} {x : A} → None ≡ Some x → B
none_not_some e = absurd (no_some e)

-- rows are decoded behind those that are there
behind : (d : Decoder) (s : Schema) (seen before : List Row) (items : List LeafItem) (now : List Row) → decode d s (seen ++ before) items ≡ Some now
    → (rows : List Row) × (decode d s before items ≡ Some rows) × (now ≡ seen ++ rows)
behind d s seen before [] now e = (before, refl, sym (same e))
  where
    same : Some (seen ++ before) ≡ Some now → seen ++ before ≡ now
    same q = cc
behind d s seen before (item ∷ rest) now e = go (d.row s item) e (λ r f. behind d s seen (before ++ r ∷ []) rest now f)
  where
    go : (o : Option Row) → option_and_then (λ r. decode d s ((seen ++ before) ++ r ∷ []) rest) o ≡ Some now
        → ((r : Row) → decode d s (seen ++ (before ++ r ∷ [])) rest ≡ Some now
        → (rows : List Row) × (decode d s (before ++ r ∷ []) rest ≡ Some rows) × (now ≡ seen ++ rows))
        → (rows : List Row) × (option_and_then (λ r. decode d s (before ++ r ∷ []) rest) o ≡ Some rows) × (now ≡ seen ++ rows)
    go None e rec = none_not_some e
    go (Some r) e rec = rec r (ap (λ (xs : List Row). decode d s xs rest) (sym (append_assoc seen before (r ∷ []))) ∙ e)

decoded : (d : Decoder) (s : Schema) (seen : List Row) (items : List LeafItem) (now : List Row) → decode d s seen items ≡ Some now
    → (rows : List Row) × (decode d s [] items ≡ Some rows) × (now ≡ seen ++ rows)
decoded d s seen items now e = behind d s seen [] items now (ap (λ (xs : List Row). decode d s xs items) (append-nil seen) ∙ e)

rows_end : (o : Option (List Row)) (us : List Image) (a : List Row) → Gives Fits (rows_told o) us a → us ≡ []
rows_end None us a h = absurd h
rows_end (Some rows) us a h = (told_now rows a us h).0

rows_of : (o : Option (List Row)) (a : List Row) → Gives Fits (rows_told o) [] a → o ≡ Some a
rows_of None a h = absurd h
rows_of (Some rows) a h = ap Some h

ranges_found : (d : Decoder) (s : Snapshot) (t : Table) (k : List Row → Reading Found) (seen : List Row) (rs : List KeyRange) (us : List Image) (a : Found)
    → Gives Fits (over d s t k seen rs) us a
    → (here : List Image) × (rest : List Image) × (rows : List Row) × (us ≡ here ++ rest) × RangesFound d s t rs here rows × Gives Fits (k (seen ++ rows)) rest a
unfolding over
ranges_found d s t k seen [] us a h =
    ([], us, [], refl, (refl, refl), subst (λ (xs : List Row). Gives Fits (k xs) us a) (sym (append-nil seen)) h)
ranges_found d s t k seen (r ∷ rs) us a h =
    let p = split Fits (then_on (find s t.root r) (told_rows d t.schema seen)) (λ now. over d s t k now rs) us a h in
    let q = in_range s t.root r (told_rows d t.schema seen) p.1 p.0 (λ items vs g. rows_end (decode d t.schema seen items) vs p.0 g) p.4 in
    let spelt = decoded d t.schema seen q.0 p.0 (rows_of (decode d t.schema seen q.0) p.0 q.2) in
    let more = ranges_found d s t k p.0 rs p.2 a p.5 in (
      p.1 ++ more.0,
      more.1,
      spelt.0 ++ more.2,
      p.3 ∙ (ap (λ (xs : List Image). p.1 ++ xs) more.3 ∙ sym (append_assoc p.1 more.0 more.1)),
      (p.1, more.0, q.0, spelt.0, more.2, refl, q.1, spelt.1, more.4, refl),
      subst (λ (xs : List Row). Gives Fits (k xs) more.1 a) (ap (λ (xs : List Row). xs ++ more.2) spelt.2 ∙ append_assoc seen spelt.0 more.2) more.5,
    )

rows_found : (d : Decoder) (s : Snapshot) (o : Option Table) (k : List Row → Reading Found) (rs : List KeyRange) (us : List Image) (a : Found)
    → Gives Fits (over_table d s o k rs) us a
    → (here : List Image) × (rest : List Image) × (rows : List Row) × (us ≡ here ++ rest) × RowsFound d s o rs here rows × Gives Fits (k rows) rest a
rows_found d s None k rs us a h = ([], us, [], refl, (refl, refl), h)
rows_found d s (Some t) k rs us a h = ranges_found d s t k [] rs us a h

rights_found : (d : Decoder) (s : Snapshot) (st : Stmt) (schemas : List Schema) (right : Option Table) (k : List (List Row) → Reading Found)
    (seen : List (List Row)) (lefts : List Row) (us : List Image) (a : Found)
    → Gives Fits (each_row d s st schemas right k seen lefts) us a
    → (here : List Image) × (rest : List Image) × (lists : List (List Row)) × (us ≡ here ++ rest)
    × RightsFound d s st schemas right lefts here lists × Gives Fits (k (seen ++ lists)) rest a
unfolding each_row
rights_found d s st schemas right k seen [] us a h =
    ([], us, [], refl, (refl, refl), subst (λ (xs : List (List Row)). Gives Fits (k xs) us a) (sym (append-nil seen)) h)
rights_found d s st schemas right k seen (l ∷ ls) us a h =
    let p = rows_found d s right (λ rows. each_row d s st schemas right k (seen ++ rows ∷ []) ls) (ranges schemas st (Some l)) us a h in
    let more = rights_found d s st schemas right k (seen ++ p.2 ∷ []) ls p.1 a p.5 in (
      p.0 ++ more.0,
      more.1,
      p.2 ∷ more.2,
      p.3 ∙ (ap (λ (xs : List Image). p.0 ++ xs) more.3 ∙ sym (append_assoc p.0 more.0 more.1)),
      (p.0, more.0, p.2, more.2, refl, p.4, more.4, refl),
      subst (λ (xs : List (List Row)). Gives Fits (k xs) more.1 a) (append_assoc seen (p.2 ∷ []) more.2) more.5,
    )

-- what the last part tells
record Last (d : Decoder) (s : Snapshot) (st : Stmt) (left right : Option Table) (schemas : List Schema) (lefts : List Row) (us : List Image) (a : Found) : Type 0 where
  lists : List (List Row)
  is : found left right schemas lefts lists ≡ a
  rights : JoinFound (is_join st) d s st schemas right lefts us lists

last : (d : Decoder) (s : Snapshot) (st : Stmt) (left right : Option Table) (schemas : List Schema) (lefts : List Row) (us : List Image) (a : Found)
    → Gives Fits (joined (is_join st) d s st left right schemas lefts) us a → Last d s st left right schemas lefts us a
last d s st left right schemas lefts us a h = go (is_join st) refl h
  where
    go : (b : Bool) → is_join st ≡ b → Gives Fits (joined b d s st left right schemas lefts) us a → Last d s st left right schemas lefts us a
    go false e h =
        let t = told_now (found left right schemas lefts []) a us h in
        record { lists = []; is = t.1; rights = subst (λ (b : Bool). JoinFound b d s st schemas right lefts us []) (sym e) (t.0, refl) }
    go true e h =
        let r = rights_found d s st schemas right (λ lists. tells (found left right schemas lefts lists)) [] lefts us a h in
        let t = told_now (found left right schemas lefts r.2) a r.1 r.5 in
        let all : us ≡ r.0 = r.3 ∙ (ap (λ (xs : List Image). r.0 ++ xs) t.0 ∙ append-nil r.0) in
        record {
          lists = r.2;
          is = t.1;
          rights = subst (λ (b : Bool). JoinFound b d s st schemas right lefts us r.2) (sym e)
              (subst (λ (xs : List Image). RightsFound d s st schemas right lefts xs r.2) (sym all) r.4);
        }

pub tells_statement : TellsStatement
unfolding question
tells_statement d s st us a h =
    let p = name_found d s (left_range st) (λ left. named d s (right_range st) (λ right. read_from d s st left right (schemas_of left right))) us a h in
    let q = name_found d s (right_range st) (λ right. read_from d s st p.2 right (schemas_of p.2 right)) p.1 a p.5 in
    let schemas = schemas_of p.2 q.2 in
    let r = rows_found d s p.2 (joined (is_join st) d s st p.2 q.2 schemas) (ranges schemas st None) q.1 a q.5 in
    let l = last d s st p.2 q.2 schemas r.2 r.1 a r.5 in
    let parts : us ≡ p.0 ++ (q.0 ++ (r.0 ++ r.1)) =
    p.3 ∙ ap (λ (xs : List Image). p.0 ++ xs) (q.3 ∙ ap (λ (xs : List Image). q.0 ++ xs) r.3) in
    let whole : StatementFound d s st us (found p.2 q.2 schemas r.2 l.lists) =
    record {
      left_uses = p.0;
      right_uses = q.0;
      row_uses = r.0;
      join_uses = r.1;
      parts = parts;
      left_table = p.4;
      right_table = q.4;
      schemas_are = refl;
      left_rows = r.4;
      right_rows = l.rights;
    } in
    subst (λ (b : Found). StatementFound d s st us b) l.is whole

-- ---- in which order it asks

table_orderly : (c : Bool) (o : Option Table) → IsOrderly c (table_told o)
table_orderly c None = tt
table_orderly c (Some t) = tt

told_table_orderly : (d : Decoder) (c : Bool) (items : List LeafItem) → IsOrderly c (told_table d items)
told_table_orderly d c [] = tt
told_table_orderly d c (item ∷ rest) = table_orderly c (d.table item)

rows_orderly : (c : Bool) (o : Option (List Row)) → IsOrderly c (rows_told o)
rows_orderly c None = tt
rows_orderly c (Some rows) = tt

named_orderly : (d : Decoder) (s : Snapshot) (o : Option KeyRange) (k : Option Table → Reading Found) → ((c : Bool) (t : Option Table) → IsOrderly c (k t))
    → (c : Bool) → IsOrderly c (named d s o k)
named_orderly d s None k h c = h c None
named_orderly d s (Some range) k h c =
    orderly_on c (then_on (find s CATALOG_ROOT_PAGE_ID range) (told_table d)) k
    (orderly_on c (find s CATALOG_ROOT_PAGE_ID range) (told_table d) (finds_orderly s CATALOG_ROOT_PAGE_ID range c) (λ e items. told_table_orderly d e items)) h

over_orderly : (d : Decoder) (s : Snapshot) (t : Table) (k : List Row → Reading Found) (rows : List Row) (rs : List KeyRange)
    → ((c : Bool) (rows : List Row) → IsOrderly c (k rows)) → (c : Bool) → IsOrderly c (over d s t k rows rs)
unfolding over
over_orderly d s t k rows [] h c = h c rows
over_orderly d s t k rows (r ∷ rs) h c =
    orderly_on c (then_on (find s t.root r) (told_rows d t.schema rows)) (λ now. over d s t k now rs)
    (orderly_on c (find s t.root r) (told_rows d t.schema rows) (finds_orderly s t.root r c) (λ e items. rows_orderly e (decode d t.schema rows items)))
    (λ e now. over_orderly d s t k now rs h e)

over_table_orderly : (d : Decoder) (s : Snapshot) (o : Option Table) (k : List Row → Reading Found) (rs : List KeyRange)
    → ((c : Bool) (rows : List Row) → IsOrderly c (k rows)) → (c : Bool) → IsOrderly c (over_table d s o k rs)
over_table_orderly d s None k rs h c = h c []
over_table_orderly d s (Some t) k rs h c = over_orderly d s t k [] rs h c

each_orderly : (d : Decoder) (s : Snapshot) (st : Stmt) (schemas : List Schema) (right : Option Table) (k : List (List Row) → Reading Found)
    (lists : List (List Row)) (lefts : List Row) → ((c : Bool) (lists : List (List Row)) → IsOrderly c (k lists))
    → (c : Bool) → IsOrderly c (each_row d s st schemas right k lists lefts)
unfolding each_row
each_orderly d s st schemas right k lists [] h c = h c lists
each_orderly d s st schemas right k lists (l ∷ ls) h c =
    over_table_orderly d s right (λ rows. each_row d s st schemas right k (lists ++ rows ∷ []) ls) (ranges schemas st (Some l))
    (λ e rows. each_orderly d s st schemas right k (lists ++ rows ∷ []) ls h e) c

joined_orderly : (d : Decoder) (s : Snapshot) (st : Stmt) (left right : Option Table) (schemas : List Schema) (b c : Bool) (lefts : List Row)
    → IsOrderly c (joined b d s st left right schemas lefts)
joined_orderly d s st left right schemas false c lefts = tt
joined_orderly d s st left right schemas true c lefts =
    each_orderly d s st schemas right (λ lists. tells (found left right schemas lefts lists)) [] lefts (λ e lists. tt) c

pub statements_orderly : StatementsOrderly
unfolding question
statements_orderly d s st c =
    named_orderly d s (left_range st) (λ left. named d s (right_range st) (λ right. read_from d s st left right (schemas_of left right)))
    (λ e left. named_orderly d s (right_range st) (λ right. read_from d s st left right (schemas_of left right))
    (λ f right. over_table_orderly d s left (joined (is_join st) d s st left right (schemas_of left right)) (ranges (schemas_of left right) st None)
    (λ g lefts. joined_orderly d s st left right (schemas_of left right) (is_join st) g lefts) f) e) c

-- ---- how often it still asks

pub fetches_fall : FetchesFall
fetches_fall d s st now us m q leads w = fall now m q w

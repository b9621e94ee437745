-- What a statement finds is what it would read of the database at its snapshot.
use Rattle.std.proofs.Common.{◌≡◌, ◌≤◌, ℕ, Bool, true, false, List, [], ◌∷◌, ◌++◌, map, filter, option_map, option_to_list, Option, Some, None, refl, sym, ap, subst, ◌∙◌, le_trans}
use Rattle.std.specs.Option.{option_map_or}
use Rattle.std.specs.Str.{bytes_eq}
use Rattle.rm_base.specs.declared.key_range.KeyRange.{KeyRange}
use Rattle.sql_values.specs.Tables.{table_named}
use Rattle.tree_timeline.specs.Types.{Items, Key, PagesAt}
use Rattle.tree_timeline.specs.Walks.{Visit}
use Rattle.sql_values.specs.declared.schemas.Schema.{Schema}
use Rattle.row_codec.specs.Keys.{key_bytes}
use Rattle.row_codec.specs.Records.{key_cell}
use Rattle.sql_statements.specs.declared.statements.Join.{Join}
use Rattle.sql_statements.specs.declared.statements.Select.{Select}
use Rattle.sql_statements.specs.declared.statements.Stmt.{Stmt}
use Rattle.sql_statements.specs.declared.statements.Stmt.TheVariants as stmt
use Rattle.sql_meaning.specs.Ranges.{in_range, ranges}
use Rattle.sql_database.specs.Catalog.{schema_of, schema_row}
use Rattle.sql_database.specs.Database.{Database, row_key}
use Rattle.sql_database.proofs.CatalogLaws.{says}
use Rattle.sql_exec.specs.declared.rows.RangeRows.{RangeRows}
use Rattle.sql_engine.specs.Read.{left_rows, mentioned, only, paired, range_rows, ranges_rows, read_rows, right_rows, schemas_named, table_rows}
use Rattle.sql_engine.proofs.NamedLemmas.{SameNamed, found_named, same_named}
use Rattle.version_store.specs.Contents.{Content, catalog_name}
use Rattle.version_store.specs.Stores.{Store}
use Rattle.version_store.specs.Versions.{Row}
use Rattle.version_store.proofs.Places.{bytes_same}
use Rattle.history.specs.Databases.{StandsFor}
use Rattle.snapshot_reads.specs.Keeping.{Keeps}
use Rattle.snapshot_reads.specs.Pasts.{Past}
use Rattle.snapshot_reads.specs.Tables.{Knows, RowsFound}
use Rattle.snapshot_reads.specs.Times.{Latched, Rises, image_at}
use Rattle.snapshot_reads.proofs.Naming.{no_table_there, table_there}
use Rattle.snapshot_reads.proofs.Rising.{Meet, latched_left, latched_right, meet, rises_left, rises_right}
use Rattle.snapshot_reads.proofs.Rows.{rows_there}
use Rattle.reads_joined.specs.Statements.{JoinRows, NameFound, NamesFound, RightRows, StatementFound, Table, TableRows, first_of, schema_in, schemas_in}
use Rattle.reads_joined.proofs.KeyRows.{rows_in}

abbrev pair_of : List Row → List (List Row) → RangeRows
pair_of l rs = record { left = l; right = rs }

module _ (at : PagesAt) (items : ℕ → ℕ → Items) (S : ℕ → Store) (base end n : ℕ) (own : Option ℕ)
    (f : Content) (keeps : Keeps at items S base end) (past : Past S base end n own f)
    (d : Database)
    (is : StandsFor f d)
  where
    -- what is known of a name at a time
    abbrev KnownAt : ℕ → Key → Table → Type 0
    KnownAt m a None = f catalog_name a ≡ None
    KnownAt m a (Some t) = Knows (S m) own a t.0 t.1 × (f catalog_name a ≡ Some (schema_row t.0))

    abbrev AllKnown : ℕ → List Key → List Table → Type 0
    AllKnown m [] tables = tables ≡ []
    AllKnown m (a ∷ names) tables =
        (t : Table) × (more : List Table) × (tables ≡ t ∷ more) × KnownAt m a t
        × AllKnown m names more

    schema_at : (m : ℕ) (a : Key) (t : Table) → KnownAt m a t
        → table_named d.schemas a ≡ schema_in t
    schema_at m a None k = is.tables a ∙ ap (option_map schema_of) k
    schema_at m a (Some t) k =
        is.tables a ∙ (ap (option_map schema_of) k.1 ∙ ap Some (says t.0))

    pub not_word : (a : Key) (row : Row) → f catalog_name a ≡ Some row
        → bytes_eq a catalog_name ≡ false
    not_word a row e = go (bytes_eq a catalog_name) refl
      where
        go : (b : Bool) → bytes_eq a catalog_name ≡ b → bytes_eq a catalog_name ≡ false
        go false q = q
        go true q =
            absurd (let x : None ≡ Some row =
            sym is.free ∙ (ap (f catalog_name) (sym (bytes_same a catalog_name q)) ∙ e) in cc)

    names_there : (names : List Key) (from m : ℕ) → base ≤ from → from ≤ m → m ≤ end
        → n ≤ (S from).last → (us : List Visit) (tables : List Table)
        → NamesFound (image_at at) n own names us tables → Rises m from us → Latched at us
        → AllKnown m names tables
    names_there [] from m b fm me low us tables found rise latched = found.1
    names_there (a ∷ names) from m b fm me low us tables
        (here, rest, t, more, parts, name, others, are) rise latched =
        let r2 : Rises m from (here ++ rest) = subst (λ vs. Rises m from vs) parts rise in
        let l2 : Latched at (here ++ rest) = subst (λ vs. Latched at vs) parts latched in (
          t,
          more,
          are,
          one t name (rises_left m from here rest r2) (latched_left at here rest l2),
          names_there names from m b fm me low rest more others (rises_right m from here rest r2)
              (latched_right at here rest l2),
        )
      where
        one : (t : Table) → NameFound (image_at at) n own a here t → Rises m from here
            → Latched at here → KnownAt m a t
        one None found r l =
            no_table_there at items S base end n own f keeps past from m b fm me low a here found r
            l
        one (Some t) found r l =
            table_there at items S base end n own f keeps past from m b fm me low a here t.0 t.1
            found
            r l

    schemas_there : (m : ℕ) (names : List Key) (tables : List Table) → AllKnown m names tables
        → schemas_in tables ≡ schemas_named d.schemas names
    schemas_there m [] tables k = ap schemas_in k
    schemas_there m (a ∷ names) tables (t, more, are, known, rest) =
        ap schemas_in are
        ∙ (ap (λ o. option_to_list o ++ schemas_in more) (sym (schema_at m a t known))
        ∙ ap (λ ss. option_to_list (table_named d.schemas a) ++ ss)
        (schemas_there m names more rest))

    -- the rows that are found in a range are the table's
    range_there : (m : ℕ) → base ≤ m → m ≤ end → n ≤ (S m).last → (a : Key) (s : Schema) (root : ℕ)
        → Knows (S m) own a s root → f catalog_name a ≡ Some (schema_row s)
        → (range : KeyRange) (us : List Visit) (rows : List Row)
        → RowsFound (image_at at) n own root s range us rows → Rises end m us → Latched at us
        → rows ≡ range_rows d.tables s range
    range_there m b me low a s root k kf range us rows found rise latched =
        rows_in (row_key d a) range (f a) (d.tables a) rows (is.rows a free)
        (rows_there at items S base end n own f keeps past m b me low a free s root k range us rows
        found rise latched)
        ∙ (ap (λ (g : Row → Key). filter (λ r. in_range (g r) range) (d.tables a)) key_is
        ∙ ap (λ t. filter (λ r. in_range (key_bytes (key_cell s.key r)) range) (d.tables t))
        (sym (found_named d.schemas a s named_so)))
      where
        free : bytes_eq a catalog_name ≡ false
        free = not_word a (schema_row s) kf

        named_so : table_named d.schemas a ≡ Some s
        named_so = is.tables a ∙ (ap (option_map schema_of) kf ∙ ap Some (says s))

        key_is : row_key d a ≡ (λ r. key_bytes (key_cell s.key r))
        key_is =
            ap (λ o. λ r. key_bytes (key_cell (option_map_or (λ (x : Schema). x.key) o 0) r))
            named_so

    module _ (m : ℕ) (b : base ≤ m) (me : m ≤ end) (low : n ≤ (S m).last) (schemas : List Schema)
        (a : Key) (same : table_named schemas a ≡ table_named d.schemas a)
      where
        ranges_there : (t : Schema × ℕ) → Knows (S m) own a t.0 t.1
            → f catalog_name a ≡ Some (schema_row t.0) → (rs : List KeyRange) (us : List Visit)
            (rows : List Row) → TableRows (image_at at) n own (Some t) rs us rows → Rises end m us
            → Latched at us → rows ≡ ranges_rows d.tables t.0 rs
        ranges_there t k kf [] us rows found rise latched = found.1
        ranges_there t k kf (r ∷ rs) us rows (
          here,
          rest,
          first,
          more,
          parts,
          found,
          others,
          are,
        ) rise
            latched =
            let r2 : Rises end m (here ++ rest) = subst (λ vs. Rises end m vs) parts rise in
            let l2 : Latched at (here ++ rest) = subst (λ vs. Latched at vs) parts latched in
            are
            ∙ (ap (λ x. x ++ more)
            (range_there m b me low a t.0 t.1 k kf r here first found
            (rises_left end m here rest r2)
            (latched_left at here rest l2))
            ∙ ap (λ x. range_rows d.tables t.0 r ++ x)
            (ranges_there t k kf rs rest more others (rises_right end m here rest r2)
            (latched_right at here rest l2)))

        pub table_rows_there : (t : Table) → KnownAt m a t → (rs : List KeyRange) (us : List Visit)
            (rows : List Row) → TableRows (image_at at) n own t rs us rows → Rises end m us
            → Latched at us → rows ≡ table_rows d.tables schemas a rs
        table_rows_there None k rs us rows found rise latched =
            found.1
            ∙ sym (ap (λ o. option_map_or (λ s. ranges_rows d.tables s rs) o [])
            (same ∙ schema_at m a None k))
        table_rows_there (Some t) k rs us rows found rise latched =
            ranges_there t k.0 k.1 rs us rows found rise latched
            ∙ sym (ap (λ o. option_map_or (λ s. ranges_rows d.tables s rs) o [])
            (same ∙ schema_at m a (Some t) k))

        right_rows_there : (t : Table) → KnownAt m a t
            → (rs : Row → List KeyRange) (lefts : List Row)
            (us : List Visit) (rights : List (List Row))
            → RightRows (image_at at) n own t rs lefts us rights → Rises end m us → Latched at us
            → rights ≡ map (λ l. table_rows d.tables schemas a (rs l)) lefts
        right_rows_there t k rs [] us rights found rise latched = found.1
        right_rows_there t k rs (l ∷ lefts) us rights
            (here, rest, first, more, parts, found, others, are) rise latched =
            let r2 : Rises end m (here ++ rest) = subst (λ vs. Rises end m vs) parts rise in
            let l2 : Latched at (here ++ rest) = subst (λ vs. Latched at vs) parts latched in
            are
            ∙ (ap (λ x. x ∷ more)
            (table_rows_there t k (rs l) here first found (rises_left end m here rest r2)
            (latched_left at here rest l2))
            ∙ ap (λ x. table_rows d.tables schemas a (rs l) ∷ x)
            (right_rows_there t k rs lefts rest more others (rises_right end m here rest r2)
            (latched_right at here rest l2)))

    -- the names are known once they are all looked up, and the rows come after
    record Looked (from : ℕ) (st : Stmt) (us : List Visit) (schemas : List Schema)
        (rows : RangeRows)
        (s : StatementFound (image_at at) n own st us schemas rows) : Type 0 where
      time : ℕ
      since : base ≤ time
      below : time ≤ end
      low : n ≤ (S time).last
      known : AllKnown time (mentioned st) (s.left ∷ s.others)
      schemas_so : schemas ≡ schemas_named d.schemas (mentioned st)
      named : SameNamed schemas d.schemas (mentioned st)
      left_rise : Rises end time s.lefts
      left_latched : Latched at s.lefts
      right_rise : Rises end time s.rights
      right_latched : Latched at s.rights

    looked : (from : ℕ) → base ≤ from → n ≤ (S from).last → (st : Stmt) (us : List Visit)
        (schemas : List Schema) (rows : RangeRows)
        (s : StatementFound (image_at at) n own st us schemas rows) → Rises end from us
        → Latched at us → Looked from st us schemas rows s
    looked from b low st us schemas rows s rise latched =
        let r2 : Rises end from (s.before ++ (s.lefts ++ s.rights)) =
        subst (λ vs. Rises end from vs) s.parts rise in
        let l2 : Latched at (s.before ++ (s.lefts ++ s.rights)) =
        subst (λ vs. Latched at vs) s.parts latched in
        let m : Meet end from s.before (s.lefts ++ s.rights) =
        meet end from s.before (s.lefts ++ s.rights) r2 in
        let l3 : Latched at (s.lefts ++ s.rights) =
        latched_right at s.before (s.lefts ++ s.rights) l2 in
        let known : AllKnown m.time (mentioned st) (s.left ∷ s.others) =
        names_there (mentioned st) from m.time b m.upto m.below low s.before (s.left ∷ s.others)
        s.names m.first (latched_left at s.before (s.lefts ++ s.rights) l2) in
        let schemas_so : schemas ≡ schemas_named d.schemas (mentioned st) =
        s.schemas_are ∙ schemas_there m.time (mentioned st) (s.left ∷ s.others) known in
        record {
          time = m.time;
          since = le_trans b m.upto;
          below = m.below;
          low = le_trans low (past.rises from m.time b m.upto m.below);
          known = known;
          schemas_so = schemas_so;
          named = subst (λ ss. SameNamed ss d.schemas (mentioned st)) (sym schemas_so)
              (same_named d.schemas st);
          left_rise = rises_left end m.time s.lefts s.rights m.second;
          left_latched = latched_left at s.lefts s.rights l3;
          right_rise = rises_right end m.time s.lefts s.rights m.second;
          right_latched = latched_right at s.lefts s.rights l3;
        }

    heads : (x y : Table) (xs ys : List Table) → x ∷ xs ≡ y ∷ ys → (x ≡ y) × (xs ≡ ys)
    heads x y xs ys e = (cc, cc)

    first_known : (m : ℕ) (a : Key) (names : List Key) (left : Table) (others : List Table)
        → AllKnown m (a ∷ names) (left ∷ others) → KnownAt m a left
    first_known m a names left others (t, more, are, known, rest) =
        subst (λ x. KnownAt m a x) (sym (heads left t others more are).0) known

    pair : (r : RangeRows) (l : List Row) (rs : List (List Row)) → r.left ≡ l → r.right ≡ rs
        → r ≡ pair_of l rs
    pair r l rs p q = ap (λ x. pair_of x r.right) p ∙ ap (λ x. pair_of l x) q

    -- the rows of a statement with one table
    one_table : (from : ℕ) (st : Stmt) (a : Key) (us : List Visit) (schemas : List Schema)
        (rows : RangeRows) (s : StatementFound (image_at at) n own st us schemas rows)
        (k : Looked from st us schemas rows s)
        → AllKnown k.time (a ∷ []) (s.left ∷ s.others) → SameNamed schemas d.schemas (a ∷ [])
        → TableRows (image_at at) n own s.left (ranges schemas st None) s.lefts rows.left
        → rows.right ≡ [] → rows ≡ only (left_rows d.tables schemas st a)
    one_table from st a us schemas rows s k known named left right =
        pair rows (left_rows d.tables schemas st a) []
        (table_rows_there k.time k.since k.below k.low schemas a named.0 s.left
        (first_known k.time a [] s.left s.others known)
        (ranges schemas st None) s.lefts rows.left left
        k.left_rise k.left_latched) right

    -- those of a SELECT
    module _ (from : ℕ) (q : Select) (us : List Visit) (schemas : List Schema) (rows : RangeRows)
        (s : StatementFound (image_at at) n own (stmt.Select q) us schemas rows)
        (k : Looked from (stmt.Select q) us schemas rows s)
      where
        lefts_are : rows.left ≡ left_rows d.tables schemas (stmt.Select q) q.left
        lefts_are =
            table_rows_there k.time k.since k.below k.low schemas q.left k.named.0 s.left
            (first_known k.time q.left
            (option_to_list (option_map (λ (i : Join). i.right) q.join)) s.left
            s.others k.known) (ranges schemas (stmt.Select q) None) s.lefts rows.left s.left_rows
            k.left_rise k.left_latched

        join_is : (j : Option Join) → q.join ≡ j → read_rows d.tables schemas (stmt.Select q)
            ≡ option_map_or (λ (i : Join). paired d.tables schemas (stmt.Select q) i.right
            (left_rows d.tables schemas (stmt.Select q) q.left)) j
            (only (left_rows d.tables schemas (stmt.Select q) q.left))
        join_is j e =
            ap (λ o. option_map_or (λ (i : Join). paired d.tables schemas (stmt.Select q) i.right
            (left_rows d.tables schemas (stmt.Select q) q.left)) o
            (only (left_rows d.tables schemas (stmt.Select q) q.left))) e

        by_join : (j : Option Join) → q.join ≡ j
            → JoinRows (image_at at) n own s.others (λ l. ranges schemas (stmt.Select q) (Some l)) j
            rows.left s.rights rows.right
            → AllKnown k.time (q.left ∷ option_to_list (option_map (λ (i : Join). i.right) j))
            (s.left ∷ s.others)
            → SameNamed schemas d.schemas
            (q.left ∷ option_to_list (option_map (λ (i : Join). i.right) j))
            → rows ≡ read_rows d.tables schemas (stmt.Select q)
        by_join None e found known named =
            pair rows (left_rows d.tables schemas (stmt.Select q) q.left) [] lefts_are found.1
            ∙ sym (join_is None e)
        by_join (Some j) e found (t, more, are, known, (u, rest, are2, known2, none)) named =
            let other : s.others ≡ u ∷ rest = (heads s.left t s.others more are).1 ∙ are2 in
            let rights_are : rows.right
            ≡ right_rows d.tables schemas (stmt.Select q) j.right rows.left =
            right_rows_there k.time k.since k.below k.low schemas j.right named.1.0 u known2
            (λ l. ranges schemas (stmt.Select q) (Some l)) rows.left s.rights rows.right
            (subst (λ tables. RightRows (image_at at) n own (first_of tables)
            (λ l. ranges schemas (stmt.Select q) (Some l)) rows.left s.rights rows.right) other
            found)
            k.right_rise k.right_latched in
            pair rows (left_rows d.tables schemas (stmt.Select q) q.left)
            (right_rows d.tables schemas (stmt.Select q) j.right
            (left_rows d.tables schemas (stmt.Select q) q.left)) lefts_are
            (rights_are
            ∙ ap (λ ls. right_rows d.tables schemas (stmt.Select q) j.right ls) lefts_are)
            ∙ sym (join_is (Some j) e)

    rows_of : (from : ℕ) (st : Stmt) (us : List Visit) (schemas : List Schema) (rows : RangeRows)
        (s : StatementFound (image_at at) n own st us schemas rows)
        → Looked from st us schemas rows s → rows ≡ read_rows d.tables schemas st
    rows_of from (stmt.Create x) us schemas rows s k =
        pair rows [] [] s.left_rows.1 s.right_rows.1
    rows_of from (stmt.Insert t names tuples) us schemas rows s k =
        one_table from (stmt.Insert t names tuples) t us schemas rows s k k.known k.named
        s.left_rows
        s.right_rows.1
    rows_of from (stmt.Update t sets test) us schemas rows s k =
        one_table from (stmt.Update t sets test) t us schemas rows s k k.known k.named s.left_rows
        s.right_rows.1
    rows_of from (stmt.Delete t test) us schemas rows s k =
        one_table from (stmt.Delete t test) t us schemas rows s k k.known k.named s.left_rows
        s.right_rows.1
    rows_of from (stmt.Select q) us schemas rows s k =
        by_join from q us schemas rows s k q.join refl s.right_rows k.known k.named
    rows_of from stmt.Begin us schemas rows s k = pair rows [] [] s.left_rows.1 s.right_rows.1
    rows_of from stmt.Commit us schemas rows s k = pair rows [] [] s.left_rows.1 s.right_rows.1
    rows_of from stmt.Rollback us schemas rows s k = pair rows [] [] s.left_rows.1 s.right_rows.1

    -- all that a statement finds
    pub statement_there : (from : ℕ) → base ≤ from → n ≤ (S from).last → (st : Stmt)
        (us : List Visit) (schemas : List Schema) (rows : RangeRows)
        → StatementFound (image_at at) n own st us schemas rows → Rises end from us → Latched at us
        → (schemas ≡ schemas_named d.schemas (mentioned st))
        × (rows ≡ read_rows d.tables schemas st)
    statement_there from b low st us schemas rows s rise latched =
        let k = looked from b low st us schemas rows s rise latched in
        (k.schemas_so, rows_of from st us schemas rows s k)

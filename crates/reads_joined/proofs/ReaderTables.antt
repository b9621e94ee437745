-- The names and the rows that the reader of a statement finds over images are found over its uses.
use Rattle.std.proofs.Common.{◌≡◌, ◌≤◌, ℕ, Bool, true, false, List, [], ◌∷◌, ◌++◌, map, if◌then◌else◌, option_and_then, Option, Some, None, is_some, refl, sym, ap, subst, ◌∙◌, append_assoc, le_trans}
use Rattle.std.specs.List.{AllByRecursion}
use Rattle.std.specs.Str.{bytes_eq}
use Rattle.std.proofs.lemmas.List.{append-nil}
use Rattle.rm_base.specs.declared.key_range.KeyRange.{KeyRange}
use Rattle.page_image.specs.Image.{Image}
use Rattle.page_view.specs.declared.leaf.LeafItem.{LeafItem}
use Rattle.sql_values.specs.declared.schemas.Schema.{Schema}
use Rattle.sql_statements.specs.declared.statements.Stmt.{Stmt}
use Rattle.sql_statements.specs.declared.statements.Stmt.TheVariants as stmt
use Rattle.sql_meaning.specs.Ranges.{left_ranges, ranges}
use Rattle.sql_meaning.specs.Refusals.{refusal}
use Rattle.sql_database.specs.Catalog.{schema_row}
use Rattle.sql_database.specs.Database.{Database}
use Rattle.range_reader.specs.Uses.{FoundBy}
use Rattle.range_reader.specs.declared.fetch.Snapshot.{Snapshot}
use Rattle.statement_reader.specs.declared.tables.Table.{Table}
use Rattle.statement_reader.specs.Answered as reader
use Rattle.statement_reader.specs.Decoding.{Decoder, decode}
use Rattle.statement_reader.specs.Question as question
use Rattle.tree_timeline.specs.Types.{Items, Key, PagesAt}
use Rattle.tree_timeline.specs.Walks.{Visit}
use Rattle.version_store.specs.Contents.{Content, catalog_name}
use Rattle.version_store.specs.Stores.{Store, catalog}
use Rattle.version_store.specs.Versions.{Row}
use Rattle.held_versions.specs.Tables.{SpellsTable}
use Rattle.history.specs.Databases.{StandsFor}
use Rattle.snapshot_reads.specs.Keeping.{Keeps}
use Rattle.snapshot_reads.specs.Pasts.{Past}
use Rattle.snapshot_reads.specs.Tables.{Decoded, Knows}
use Rattle.snapshot_reads.specs.Times.{Latched, Rises, image_at}
use Rattle.snapshot_reads.proofs.Entries.{entry_spelled}
use Rattle.snapshot_reads.proofs.Imaging.{Parted, empty_uses, found_over, parted}
use Rattle.snapshot_reads.proofs.Naming.{table_there}
use Rattle.snapshot_reads.proofs.Rising.{latched_left, latched_right, rises_left, rises_right}
use Rattle.snapshot_reads.proofs.Rows.{IsSpelled, rows_spelled}
use Rattle.reads_joined.specs.Reader.{GivesSpelled}
use Rattle.reads_joined.specs.Statements.{JoinRows, LeftRows, NameFound, NamesFound, RightRows, StatementFound, TableRows, join_of, reads_rows, schemas_in}
use Rattle.reads_joined.specs.Statements as found
use Rattle.reads_joined.proofs.Stating.{not_word}

-- a table as a pair of its schema and its root
abbrev pub pair_of : Option Table → found.Table
pair_of None = None
pair_of (Some t) = Some (t.schema, t.root)

abbrev table_with : Schema → ℕ → Table
table_with s root = record { schema = s; root = root }

-- ---- rows that were decoded

record Rest (s : Schema) (items : List LeafItem) (rows out : List Row) : Type 0 where
  more : List Row
  decoded : Decoded s items more
  out_is : out ≡ rows ++ more

module _ (decoder : Decoder) (decodes : GivesSpelled decoder) (s : Schema) where
  decode_rest : (items : List LeafItem) (rows out : List Row)
      → AllByRecursion (IsSpelled s) items → decode decoder s rows items ≡ Some out
      → Rest s items rows out
  decode_rest [] rows out spelled e = record {
    more = [];
    decoded = refl;
    out_is = same rows out e ∙ sym (append-nil rows);
  }
    where
      same : (xs ys : List Row) → Some xs ≡ Some ys → ys ≡ xs
      same xs ys q = cc
  decode_rest (item ∷ items) rows out ((r, is), spelled) e =
      let read : decoder.row s item ≡ Some r = decodes.rows s item r is in
      let next : decode decoder s (rows ++ r ∷ []) items ≡ Some out =
      sym (ap (λ o. option_and_then (λ x. decode decoder s (rows ++ x ∷ []) items) o) read) ∙ e in
      let ih = decode_rest items (rows ++ r ∷ []) out spelled next in
      record {
        more = r ∷ Rest.more ih;
        decoded = (r, Rest.more ih, is, Rest.decoded ih, refl);
        out_is = Rest.out_is ih ∙ append_assoc rows (r ∷ []) (Rest.more ih);
      }

  pub decoded_all : (items : List LeafItem) (out : List Row) → AllByRecursion (IsSpelled s) items
      → decode decoder s [] items ≡ Some out → Decoded s items out
  decoded_all items out spelled e =
      let rest = decode_rest items [] out spelled e in
      subst (λ rows. Decoded s items rows) (sym (Rest.out_is rest)) (Rest.decoded rest)

pub no_ranges : (schemas : List Schema) (x : Schema) → ranges schemas (stmt.Create x) None ≡ []
unfolding ranges
no_ranges schemas x = go (is_some (refusal schemas (stmt.Create x)))
  where
    go : (b : Bool) → (if b then [] else left_ranges schemas (stmt.Create x)) ≡ []
    go true = refl
    go false = refl

module _ (at : PagesAt) (items : ℕ → ℕ → Items) (S : ℕ → Store) (base end : ℕ) (s : Snapshot)
    (f : Content) (keeps : Keeps at items S base end) (past : Past S base end s.stamp s.own f)
    (d : Database) (is : StandsFor f d) (decoder : Decoder) (decodes : GivesSpelled decoder)
  where
    abbrev image : Visit → Image
    image = image_at at

    module _ (from m : ℕ) (b : base ≤ from) (fm : from ≤ m) (me : m ≤ end)
        (low : s.stamp ≤ (S from).last)
      where
        -- a name
        pub name_there : (a : Key) (us : List Visit) (table : Option Table) → Rises m from us
            → Latched at us
            → reader.NameFound decoder s (Some (question.only a)) (map (image_at at) us) table
            → NameFound (image_at at) s.stamp s.own a us (pair_of table)
        name_there a us table rise latched (entries, by_images, told) =
            go entries (found_over (image_at at) s.stamp s.own catalog (Some a) (Some a) us entries
            by_images) told
          where
            same : (x y : Table) → Some x ≡ Some y → x ≡ y
            same x y e = cc

            go : (entries : List LeafItem)
                → FoundBy (image_at at) s.stamp s.own catalog (Some a) (Some a) us entries
                → reader.IsTableOf decoder entries table
                → NameFound (image_at at) s.stamp s.own a us (pair_of table)
            go [] by told =
                subst (λ t. NameFound (image_at at) s.stamp s.own a us (pair_of t)) (sym told) by
            go (entry ∷ others) by (t, reads, told) =
                let spelled = entry_spelled at items S base end s.stamp s.own f keeps past from m b
                fm me
                low a us entry others by rise latched in
                let spells : SpellsTable entry spelled.0 spelled.1 = spelled.2 in
                let gives : decoder.table entry ≡ Some (table_with spelled.0 spelled.1) =
                decodes.tables entry spelled.0 spelled.1 spells in
                let is_table : table_with spelled.0 spelled.1 ≡ t =
                same (table_with spelled.0 spelled.1) t (sym gives ∙ reads) in
                subst (λ o. NameFound (image_at at) s.stamp s.own a us (pair_of o)) (sym told)
                (record {
                  entry = entry;
                  others = others;
                  found = by;
                  spells = subst (λ (x : Table). SpellsTable entry x.schema x.root) is_table spells;
                })

    -- the rows of a table's ranges
    module _ (m : ℕ) (b : base ≤ m) (me : m ≤ end) (low : s.stamp ≤ (S m).last) (a : Key)
        (free : bytes_eq a catalog_name ≡ false) (t : Table)
        (known : Knows (S m) s.own a t.schema t.root)
      where
        ranges_there : (rs : List KeyRange) (us : List Visit) (rows : List Row)
            → reader.RangesFound decoder s t rs (map (image_at at) us) rows → Rises end m us
            → Latched at us
            → TableRows (image_at at) s.stamp s.own (Some (t.schema, t.root)) rs us rows
        ranges_there [] us rows (none, empty) rise latched =
            (empty_uses (image_at at) s.stamp s.own us none, empty)
        ranges_there (r ∷ rs) us rows (
          here,
          rest,
          entries,
          first,
          more,
          parts,
          by,
          told,
          others,
          are,
        )
            rise latched =
            let p : Parted (image_at at) us here rest =
            parted (image_at at) s.stamp s.own us here rest parts in
            let rise2 : Rises end m (p.left ++ p.right) =
            subst (λ vs. Rises end m vs) p.whole rise in
            let latched2 : Latched at (p.left ++ p.right) =
            subst (λ vs. Latched at vs) p.whole latched in
            let over : FoundBy (image_at at) s.stamp s.own t.root r.low r.high p.left entries =
            found_over (image_at at) s.stamp s.own t.root r.low r.high p.left entries
            (subst (λ vs. reader.RangeFound s t.root r vs entries) (sym p.left_is) by) in
            let spelled : AllByRecursion (IsSpelled t.schema) entries =
            rows_spelled at items S base end s.stamp s.own f keeps past m b me low a free t.schema
            t.root known r p.left entries over (rises_left end m p.left p.right rise2)
            (latched_left at p.left p.right latched2) in (
              p.left,
              p.right,
              first,
              more,
              p.whole,
              record {
                items = entries;
                found = over;
                decoded = decoded_all decoder decodes t.schema entries first spelled told;
              },
              ranges_there rs p.right more
                  (subst (λ vs. reader.RangesFound decoder s t rs vs more) (sym p.right_is) others)
                  (rises_right end m p.left p.right rise2)
                  (latched_right at p.left p.right latched2),
              are,
            )

    -- of a table that was looked up before
    module _ (from m : ℕ) (b : base ≤ from) (fm : from ≤ m) (me : m ≤ end)
        (low : s.stamp ≤ (S from).last)
      where
        pub rows_there : (a : Key) (table : Option Table) (named : List Visit) → Rises m from named
            → Latched at named → NameFound (image_at at) s.stamp s.own a named (pair_of table)
            → (rs : List KeyRange) (us : List Visit) (rows : List Row)
            → reader.RowsFound decoder s table rs (map (image_at at) us) rows → Rises end m us
            → Latched at us → TableRows (image_at at) s.stamp s.own (pair_of table) rs us rows
        rows_there a None named rise latched name rs us rows (none, empty) rise2 latched2 =
            (empty_uses (image_at at) s.stamp s.own us none, empty)
        rows_there a (Some t) named rise latched name rs us rows told rise2 latched2 =
            let k = table_there at items S base end s.stamp s.own f keeps past from m b fm me low a
            named
            t.schema t.root name rise latched in
            ranges_there m (le_trans b fm) me (le_trans low (past.rises from m b fm me)) a
            (not_word at items S base end s.stamp s.own f keeps past d is a
            (schema_row t.schema) k.1) t
            k.0 rs us rows told rise2 latched2

        pub rights_there : (a : Key) (table : Option Table) (named : List Visit)
            → Rises m from named
            → Latched at named → NameFound (image_at at) s.stamp s.own a named (pair_of table)
            → (st : Stmt) (schemas : List Schema) (lefts : List Row) (us : List Visit)
            (lists : List (List Row))
            → reader.RightsFound decoder s st schemas table lefts (map (image_at at) us) lists
            → Rises end m us → Latched at us
            → RightRows (image_at at) s.stamp s.own (pair_of table)
            (λ l. ranges schemas st (Some l)) lefts us lists
        rights_there a table named rise latched name st schemas [] us lists (none, empty) rise2
            latched2 = (empty_uses (image_at at) s.stamp s.own us none, empty)
        rights_there a table named rise latched name st schemas (l ∷ ls) us lists
            (here, rest, first, more, parts, told, others, are) rise2 latched2 =
            let p : Parted (image_at at) us here rest =
            parted (image_at at) s.stamp s.own us here rest parts in
            let rise3 : Rises end m (p.left ++ p.right) =
            subst (λ vs. Rises end m vs) p.whole rise2 in
            let latched3 : Latched at (p.left ++ p.right) =
            subst (λ vs. Latched at vs) p.whole latched2 in (
              p.left,
              p.right,
              first,
              more,
              p.whole,
              rows_there a table named rise latched name (ranges schemas st (Some l)) p.left first
                  (subst (λ vs. reader.RowsFound decoder s table
                  (ranges schemas st (Some l)) vs first)
                  (sym p.left_is) told) (rises_left end m p.left p.right rise3)
                  (latched_left at p.left p.right latched3),
              rights_there a table named rise latched name st schemas ls p.right more
                  (subst (λ vs. reader.RightsFound decoder s st schemas table ls vs more)
                  (sym p.right_is)
                  others) (rises_right end m p.left p.right rise3)
                  (latched_right at p.left p.right latched3),
              are,
            )

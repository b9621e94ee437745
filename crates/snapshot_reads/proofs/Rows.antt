-- The rows that are found in a range of a table are the content's.
use Rattle.std.proofs.Common.{◌≡◌, ◌≢◌, ◌≤◌, ◌+◌, ℕ, Bool, true, false, List, [], ◌∷◌, ◌++◌, if◌then◌else◌, flat_map, option_to_list, Option, Some, None, refl, sym, ap, subst, ◌∙◌, inl, inr, le_trans}
use Rattle.std.specs.List.{AllByRecursion}
use Rattle.std.specs.Ordering.{is_eq}
use Rattle.std.specs.Str.{bytes_eq}
use Rattle.std.proofs.lemmas.Map.Text.{is_eq-slice_cmp}
use Rattle.rm_base.specs.declared.key_range.KeyRange.{KeyRange}
use Rattle.page_view.specs.declared.leaf.LeafItem.{LeafItem}
use Rattle.page_view.specs.Keys.{key_in, key_cmp, keys_of}
use Rattle.bplus_tree.specs.Walk.{in_range}
use Rattle.bplus_tree.proofs.Order.{all_join}
use Rattle.tree_timeline.specs.Found.{InRange, of_key}
use Rattle.tree_timeline.specs.Timeline.{Timeline}
use Rattle.tree_timeline.specs.Types.{Bound, Items, Key, PagesAt}
use Rattle.tree_timeline.specs.Walks.{Visit}
use Rattle.sql_values.specs.declared.schemas.Schema.{Schema}
use Rattle.row_codec.specs.Records.{IsRecord}
use Rattle.row_codec.proofs.ReadingLaws.{one_row}
use Rattle.sql_database.specs.Catalog.{schema_of, schema_row}
use Rattle.sql_database.proofs.CatalogLaws.{says}
use Rattle.version_store.specs.Contents.{Content, catalog_name, newest_root}
use Rattle.version_store.specs.Stores.{Store, catalog}
use Rattle.version_store.specs.Versions.{Row, Version, seen}
use Rattle.version_store.proofs.NameLaws.{chain_some}
use Rattle.version_store.proofs.Places.{bytes_same}
use Rattle.held_versions.specs.Tables.{SaysRow, SaysTable}
use Rattle.held_versions.specs.Versions.{VersionsAt}
use Rattle.range_reader.specs.Uses.{FoundBy, live}
use Rattle.snapshot_reads.specs.Times.{from_on, image_at, Latched, Rises}
use Rattle.snapshot_reads.specs.Keeping.{Keeps}
use Rattle.snapshot_reads.specs.Pasts.{Past}
use Rattle.snapshot_reads.specs.Told.{Tells, TellsEach, TellsRange, VersionsBy}
use Rattle.snapshot_reads.specs.Tables.{AreRowsOf, Decoded, Knows, RowsFound}
use Rattle.snapshot_reads.proofs.Ranges.{range_of}
use Rattle.snapshot_reads.proofs.States.{low_root, numbered_by, stamps_of, stays_known}
use Rattle.snapshot_reads.proofs.Telling.{tells_range}

-- no item has a key that is none of theirs
none_of_key : (k : Key) (xs : Items) → AllByRecursion (λ other. other ≢ k) (keys_of xs)
    → of_key k xs ≡ []
none_of_key k [] a = refl
none_of_key k (x ∷ xs) a = go (none_of_key k xs a.1) (is_eq (key_cmp (key_in x) k)) refl
  where
    go : of_key k xs ≡ [] → (b : Bool) → is_eq (key_cmp (key_in x) k) ≡ b → of_key k (x ∷ xs) ≡ []
    go ih true e = absurd (a.0 (bytes_same (key_in x) k (sym (is_eq-slice_cmp (key_in x) k) ∙ e)))
    go ih false e = ap (λ b. if b then x ∷ of_key k xs else of_key k xs) e ∙ ih

keys_inside : (low high : Bound) (xs : Items) → AllByRecursion (λ x. in_range low high x ≡ true) xs
    → AllByRecursion (InRange low high) (keys_of xs)
keys_inside low high [] a = tt
keys_inside low high (x ∷ xs) a = (range_of low high x a.0, keys_inside low high xs a.1)

abbrev pub rows_by : (Key → Option Row) → List Key → List Row
rows_by row keys = flat_map (λ k. option_to_list (row k)) keys

-- an item that spells a row
abbrev pub IsSpelled : Schema → LeafItem → Type 0
IsSpelled s item = (r : Row) × IsRecord s r item.key item.value

live_spelled : (s : Schema) (vs : List Version) (stamp : ℕ → ℕ) (n : ℕ) (own : Option ℕ)
    (r : Option LeafItem) → Tells (SaysRow s) vs stamp n own r
    → AllByRecursion (IsSpelled s) (live r)
live_spelled s vs stamp n own None t = tt
live_spelled s vs stamp n own (Some item) t = by_version t.says
  where
    by_version : SaysRow s item t.version
        → AllByRecursion (IsSpelled s) (if item.deleted then [] else item ∷ [])
    by_version (inl (gone, none)) =
        subst (λ c. AllByRecursion (IsSpelled s) (if c then [] else item ∷ [])) (sym gone) tt
    by_version (inr (lives, (r0, is_row, row))) =
        subst (λ c. AllByRecursion (IsSpelled s) (if c then [] else item ∷ [])) (sym lives)
        ((r0, is_row), tt)

each_spelled : (s : Schema) (versions : VersionsBy) (S : ℕ → Store) (n : ℕ) (own : Option ℕ)
    (from end : ℕ) (xs : Items) (found : List LeafItem)
    → TellsEach (SaysRow s) versions S n own from end xs found
    → AllByRecursion (IsSpelled s) found
each_spelled s versions S n own from end [] found each =
    subst (λ g. AllByRecursion (IsSpelled s) g) (sym each) tt
each_spelled s versions S n own from end (x ∷ xs) found
    (r, more, j, lo, hi, tells, rest, is) =
    subst (λ g. AllByRecursion (IsSpelled s) g) (sym is)
    (all_join (IsSpelled s) (live r) more
    (live_spelled s (versions j (key_in x)) (S j).stamp n own r tells)
    (each_spelled s versions S n own from end xs more rest))

module _ (at : PagesAt) (items : ℕ → ℕ → Items) (S : ℕ → Store) (base end n : ℕ) (own : Option ℕ)
    (f : Content) (keeps : Keeps at items S base end) (past : Past S base end n own f)
    (from : ℕ) (b : base ≤ from) (l : from ≤ end) (low : n ≤ (S from).last) (a : Key)
    (free : bytes_eq a catalog_name ≡ false) (s : Schema) (root : ℕ)
    (known : Knows (S from) own a s root)
  where
    abbrev rows_of : VersionsBy
    rows_of j k = (S j).rows root k

    known_at : (j : ℕ) → from ≤ j → j ≤ end → Knows (S j) own a s root
    known_at j x y = stays_known at items S base end n own f keeps past from j b x y a s root known

    seen_rows : (j : ℕ) → from ≤ j → j ≤ end → (k : Key)
        → seen (rows_of j k) (S j).stamp n own ≡ f a k
    seen_rows j x y k =
        let kn = known_at j x y in
        ap (λ vs. seen vs (S j).stamp n own)
        (sym (chain_some (S j) a k root free (ap newest_root kn.only ∙ ap Some kn.root_is)))
        ∙ past.read j (le_trans b x) y (le_trans low (past.rises from j b x y)) a k

    held_rows : (j : ℕ) → from ≤ j → j ≤ end → (k : Key)
        → VersionsAt (SaysRow s) (at j) (of_key k (items j root)) (rows_of j k)
    held_rows j x y k =
        let kn = known_at j x y in
        let h : VersionsAt (SaysRow (schema_of (schema_row s))) (at j)
        (of_key k (items j (Version.root kn.version))) ((S j).rows (Version.root kn.version) k) =
        (keeps.holds j (le_trans b x) y).rows a k kn.version (schema_row s) kn.only kn.row_is in
        subst (λ r. VersionsAt (SaysRow s) (at j) (of_key k (items j r))
        ((S j).rows r k)) kn.root_is
        (subst (λ (t : Schema). VersionsAt (SaysRow t) (at j)
        (of_key k (items j (Version.root kn.version))) ((S j).rows (Version.root kn.version) k))
        (says s) h)

    rows_are : (xs : Items) (found : List LeafItem) (rs : List Row)
        → TellsEach (SaysRow s) rows_of S n own from end xs found → Decoded s found rs
        → rs ≡ rows_by (f a) (keys_of xs)
    rows_are [] found rs each decoded = subst (λ g. Decoded s g rs) each decoded
    rows_are (x ∷ xs) found rs (r, more, j, lo, hi, tells, rest, is) decoded =
        by_seen r tells (subst (λ g. Decoded s g rs) is decoded) (λ qs. rows_are xs more qs rest)
      where
        others : List Row
        others = rows_by (f a) (keys_of xs)

        value : f a (key_in x) ≡ seen (rows_of j (key_in x)) (S j).stamp n own
        value = sym (seen_rows j lo hi (key_in x))

        by_seen : (r : Option LeafItem)
            → Tells (SaysRow s) (rows_of j (key_in x)) (S j).stamp n own r
            → Decoded s (live r ++ more) rs
            → ((qs : List Row) → Decoded s more qs → qs ≡ rows_by (f a) (keys_of xs))
            → rs ≡ option_to_list (f a (key_in x)) ++ rows_by (f a) (keys_of xs)
        by_seen None t d rec =
            rec rs d ∙ sym (ap (λ o. option_to_list o ++ rows_by (f a) (keys_of xs)) (value ∙ t))
        by_seen (Some item) t d rec = by_version t.says d
          where
            by_version : SaysRow s item t.version
                → Decoded s ((if item.deleted then [] else item ∷ []) ++ more) rs
                → rs ≡ option_to_list (f a (key_in x)) ++ rows_by (f a) (keys_of xs)
            by_version (inl (gone, none)) d2 =
                rec rs (subst (λ c. Decoded s ((if c then [] else item ∷ []) ++ more) rs) gone d2)
                ∙ sym (ap (λ o. option_to_list o ++ rows_by (f a) (keys_of xs))
                (value ∙ (t.row ∙ none)))
            by_version (inr (lives, (r0, is_row, row))) d2 =
                go (subst (λ c. Decoded s ((if c then [] else item ∷ []) ++ more) rs) lives d2)
              where
                go : Decoded s (item ∷ more) rs
                    → rs ≡ option_to_list (f a (key_in x)) ++ rows_by (f a) (keys_of xs)
                go (r1, qs, spelt, later, whole) =
                    whole ∙ (ap (λ q. r1 ∷ q) (rec qs later)
                    ∙ (ap (λ q. q ∷ rows_by (f a) (keys_of xs))
                    (one_row s r1 r0 item.key item.value spelt is_row)
                    ∙ sym (ap (λ o. option_to_list o ++ rows_by (f a) (keys_of xs))
                    (value ∙ (t.row ∙ row)))))

    -- what is told of a range of the table
    pub range_told : (range : KeyRange) (us : List Visit) (found : List LeafItem)
        → FoundBy (image_at at) n own root range.low range.high us found → Rises end from us
        → Latched at us
        → TellsRange (SaysRow s) rows_of S n own from end range.low range.high found
    range_told range us found fb rise latched =
        let root_is = Knows.root_is known in
        let small : Version.root (Knows.version known) ≤ 32767 =
        low_root at from (of_key a (items from catalog)) (Knows.version known)
        (subst (λ vs. VersionsAt SaysTable (at from) (of_key a (items from catalog)) vs)
        (Knows.only known) ((keeps.holds from b l).tables a)) in
        tells_range at S base end n own past.later
        (stamps_of at items S base end n own f keeps past)
        (numbered_by at items S base end n own f keeps past) keeps.undo (SaysRow s) rows_of from b
        (λ j x y. le_trans low (past.rises from j b x y)) range.low range.high root items
        (subst (λ r. r ≤ 32767) root_is small)
        (subst (λ r. Timeline (from_on at from) r from (λ t. items (from + t) r)) root_is
        (keeps.trees from a (Knows.version known) b l (Knows.only known)))
        held_rows us found fb rise latched

    -- the rows found are the content's in the range
    pub rows_there : (range : KeyRange) (us : List Visit) (rs : List Row)
        → RowsFound (image_at at) n own root s range us rs → Rises end from us → Latched at us
        → AreRowsOf (f a) range.low range.high rs
    rows_there range us rs t rise latched =
        let p : TellsRange (SaysRow s) rows_of S n own from end range.low range.high t.items =
        range_told range us t.items t.found rise latched in
        record {
          keys = keys_of p.items;
          ascend = p.ascend;
          inside = keys_inside range.low range.high p.items p.inside;
          rows_are = rows_are p.items t.items rs p.each t.decoded;
          absent = λ k i none.
              let y = p.absent k i (none_of_key k p.items none) in
              sym (seen_rows y.0 y.1 y.2 k) ∙ ap (λ vs. seen vs (S y.0).stamp n own) y.3;
        }

    -- what is found in a range is spelled
    pub rows_spelled : (range : KeyRange) (us : List Visit) (found : List LeafItem)
        → FoundBy (image_at at) n own root range.low range.high us found → Rises end from us
        → Latched at us → AllByRecursion (IsSpelled s) found
    rows_spelled range us found fb rise latched =
        let p : TellsRange (SaysRow s) rows_of S n own from end range.low range.high found =
        range_told range us found fb rise latched in
        each_spelled s rows_of S n own from end p.items found p.each

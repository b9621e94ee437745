-- What a statement finds of a name in the catalog.
use Rattle.std.proofs.Common.{◌≡◌, ◌≤◌, ℕ, true, false, List, [], ◌∷◌, ◌++◌, if◌then◌else◌, Option, Some, None, refl, sym, ap, subst, ◌∙◌, arith, ◌⊎◌, inl, inr, le_trans}
use Rattle.std.specs.List.{AllByRecursion}
use Rattle.std.specs.Ordering.{is_eq}
use Rattle.std.specs.declared.cmp.Ordering.TheVariants.{Less}
use Rattle.std.proofs.lemmas.Map.Text.{is_eq-slice_cmp}
use Rattle.page_view.specs.declared.leaf.LeafItem.{LeafItem}
use Rattle.page_view.specs.Keys.{key_in, key_cmp}
use Rattle.bplus_tree.specs.Walk.{in_range}
use Rattle.bplus_tree.proofs.Order.{Sorted, sorted_from, all_map}
use Rattle.tree_timeline.specs.Found.{InRange, of_key}
use Rattle.tree_timeline.specs.Types.{Items, Key, PagesAt}
use Rattle.tree_timeline.specs.Walks.{Visit}
use Rattle.sql_values.specs.declared.schemas.Schema.{Schema}
use Rattle.row_codec.specs.Records.{IsRecord}
use Rattle.row_codec.proofs.ReadingLaws.{one_row}
use Rattle.sql_catalog.specs.Catalog.{catalog_row}
use Rattle.sql_catalog.proofs.Spelled.{one_table}
use Rattle.sql_database.specs.Catalog.{schema_row}
use Rattle.version_store.specs.Contents.{Content, catalog_name}
use Rattle.version_store.specs.Stores.{Store, catalog}
use Rattle.version_store.specs.Versions.{Version, seen}
use Rattle.version_store.proofs.Places.{bytes_of}
use Rattle.held_versions.specs.Tables.{SaysTable, catalog_schema}
use Rattle.range_reader.specs.Uses.{FoundBy, live}
use Rattle.snapshot_reads.specs.Times.{image_at, Latched, Rises}
use Rattle.snapshot_reads.specs.Keeping.{Keeps}
use Rattle.snapshot_reads.specs.Pasts.{Past}
use Rattle.snapshot_reads.specs.Told.{Shows, Tells, TellsEach, TellsRange, VersionsBy}
use Rattle.snapshot_reads.specs.Tables.{Knows, NoTableFound, TableFound}
use Rattle.snapshot_reads.proofs.Ranges.{alone_there, range_of, same_key}
use Rattle.snapshot_reads.proofs.States.{numbered_by, only_version, seen_names, stamps_of, stays_known}
use Rattle.snapshot_reads.proofs.Telling.{tells_range}

module _ (at : PagesAt) (items : ℕ → ℕ → Items) (S : ℕ → Store) (base end n : ℕ) (own : Option ℕ)
    (f : Content) (keeps : Keeps at items S base end) (past : Past S base end n own f)
  where
    abbrev pub names_by : VersionsBy
    names_by j k = (S j).rows catalog k

    pub names_told : (from m : ℕ) → base ≤ from → from ≤ end → m ≤ end → n ≤ (S from).last
        → (a : Key)
        (us : List Visit) (found : List LeafItem)
        → FoundBy (image_at at) n own catalog (Some a) (Some a) us found
        → Rises m from us → Latched at us
        → TellsRange SaysTable names_by S n own from m (Some a) (Some a) found
    names_told from m b l me low a us found fb rise latched =
        tells_range at S base m n own (λ i j t x y z. past.later i j t x y (le_trans z me))
        (λ j t x y. stamps_of at items S base end n own f keeps past j t x (le_trans y me))
        (λ j q x y. numbered_by at items S base end n own f keeps past j q x (le_trans y me))
        (λ i j x y z. keeps.undo i j x y (le_trans z me)) SaysTable names_by from b
        (λ j x y. le_trans low (past.rises from j b x (le_trans y me))) (Some a)
        (Some a) catalog items
        (omega arith) (keeps.names from b l)
        (λ j x y k. (keeps.holds j (le_trans b x) (le_trans y me)).tables k) us found fb rise
        latched

    -- either no row of the catalog is seen and nothing is found, or what is found first is what is
    -- seen
    abbrev pub Named : ℕ → ℕ → Key → List LeafItem → Type 0
    Named from m a found =
        ((f catalog_name a ≡ None) × (found ≡ []))
        ⊎ ((item : LeafItem) × (more : List LeafItem) × (found ≡ item ∷ more)
        × (j : ℕ) × (from ≤ j) × (j ≤ m)
        × Shows SaysTable ((S j).rows catalog a) (S j).stamp n own item)

    pub named : (from m : ℕ) → base ≤ from → m ≤ end → n ≤ (S from).last → (a : Key)
        (found : List LeafItem) → TellsRange SaysTable names_by S n own from m (Some a)
        (Some a) found
        → Named from m a found
    named from m b me low a found p =
        by_items p.items (sorted_from p.items p.ascend)
        (all_map (λ x. in_range (Some a) (Some a) x ≡ true) (λ x. key_in x ≡ a) p.items
        (λ x e. same_key a (key_in x) (range_of (Some a) (Some a) x e)) p.inside)
        p.each p.absent
      where
        last_up : (j : ℕ) → from ≤ j → j ≤ m → n ≤ (S j).last
        last_up j x y = le_trans low (past.rises from j b x (le_trans y me))

        by_items : (xs : Items) → Sorted xs → AllByRecursion (λ x. key_in x ≡ a) xs
            → TellsEach SaysTable names_by S n own from m xs found
            → ((k : Key) → InRange (Some a) (Some a) k → of_key k xs ≡ []
            → (j : ℕ) × (from ≤ j) × (j ≤ m) × ((S j).rows catalog k ≡ []))
            → Named from m a found
        by_items [] s keys each absent =
            let x = absent a (alone_there a) refl in
            inl (
              sym (ap (λ vs. seen vs (S x.0).stamp n own) (sym x.3)
                  ∙ seen_names at items S base end n own f keeps past x.0 (le_trans b x.1)
                  (le_trans x.2 me)
                  (last_up x.0 x.1 x.2) a),
              each,
            )
        by_items (x ∷ (y ∷ xs)) s keys each absent =
            absurd (let l : key_cmp (key_in x) (key_in y) ≡ Less = s.0.0 in
            let q : is_eq (key_cmp (key_in x) (key_in y)) ≡ true =
            is_eq-slice_cmp (key_in x) (key_in y)
            ∙ bytes_of (key_in x) (key_in y) (keys.0 ∙ sym keys.1.0) in
            let z : false ≡ true = sym (ap is_eq l) ∙ q in
            cc)
        by_items (x ∷ []) s keys (r, more, j, lo, hi, tells, rest, is) absent = by_seen r tells is
          where
            by_seen : (r : Option LeafItem)
                → Tells SaysTable ((S j).rows catalog (key_in x)) (S j).stamp n own r
                → found ≡ live r ++ more → Named from m a found
            by_seen None t e =
                inl (
                  sym (seen_names at items S base end n own f keeps past j (le_trans b lo)
                      (le_trans hi me) (last_up j lo hi) a)
                      ∙ subst (λ k. seen ((S j).rows catalog k) (S j).stamp n own ≡ None) keys.0 t,
                  e
                      ∙ rest,
                )
            by_seen (Some item) t e =
                inr (
                  item,
                  more,
                  e ∙ ap (λ d. (if d then [] else item ∷ []) ++ more) t.says.lives,
                  j,
                  lo,
                  hi,
                  subst (λ k. Shows SaysTable ((S j).rows catalog k)
                      (S j).stamp n own item) keys.0 t,
                )

    -- a table that is found is there, with that root
    pub table_there : (from m : ℕ) → base ≤ from → from ≤ m → m ≤ end → n ≤ (S from).last
        → (a : Key) (us : List Visit) (s : Schema) (root : ℕ)
        → TableFound (image_at at) n own a us s root → Rises m from us → Latched at us
        → Knows (S m) own a s root × (f catalog_name a ≡ Some (schema_row s))
    table_there from m b fm me low a us s root t rise latched =
        go (named from m b me low a (t.entry ∷ t.others)
        (names_told from m b (le_trans fm me) me low a us
        (t.entry ∷ t.others) t.found rise latched))
      where
        same_schema : (item : LeafItem) (v : Version) → t.entry ≡ item → (says : SaysTable item v)
            → (says.schema ≡ s) × (v.root ≡ root)
        same_schema item v e says =
            let spelt : IsRecord catalog_schema (catalog_row s root) item.key item.value =
            subst (λ (i : LeafItem). IsRecord catalog_schema (catalog_row s root) i.key i.value) e
            t.spells.spelt in
            one_table says.schema s v.root root says.spells.bounded t.spells.bounded
            (one_row catalog_schema (catalog_row says.schema v.root) (catalog_row s root) item.key
            item.value says.spells.spelt spelt)

        first : (x y : LeafItem) (xs ys : List LeafItem) → x ∷ xs ≡ y ∷ ys → x ≡ y
        first x y xs ys e = cc

        same_root : (x y : ℕ) → Some x ≡ Some y → x ≡ y
        same_root x y e = cc

        go : Named from m a (t.entry ∷ t.others)
            → Knows (S m) own a s root × (f catalog_name a ≡ Some (schema_row s))
        go (inl (none, no_item)) = absurd (let x : t.entry ∷ t.others ≡ [] = no_item in cc)
        go (inr (item, more, is, j, lo, hi, shows)) =
            let same = same_schema item shows.version
            (first t.entry item t.others more is) shows.says in
            let sees : seen ((S j).rows catalog a) (S j).stamp n own ≡ Some (schema_row s) =
            shows.row ∙ (shows.says.row ∙ ap (λ x. Some (schema_row x)) same.0) in
            let b2 : base ≤ j = le_trans b lo in
            let e2 : j ≤ end = le_trans hi me in
            let one = only_version ((S j).rows catalog a) (S j).stamp n own (schema_row s)
            (past.lone j b2 e2 a) sees in
            let roots : Some (Version.root one.version) ≡ Some (Version.root shows.version) =
            sym one.root ∙ shows.root in (
              stays_known at items S base end n own f keeps past j m b2 hi me a s root (record {
                version = one.version;
                only = one.only;
                fixed = one.fixed;
                root_is = same_root (Version.root one.version) (Version.root shows.version) roots
                    ∙ same.1;
                row_is = one.row_is;
              }),
              sym (seen_names at items S base end n own f keeps past j b2 e2
                  (le_trans low (past.rises from j b lo e2)) a) ∙ sees,
            )

    -- where nothing is found no table is there
    pub no_table_there : (from m : ℕ) → base ≤ from → from ≤ m → m ≤ end → n ≤ (S from).last
        → (a : Key) (us : List Visit) → NoTableFound (image_at at) n own a us
        → Rises m from us → Latched at us → f catalog_name a ≡ None
    no_table_there from m b fm me low a us t rise latched =
        go (named from m b me low a []
        (names_told from m b (le_trans fm me) me low a us [] t rise latched))
      where
        go : Named from m a [] → f catalog_name a ≡ None
        go (inl h) = h.0
        go (inr h) = absurd (let e : [] ≡ h.0 ∷ h.1 = h.2 in cc)

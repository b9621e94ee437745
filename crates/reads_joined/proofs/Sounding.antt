-- What stands at a snapshot is sound: each of its rows is spelled on the pages.
use Rattle.std.proofs.Common.{◌≡◌, ◌≤◌, ℕ, Bool, true, false, List, [], ◌∷◌, if◌then◌else◌, ◌||◌, option_map, Option, Some, None, refl, sym, ap, subst, ◌∙◌, inl, inr}
use Rattle.std.specs.Prelude.{codes}
use Rattle.std.specs.List.{AllByRecursion}
use Rattle.std.specs.Ordering.{is_eq}
use Rattle.std.specs.Str.{bytes_eq}
use Rattle.std.proofs.lemmas.Map.Text.{is_eq-slice_cmp}
use Rattle.sql_values.specs.Tables.{table_named}
use Rattle.page_view.specs.declared.leaf.LeafItem.{LeafItem}
use Rattle.page_view.specs.Leaf.{leaf_of}
use Rattle.bplus_tree.proofs.Order.{all_map}
use Rattle.tree_timeline.specs.Found.{of_key}
use Rattle.tree_timeline.specs.Types.{Items, Key, Pages, PagesAt}
use Rattle.sql_values.specs.declared.schemas.Schema.{Schema}
use Rattle.sql_database.specs.Catalog.{schema_of}
use Rattle.sql_database.specs.Database.{Database, row_key}
use Rattle.sql_engine.specs.Sound.{IsRow, IsSound}
use Rattle.undo_versions.specs.Chains.{GoesOn, version_before}
use Rattle.version_store.specs.Contents.{Content, catalog_name, newest_root}
use Rattle.version_store.specs.Stores.{Store, catalog}
use Rattle.version_store.specs.Versions.{Row, Version, is_own, seen, visible}
use Rattle.version_store.proofs.NameLaws.{chain_some}
use Rattle.version_store.proofs.Places.{bytes_same, bytes_self}
use Rattle.held_versions.specs.Tables.{SaysRow}
use Rattle.held_versions.specs.Versions.{Versions, VersionsAt}
use Rattle.history.specs.Databases.{AllAbove, Ascends, StandsFor, under}
use Rattle.snapshot_reads.specs.Keeping.{Keeps}
use Rattle.snapshot_reads.specs.Pasts.{Past}
use Rattle.snapshot_reads.proofs.States.{Only, only_version, seen_names}

-- a version that is seen in a chain is a row of the schema
seen_says : (pages : Pages) (s : Schema) (stamp : ℕ → ℕ) (n : ℕ) (own : Option ℕ) (r : Row)
    (vs : List Version) (item : LeafItem) → Versions (SaysRow s) pages item vs
    → seen vs stamp n own ≡ Some r → IsRow s r
seen_says pages s stamp n own r [] item held e = absurd held
seen_says pages s stamp n own r (v ∷ vs) item (has, more) e =
    by_test (is_own own v.trx || visible (stamp v.trx) n) e
    (λ old h q. seen_says pages s stamp n own r vs old h q)
  where
    none_some : (ws : List Version) → ws ≡ [] → seen ws stamp n own ≡ Some r → ⊥
    none_some ws q f =
        let x : None ≡ Some r = sym (ap (λ zs. seen zs stamp n own) q) ∙ f in cc

    by_row : SaysRow s item v → v.row ≡ Some r → IsRow s r
    by_row (inl (gone, none)) f = absurd (let x : None ≡ Some r = sym none ∙ f in cc)
    by_row (inr (lives, (r0, is_record, row))) f =
        let same : r0 ≡ r = (let x : Some r0 ≡ Some r = sym row ∙ f in cc) in
        subst (λ q. IsRow s q) same (record { fits = is_record.fits; ints = is_record.ints })

    by_test : (b : Bool) → (if b then v.row else seen vs stamp n own) ≡ Some r
        → ((old : LeafItem) → Versions (SaysRow s) pages old vs → seen vs stamp n own ≡ Some r
        → IsRow s r)
        → IsRow s r
    by_test true f rec = by_row has.says f
    by_test false f rec = older (version_before pages item) more
      where
        older : (o : Option LeafItem)
            → GoesOn (λ old. Versions (SaysRow s) pages old vs) (vs ≡ []) o → IsRow s r
        older None h = absurd (none_some vs h f)
        older (Some old) h = rec old h f

seen_at : (pages : Pages) (s : Schema) (stamp : ℕ → ℕ) (n : ℕ) (own : Option ℕ) (r : Row)
    (xs : Items) (vs : List Version) → VersionsAt (SaysRow s) pages xs vs
    → seen vs stamp n own ≡ Some r → IsRow s r
seen_at pages s stamp n own r [] vs held e =
    absurd (let x : None ≡ Some r = sym (ap (λ zs. seen zs stamp n own) held) ∙ e in cc)
seen_at pages s stamp n own r (x ∷ []) vs held e =
    seen_says pages s stamp n own r vs (leaf_of x) held e
seen_at pages s stamp n own r (x ∷ (y ∷ xs)) vs held e = absurd held

-- each row stands under its key
each_under : (key_of : Row → Key) (rs : List Row) → Ascends key_of rs
    → AllByRecursion (λ r. under key_of (key_of r) rs ≡ Some r) rs
each_under key_of [] a = tt
each_under key_of (r ∷ rs) a = (
  ap (λ b. if b then Some r else under key_of (key_of r) rs) (bytes_self (key_of r)),
  rest rs a.0 (each_under key_of rs a.1),
)
  where
    rest : (qs : List Row) → AllAbove key_of (key_of r) qs
        → AllByRecursion (λ q. under key_of (key_of q) rs ≡ Some q) qs
        → AllByRecursion (λ q. under key_of (key_of q) (r ∷ rs) ≡ Some q) qs
    rest [] a b = tt
    rest (q ∷ qs) a b = (
      ap (λ c. if c then Some r else under key_of (key_of q) rs)
          (sym (is_eq-slice_cmp (key_of r) (key_of q)) ∙ ap is_eq a.0) ∙ b.0,
      rest qs a.1 b.1,
    )

word_free : (f : Content) (d : Database) → StandsFor f d
    → table_named d.schemas (codes "table") ≡ None
unfolding catalog_name
word_free f d is = is.tables catalog_name ∙ ap (option_map schema_of) is.free

pub sound_there : (at : PagesAt) (items : ℕ → ℕ → Items) (S : ℕ → Store) (base end n : ℕ)
    (own : Option ℕ) (f : Content) → Keeps at items S base end → Past S base end n own f
    → (d : Database) → StandsFor f d → (j : ℕ) → base ≤ j → j ≤ end → n ≤ (S j).last → IsSound d
sound_there at items S base end n own f keeps past d is j b l low =
    record {
      rows = λ t s named. by_word t s named (bytes_eq t catalog_name) refl;
      word = word_free f d is;
    }
  where
    row_of : (t : Key) (s : Schema) (o : Option Row) → f catalog_name t ≡ o
        → table_named d.schemas t ≡ Some s
        → (row : Row) × (f catalog_name t ≡ Some row) × (schema_of row ≡ s)
    row_of t s None e named =
        absurd (let x : None ≡ Some s =
        sym (is.tables t ∙ ap (option_map schema_of) e) ∙ named in cc)
    row_of t s (Some row) e named = (
      row,
      e,
      (let x : Some (schema_of row) ≡ Some s =
          sym (is.tables t ∙ ap (option_map schema_of) e) ∙ named in cc),
    )

    by_word : (t : Key) (s : Schema) → table_named d.schemas t ≡ Some s → (b : Bool)
        → bytes_eq t catalog_name ≡ b → AllByRecursion (IsRow s) (d.tables t)
    by_word t s named true w =
        absurd (let x : None ≡ Some s =
        sym (is.tables t ∙ ap (option_map schema_of)
        (ap (f catalog_name) (bytes_same t catalog_name w) ∙ is.free)) ∙ named in cc)
    by_word t s named false nw =
        let r = row_of t s (f catalog_name t) refl named in
        let sees : seen ((S j).rows catalog t) (S j).stamp n own ≡ Some r.0 =
        seen_names at items S base end n own f keeps past j b l low t ∙ r.1 in
        let one : Only ((S j).rows catalog t) (S j).stamp n own r.0 =
        only_version ((S j).rows catalog t) (S j).stamp n own r.0 (past.lone j b l t) sees in
        let lists = is.rows t nw in
        let root : ℕ = Version.root one.version in
        all_map (λ x. under (row_key d t) (row_key d t x) (d.tables t) ≡ Some x) (IsRow s)
        (d.tables t)
        (λ x e. let k : Key = row_key d t x in
        let stands : f t k ≡ Some x = sym (lists.1 k) ∙ e in
        let shows : seen ((S j).rows root k) (S j).stamp n own ≡ Some x =
        ap (λ vs. seen vs (S j).stamp n own)
        (sym (chain_some (S j) t k root nw (ap newest_root one.only)))
        ∙ (past.read j b l low t k ∙ stands) in
        subst (λ (q : Schema). IsRow q x) r.2
        (seen_at (at j) (schema_of r.0) (S j).stamp n own x (of_key k (items j root))
        ((S j).rows root k)
        ((keeps.holds j b l).rows t k one.version r.0 one.only one.row_is) shows))
        (each_under (row_key d t) (d.tables t) lists.0)

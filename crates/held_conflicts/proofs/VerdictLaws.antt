-- A test of keys tells the store's verdict.
use Rattle.std.proofs.Common.{◌≡◌, ℕ, Bool, if◌then◌else◌, List, [], ◌∷◌, ◌++◌, filter, slice_get, Option, inl, inr, refl, sym, ◌∙◌, ap, subst, append_assoc}
use Rattle.page_image.specs.Image.{Image}
use Rattle.page_view.specs.declared.leaf.LeafItem.{LeafItem}
use Rattle.bplus_tree.specs.Tree.{Tree}
use Rattle.bplus_tree.proofs.Order.{all_left, all_right}
use Rattle.sql_database.specs.Catalog.{schema_of}
use Rattle.version_store.specs.Contents.{at_root, catalog_name, newest_root}
use Rattle.version_store.specs.Stores.{Store, catalog}
use Rattle.version_store.specs.Versions.{Version, seen_root}
use Rattle.version_store.proofs.Places.{bytes_of}
use Rattle.history.specs.Clusters.{in_the_way}
use Rattle.range_reader.specs.declared.fetch.Snapshot.{Snapshot}
use Rattle.held_versions.specs.Counting.{HasStamps}
use Rattle.held_versions.specs.Holds.{Holds}
use Rattle.held_versions.specs.Tables.{SaysRow, SaysTable}
use Rattle.held_versions.specs.Undoing.{first_of}
use Rattle.held_versions.specs.Versions.{VersionsAt, of_key}
use Rattle.key_conflicts.specs.declared.verdict.Met.{Met}
use Rattle.key_conflicts.specs.Judged.{EachTested, KeyTested, IsLeastOf, clashing, standing}
use Rattle.key_conflicts.specs.Testing.{Key, item_of}
use Rattle.key_conflicts.proofs.JudgedLaws.{tells_judged}
use Rattle.held_conflicts.specs.Verdicts.{IsTableRoot, Stand, clashes, is_there, TestsTellVerdicts, ChangesAreTaken}
use Rattle.held_conflicts.proofs.LeafLaws.{leaf_has}
use Rattle.held_conflicts.proofs.MeetingLaws.{IsNewest, newest, SaysLife, table_lives, row_lives, IsMet, meets_newest}

-- ---- a tree whose items have the versions of the store

-- the items of a tree have the store's versions under its root
pub record RowsOf (pages : ℕ → Image) (S : Store) (root : ℕ) (items : List Key) : Type 1 where
  pub Says : LeafItem → Version → Type 0
  pub life : SaysLife Says
  pub tree : Tree pages root items
  pub newest : (key : Key) → IsNewest Says pages (first_of (of_key key items)) (S.rows root key)

by_says : (Says : LeafItem → Version → Type 0) → SaysLife Says → (pages : ℕ → Image) (S : Store) (root : ℕ) (items : List Key)
    → Tree pages root items → ((key : Key) → VersionsAt Says pages (of_key key items) (S.rows root key)) → RowsOf pages S root items
by_says Says life pages S root items tree at = record {
  Says = Says;
  life = life;
  tree = tree;
  newest = λ key. newest Says pages (of_key key items) (S.rows root key) (at key);
}

pub rows_of_root : (items : ℕ → List Key) (pages : ℕ → Image) (S : Store) → Holds items pages S → (root : ℕ) → IsTableRoot S root
    → RowsOf pages S root (items root)
rows_of_root items pages S h root (inl e) =
    subst (λ (r : ℕ). RowsOf pages S r (items r)) (sym e)
    (by_says SaysTable table_lives pages S catalog (items catalog) (h.trees.trees catalog (inl refl)) h.tables)
rows_of_root items pages S h root (inr t) =
    subst (λ (r : ℕ). RowsOf pages S r (items r)) t.at
    (by_says (SaysRow (schema_of t.row)) (row_lives (schema_of t.row)) pages S t.version.root (items t.version.root)
    (h.trees.trees t.version.root (inr (t.name, ap newest_root t.only))) (λ key. h.rows t.name key t.version t.row t.only t.lives))

-- ---- one key, and all

key_met : (pages : ℕ → Image) (S : Store) (root : ℕ) (items : List Key) → HasStamps pages S → RowsOf pages S root items
    → (s : Snapshot) (key : Key) (us : List Image) (m : Met) → Stand pages us → KeyTested s root key us m → IsMet S s (S.rows root key) m
key_met pages S root items stamps h s key us m stand k =
    let P : Image → Type 0 = λ im. im ≡ pages im.page in
    let all : Stand pages ((k.way ++ k.leaf ∷ []) ++ k.stamps) =
    subst (λ (xs : List Image). Stand pages xs) (k.used ∙ sym (append_assoc k.way (k.leaf ∷ []) k.stamps)) stand in
    let has : item_of key k.leaf.items ≡ first_of (of_key key items) =
    leaf_has pages root items h.tree key k.way k.leaf k.leads (all_left P (k.way ++ k.leaf ∷ []) k.stamps all) in
    meets_newest h.Says h.life pages S stamps s (item_of key k.leaf.items) (S.rows root key) k.stamps m
    (subst (λ (o : Option LeafItem). IsNewest h.Says pages o (S.rows root key)) (sym has) (h.newest key))
    (all_right P (k.way ++ k.leaf ∷ []) k.stamps all) k.meets

record AreThose (p q : Key → Bool) (keys : List Key) (ms : List Met) : Type 0 where
  clash : clashing keys ms ≡ filter p keys
  there : standing keys ms ≡ filter q keys

picked : (a b : Bool) (key : Key) (xs ys : List Key) → a ≡ b → xs ≡ ys → (if a then key ∷ xs else xs) ≡ (if b then key ∷ ys else ys)
picked a b key xs ys e f =
    ap (λ (c : Bool). if c then key ∷ xs else xs) e ∙ ap (λ (zs : List Key). if b then key ∷ zs else zs) f

those_met : (pages : ℕ → Image) (S : Store) (root : ℕ) (items : List Key) → HasStamps pages S → RowsOf pages S root items
    → (s : Snapshot) (keys : List Key) (us : List Image) (ms : List Met) → Stand pages us → EachTested s root keys us ms
    → AreThose (clashes S root s) (is_there S root) keys ms
those_met pages S root items stamps h s [] us ms stand each = record { clash = refl; there = refl }
those_met pages S root items stamps h s (key ∷ keys) us ms stand each =
    let P : Image → Type 0 = λ im. im ≡ pages im.page in
    let all : Stand pages (each.0 ++ each.1) = subst (λ (xs : List Image). Stand pages xs) each.4 stand in
    let here = key_met pages S root items stamps h s key each.0 each.2 (all_left P each.0 each.1 all) each.5 in
    let rest = those_met pages S root items stamps h s keys each.1 each.3 (all_right P each.0 each.1 all) each.6 in
    record {
      clash =
          ap (clashing (key ∷ keys)) each.7
          ∙ picked each.2.clash (clashes S root s key) key (clashing keys each.3) (filter (clashes S root s) keys) here.clash rest.clash;
      there =
          ap (standing (key ∷ keys)) each.7
          ∙ picked each.2.there (is_there S root key) key (standing keys each.3) (filter (is_there S root) keys) here.there rest.there;
    }

pub tests_tell_verdicts : TestsTellVerdicts
tests_tell_verdicts items pages S h root at s keys us t stand gives =
    let j = tells_judged s root keys us t gives in
    let those = those_met pages S root (items root) h.stamps (rows_of_root items pages S h root at) s keys us j.mets stand j.each in
    record {
      clash = subst (λ (ks : List Key). IsLeastOf ks t.clash) those.clash j.clash;
      found = j.found ∙ ap (λ (ks : List Key). slice_get ks 0) those.there;
    }

-- ---- changes

pub changes_are_taken : ChangesAreTaken
changes_are_taken S s h = record {
  row = λ root other sees.
      ap (λ (b : Bool). in_the_way (if b then S.rows catalog h.key else at_root S.rows (seen_root (S.rows catalog h.table) S.stamp s.stamp s.own) h.key)
      S.stamp s.stamp s.own) other
      ∙ ap (λ (o : Option ℕ). in_the_way (at_root S.rows o h.key) S.stamp s.stamp s.own) sees;
  name = λ e.
      ap (λ (b : Bool). in_the_way (if b then S.rows catalog h.key else at_root S.rows (seen_root (S.rows catalog h.table) S.stamp s.stamp s.own) h.key)
      S.stamp s.stamp s.own) (bytes_of h.table catalog_name e);
}

-- For the proofs: pages hold a store after a group that changes the item of one key.
use Rattle.std.proofs.Common.{◌≡◌, ◌≢◌, ℕ, List, [], ◌∷◌, Some, refl, sym, ap, subst, ◌∙◌}
use Rattle.page_image.specs.Image.{Image}
use Rattle.sql_database.specs.Catalog.{schema_of}
use Rattle.version_store.specs.Stores.{Store, catalog, put_row}
use Rattle.version_store.specs.Versions.{Row, Version}
use Rattle.version_store.proofs.Places.{put_row_all, put_row_apart}
use Rattle.held_versions.specs.Counting.{HasCounters, HasSlots, HasStamps}
use Rattle.held_versions.specs.Holds.{Holds}
use Rattle.held_versions.specs.Keeping.{KeepsOthers, KeepsUndo}
use Rattle.held_versions.specs.Tables.{SaysRow, SaysTable}
use Rattle.held_versions.specs.Trees.{HasTrees}
use Rattle.held_versions.specs.Versions.{VersionsAt, of_key}
use Rattle.held_versions.proofs.Chains.{versions_at_kept}
use Rattle.held_versions.proofs.Framing.{HasUndo}

abbrev Rows : Type 0
Rows = ℕ → List ℕ → List Version

-- the item of a row: its table's other rows and the other tables are as they were
pub holds_put : (items others : ℕ → List (List ℕ)) (old new : ℕ → Image) (S T : Store) (r : ℕ)
    (k : List ℕ) (vs : List Version) → Holds items old S → KeepsUndo old new
    → KeepsOthers r k items others → T.rows ≡ put_row S.rows r k vs → r ≢ catalog
    → ((a : List ℕ) (v : Version) (row : Row) → S.rows catalog a ≡ v ∷ [] → v.row ≡ Some row
    → v.root ≡ r → VersionsAt (SaysRow (schema_of row)) new (of_key k (others r)) vs)
    → HasCounters new T → HasStamps new T → HasSlots new T → HasUndo others new T
    → HasTrees others new T → Holds others new T
holds_put items others old new S T r k vs h undo keeps same ne put counters stamps slots lists trees = record {
  counters = counters;
  stamps = stamps;
  slots = slots;
  undo = lists;
  trees = trees;
  tables = λ j.
      subst (λ (x : List (List ℕ)). VersionsAt SaysTable new x (T.rows catalog j))
      (sym (keeps catalog j (not_here j)))
      (subst (VersionsAt SaysTable new (of_key j (items catalog))) (sym (names j))
      (versions_at_kept SaysTable old new undo (of_key j (items catalog)) (S.rows catalog j)
      (h.tables j)));
  rows = λ a j v row one is.
      (let was : S.rows catalog a ≡ v ∷ [] = sym (names a) ∙ one in
      subst (λ (rows : Rows). VersionsAt (SaysRow (schema_of row)) new (of_key j (others v.root)) (rows v.root j))
      (sym same)
      (put_row_all
      (λ q i ws. q ≡ v.root → VersionsAt (SaysRow (schema_of row)) new (of_key i (others q)) ws)
      S.rows r k vs (λ e. put a v row was is (sym e))
      (λ q i apart e.
      subst (λ (x : List (List ℕ)). VersionsAt (SaysRow (schema_of row)) new x (S.rows q i))
      (sym (keeps q i apart))
      (versions_at_kept (SaysRow (schema_of row)) old new undo (of_key i (items q)) (S.rows q i)
      (subst (λ (p : ℕ). VersionsAt (SaysRow (schema_of row)) old (of_key i (items p)) (S.rows p i)) (sym e)
      (h.rows a i v row was is))))
      v.root j refl));
}
  where
    not_here : (j : List ℕ) → catalog ≡ r → j ≡ k → ⊥
    not_here j e _ = ne (sym e)

    names : (j : List ℕ) → T.rows catalog j ≡ S.rows catalog j
    names j =
        ap (λ (rows : Rows). rows catalog j) same
        ∙ put_row_apart S.rows r k vs catalog j (not_here j)

-- the item of a table in the catalog: the rows of every other table are as they were
pub holds_named : (items others : ℕ → List (List ℕ)) (old new : ℕ → Image) (S T : Store)
    (k : List ℕ) (vs : List Version) → Holds items old S → KeepsUndo old new
    → ((j : List ℕ) → (j ≡ k → ⊥) → of_key j (others catalog) ≡ of_key j (items catalog))
    → T.rows ≡ put_row S.rows catalog k vs
    → VersionsAt SaysTable new (of_key k (others catalog)) vs
    → ((v : Version) (row : Row) → vs ≡ v ∷ [] → v.row ≡ Some row
    → (v.root ≢ catalog)
    × ((j : List ℕ) → VersionsAt (SaysRow (schema_of row)) new (of_key j (others v.root)) (S.rows v.root j)))
    → ((a : List ℕ) (v : Version) → (a ≡ k → ⊥) → S.rows catalog a ≡ v ∷ []
    → (v.root ≢ catalog) × ((j : List ℕ) → of_key j (others v.root) ≡ of_key j (items v.root)))
    → HasCounters new T → HasStamps new T → HasSlots new T → HasUndo others new T
    → HasTrees others new T → Holds others new T
holds_named items others old new S T k vs h undo keeps same here made apart counters stamps slots lists trees = record {
  counters = counters;
  stamps = stamps;
  slots = slots;
  undo = lists;
  trees = trees;
  tables = λ j.
      subst (λ (rows : Rows). VersionsAt SaysTable new (of_key j (others catalog)) (rows catalog j))
      (sym same)
      (put_row_all
      (λ q i ws. q ≡ catalog → VersionsAt SaysTable new (of_key i (others catalog)) ws)
      S.rows catalog k vs (λ e. here)
      (λ q i ne e.
      subst (λ (p : ℕ). VersionsAt SaysTable new (of_key i (others catalog)) (S.rows p i)) (sym e)
      (subst (λ (x : List (List ℕ)). VersionsAt SaysTable new x (S.rows catalog i))
      (sym (keeps i (ne e)))
      (versions_at_kept SaysTable old new undo (of_key i (items catalog)) (S.rows catalog i)
      (h.tables i))))
      catalog j refl);
  rows = λ a j v row one is.
      put_row_all
      (λ q b ws. q ≡ catalog → ws ≡ v ∷ [] → b ≡ a
      → VersionsAt (SaysRow (schema_of row)) new (of_key j (others v.root)) (T.rows v.root j))
      S.rows catalog k vs
      (λ _ e _.
      (let m = made v row e is in
      subst (VersionsAt (SaysRow (schema_of row)) new (of_key j (others v.root)))
      (sym (elsewhere v.root j m.0)) (m.1 j)))
      (λ q b ne at e f.
      (let was : S.rows catalog b ≡ v ∷ [] =
      subst (λ (p : ℕ). S.rows p b ≡ v ∷ []) at e in
      let m = apart b v (ne at) was in
      subst (VersionsAt (SaysRow (schema_of row)) new (of_key j (others v.root)))
      (sym (elsewhere v.root j m.0))
      (subst (λ (x : List (List ℕ)). VersionsAt (SaysRow (schema_of row)) new x (S.rows v.root j))
      (sym (m.1 j))
      (versions_at_kept (SaysRow (schema_of row)) old new undo (of_key j (items v.root))
      (S.rows v.root j) (h.rows b j v row was is)))))
      catalog a refl (sym (ap (λ (rows : Rows). rows catalog a) same) ∙ one) refl;
}
  where
    elsewhere : (q : ℕ) (j : List ℕ) → q ≢ catalog → T.rows q j ≡ S.rows q j
    elsewhere q j ne =
        ap (λ (rows : Rows). rows q j) same
        ∙ put_row_apart S.rows catalog k vs q j (λ e _. ne e)

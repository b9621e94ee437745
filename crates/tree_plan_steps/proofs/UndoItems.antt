-- For the proofs: the undo item that is read is the one that the store's undo list has.
use Rattle.std.proofs.Common.{◌≡◌, ◌≢◌, ◌<◌, ℕ, Bool, true, false, nat_eq, ◌&&◌, List, [], ◌∷◌, Option, Some, None, slice_get, refl, sym, ap, subst, ◌∙◌}
use Rattle.std.specs.Prelude.{if◌then◌else◌, option_and_then}
use Rattle.rm_base.specs.declared.places.UndoPtr.{UndoPtr}
use Rattle.page_view.specs.declared.leaf.LeafItem.{LeafItem}
use Rattle.page_view.specs.Undo.{IsUndo, undo_of}
use Rattle.page_view.proofs.UndoLaws.{undo_reads}
use Rattle.commit_stamps.specs.Fields.{slot_of}
use Rattle.undo_versions.specs.declared.items.UndoItem.{UndoItem}
use Rattle.undo_versions.specs.Chains.{GoesOn}
use Rattle.undo_versions.specs.Reading.{holds_undo, is_undo, item_of, item_or_none, undo_in, undone_of}
use Rattle.undo_versions.proofs.ReadLaws.{undo_told}
use Rattle.sql_database.specs.Catalog.{schema_of}
use Rattle.version_store.specs.Stores.{Store, UndoEntry, catalog}
use Rattle.version_store.specs.Versions.{Row, Version}
use Rattle.version_store.specs.Versions as versions
use Rattle.held_versions.specs.Counting.{sessions}
use Rattle.held_versions.specs.Holds.{Holds}
use Rattle.held_versions.specs.Tables.{SaysRow, SaysTable}
use Rattle.held_versions.specs.Undoing.{UndoList, Undoes, current, first_of}
use Rattle.held_versions.specs.Versions.{StandsAt, Versions, VersionsAt, of_key}
use Rattle.tree_timeline.specs.Types.{Items, Pages}
use Rattle.plan_steps.proofs.Lists.{session_low}
use Rattle.plan_steps.proofs.Pushing.{before_is, goes_on}
use Rattle.tree_plan_steps.specs.UndoItemLaws.{HasVersions, IsLastUndo, LastUndoIsNewest, LastUndoIsRead, OlderIsUndo, last_undo}
use Rattle.tree_plan_steps.proofs.Undoing.{last_entry}

-- ---- what is read is within its limits

pub older_is_undo : OlderIsUndo
older_is_undo page at undo bytes found =
    by_place (is_undo page.kind && nat_eq page.page at.page) found
  where
    by_test : (item : List ℕ) (i : ℕ) (b : Bool) → slice_get page.items i ≡ Some item
        → holds_undo item ≡ b → item_or_none (if b then Some (undo_of item) else None) ≡ Some undo
        → IsUndo (undone_of undo)
    by_test item i true there holds f =
        let same : item_of (undo_of item) ≡ undo =
        (let e : Some (item_of (undo_of item)) ≡ Some undo = f in cc) in
        subst (λ (x : UndoItem). IsUndo (undone_of x)) same
        (undo_reads item (bytes i item there) (undo_told item holds)).0
    by_test item i false there holds f = absurd (let e : None ≡ Some undo = f in cc)

    by_item : (o : Option (List ℕ)) → slice_get page.items at.slot ≡ o
        → item_or_none (option_and_then undo_in o) ≡ Some undo → IsUndo (undone_of undo)
    by_item None there f = absurd (let e : None ≡ Some undo = f in cc)
    by_item (Some item) there f = by_test item at.slot (holds_undo item) there refl f

    by_place : (b : Bool)
        → item_or_none
        (if b then option_and_then undo_in (slice_get page.items at.slot) else None) ≡ Some undo
        → IsUndo (undone_of undo)
    by_place true f = by_item (slice_get page.items at.slot) refl f
    by_place false f = absurd (let e : None ≡ Some undo = f in cc)

-- ---- what stood there

-- behind the newest version of an item are those of what it replaced
beneath : (Says : LeafItem → Version → Type 0) (pages : Pages) (item : LeafItem) (undo : UndoItem)
    (vs : List Version) → StandsAt pages item.older undo → Versions Says pages item vs
    → HasVersions Says pages (versions.older vs) undo.old
beneath Says pages item undo [] stands h = absurd h
beneath Says pages item undo (v ∷ vs) stands h =
    subst (GoesOn (λ old. Versions Says pages old vs) (vs ≡ [])) (before_is pages item undo stands) h.1

module _ (items : ℕ → Items) (pages : Pages) (S : Store) (s t : ℕ) (undo : UndoItem)
    (h : Holds items pages S) (slot : S.slot s ≡ Some t) (last : last_undo pages s ≡ Some undo)
  where
    -- the item that it is to undo
    pub record Top : Type 0 where
      pub trx : undo.trx ≡ t
      pub item : LeafItem
      pub present : first_of (of_key undo.key (items undo.root)) ≡ Some item
      pub stands : StandsAt pages item.older undo

    top : Top
    top =
        by_list (S.undo s) (h.undo s t (session_low pages S s t h.slots slot) slot)
        (last_entry items pages S s t undo h slot last).list
      where
        by_list : (us : List UndoEntry) → UndoList pages t (current items) (slot_of (pages 1) s).last us
            → us ≡ record { root = undo.root; key = undo.key }
            ∷ (last_entry items pages S s t undo h slot last).rest → Top
        by_list [] list e =
            absurd (let f : [] ≡ record { root = undo.root; key = undo.key }
            ∷ (last_entry items pages S s t undo h slot last).rest = e in cc)
        by_list (u ∷ us) list e =
            let own : Undoes pages t (current items) (slot_of (pages 1) s).last u = list.0 in
            let same : own.undo ≡ undo =
            (let f : Some own.undo ≡ Some undo = sym own.stands.item ∙ last in cc) in
            record {
              trx = sym (ap (λ (x : UndoItem). x.trx) same) ∙ own.trx;
              item = own.item;
              present = subst (λ (x : UndoItem). current items x.root x.key ≡ Some own.item) same own.present;
              stands = subst (λ (x : UndoItem). StandsAt pages own.item.older x) same
                  (subst (λ (at : UndoPtr). StandsAt pages at own.undo) (sym own.points) own.stands);
            }

    behind_newest : (Says : LeafItem → Version → Type 0) (vs : List Version)
        → VersionsAt Says pages (of_key undo.key (items undo.root)) vs
        → HasVersions Says pages (versions.older vs) undo.old
    behind_newest Says vs at =
        beneath Says pages top.item undo vs top.stands
        (subst (GoesOn (λ old. Versions Says pages old vs) (vs ≡ [])) top.present
        (goes_on Says pages (of_key undo.key (items undo.root)) vs at))

    is_last : IsLastUndo pages S s t undo
    is_last = record {
      trx_is = top.trx;
      rest = (last_entry items pages S s t undo h slot last).rest;
      list = (last_entry items pages S s t undo h slot last).list;
      table = λ e.
          behind_newest SaysTable (S.rows catalog undo.key)
          (subst
          (λ (r : ℕ). VersionsAt SaysTable pages (of_key undo.key (items r)) (S.rows catalog undo.key))
          (sym e) (h.tables undo.key));
      row = λ a v row one is_row e.
          behind_newest (SaysRow (schema_of row)) (S.rows undo.root undo.key)
          (subst
          (λ (r : ℕ). VersionsAt (SaysRow (schema_of row)) pages (of_key undo.key (items r))
          (S.rows r undo.key)) e (h.rows a undo.key v row one is_row));
    }

pub last_undo_is_newest : LastUndoIsNewest
last_undo_is_newest items pages S s t undo h slot last = is_last items pages S s t undo h slot last

pub last_undo_is_read : LastUndoIsRead
last_undo_is_read items pages S s t h slot =
    record {
      some = λ ne. some_by (S.undo s) (h.undo s t low slot) ne;
      none = λ e. subst (UndoList pages t (current items) (slot_of (pages 1) s).last) e (h.undo s t low slot);
    }
  where
    low : s < sessions
    low = session_low pages S s t h.slots slot

    some_by : (us : List UndoEntry) → UndoList pages t (current items) (slot_of (pages 1) s).last us
        → us ≢ [] → (undo : UndoItem) × (last_undo pages s ≡ Some undo)
    some_by [] list ne = absurd (ne refl)
    some_by (u ∷ us) list ne = (list.0.undo, list.0.stands.item)

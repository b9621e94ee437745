-- Stated: the undo item that is read for the last change of a transaction is the one that the
-- store's undo list has.
use Rattle.std.specs.Prelude.{◌≡◌, ◌≢◌, ℕ, List, [], ◌∷◌, Option, Some, slice_get}
use Rattle.rm_base.specs.Fields.{AreBytes}
use Rattle.rm_base.specs.declared.places.UndoPtr.{UndoPtr}
use Rattle.page_image.specs.Image.{Image}
use Rattle.page_view.specs.declared.leaf.LeafItem.{LeafItem}
use Rattle.page_view.specs.Undo.{IsUndo}
use Rattle.commit_stamps.specs.Fields.{slot_of}
use Rattle.undo_versions.specs.declared.items.UndoItem.{UndoItem}
use Rattle.undo_versions.specs.Chains.{GoesOn}
use Rattle.undo_versions.specs.Reading.{older, undone_of}
use Rattle.sql_database.specs.Catalog.{schema_of}
use Rattle.version_store.specs.Stores.{Store, UndoEntry, catalog}
use Rattle.version_store.specs.Versions.{Row, Version}
use Rattle.version_store.specs.Versions as versions
use Rattle.held_versions.specs.Holds.{Holds}
use Rattle.held_versions.specs.Tables.{SaysRow, SaysTable}
use Rattle.held_versions.specs.Versions.{Versions}
use Rattle.tree_timeline.specs.Types.{Items, Pages}

-- the items of a page are lists of bytes
abbrev pub HasBytes : Image → Type 0
HasBytes page = (i : ℕ) (item : List ℕ) → slice_get page.items i ≡ Some item → AreBytes item

-- An undo item that is read is within its limits: what it says stood there is an item with its key.
abbrev pub OlderIsUndo : Type 0
OlderIsUndo =
    (page : Image) (at : UndoPtr) (undo : UndoItem)
    → HasBytes page → older page at ≡ Some undo → IsUndo (undone_of undo)

-- the undo item at a session's last place
abbrev pub last_undo : Pages → ℕ → Option UndoItem
last_undo pages s = older (pages (slot_of (pages 1) s).last.page) (slot_of (pages 1) s).last

-- what stood there has these versions, or stood nowhere, and there are none
abbrev pub HasVersions : (LeafItem → Version → Type 0) → Pages → List Version → Option LeafItem → Type 0
HasVersions Says pages vs old = GoesOn (λ item. Versions Says pages item vs) (vs ≡ []) old

-- The undo item of transaction t is that of the first entry of its undo list; and what it says stood
-- there has the versions that the store has behind the newest one of that place.
pub record IsLastUndo (pages : Pages) (S : Store) (s t : ℕ) (undo : UndoItem) : Type 0 where
  pub trx_is : undo.trx ≡ t
  pub rest : List UndoEntry
  pub list : S.undo s ≡ record { root = undo.root; key = undo.key } ∷ rest
  pub table : undo.root ≡ catalog
      → HasVersions SaysTable pages (versions.older (S.rows catalog undo.key)) undo.old
  pub row : (a : List ℕ) (v : Version) (row : Row)
      → S.rows catalog a ≡ v ∷ [] → v.row ≡ Some row → v.root ≡ undo.root
      → HasVersions (SaysRow (schema_of row)) pages (versions.older (S.rows undo.root undo.key)) undo.old

-- so it is for each transaction, over pages that hold a store
abbrev pub LastUndoIsNewest : Type 0
LastUndoIsNewest =
    (items : ℕ → Items) (pages : Pages) (S : Store) (s t : ℕ) (undo : UndoItem)
    → Holds items pages S → S.slot s ≡ Some t → last_undo pages s ≡ Some undo
    → IsLastUndo pages S s t undo

-- one is read where the undo list has an entry, and where it has none the slot points to no page
pub record ReadsLast (pages : Pages) (S : Store) (s : ℕ) : Type 0 where
  pub some : S.undo s ≢ [] → (undo : UndoItem) × (last_undo pages s ≡ Some undo)
  pub none : S.undo s ≡ [] → (slot_of (pages 1) s).last.page ≡ 0

abbrev pub LastUndoIsRead : Type 0
LastUndoIsRead =
    (items : ℕ → Items) (pages : Pages) (S : Store) (s t : ℕ)
    → Holds items pages S → S.slot s ≡ Some t → ReadsLast pages S s

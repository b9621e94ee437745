-- Stated: the group of a row's change, and what it makes of the store.
use Rattle.std.specs.Prelude.{◌≡◌, ℕ, List, [], ◌∷◌, ◌++◌, Option, Some}
use Rattle.page_view.specs.declared.leaf.LeafItem.{LeafItem}
use Rattle.page_view.specs.Leaf.{IsLeaf, leaf_bytes}
use Rattle.redo_record.specs.declared.redo.Record.{Record}
use Rattle.commit_stamps.specs.Plans.{points}
use Rattle.sql_database.specs.Catalog.{schema_of}
use Rattle.undo_versions.specs.declared.appending.UndoStep.{UndoStep}
use Rattle.undo_versions.specs.declared.items.UndoItem.{UndoItem}
use Rattle.version_store.specs.Groups.{Writes}
use Rattle.version_store.specs.Held.{Held}
use Rattle.version_store.specs.Rooted.{Rooted}
use Rattle.version_store.specs.Stores.{Store, catalog, changed, put, written}
use Rattle.version_store.specs.Versions.{Row, Version}
use Rattle.held_versions.specs.Holds.{Holds}
use Rattle.held_versions.specs.Keeping.{grown}
use Rattle.held_versions.specs.Tables.{SaysRow}
use Rattle.tree_timeline.specs.Types.{Items, Pages}
use Rattle.plan_steps.specs.Growth.{UndoGrows}
use Rattle.plan_steps.specs.KeyItems.{put_item}
use Rattle.plan_steps.specs.Parts.{AppendsUndo, ChangesLeaf, CountsMade, KeepsOld, counts_made, with_made}

-- The records of a row's change: those of its leaf, those of its undo item, that of the session's
-- slot, and that of the meta page where a page was made for the undo item.
abbrev pub change_records : Pages → ℕ → List Record → UndoStep → List Record
change_records pages s on_leaf step =
    on_leaf ++ (step.records ++ (points (pages 1) s step.at ∷ counts_made (pages 0) step.made))

-- the items of the tree at a root, with this one for its key
abbrev pub with_row : (ℕ → Items) → ℕ → LeafItem → ℕ → Items
with_row items root item = put items root (put_item item.key (leaf_bytes item) (items root))

-- The parts of a row's change by transaction t, in the session s: the item comes to stand for its
-- key in the tree at the root, by these records of a leaf; the undo item says what stood there; and
-- the item points to the undo item.
pub record IsRowChange (items : ℕ → Items) (pages : Pages) (lsn s t root leaf : ℕ)
    (on_leaf : List Record) (item : LeafItem) (undo : UndoItem) (step : UndoStep) : Type 0 where
  pub changes : ChangesLeaf items pages lsn root leaf
      (put_item item.key (leaf_bytes item) (items root)) on_leaf
  pub spelt : IsLeaf item
  pub wrote : item.trx ≡ t
  pub points_to : item.older ≡ step.at
  pub keeps_old : KeepsOld items pages s t root item.key undo
  pub appends : AppendsUndo pages s undo step
  pub counts : CountsMade (pages 0) step.made

-- the item says the row, or that it was deleted, by the schema of the table with that name
abbrev pub SaysOf : Store → List ℕ → LeafItem → Version → Type 0
SaysOf S a item version =
    (v : Version) (def : Row) → S.rows catalog a ≡ v ∷ [] → v.row ≡ Some def
    → SaysRow (schema_of def) item version

-- A row is inserted, updated or marked as deleted: the pages then hold the store with that version.
-- Where a page was made for the undo item, the store has that page too. Undo items stay.
abbrev pub RowChangeIsChanged : Type 0
RowChangeIsChanged =
    (items : ℕ → Items) (pages : Pages) (S : Store) (lsn s t root leaf : ℕ)
    (on_leaf : List Record) (item : LeafItem) (undo : UndoItem) (step : UndoStep)
    (name : List ℕ) (row : Option Row)
    → Holds items pages S → Held S → Rooted S → Writes S s t root name item.key
    → IsRowChange items pages lsn s t root leaf on_leaf item undo step
    → SaysOf S name item (written t row)
    → Holds (with_row items root item) (grown lsn (change_records pages s on_leaf step) pages)
    (changed (with_made S step.made) s t root item.key row)
    × UndoGrows pages (grown lsn (change_records pages s on_leaf step) pages)

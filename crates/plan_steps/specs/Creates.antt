-- Stated: the group that makes a table, and what it makes of the store.
use Rattle.std.specs.Prelude.{◌≡◌, ◌≤◌, ◌+◌, ℕ, List, [], ◌∷◌, ◌++◌, Option, Some, None}
use Rattle.page_image.specs.Meta.{page_count}
use Rattle.page_image.specs.declared.kind.Kind.TheVariants.{Leaf}
use Rattle.page_image.specs.Image.{Image}
use Rattle.page_image.specs.Rules.{IsImage}
use Rattle.page_view.specs.declared.leaf.LeafItem.{LeafItem}
use Rattle.page_view.specs.Leaf.{IsLeaf, leaf_bytes}
use Rattle.redo_record.specs.declared.redo.Record.{Record}
use Rattle.redo_record.specs.declared.redo.Record.TheVariants.{Make}
use Rattle.commit_stamps.specs.Plans.{points}
use Rattle.undo_versions.specs.declared.appending.UndoStep.{UndoStep}
use Rattle.undo_versions.specs.declared.items.UndoItem.{UndoItem}
use Rattle.undo_versions.specs.Appending.{counts_undo}
use Rattle.undo_versions.specs.Effects.{Uses}
use Rattle.version_store.specs.Held.{Held}
use Rattle.version_store.specs.Rooted.{Rooted}
use Rattle.version_store.specs.Stores.{Store, catalog, created, naming}
use Rattle.version_store.specs.Versions.{Row}
use Rattle.held_versions.specs.Holds.{Holds}
use Rattle.held_versions.specs.Keeping.{grown}
use Rattle.held_versions.specs.Tables.{SaysTable}
use Rattle.tree_timeline.specs.Types.{Items, Pages}
use Rattle.plan_steps.specs.Counting.{counts_pages}
use Rattle.plan_steps.specs.Growth.{UndoGrows}
use Rattle.plan_steps.specs.KeyItems.{put_item}
use Rattle.plan_steps.specs.Parts.{AppendsUndo, ChangesLeaf, KeepsOld, with_made}
use Rattle.plan_steps.specs.RowChanges.{with_row}

-- the root of a new table is the next page, behind the one that was made for the undo item, if any
abbrev pub next_page : Image → Option ℕ → ℕ
next_page meta None = page_count meta
next_page meta (Some page) = page + 1

-- the meta page counts the root, and has the page made for the undo item, if any, as the one in use
abbrev pub counts_root : Image → ℕ → Option ℕ → List Record
counts_root meta root None = counts_pages meta (root + 1) ∷ []
counts_root meta root (Some page) = counts_undo meta (root + 1) page ∷ []

abbrev pub CountsRoot : Image → ℕ → Option ℕ → Type 0
CountsRoot meta root None = IsImage meta
CountsRoot meta root (Some page) =
    Uses meta (root + 1) page (counts_undo meta (root + 1) page ∷ [])

-- The records of a group that makes a table: those of the catalog's leaf, the one that makes the
-- root, those of the undo item, that of the session's slot, and that of the meta page.
abbrev pub create_records : Pages → ℕ → List Record → ℕ → UndoStep → List Record
create_records pages s on_leaf root step =
    on_leaf
    ++ (Make root Leaf 0
    ∷ (step.records ++ (points (pages 1) s step.at ∷ counts_root (pages 0) root step.made)))

-- The parts of the making of a table by transaction t, in the session s: the item comes to stand
-- for its name in the catalog, as a row does in its table, and the next page becomes an empty tree.
-- No items were told of that page.
pub record IsCreate (items : ℕ → Items) (pages : Pages) (lsn s t leaf root : ℕ)
    (on_leaf : List Record) (item : LeafItem) (undo : UndoItem) (step : UndoStep) : Type 0 where
  pub changes : ChangesLeaf items pages lsn catalog leaf
      (put_item item.key (leaf_bytes item) (items catalog)) on_leaf
  pub spelt : IsLeaf item
  pub wrote : item.trx ≡ t
  pub points_to : item.older ≡ step.at
  pub keeps_old : KeepsOld items pages s t catalog item.key undo
  pub appends : AppendsUndo pages s undo step
  pub root_is : root ≡ next_page (pages 0) step.made
  pub room : root + 1 ≤ 32768
  pub counts : CountsRoot (pages 0) root step.made
  pub unused : items root ≡ []

-- A table is made: the pages then hold the store with its name, at the next root. Where a page was
-- made for the undo item, it comes before the root.
abbrev pub CreateIsCreated : Type 0
CreateIsCreated =
    (items : ℕ → Items) (pages : Pages) (S : Store) (lsn s t leaf root : ℕ)
    (on_leaf : List Record) (item : LeafItem) (undo : UndoItem) (step : UndoStep) (row : Row)
    → Holds items pages S → Held S → Rooted S → S.slot s ≡ Some t
    → S.rows catalog item.key ≡ []
    → IsCreate items pages lsn s t leaf root on_leaf item undo step
    → SaysTable item (naming (with_made S step.made) t (Some row))
    → Holds (with_row items catalog item)
    (grown lsn (create_records pages s on_leaf root step) pages)
    (created (with_made S step.made) s t item.key (Some row))
    × UndoGrows pages (grown lsn (create_records pages s on_leaf root step) pages)

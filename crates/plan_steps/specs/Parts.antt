-- Stated: the parts of the groups that change an item of a tree.
use Rattle.std.specs.Prelude.{◌≡◌, ◌≢◌, ◌≤◌, ◌+◌, ℕ, List, [], ◌∷◌, Option, Some, None, Contains, ⊤}
use Rattle.page_image.specs.Meta.{counters_of}
use Rattle.page_image.specs.Image.{Image}
use Rattle.redo_record.specs.declared.redo.Record.{Record}
use Rattle.redo_record.specs.Effect.{after_records}
use Rattle.bplus_tree.specs.Tree.{Tree}
use Rattle.commit_stamps.specs.Effects.{Points}
use Rattle.commit_stamps.specs.Fields.{slot_of}
use Rattle.commit_stamps.specs.Plans.{points}
use Rattle.undo_versions.specs.declared.appending.UndoStep.{UndoStep}
use Rattle.undo_versions.specs.declared.items.UndoItem.{UndoItem}
use Rattle.undo_versions.specs.Appending.{counts_undo, undo_step}
use Rattle.undo_versions.specs.Effects.{Appends, Uses}
use Rattle.version_store.specs.Stores.{Store, split}
use Rattle.held_versions.specs.Keeping.{grown}
use Rattle.held_versions.specs.Undoing.{current}
use Rattle.tree_timeline.specs.Types.{Items, Key, Pages}

-- the records leave every page but this one
abbrev pub TouchOnly : ℕ → List Record → Type 0
TouchOnly page records =
    (lsn : ℕ) (im : Image) → page ≢ im.page → after_records lsn records im ≡ im

-- where a tree stands on the old pages, one stands for other items on the new ones, with the same
-- nodes
abbrev pub Restands : Pages → Pages → ℕ → Items → Items → Type 0
Restands old new root was is =
    (tree : Tree old root was) → (now : Tree new root is) × (now.nodes ≡ tree.nodes)

-- Records change a leaf of the tree at the root, and no other page; then the tree stands for these
-- items.
pub record ChangesLeaf (items : ℕ → Items) (pages : Pages) (lsn root leaf : ℕ) (now : Items)
    (records : List Record) : Type 0 where
  pub only : TouchOnly leaf records
  pub node : (tree : Tree pages root (items root)) → Contains tree.nodes leaf
  pub stands : Restands pages (grown lsn records pages) root (items root) now

-- the undo page in use
abbrev pub undo_in_use : Pages → Image
undo_in_use pages = pages (counters_of (pages 0)).undo_page

-- An undo item says what is changed, by whom, what stood there, and which undo item of the
-- transaction comes before it.
pub record KeepsOld (items : ℕ → Items) (pages : Pages) (s t root : ℕ) (key : Key)
    (undo : UndoItem) : Type 0 where
  pub trx_is : undo.trx ≡ t
  pub root_is : undo.root ≡ root
  pub key_is : undo.key ≡ key
  pub old_is : undo.old ≡ current items root key
  pub before_is : undo.before ≡ (slot_of (pages 1) s).last

-- It joins the undo page in use, or a page that is made for it, and the session's slot points to
-- it.
pub record AppendsUndo (pages : Pages) (s : ℕ) (undo : UndoItem) (step : UndoStep) : Type 0 where
  pub step_is : step ≡ undo_step (pages 0) (undo_in_use pages) undo
  pub appends : Appends (undo_in_use pages) undo step
  pub pointed : Points (pages 1) s step.at (points (pages 1) s step.at ∷ [])

-- where a page was made for it, the meta page counts that page, and has it as the one in use
abbrev pub counts_made : Image → Option ℕ → List Record
counts_made meta None = []
counts_made meta (Some page) = counts_undo meta (page + 1) page ∷ []

abbrev pub CountsMade : Image → Option ℕ → Type 0
CountsMade meta None = ⊤
CountsMade meta (Some page) =
    (page + 1 ≤ 32768) × Uses meta (page + 1) page (counts_undo meta (page + 1) page ∷ [])

-- the store with that page
abbrev pub pages_with : Store → Option ℕ → ℕ
pages_with S None = S.pages
pages_with S (Some page) = page + 1

abbrev pub with_made : Store → Option ℕ → Store
with_made S made = split S (pages_with S made)

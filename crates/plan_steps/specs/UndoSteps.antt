-- Stated: the group that undoes a change, and what it makes of the store.
use Rattle.std.specs.Prelude.{◌≡◌, ℕ, List, [], ◌∷◌, ◌++◌, Option, Some, None}
use Rattle.page_view.specs.declared.leaf.LeafItem.{LeafItem}
use Rattle.page_view.specs.Leaf.{leaf_bytes}
use Rattle.page_view.specs.Undo.{IsOld}
use Rattle.redo_record.specs.declared.redo.Record.{Record}
use Rattle.commit_stamps.specs.Effects.{Points}
use Rattle.commit_stamps.specs.Fields.{slot_of}
use Rattle.commit_stamps.specs.Plans.{points}
use Rattle.undo_versions.specs.declared.items.UndoItem.{UndoItem}
use Rattle.undo_versions.specs.Reading.{older}
use Rattle.version_store.specs.Held.{Held}
use Rattle.version_store.specs.Rooted.{Rooted}
use Rattle.version_store.specs.Stores.{Store, UndoEntry, put, undone}
use Rattle.held_versions.specs.Holds.{Holds}
use Rattle.held_versions.specs.Keeping.{grown}
use Rattle.held_versions.specs.Trees.{IsRoot}
use Rattle.tree_timeline.specs.Types.{Items, Key, Pages}
use Rattle.plan_steps.specs.Growth.{UndoGrows}
use Rattle.plan_steps.specs.KeyItems.{put_item, taken_out}
use Rattle.plan_steps.specs.Parts.{ChangesLeaf}

-- the items with the old one back in its place, or without one where there was none
abbrev pub put_back : Key → Option LeafItem → Items → Items
put_back key None items = taken_out key items
put_back key (Some old) items = put_item key (leaf_bytes old) items

abbrev pub with_back : (ℕ → Items) → UndoItem → ℕ → Items
with_back items undo =
    put items undo.root (put_back undo.key undo.old (items undo.root))

-- the records that undo a change: those of its leaf, and that of the session's slot
abbrev pub undo_records : Pages → ℕ → List Record → UndoItem → List Record
undo_records pages s on_leaf undo = on_leaf ++ (points (pages 1) s undo.before ∷ [])

-- The undo item is the last one of the session's transaction; what it says stood there stands there
-- again, by these records of a leaf; and the slot points to the undo item before it.
pub record IsUndoStep (items : ℕ → Items) (pages : Pages) (lsn s leaf : ℕ) (on_leaf : List Record)
    (undo : UndoItem) : Type 0 where
  pub last : older (pages (slot_of (pages 1) s).last.page) (slot_of (pages 1) s).last ≡ Some undo
  pub spelt : IsOld undo.key undo.old
  pub changes : ChangesLeaf items pages lsn undo.root leaf
      (put_back undo.key undo.old (items undo.root)) on_leaf
  pub pointed : Points (pages 1) s undo.before (points (pages 1) s undo.before ∷ [])

-- A change is undone: the pages then hold the store without the newest version of its place.
abbrev pub UndoStepIsUndone : Type 0
UndoStepIsUndone =
    (items : ℕ → Items) (pages : Pages) (S : Store) (lsn s t leaf : ℕ) (on_leaf : List Record)
    (undo : UndoItem) (entry : UndoEntry) (entries : List UndoEntry)
    → Holds items pages S → Held S → Rooted S → S.slot s ≡ Some t → S.undo s ≡ entry ∷ entries
    → IsRoot S entry.root → IsUndoStep items pages lsn s leaf on_leaf undo
    → Holds (with_back items undo) (grown lsn (undo_records pages s on_leaf undo) pages)
    (undone S s entry.root entry.key entries)
    × UndoGrows pages (grown lsn (undo_records pages s on_leaf undo) pages)

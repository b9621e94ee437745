-- Stated: the records of a change, and of its undoing, apply to each page.
use Rattle.std.specs.Prelude.{ℕ, List}
use Rattle.page_view.specs.declared.leaf.LeafItem.{LeafItem}
use Rattle.redo_record.specs.declared.redo.Record.{Record}
use Rattle.redo_record.specs.Effect.{RecordsApply}
use Rattle.undo_versions.specs.declared.appending.UndoStep.{UndoStep}
use Rattle.undo_versions.specs.declared.items.UndoItem.{UndoItem}
use Rattle.version_store.specs.Stores.{Store}
use Rattle.held_versions.specs.Holds.{Holds}
use Rattle.held_versions.specs.Trees.{IsRoot}
use Rattle.tree_timeline.specs.Types.{Items, Pages}
use Rattle.plan_steps.specs.RowChanges.{IsRowChange, change_records}
use Rattle.plan_steps.specs.UndoSteps.{IsUndoStep, undo_records}

-- a row's change, where the records of its leaf apply
abbrev pub ChangeApplies : Type 0
ChangeApplies =
    (items : ℕ → Items) (pages : Pages) (S : Store) (lsn s t root leaf : ℕ)
    (on_leaf : List Record) (item : LeafItem) (undo : UndoItem) (step : UndoStep)
    → Holds items pages S → IsRoot S root
    → IsRowChange items pages lsn s t root leaf on_leaf item undo step
    → ((page : ℕ) → RecordsApply lsn on_leaf (pages page))
    → (page : ℕ) → RecordsApply lsn (change_records pages s on_leaf step) (pages page)

-- and the undoing of a change
abbrev pub UndoApplies : Type 0
UndoApplies =
    (items : ℕ → Items) (pages : Pages) (S : Store) (lsn s leaf : ℕ) (on_leaf : List Record)
    (undo : UndoItem)
    → Holds items pages S → IsRoot S undo.root
    → IsUndoStep items pages lsn s leaf on_leaf undo
    → ((page : ℕ) → RecordsApply lsn on_leaf (pages page))
    → (page : ℕ) → RecordsApply lsn (undo_records pages s on_leaf undo) (pages page)

-- Stated: an example, a row of two versions that is written once more, and the undoing of that.
use Rattle.std.specs.Prelude.{◌≡◌, List, [], ◌∷◌, Some, None, codes}
use Rattle.page_view.specs.declared.leaf.LeafItem.{LeafItem}
use Rattle.page_view.specs.Leaf.{leaf_bytes}
use Rattle.redo_record.specs.declared.redo.Record.{Record}
use Rattle.redo_record.specs.declared.redo.Record.TheVariants.{InsertSlot, RemoveSlot}
use Rattle.row_codec.specs.Records.{value_bytes}
use Rattle.undo_versions.specs.declared.appending.UndoStep.{UndoStep}
use Rattle.undo_versions.specs.declared.items.UndoItem.{UndoItem}
use Rattle.undo_versions.specs.Appending.{bytes_of}
use Rattle.version_store.specs.Stores.{Store, changed, undone}
use Rattle.held_versions.specs.Example.{first_version, item, items, pages, place, root, row, second_item, second_version, store}
use Rattle.held_versions.specs.Holds.{Holds}
use Rattle.held_versions.specs.Keeping.{grown}
use Rattle.version_store.specs.Versions.{Version}
use Rattle.tree_timeline.specs.Types.{Pages}
use Rattle.plan_steps.specs.RowChanges.{IsRowChange, change_records, with_row}
use Rattle.plan_steps.specs.UndoSteps.{IsUndoStep, undo_records, with_back}

-- transaction 2, which wrote the row a, 2, writes the row a, 3
abbrev pub third_item : LeafItem
third_item = item (codes "a") 2 (place 3) (value_bytes 0 (row (codes "3")))

abbrev pub third_undo : UndoItem
third_undo = record {
  trx = 2;
  root = root;
  before = place 2;
  key = codes "a";
  old = Some second_item;
}

abbrev pub third_step : UndoStep
third_step = record {
  at = place 3;
  records = InsertSlot 1027 3 (bytes_of third_undo) ∷ [];
  made = None;
}

-- the records of its leaf, and those that put the second item back
abbrev pub replaces : LeafItem → List Record
replaces new = RemoveSlot root 0 ∷ (InsertSlot root 0 (leaf_bytes new) ∷ [])

abbrev pub third_pages : Pages
third_pages = grown 2 (change_records pages 0 (replaces third_item) third_step) pages

abbrev pub third_store : Store
third_store = changed store 0 2 root (codes "a") (Some (row (codes "3")))

abbrev pub third_version : Version
third_version = record { trx = 2; row = Some (row (codes "3")); root = 0 }

-- and the change is undone
abbrev pub back_pages : Pages
back_pages = grown 3 (undo_records third_pages 0 (replaces second_item) third_undo) third_pages

abbrev pub back_store : Store
back_store = undone third_store 0 root (codes "a") (store.undo 0)

-- The change is one, and the pages that it leaves hold the store with three versions of the row;
-- its undoing is an undo step, and the pages that this leaves hold the store with two again.
pub record ExampleRuns : Type 0 where
  pub change : IsRowChange items pages 2 0 2 root root (replaces third_item) third_item third_undo
      third_step
  pub holds : Holds (with_row items root third_item) third_pages third_store
  pub three : third_store.rows root (codes "a")
      ≡ third_version ∷ (second_version ∷ (first_version ∷ []))
  pub undo : IsUndoStep (with_row items root third_item) third_pages 3 0 root
      (replaces second_item) third_undo
  pub back : Holds (with_back (with_row items root third_item) third_undo) back_pages back_store
  pub two : back_store.rows root (codes "a") ≡ second_version ∷ (first_version ∷ [])

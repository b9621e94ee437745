-- Stated: the plans of the machines, over the pages of the log as it stands, are the events of a
-- cluster's history.
use Rattle.std.specs.Prelude.{◌≡◌, ◌<◌, ◌+◌, ℕ, List, length, None, Some}
use Rattle.page_image.specs.Image.{Image}
use Rattle.page_image.specs.Meta.{page_count}
use Rattle.page_image.specs.Rules.{IsImage}
use Rattle.page_view.specs.declared.leaf.LeafItem.{LeafItem}
use Rattle.redo_record.specs.declared.plans.Plan.{Plan}
use Rattle.commit_stamps.specs.Fields.{slot_of}
use Rattle.commit_stamps.specs.Stamping.{stamp_page}
use Rattle.undo_versions.specs.declared.items.UndoItem.{UndoItem}
use Rattle.sql_database.specs.declared.changes.Change.{Change}
use Rattle.table_machine.specs.Language.{Language}
use Rattle.version_store.specs.Contents.{Content}
use Rattle.version_store.specs.Stores.{catalog, written}
use Rattle.history.specs.Clusters.{Cluster, now}
use Rattle.history.specs.Events as event
use Rattle.history.specs.Events.{MayCommit, MayUndo}
use Rattle.history.specs.Invariant.{Refines}
use Rattle.held_versions.specs.Counting.{sessions}
use Rattle.held_versions.specs.Keeping.{grown}
use Rattle.held_versions.specs.Trees.{IsRoot}
use Rattle.tree_timeline.specs.Types.{Items, Pages}
use Rattle.plan_steps.specs.Parts.{pages_with}
use Rattle.plan_steps.specs.RowChanges.{SaysOf, with_row}
use Rattle.plan_steps.specs.UndoSteps.{with_back}
use Rattle.tree_plan_steps.specs.Following.{Follows, MayBegin, MayCreate, MaySplit, MayWrite, Stands}
use Rattle.tree_plan_steps.specs.UndoItemLaws.{last_undo}
use Rattle.row_edits.specs.declared.changes.BackGround.{BackGround}
use Rattle.row_edits.specs.declared.changes.RowGround.{RowGround}
use Rattle.row_edits.specs.BackPlans.{IsBackPlan}
use Rattle.row_edits.specs.Rooms.{IsSplitFor}
use Rattle.row_edits.specs.RowPlans.{IsRowPlan, item_of, step_of}
use Rattle.transaction_edits.specs.declared.numbering.Number.TheVariants as number
use Rattle.transaction_edits.specs.Wishes as transaction
use Rattle.transaction_edits.specs.Works.{number_of}
use Rattle.edit_events.specs.Grounds.{IsBackNow, IsRowNow, SaysTableAtEach}
use Rattle.edit_events.specs.Reading.{IsRead}

-- ---- a transaction begins, commits, and gives its slot back

abbrev pub BeginIsEvent : Language → Type 0
BeginIsEvent language =
    (was : Content) (c : Cluster) (items : ℕ → Items) (pages : Pages) (lsn s : ℕ) (plan : Plan)
    → Refines language was c → Stands items pages (now c) → MayBegin c s → s < sessions
    → number_of (pages 0) ≡ number.Next
    → transaction.IsPlanFor (transaction.Begins s (pages 0) (pages 1)) plan
    → Follows language (event.begins s) c items pages (grown lsn plan.records pages)

abbrev pub CommitIsEvent : Language → Type 0
CommitIsEvent language =
    (was : Content) (c : Cluster) (items : ℕ → Items) (pages : Pages) (lsn s n : ℕ) (plan : Plan)
    → Refines language was c → Stands items pages (now c) → MayCommit c s n
    → transaction.IsPlanFor
    (transaction.Commits s (pages 0) (pages 1) (pages (stamp_page (slot_of (pages 1) s).trx))) plan
    → Follows language (event.commits s) c items pages (grown lsn plan.records pages)

-- where no undo item is left
abbrev pub FreeIsEvent : Language → Type 0
FreeIsEvent language =
    (was : Content) (c : Cluster) (items : ℕ → Items) (pages : Pages) (lsn s n : ℕ) (plan : Plan)
    → Refines language was c → Stands items pages (now c) → MayUndo c s n
    → (slot_of (pages 1) s).last.page ≡ 0
    → transaction.IsPlanFor (transaction.Frees s (pages 1)) plan
    → Follows language (event.frees s) c items pages (grown lsn plan.records pages)

-- ---- the roots of trees

-- a row that may be written is in a tree of the store
abbrev pub WrittenIsRooted : Language → Type 0
WrittenIsRooted language =
    (was : Content) (c : Cluster) (s n root : ℕ) (h : Change)
    → Refines language was c → MayWrite c s n root h → IsRoot (now c) root

-- and so is what is to be undone
abbrev pub UndoneIsRooted : Type 0
UndoneIsRooted =
    (c : Cluster) (items : ℕ → Items) (pages : Pages) (s n : ℕ) (undo : UndoItem)
    → Stands items pages (now c) → MayUndo c s n → last_undo pages s ≡ Some undo
    → IsRoot (now c) undo.root

-- ---- trees change

-- the first page without room on the way of an item is split
abbrev pub SplitIsEvent : Language → Type 0
SplitIsEvent language =
    (was : Content) (c : Cluster) (items : ℕ → Items) (pages : Pages) (lsn s root : ℕ)
    (item : LeafItem) (path : List Image) (plan : Plan)
    → Refines language was c → Stands items pages (now c) → MaySplit c → IsRoot (now c) root
    → IsRead pages root item.key path → IsImage (pages 0) → IsImage (pages root)
    → IsSplitFor item path (pages 0) plan
    → Follows language (event.splits s (page_count (pages 0) + length plan.made)) c items pages
    (grown lsn plan.records pages)

-- a row is inserted, replaced or marked as deleted, by the transaction whose number its item has
abbrev pub WriteIsEvent : Language → Type 0
WriteIsEvent language =
    (was : Content) (c : Cluster) (items : ℕ → Items) (pages : Pages) (lsn : ℕ) (h : Change)
    (g : RowGround) (plan : Plan)
    → Refines language was c → Stands items pages (now c)
    → MayWrite c g.change.session g.change.item.trx g.change.root h
    → g.change.item.key ≡ h.key → g.change.begins ≡ None
    → SaysOf (now c) h.table g.change.item (written g.change.item.trx h.row)
    → IsRowNow pages g → IsRowPlan g plan
    → Follows language (event.writes g.change.session (pages_with (now c) (step_of g).made)) c
    (with_row items g.change.root (item_of g)) pages (grown lsn plan.records pages)

-- a table is made, whose root's number comes to stand at a place of its item
abbrev pub TableIsEvent : Language → Type 0
TableIsEvent language =
    (was : Content) (c : Cluster) (items : ℕ → Items) (pages : Pages) (lsn place : ℕ) (h : Change)
    (g : RowGround) (plan : Plan)
    → Refines language was c → Stands items pages (now c)
    → MayCreate c g.change.session g.change.item.trx h
    → g.change.root ≡ catalog → g.change.item.key ≡ h.key → g.change.begins ≡ Some place
    → SaysTableAtEach (Some place) g.change.item h.row
    → IsRowNow pages g → IsRowPlan g plan
    → Follows language (event.creates g.change.session (pages_with (now c) (step_of g).made)) c
    (with_row items catalog (item_of g)) pages (grown lsn plan.records pages)

-- the last change of a session's transaction is undone, whatever it was
abbrev pub UndoIsEvent : Language → Type 0
UndoIsEvent language =
    (was : Content) (c : Cluster) (items : ℕ → Items) (pages : Pages) (lsn n : ℕ) (g : BackGround)
    (plan : Plan)
    → Refines language was c → Stands items pages (now c) → MayUndo c g.session n
    → last_undo pages g.session ≡ Some g.undo
    → IsBackNow pages g → IsBackPlan g plan
    → Follows language (event.undoes g.session) c (with_back items g.undo) pages
    (grown lsn plan.records pages)

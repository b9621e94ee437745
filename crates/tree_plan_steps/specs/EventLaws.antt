-- Stated: the group of each plan makes of the store that pages hold the step that the event of
-- history asks for.
use Rattle.std.specs.Prelude.{◌≡◌, ◌≤◌, ◌<◌, ◌+◌, ℕ, List, length}
use Rattle.rm_base.specs.declared.limits.TheConstants.{MAX_PAGES, MAX_TRX_ID}
use Rattle.page_image.specs.Image.{Image}
use Rattle.page_image.specs.Meta.{counters_of, page_count}
use Rattle.page_image.specs.Rules.{IsImage}
use Rattle.page_view.specs.declared.leaf.LeafItem.{LeafItem}
use Rattle.redo_record.specs.declared.plans.Plan.{Plan}
use Rattle.redo_record.specs.declared.redo.Record.{Record}
use Rattle.tree_change.specs.Effects.{Keeps}
use Rattle.tree_change.specs.Places.{page_on}
use Rattle.tree_change.specs.Room.{lacks_room}
use Rattle.tree_change.specs.Splits.{IsRootSplit, IsSplitOf, SpaceFor}
use Rattle.tree_change.specs.Splits as splits
use Rattle.commit_stamps.specs.Effects.{Begins, Commits, Frees}
use Rattle.commit_stamps.specs.Fields.{slot_of}
use Rattle.commit_stamps.specs.Stamping.{stamp_page}
use Rattle.undo_versions.specs.declared.appending.UndoStep.{UndoStep}
use Rattle.undo_versions.specs.declared.items.UndoItem.{UndoItem}
use Rattle.sql_database.specs.declared.changes.Change.{Change}
use Rattle.table_machine.specs.Language.{Language}
use Rattle.version_store.specs.Contents.{Content}
use Rattle.version_store.specs.Stores.{catalog, naming, written}
use Rattle.history.specs.Clusters.{Cluster, now}
use Rattle.history.specs.Events as event
use Rattle.history.specs.Events.{MayCommit, MayUndo}
use Rattle.history.specs.Invariant.{Refines}
use Rattle.held_versions.specs.Counting.{sessions}
use Rattle.held_versions.specs.Keeping.{grown}
use Rattle.held_versions.specs.Tables.{SaysTable}
use Rattle.held_versions.specs.Trees.{IsRoot}
use Rattle.tree_timeline.specs.Types.{Items, Key, Pages}
use Rattle.plan_steps.specs.Creates.{CountsRoot, create_records, next_page}
use Rattle.plan_steps.specs.Parts.{pages_with, with_made}
use Rattle.plan_steps.specs.RowChanges.{SaysOf, change_records, with_row}
use Rattle.plan_steps.specs.UndoSteps.{undo_records, with_back}
use Rattle.tree_plan_steps.specs.Following.{Follows, MayBegin, MayCreate, MaySplit, MayWrite, Stands}
use Rattle.tree_plan_steps.specs.Planned.{UndoesVersion, UsesMade, WritesVersion}
use Rattle.tree_plan_steps.specs.Ways.{IsPath}

-- a transaction begins, with the next number
abbrev pub BeginFollows : Language → Type 0
BeginFollows language =
    (was : Content) (c : Cluster) (items : ℕ → Items) (pages : Pages) (lsn s : ℕ)
    (records : List Record)
    → Refines language was c → Stands items pages (now c) → MayBegin c s → s < sessions
    → (counters_of (pages 0)).next ≤ MAX_TRX_ID
    → Begins (pages 0) (pages 1) s (counters_of (pages 0)).next records
    → Follows language (event.begins s) c items pages (grown lsn records pages)

-- a row is inserted, updated or marked as deleted, and a page is made for its undo item or not
abbrev pub WriteFollows : Language → Type 0
WriteFollows language =
    (was : Content) (c : Cluster) (items : ℕ → Items) (pages : Pages) (lsn s n root : ℕ)
    (h : Change) (item : LeafItem) (undo : UndoItem) (path : List Image) (plan : Plan)
    (step : UndoStep)
    → Refines language was c → Stands items pages (now c) → MayWrite c s n root h
    → item.key ≡ h.key → SaysOf (now c) h.table item (written n h.row)
    → WritesVersion items pages s n root item undo path plan step → UsesMade pages step
    → Follows language (event.writes s (pages_with (now c) step.made)) c
    (with_row items root item) pages (grown lsn (change_records pages s plan.records step) pages)

-- a table is made, and a page before its root for the undo item or not
abbrev pub CreateFollows : Language → Type 0
CreateFollows language =
    (was : Content) (c : Cluster) (items : ℕ → Items) (pages : Pages) (lsn s n root : ℕ)
    (h : Change) (item : LeafItem) (undo : UndoItem) (path : List Image) (plan : Plan)
    (step : UndoStep)
    → Refines language was c → Stands items pages (now c) → MayCreate c s n h
    → item.key ≡ h.key → SaysTable item (naming (with_made (now c) step.made) n h.row)
    → WritesVersion items pages s n catalog item undo path plan step
    → root ≡ next_page (pages 0) step.made → root + 1 ≤ MAX_PAGES
    → CountsRoot (pages 0) root step.made
    → Follows language (event.creates s (pages_with (now c) step.made)) c
    (with_row items catalog item) pages
    (grown lsn (create_records pages s plan.records root step) pages)

-- a page below the root is split, for a change or for an undo step
abbrev pub SplitFollows : Language → Type 0
SplitFollows language =
    (was : Content) (c : Cluster) (items : ℕ → Items) (pages : Pages) (lsn s root : ℕ)
    (item : LeafItem) (path : List Image) (plan : Plan)
    → Refines language was c → Stands items pages (now c) → MaySplit c → IsRoot (now c) root
    → IsPath pages root (items root) item.key path → IsImage (pages 0)
    → splits.IsSplit item path (pages 0) plan → Keeps item.key path (pages 0) plan
    → Follows language (event.splits s (page_count (pages 0) + 1)) c items pages
    (grown lsn plan.records pages)

-- and the root
abbrev pub RootSplitFollows : Language → Type 0
RootSplitFollows language =
    (was : Content) (c : Cluster) (items : ℕ → Items) (pages : Pages) (lsn s root : ℕ) (key : Key)
    (path : List Image) (plan : Plan)
    → Refines language was c → Stands items pages (now c) → MaySplit c → IsRoot (now c) root
    → IsPath pages root (items root) key path → IsImage (pages 0) → IsImage (page_on path 0)
    → (page_on path 0).level < 8 → IsRootSplit path (pages 0) plan
    → Keeps key path (pages 0) plan
    → Follows language (event.splits s (page_count (pages 0) + 2)) c items pages
    (grown lsn plan.records pages)

-- So for the plan of whichever page is the first with too little room, where there is space for it:
-- the event counts the pages that the plan makes.
abbrev pub RoomFollows : Language → Type 0
RoomFollows language =
    (was : Content) (c : Cluster) (items : ℕ → Items) (pages : Pages) (lsn s root : ℕ)
    (item : LeafItem) (path : List Image) (plan : Plan)
    → Refines language was c → Stands items pages (now c) → MaySplit c → IsRoot (now c) root
    → IsPath pages root (items root) item.key path → IsImage (pages 0) → IsImage (page_on path 0)
    → SpaceFor (lacks_room item (page_on path 0)) (page_on path 0) (page_count (pages 0))
    → IsSplitOf (lacks_room item (page_on path 0)) item path (pages 0) plan
    → Keeps item.key path (pages 0) plan
    → Follows language (event.splits s (page_count (pages 0) + length plan.made)) c items pages
    (grown lsn plan.records pages)

-- the session's transaction is committed
abbrev pub CommitFollows : Language → Type 0
CommitFollows language =
    (was : Content) (c : Cluster) (items : ℕ → Items) (pages : Pages) (lsn s n : ℕ)
    (records : List Record)
    → Refines language was c → Stands items pages (now c) → MayCommit c s n
    → Commits (pages 0) (pages 1) (pages (stamp_page (slot_of (pages 1) s).trx)) s records
    → Follows language (event.commits s) c items pages (grown lsn records pages)

-- the last change of a transaction that is to be undone is undone
abbrev pub UndoFollows : Language → Type 0
UndoFollows language =
    (was : Content) (c : Cluster) (items : ℕ → Items) (pages : Pages) (lsn s n : ℕ)
    (undo : UndoItem) (path : List Image) (plan : Plan)
    → Refines language was c → Stands items pages (now c) → MayUndo c s n
    → UndoesVersion items pages s undo path plan
    → Follows language (event.undoes s) c (with_back items undo) pages
    (grown lsn (undo_records pages s plan.records undo) pages)

-- where its slot points to no undo item, the slot becomes free
abbrev pub FreeFollows : Language → Type 0
FreeFollows language =
    (was : Content) (c : Cluster) (items : ℕ → Items) (pages : Pages) (lsn s n : ℕ)
    (records : List Record)
    → Refines language was c → Stands items pages (now c) → MayUndo c s n
    → (slot_of (pages 1) s).last.page ≡ 0 → Frees (pages 1) s records
    → Follows language (event.frees s) c items pages (grown lsn records pages)

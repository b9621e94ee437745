-- Stated: an example, the first transaction of history's small run over the pages of the opening: it
-- begins, makes its table, and is committed; or its node is lost before the commit, and one that
-- takes over undoes what it did.
use Rattle.std.specs.Prelude.{List, None, Some, [], codes, false, take, ℕ, ◌∷◌, ◌≡◌}
use Rattle.page_view.specs.declared.leaf.LeafItem.{LeafItem}
use Rattle.redo_record.specs.declared.plans.Plan.{Plan}
use Rattle.redo_record.specs.declared.redo.Record.TheVariants.{InsertSlot}
use Rattle.row_codec.specs.Records.{value_bytes}
use Rattle.sql_catalog.specs.Catalog.{catalog_row}
use Rattle.sql_database.specs.Database.{empty}
use Rattle.table_machine.specs.declared.entries.Entry.{Entry}
use Rattle.tree_change.specs.Changes.{insert_plan, remove_plan}
use Rattle.commit_stamps.specs.Fields.{no_undo}
use Rattle.commit_stamps.specs.Plans.{commit_records, free_records}
use Rattle.undo_versions.specs.declared.appending.UndoStep.{UndoStep}
use Rattle.undo_versions.specs.declared.items.UndoItem.{UndoItem}
use Rattle.undo_versions.specs.Appending.{bytes_of}
use Rattle.version_store.specs.Stores.{blank, catalog}
use Rattle.history.specs.Clusters.{Cluster, now, start}
use Rattle.history.specs.Events.{AllHappen, Event, appends, begins, commits, creates, frees, tails, undoes, writer_falls}
use Rattle.history.specs.SmallLanguage.{schema, small}
use Rattle.history.specs.SmallRun.{making}
use Rattle.held_versions.specs.Keeping.{grown}
use Rattle.held_versions.specs.Laws.{no_items}
use Rattle.held_versions.specs.Run.{after_begin, after_opening}
use Rattle.tree_timeline.specs.Types.{Items, Pages}
use Rattle.plan_steps.specs.Creates.{create_records}
use Rattle.plan_steps.specs.RowChanges.{with_row}
use Rattle.tree_plan_steps.specs.Following.{Follows, Stands}
use Rattle.plan_steps.specs.UndoSteps.{undo_records, with_back}
use Rattle.tree_plan_steps.specs.UndoItemLaws.{IsLastUndo, last_undo}

-- three sessions join, and the first one's CREATE is taken up and judged
abbrev pub before_begin : List Event
before_begin = take 7 making

-- ---- the table, at the next page

abbrev pub table_item : LeafItem
table_item = record {
  key = codes "t";
  deleted = false;
  trx = 1;
  older = record { page = 1027; slot = 0 };
  value = value_bytes 0 (catalog_row schema 1028);
}

abbrev pub table_undo : UndoItem
table_undo = record { trx = 1; root = catalog; before = no_undo; key = codes "t"; old = None }

abbrev pub table_step : UndoStep
table_step = record {
  at = record { page = 1027; slot = 0 };
  records = InsertSlot 1027 0 (bytes_of table_undo) ∷ [];
  made = None;
}

abbrev pub put_plan : Plan
put_plan = insert_plan (after_begin catalog) table_item

-- ---- the pages and the items after each group

abbrev pub after_create : Pages
after_create =
    grown 3 (create_records after_begin 0 put_plan.records 1028 table_step) after_begin

abbrev pub items : ℕ → Items
items = with_row no_items catalog table_item

abbrev pub after_commit : Pages
after_commit =
    grown 4 (commit_records (after_create 0) (after_create 1) (after_create 2) 0) after_create

-- ---- where the node is lost before the commit

-- both groups are kept, the node is lost with what session 0 has open, and the end of the log is taken
abbrev pub losing : List Event
losing = appends 2 ∷ (writer_falls 0 (0 ∷ []) ∷ (tails ∷ []))

abbrev pub take_plan : Plan
take_plan = remove_plan (after_create catalog) (codes "t")

abbrev pub after_undo : Pages
after_undo = grown 4 (undo_records after_create 0 take_plan.records table_undo) after_create

abbrev pub after_free : Pages
after_free = grown 5 (free_records (after_undo 1) 0) after_undo

abbrev pub items_back : ℕ → Items
items_back = with_back items table_undo

-- From where the table is made: the undo item that is read is that of the making, which is undone by
-- its plan; and then the slot is freed.
pub record ExampleUndoes (made : Cluster) : Type 0 where
  pub journal : List Entry
  pub taken : Cluster
  pub losses : AllHappen small made losing journal taken
  pub read : last_undo after_create 0 ≡ Some table_undo
  pub last : IsLastUndo after_create (now taken) 0 1 table_undo
  pub undo : Follows small (undoes 0) taken items_back after_create after_undo
  pub free : Follows small (frees 0) undo.after items_back after_undo after_free

-- ---- the run

-- The opening's pages hold the store; and by the plans of a begin, of the making of a table and of a
-- commit each event happens, one after the other, and the pages hold the store that it leaves. So
-- they do where the table is undone.
pub record ExampleRuns : Type 0 where
  pub journal : List Entry
  pub judged : Cluster
  pub happens : AllHappen small (start 2 empty 0 blank) before_begin journal judged
  pub stands : Stands no_items after_opening (now judged)
  pub begin : Follows small (begins 0) judged no_items after_opening after_begin
  pub create : Follows small (creates 0 1028) begin.after items after_begin after_create
  pub commit : Follows small (commits 0) create.after items after_create after_commit
  pub undone : ExampleUndoes create.after

-- Stated: pages follow the events of a cluster's history.
use Rattle.std.specs.Prelude.{◌≡◌, ◌≢◌, ℕ, true, false, None, Some, List, bytes_eq, is_some}
use Rattle.sql_database.specs.declared.changes.Change.{Change}
use Rattle.table_machine.specs.Language.{Language}
use Rattle.table_machine.specs.Machine.{Transaction}
use Rattle.version_store.specs.Contents.{catalog_name}
use Rattle.version_store.specs.Stores.{Store, catalog}
use Rattle.version_store.specs.Versions.{seen_root}
use Rattle.history.specs.Clusters.{Cluster, Dead, Open, now, own}
use Rattle.history.specs.Events.{Event, Happens, MayInstall, NoJob}
use Rattle.held_versions.specs.Holds.{Holds}
use Rattle.tree_timeline.specs.Types.{Items, Pages}
use Rattle.plan_steps.specs.Entries.{EntriesRooted, NoneBehind}
use Rattle.plan_steps.specs.Growth.{UndoGrows}

-- Pages hold a store; what its open transactions changed stands in the catalog, or in a table that
-- a name has; and no items are told of pages that are not made.
pub record Stands (items : ℕ → Items) (pages : Pages) (S : Store) : Type 0 where
  pub holds : Holds items pages S
  pub entries : EntriesRooted S
  pub behind : NoneBehind items S

-- The event happens, and the pages after its group hold the store that it leaves; undo items stay.
pub record Follows (language : Language) (e : Event) (c : Cluster) (items : ℕ → Items)
    (old new : Pages) : Type 0 where
  pub after : Cluster
  pub happens : Happens language e c after
  pub stands : Stands items new (now after)
  pub grows : UndoGrows old new

-- ---- what the cluster has to be, beside what history says of a commit and of an undo

-- the session's transaction has no slot yet
pub record MayBegin (c : Cluster) (s : ℕ) : Type 0 where
  pub no_job : NoJob c
  pub open_mode : c.mode ≡ Open
  pub free : (now c).slot s ≡ None
  pub has : is_some (c.machine.sessions s).transaction ≡ true

-- The session's transaction n has a row to install next, in the table whose root it sees there.
pub record MayWrite (c : Cluster) (s n root : ℕ) (h : Change) : Type 0 where
  pub transaction : Transaction
  pub others : List Change
  pub may : MayInstall c s transaction n h others
  pub is_row : bytes_eq h.table catalog_name ≡ false
  pub sees : seen_root ((now c).rows catalog h.table) (now c).stamp transaction.snap (own c s)
      ≡ Some root

-- it has a table to make next
pub record MayCreate (c : Cluster) (s n : ℕ) (h : Change) : Type 0 where
  pub transaction : Transaction
  pub others : List Change
  pub may : MayInstall c s transaction n h others
  pub is_table : bytes_eq h.table catalog_name ≡ true

-- pages may be split while a node takes the writes, or takes over
pub record MaySplit (c : Cluster) : Type 0 where
  pub no_job : NoJob c
  pub alive : c.mode ≢ Dead

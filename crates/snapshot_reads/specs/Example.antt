-- Stated: an example, a reader at a snapshot and a writer, over pages with a table of one row that
-- has two versions.
use Rattle.std.specs.Prelude.{◌++◌, ℕ, List, [], ◌∷◌, Option, Some, None, codes}
use Rattle.rm_base.specs.declared.key_range.KeyRange.{KeyRange}
use Rattle.tree_timeline.specs.Walks.{Visit}
use Rattle.version_store.specs.Contents.{Content, chain_of}
use Rattle.version_store.specs.Versions.{seen}
use Rattle.held_versions.specs.Example.{items, pages, root, row, schema, store}
use Rattle.snapshot_reads.specs.Laws.{Reads, UsesWithin}
use Rattle.snapshot_reads.specs.Tables.{RowsFound, TableFound}
use Rattle.snapshot_reads.specs.Times.{image_at}

-- a log in which nothing more comes
abbrev pub log : {A : Type 0} → A → ℕ → A
log kept lsn = kept

-- what is seen at the snapshot 1, up to which transaction 1 has committed
abbrev pub seen_by : Option ℕ → Content
seen_by own a k = seen (chain_of store a k) store.stamp 1 own

abbrev pub use_at : ℕ → ℕ → Visit
use_at lsn page = record { time = lsn; page = page }

-- the catalog's leaf, and the page of stamps for its item's transaction
abbrev pub name_uses : List Visit
name_uses = use_at 1 1026 ∷ (use_at 1 2 ∷ [])

-- the table's leaf, the page of stamps for its item's transaction, which has not committed, the
-- undo page with the item before, and the page of stamps for that one's transaction
abbrev pub row_uses : List Visit
row_uses = use_at 2 1028 ∷ (use_at 3 2 ∷ (use_at 3 1027 ∷ (use_at 5 2 ∷ [])))

-- the writer uses the table's leaf alone: the item is its own
abbrev pub own_uses : List Visit
own_uses = use_at 2 1028 ∷ []

abbrev pub all_keys : KeyRange
all_keys = record { low = None; high = None }

pub record ExampleReads : Type 0 where
  pub reads : Reads (log pages) (log items) (log store) 1 9 1 None (seen_by None)
  pub own_reads : Reads (log pages) (log items) (log store) 1 9 1 (Some 2) (seen_by (Some 2))
  pub within : UsesWithin (log pages) (log store) 1 1 1 9 (name_uses ++ row_uses)
  pub table : TableFound (image_at (log pages)) 1 None (codes "t") name_uses schema root
  pub rows : RowsFound (image_at (log pages)) 1 None root schema all_keys row_uses
      (row (codes "1") ∷ [])
  pub own_rows : RowsFound (image_at (log pages)) 1 (Some 2) root schema all_keys own_uses
      (row (codes "2") ∷ [])

-- Stated: a run of groups from the opening on: one transaction is committed, and one freed.
use Rattle.std.specs.Prelude.{◌≡◌, ℕ}
use Rattle.page_image.specs.Image.{Image, unmade}
use Rattle.redo_record.specs.Opening.{opening_records}
use Rattle.commit_stamps.specs.Plans.{begin_records, commit_records, free_records}
use Rattle.commit_stamps.specs.Stamping.{stamp_in}
use Rattle.version_store.specs.Stores.{Store, begun, blank, freed, stamped}
use Rattle.held_versions.specs.Holds.{Holds}
use Rattle.held_versions.specs.Keeping.{grown}
use Rattle.held_versions.specs.Laws.{no_items}

-- the pages after each group
abbrev pub after_opening : ℕ → Image
after_opening = grown 1 opening_records unmade

abbrev pub after_begin : ℕ → Image
after_begin = grown 2 (begin_records (after_opening 0) (after_opening 1) 0 1) after_opening

abbrev pub after_commit : ℕ → Image
after_commit =
    grown 3 (commit_records (after_begin 0) (after_begin 1) (after_begin 2) 0) after_begin

abbrev pub after_second : ℕ → Image
after_second = grown 4 (begin_records (after_commit 0) (after_commit 1) 0 2) after_commit

abbrev pub after_free : ℕ → Image
after_free = grown 5 (free_records (after_second 1) 0) after_second

-- and the store
abbrev pub committed : Store
committed = stamped (begun blank 0) 0 1

-- the pages hold the store after each group, and the first transaction has its stamp on its page
pub record RunHolds : Type 0 where
  pub begin : Holds no_items after_begin (begun blank 0)
  pub commit : Holds no_items after_commit committed
  pub second : Holds no_items after_second (begun committed 0)
  pub free : Holds no_items after_free (freed (begun committed 0) 0)
  pub stamp : stamp_in (after_free 2) 1 ≡ 1

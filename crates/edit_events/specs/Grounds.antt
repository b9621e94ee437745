-- Stated: what a plan stands on is the log as it stands.
use Rattle.std.specs.Prelude.{◌≡◌, ◌≤◌, ◌+◌, ℕ, Option}
use Rattle.rm_base.specs.declared.limits.TheConstants.{MAX_PAGES}
use Rattle.page_view.specs.declared.leaf.LeafItem.{LeafItem}
use Rattle.version_store.specs.Versions.{Row}
use Rattle.held_versions.specs.Tables.{SaysTable}
use Rattle.tree_timeline.specs.Types.{Pages}
use Rattle.plan_steps.specs.Parts.{undo_in_use}
use Rattle.row_edits.specs.declared.changes.BackGround.{BackGround}
use Rattle.row_edits.specs.declared.changes.RowGround.{RowGround}
use Rattle.row_edits.specs.RowPlans.{naming}
use Rattle.edit_events.specs.Reading.{IsRead}

-- the pages of a row's change are these: its way, the meta page, the undo page in use, the slots page
pub record IsRowNow (pages : Pages) (g : RowGround) : Type 0 where
  pub way : IsRead pages g.change.root g.change.item.key g.path
  pub meta : g.meta ≡ pages 0
  pub undo : g.undo ≡ undo_in_use pages
  pub slots : g.slots ≡ pages 1

-- and those of an undo: the way to what its undo item changed, and the slots page
pub record IsBackNow (pages : Pages) (g : BackGround) : Type 0 where
  pub way : IsRead pages g.undo.root g.undo.key g.path
  pub slots : g.slots ≡ pages 1

-- with whichever root at its place, the item says the table's row at that root
abbrev pub SaysTableAtEach : Option ℕ → LeafItem → Option Row → Type 0
SaysTableAtEach place item row =
    (root : ℕ) → root + 1 ≤ MAX_PAGES
    → SaysTable (naming place root item) (record { trx = item.trx; row = row; root = root })

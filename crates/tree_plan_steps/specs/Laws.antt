-- Stated: the plans of trees are the tree's part of the groups that change a store of versions.
use Rattle.std.specs.Prelude.{◌≡◌, ◌<◌, ◌+◌, ℕ, List, [], ◌∷◌}
use Rattle.page_image.specs.Meta.{page_count}
use Rattle.page_image.specs.Image.{Image}
use Rattle.page_image.specs.Rules.{IsImage}
use Rattle.page_view.specs.declared.leaf.LeafItem.{LeafItem}
use Rattle.page_view.specs.Leaf.{leaf_bytes}
use Rattle.redo_record.specs.declared.plans.Plan.{Plan}
use Rattle.tree_change.specs.Effects.{Carries, Keeps, with_item, without_item}
use Rattle.tree_change.specs.Places.{page_on}
use Rattle.tree_change.specs.Splits.{IsRootSplit}
use Rattle.tree_change.specs.Splits as splits
use Rattle.version_store.specs.Stores.{Store}
use Rattle.held_versions.specs.Holds.{Holds}
use Rattle.held_versions.specs.Trees.{IsRoot}
use Rattle.tree_timeline.specs.Types.{Items, Key, Pages}
use Rattle.plan_steps.specs.KeyItems.{put_item, taken_out}
use Rattle.plan_steps.specs.Parts.{ChangesLeaf}
use Rattle.plan_steps.specs.Splitting.{IsSplit}
use Rattle.tree_plan_steps.specs.Ways.{IsPath}

-- a plan that puts an item, in the place of one or not: the leaf's part of a row's change, of the
-- making of a table, and of an undo step that puts an item back
abbrev pub PutChangesLeaf : Type 0
PutChangesLeaf =
    (items : ℕ → Items) (pages : Pages) (lsn root leaf : ℕ) (item : LeafItem) (path : List Image)
    (plan : Plan)
    → IsPath pages root (items root) item.key path → plan.pages ≡ leaf ∷ []
    → Carries item.key path plan (with_item item.key (leaf_bytes item))
    → ChangesLeaf items pages lsn root leaf
    (put_item item.key (leaf_bytes item) (items root)) plan.records

-- a plan that removes an item: the leaf's part of an undo step for a key that was not there
abbrev pub RemoveChangesLeaf : Type 0
RemoveChangesLeaf =
    (items : ℕ → Items) (pages : Pages) (lsn root leaf : ℕ) (key : Key) (path : List Image)
    (plan : Plan)
    → IsPath pages root (items root) key path → plan.pages ≡ leaf ∷ []
    → Carries key path plan (without_item key)
    → ChangesLeaf items pages lsn root leaf (taken_out key (items root)) plan.records

-- a plan that splits a page below the root, over pages that hold a store
abbrev pub SplitIsSplit : Type 0
SplitIsSplit =
    (items : ℕ → Items) (pages : Pages) (S : Store) (lsn root : ℕ) (item : LeafItem)
    (path : List Image) (plan : Plan)
    → Holds items pages S → IsRoot S root → IsPath pages root (items root) item.key path
    → IsImage (pages 0) → splits.IsSplit item path (pages 0) plan
    → Keeps item.key path (pages 0) plan
    → IsSplit items pages lsn root (page_count (pages 0) + 1) plan.pages plan.made plan.records

-- and one that splits the root
abbrev pub RootSplitIsSplit : Type 0
RootSplitIsSplit =
    (items : ℕ → Items) (pages : Pages) (S : Store) (lsn root : ℕ) (key : Key)
    (path : List Image) (plan : Plan)
    → Holds items pages S → IsRoot S root → IsPath pages root (items root) key path
    → IsImage (pages 0) → IsImage (page_on path 0) → (page_on path 0).level < 8
    → IsRootSplit path (pages 0) plan → Keeps key path (pages 0) plan
    → IsSplit items pages lsn root (page_count (pages 0) + 2) plan.pages plan.made plan.records

-- Stated: the plans of a change and of its undoing, by what their contracts say.
use Rattle.std.specs.Prelude.{◌≡◌, ◌≤◌, ◌+◌, ℕ, List, [], ◌∷◌, Option, Some, None}
use Rattle.rm_base.specs.declared.limits.TheConstants.{MAX_PAGES}
use Rattle.page_image.specs.Image.{Image}
use Rattle.page_image.specs.Meta.{page_count}
use Rattle.page_view.specs.declared.leaf.LeafItem.{LeafItem}
use Rattle.page_view.specs.Leaf.{IsLeaf, leaf_bytes}
use Rattle.page_view.specs.Undo.{IsOld}
use Rattle.redo_record.specs.declared.plans.Plan.{Plan}
use Rattle.tree_change.specs.Changes.{IsPut, remove_plan}
use Rattle.tree_change.specs.Effects.{Carries, with_item, without_item}
use Rattle.tree_change.specs.Places.{leaf_on}
use Rattle.commit_stamps.specs.Effects.{Points}
use Rattle.commit_stamps.specs.Fields.{slot_of}
use Rattle.commit_stamps.specs.Plans.{points}
use Rattle.undo_versions.specs.declared.appending.UndoStep.{UndoStep}
use Rattle.undo_versions.specs.declared.items.UndoItem.{UndoItem}
use Rattle.undo_versions.specs.Appending.{NeedsPage, counts_undo, undo_step}
use Rattle.undo_versions.specs.Effects.{Appends, Uses}
use Rattle.undo_versions.specs.Reading.{older}
use Rattle.tree_timeline.specs.Types.{Items, Key, Pages}
use Rattle.plan_steps.specs.Parts.{KeepsOld, undo_in_use}
use Rattle.tree_plan_steps.specs.Ways.{IsPath}

-- the plan puts the item into its leaf, or in the place of the one with its key
pub record PutsItem (path : List Image) (item : LeafItem) (plan : Plan) : Type 0 where
  pub puts : IsPut (leaf_on path) item plan
  pub carries : Carries item.key path plan (with_item item.key (leaf_bytes item))

-- the plan takes the item with the key out of its leaf
pub record TakesItem (path : List Image) (key : Key) (plan : Plan) : Type 0 where
  pub takes : plan ≡ remove_plan (leaf_on path) key
  pub carries : Carries key path plan (without_item key)

-- The undo item goes to the undo page in use or to a page that is made for it, for which there is
-- space; and the session's slot points to it.
pub record KeepsUndoItem (pages : Pages) (s : ℕ) (undo : UndoItem) (step : UndoStep) : Type 0 where
  pub space : ¬ (NeedsPage (undo_in_use pages) undo × (MAX_PAGES ≤ page_count (pages 0)))
  pub step_is : step ≡ undo_step (pages 0) (undo_in_use pages) undo
  pub appends : Appends (undo_in_use pages) undo step
  pub pointed : Points (pages 1) s step.at (points (pages 1) s step.at ∷ [])

-- The plans of a version that transaction t writes under the root, in the session s: the item is of
-- the transaction, and points to the undo item, which says what stood there.
pub record WritesVersion (items : ℕ → Items) (pages : Pages) (s t root : ℕ) (item : LeafItem)
    (undo : UndoItem) (path : List Image) (plan : Plan) (step : UndoStep) : Type 0 where
  pub path_is : IsPath pages root (items root) item.key path
  pub spelt : IsLeaf item
  pub wrote : item.trx ≡ t
  pub points_to : item.older ≡ step.at
  pub puts : PutsItem path item plan
  pub keeps_old : KeepsOld items pages s t root item.key undo
  pub keeps : KeepsUndoItem pages s undo step

-- where a page is made for the undo item, the meta page counts it and has it as the one in use
abbrev pub UsesMade : Pages → UndoStep → Type 0
UsesMade pages step =
    (page : ℕ) → step.made ≡ Some page
    → Uses (pages 0) (page + 1) page (counts_undo (pages 0) (page + 1) page ∷ [])

-- the old item is put back, or, where none stood there, the item is taken out
abbrev pub PutsBack : List Image → Key → Option LeafItem → Plan → Type 0
PutsBack path key None plan = TakesItem path key plan
PutsBack path key (Some old) plan = PutsItem path old plan

-- The plans of an undo step: the undo item is the session's last one; what it says stood there comes
-- back; and the slot points to the undo item before it.
pub record UndoesVersion (items : ℕ → Items) (pages : Pages) (s : ℕ) (undo : UndoItem)
    (path : List Image) (plan : Plan) : Type 0 where
  pub last : older (pages (slot_of (pages 1) s).last.page) (slot_of (pages 1) s).last ≡ Some undo
  pub spelt : IsOld undo.key undo.old
  pub path_is : IsPath pages undo.root (items undo.root) undo.key path
  pub back : PutsBack path undo.key undo.old plan
  pub pointed : Points (pages 1) s undo.before (points (pages 1) s undo.before ∷ [])

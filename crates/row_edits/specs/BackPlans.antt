-- Stated: the plan that undoes a change.
use Rattle.std.specs.Prelude.{◌≡◌, ℕ, Bool, true, false, List, [], ◌∷◌, ◌++◌, nat_le, Option, Some, None}
use Rattle.page_image.specs.Image.{Image}
use Rattle.page_view.specs.declared.leaf.LeafItem.{LeafItem}
use Rattle.page_view.specs.Leaf.{leaf_bytes}
use Rattle.page_view.specs.Undo.{IsOld}
use Rattle.redo_record.specs.declared.plans.Plan.{Plan}
use Rattle.redo_record.specs.declared.plans.PlanKind.TheVariants as kind
use Rattle.commit_stamps.specs.Effects.{Points}
use Rattle.commit_stamps.specs.Plans.{points}
use Rattle.undo_versions.specs.declared.items.UndoItem.{UndoItem}
use Rattle.tree_change.specs.Changes.{remove_plan}
use Rattle.tree_change.specs.Effects.{Carries, with_item, without_item}
use Rattle.tree_change.specs.Places.{HasKey, leaf_on}
use Rattle.tree_change.specs.Room.{room_for, size_of}
use Rattle.row_edits.specs.declared.changes.BackGround.{BackGround}
use Rattle.row_edits.specs.RowPlans.{old_in, put_plan}

-- the leaf has an item with the key
abbrev pub is_some : Option LeafItem → Bool
is_some None = false
is_some (Some item) = true

abbrev pub is_there : List Image → List ℕ → Bool
is_there path key = is_some (old_in (leaf_on path) key)

abbrev pub HasItem : List ℕ → List Image → Type 0
HasItem key path = HasKey key (leaf_on path)

-- the leaf has room for the item
abbrev pub fits : List Image → LeafItem → Bool
fits path item = nat_le (size_of item) (room_for item.key (leaf_on path))

-- the leaf can be changed back: it has the item that is taken away, or room for the one that is put
-- back
abbrev pub can_by : Option LeafItem → List Image → List ℕ → Bool
can_by None path key = is_there path key
can_by (Some old) path key = fits path old

-- the old item is put back, or, where there was none, the item with the key is taken away
abbrev pub plan_by : Option LeafItem → Image → List ℕ → Plan
plan_by None leaf key = remove_plan leaf key
plan_by (Some old) leaf key = put_plan leaf old

abbrev pub leaf_plan : BackGround → Plan
leaf_plan g = plan_by g.undo.old (leaf_on g.path) g.undo.key

abbrev pub items_by : List ℕ → Option LeafItem → List (List ℕ) → List (List ℕ)
items_by key None = without_item key
items_by key (Some old) = with_item key (leaf_bytes old)

abbrev pub put_back : UndoItem → List (List ℕ) → List (List ℕ)
put_back undo = items_by undo.key undo.old

-- The records of the leaf, and that of the slot, which points to the undo item before.
abbrev pub joined_back : BackGround → Plan → Plan
joined_back g plan = record {
  kind = kind.Undo;
  pages = plan.pages ++ g.slots.page ∷ [];
  made = plan.made;
  records = plan.records ++ points g.slots g.session g.undo.before ∷ [];
}

-- The plan is that of the undo, and each of its parts does what it is for: what stood there stands
-- there again, and the slot points to the undo item before.
pub record IsBackPlan (g : BackGround) (plan : Plan) : Type 0 where
  pub plan_is : plan ≡ joined_back g (leaf_plan g)
  pub spelt : IsOld g.undo.key g.undo.old
  pub carries : Carries g.undo.key g.path (leaf_plan g) (put_back g.undo)
  pub pointed : Points g.slots g.session g.undo.before (points g.slots g.session g.undo.before ∷ [])

-- Stated: the plans that change one item of a leaf.
use Rattle.std.specs.Prelude.{◌≡◌, ◌+◌, ℕ, List, [], ◌∷◌, ◌++◌}
use Rattle.page_image.specs.Meta.{page_count}
use Rattle.page_image.specs.declared.kind.Kind.TheVariants.{Leaf}
use Rattle.page_image.specs.Image.{Image}
use Rattle.page_view.specs.declared.leaf.LeafItem.{LeafItem}
use Rattle.page_view.specs.Leaf.{leaf_bytes}
use Rattle.redo_record.specs.declared.redo.Record.{Record}
use Rattle.redo_record.specs.declared.redo.Record.TheVariants.{Make, InsertSlot, RemoveSlot}
use Rattle.redo_record.specs.declared.plans.Plan.{Plan}
use Rattle.redo_record.specs.declared.plans.PlanKind.TheVariants.{Change}
use Rattle.tree_change.specs.Places.{lesser, HasKey}
use Rattle.tree_change.specs.Splits.{counts}

-- a plan that changes one leaf
abbrev pub change_of : ℕ → List Record → Plan
change_of page records = record { kind = Change; pages = page ∷ []; made = []; records = records }

-- the item joins the leaf behind the lesser keys
abbrev pub insert_plan : Image → LeafItem → Plan
insert_plan leaf item =
    change_of leaf.page (InsertSlot leaf.page (lesser item.key leaf.items) (leaf_bytes item) ∷ [])

-- the item takes the place of the one with its key
abbrev pub update_plan : Image → LeafItem → Plan
update_plan leaf item =
    let place = lesser item.key leaf.items in
    change_of leaf.page (RemoveSlot leaf.page place ∷ InsertSlot leaf.page place (leaf_bytes item) ∷ [])

-- the item with the key leaves
abbrev pub remove_plan : Image → List ℕ → Plan
remove_plan leaf key = change_of leaf.page (RemoveSlot leaf.page (lesser key leaf.items) ∷ [])

-- the plan puts the item into the leaf, or in the place of the one with its key
pub record IsPut (leaf : Image) (item : LeafItem) (plan : Plan) : Type 0 where
  pub inserts : ¬ HasKey item.key leaf → plan ≡ insert_plan leaf item
  pub replaces : HasKey item.key leaf → plan ≡ update_plan leaf item

-- the plan, and besides the page that the meta page counts next becomes an empty leaf, and is counted
abbrev pub with_root : Plan → Image → Plan
with_root plan meta =
    let new = page_count meta in
    record {
      kind = Change;
      pages = plan.pages ++ new ∷ meta.page ∷ [];
      made = new ∷ [];
      records = plan.records ++ Make new Leaf 0 ∷ counts meta (new + 1) ∷ [];
    }

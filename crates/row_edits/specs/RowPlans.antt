-- Stated: the plan of a row's change.
use Rattle.std.specs.Prelude.{◌≡◌, ◌≤◌, ◌+◌, ◌||◌, ◌&&◌, ℕ, Bool, true, List, [], ◌∷◌, ◌++◌, length, nat_lt, Option, Some, None, ⊤}
use Rattle.rm_base.specs.Fields.{field, with_field}
use Rattle.rm_base.specs.declared.limits.TheConstants.{MAX_PAGES}
use Rattle.rm_base.specs.declared.places.UndoPtr.{UndoPtr}
use Rattle.page_image.specs.Image.{Image}
use Rattle.page_image.specs.declared.kind.Kind.TheVariants.{Leaf}
use Rattle.page_image.specs.Meta.{page_count}
use Rattle.page_image.specs.Rules.{IsImage}
use Rattle.page_view.specs.declared.leaf.LeafItem.{LeafItem}
use Rattle.page_view.specs.Leaf.{IsLeaf, leaf_bytes, leaf_of}
use Rattle.redo_record.specs.declared.redo.Record.{Record}
use Rattle.redo_record.specs.declared.redo.Record.TheVariants.{Make, Patch}
use Rattle.redo_record.specs.declared.plans.Plan.{Plan}
use Rattle.redo_record.specs.declared.plans.PlanKind.TheVariants.{Change}
use Rattle.commit_stamps.specs.Effects.{Points}
use Rattle.commit_stamps.specs.Fields.{slot_of}
use Rattle.commit_stamps.specs.Plans.{points}
use Rattle.undo_versions.specs.declared.appending.UndoStep.{UndoStep}
use Rattle.undo_versions.specs.declared.items.UndoItem.{UndoItem}
use Rattle.undo_versions.specs.Appending.{bytes_of, counts_undo, fits_bytes, undo_step}
use Rattle.undo_versions.specs.Effects.{Appends, Uses}
use Rattle.tree_change.specs.Changes.{insert_plan, update_plan}
use Rattle.tree_change.specs.Effects.{Carries, with_item}
use Rattle.tree_change.specs.Places.{leaf_on, with_key}
use Rattle.row_edits.specs.declared.changes.RowChange.{RowChange}
use Rattle.row_edits.specs.declared.changes.RowGround.{RowGround}

-- the item with the key in a leaf, if it is there
abbrev pub first_of : List (List ℕ) → Option LeafItem
first_of [] = None
first_of (item ∷ rest) = Some (leaf_of item)

unfoldable pub old_in : Image → List ℕ → Option LeafItem
old_in leaf key = first_of (with_key key leaf.items)

-- an item takes the place of the one with its key, or joins the leaf where there is none
abbrev pub put_by : Option LeafItem → Image → LeafItem → Plan
put_by None leaf item = insert_plan leaf item
put_by (Some old) leaf item = update_plan leaf item

abbrev pub put_plan : Image → LeafItem → Plan
put_plan leaf item = put_by (old_in leaf item.key) leaf item

-- the undo item of a change: its transaction, its key, what stood there, and the transaction's
-- change before it
abbrev pub undo_of : RowGround → UndoItem
undo_of g = record {
  trx = g.change.item.trx;
  root = g.change.root;
  before = (slot_of g.slots g.change.session).last;
  key = g.change.item.key;
  old = old_in (leaf_on g.path) g.change.item.key;
}

-- where it goes
abbrev pub step_of : RowGround → UndoStep
step_of g = undo_step g.meta g.undo (undo_of g)

-- there is a page for it: it fits the undo page in use, or one can be made
abbrev pub has_undo_room : RowGround → Bool
has_undo_room g =
    fits_bytes g.undo (bytes_of (undo_of g)) || nat_lt (page_count g.meta) MAX_PAGES

-- an item that points to an undo item
abbrev pub pointing : LeafItem → UndoPtr → LeafItem
pointing item at = record item { older = at }

-- the root of a table that begins is the next page, behind the one that is made for the undo item, if
-- any
abbrev pub next_page : Image → Option ℕ → ℕ
next_page meta None = page_count meta
next_page meta (Some page) = page + 1

abbrev pub root_of : RowGround → ℕ
root_of g = next_page g.meta (step_of g).made

-- an item that begins a table has the number of the table's root in its value
abbrev pub naming : Option ℕ → ℕ → LeafItem → LeafItem
naming None root item = item
naming (Some at) root item = record item { value = with_field 4 item.value at root }

-- the item of the change points to the undo item
abbrev pub item_of : RowGround → LeafItem
item_of g = naming g.change.begins (root_of g) (pointing g.change.item (step_of g).at)

-- there is a page for the root of a table, where one begins
abbrev pub has_root_room : Option ℕ → ℕ → Bool
has_root_room None root = true
has_root_room (Some at) root = nat_lt root MAX_PAGES

-- and so there are the pages that the change needs
abbrev pub has_pages : RowGround → Bool
has_pages g = has_undo_room g && has_root_room g.change.begins (root_of g)

-- the place of the root's number is within the value
abbrev pub IsPlaceIn : Option ℕ → List ℕ → Type 0
IsPlaceIn None value = ⊤
IsPlaceIn (Some at) value = at + 4 ≤ length value

-- a change whose item is within its limits
pub record IsChange (change : RowChange) : Type 0 where
  pub leaf : IsLeaf change.item
  pub place : IsPlaceIn change.begins change.item.value

-- the root of the table that begins, if one does
abbrev pub begun : Option ℕ → ℕ → Option ℕ
begun None root = None
begun (Some at) root = Some root

abbrev pub begun_by : RowGround → Option ℕ
begun_by g = begun g.change.begins (root_of g)

-- where a page was made, the meta page counts it, and has it as the undo page in use
abbrev pub counts_made : Image → Option ℕ → List Record
counts_made meta None = []
counts_made meta (Some page) = counts_undo meta (page + 1) page ∷ []

abbrev pub CountsMade : Image → Option ℕ → Type 0
CountsMade meta None = ⊤
CountsMade meta (Some page) =
    (page + 1 ≤ MAX_PAGES) × Uses meta (page + 1) page (counts_undo meta (page + 1) page ∷ [])

-- and so it does with the root of a table that begins
abbrev pub counts_for : Image → Option ℕ → Option ℕ → List Record
counts_for meta None made = counts_made meta made
counts_for meta (Some root) None = Patch meta.page 36 (field 4 (root + 1)) ∷ []
counts_for meta (Some root) (Some page) = counts_undo meta (root + 1) page ∷ []

abbrev pub CountsFor : Image → Option ℕ → Option ℕ → Type 0
CountsFor meta None made = CountsMade meta made
CountsFor meta (Some root) None = (root + 1 ≤ MAX_PAGES) × IsImage meta
CountsFor meta (Some root) (Some page) =
    (root + 1 ≤ MAX_PAGES) × Uses meta (root + 1) page (counts_undo meta (root + 1) page ∷ [])

-- the page of an option as a list
abbrev pub pages_of : Option ℕ → List ℕ
pages_of None = []
pages_of (Some page) = page ∷ []

-- the pages behind the leaf: the root of a table that begins, the undo page, the slots page, and the
-- meta page where a page is made
abbrev pub undo_page_of : RowGround → Option ℕ → ℕ
undo_page_of g None = g.undo.page
undo_page_of g (Some page) = page

abbrev pub meta_pages : RowGround → Option ℕ → Option ℕ → List ℕ
meta_pages g None None = []
meta_pages g (Some root) made = g.meta.page ∷ []
meta_pages g None (Some page) = g.meta.page ∷ []

abbrev pub other_pages : RowGround → Option ℕ → Option ℕ → List ℕ
other_pages g root made =
    pages_of root ++ (undo_page_of g made ∷ (g.slots.page ∷ meta_pages g root made))

-- an empty leaf is made for the root
abbrev pub makes_root : Option ℕ → List Record
makes_root None = []
makes_root (Some root) = Make root Leaf 0 ∷ []

-- The plan of a change whose item is put by a plan, and whose undo item goes where a step says: the
-- records of the leaf, that of the root where a table begins, those of the undo item, that of the
-- slot, whose last undo item it is, and that of the meta page where a page is made.
abbrev pub joined_with : RowGround → Option ℕ → Plan → UndoStep → Plan
joined_with g root put step = record {
  kind = Change;
  pages = put.pages ++ other_pages g root step.made;
  made = pages_of step.made ++ pages_of root;
  records = put.records ++ (makes_root root ++ (step.records
      ++ (points g.slots g.change.session step.at ∷ counts_for g.meta root step.made)));
}

abbrev pub joined : RowGround → Plan → UndoStep → Plan
joined g put step = joined_with g (begun g.change.begins (next_page g.meta step.made)) put step

abbrev pub row_plan : RowGround → Plan
row_plan g = joined g (put_plan (leaf_on g.path) (item_of g)) (step_of g)

-- The plan is that of the change, and each of its parts does what it is for: the item comes to stand
-- for its key, the undo item joins its page, the slot points to it, and the pages that are made are
-- counted.
pub record IsRowPlan (g : RowGround) (plan : Plan) : Type 0 where
  pub plan_is : plan ≡ row_plan g
  pub spelt : IsLeaf (item_of g)
  pub carries : Carries g.change.item.key g.path (put_plan (leaf_on g.path) (item_of g))
      (with_item g.change.item.key (leaf_bytes (item_of g)))
  pub appends : Appends g.undo (undo_of g) (step_of g)
  pub pointed : Points g.slots g.change.session (step_of g).at
      (points g.slots g.change.session (step_of g).at ∷ [])
  pub counts : CountsFor g.meta (begun_by g) (step_of g).made

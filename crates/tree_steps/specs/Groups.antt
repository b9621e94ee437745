-- Stated: the records of a group, as a tree sees them.
use Rattle.std.specs.Prelude.{◌≡◌, ◌⊎◌, ◌||◌, ◌+◌, ℕ, Bool, false, List, Contains}
use Rattle.page_image.specs.declared.kind.Kind.{Kind}
use Rattle.page_image.specs.declared.kind.Kind.TheVariants.{Leaf}
use Rattle.page_image.specs.Image.{is_inner}
use Rattle.redo_record.specs.declared.redo.Group.{Group}
use Rattle.redo_record.specs.declared.redo.Record.{Record}
use Rattle.redo_record.specs.declared.redo.Record.TheVariants.{Make, Patch, InsertSlot, RemoveSlot, Cut, Link}
use Rattle.redo_record.specs.Effect.{page_of, page_at}
use Rattle.bplus_tree.specs.Tree.{is_leaf}
use Rattle.tree_timeline.specs.Types.{Pages, PagesAt}

-- the record puts an item in or takes one out
abbrev pub IsItemRecord : Record → Type 0
IsItemRecord (Make page kind level) = ⊥
IsItemRecord (Patch page at bytes) = ⊥
IsItemRecord (InsertSlot page index bytes) = Unit {0}
IsItemRecord (RemoveSlot page index) = Unit {0}
IsItemRecord (Cut page from) = ⊥
IsItemRecord (Link page next) = ⊥

-- the record touches no page of the tree, or the items of one of its leaves
pub record FitsTree (pages : Pages) (nodes : List ℕ) (r : Record) : Type 0 where
  pub leaf : Contains nodes (page_of r) → (pages (page_of r)).kind ≡ Leaf
  pub item : Contains nodes (page_of r) → IsItemRecord r

-- the kinds of the pages of trees
abbrev pub is_tree_kind : Kind → Bool
is_tree_kind kind = is_leaf kind || is_inner kind

-- the record is for a page that is of no tree
abbrev pub IsElsewhere : Pages → Record → Type 0
IsElsewhere pages r = is_tree_kind (pages (page_of r)).kind ≡ false

-- the record changes items of the leaf, or a page that is of no tree
abbrev pub FitsLeaf : Pages → ℕ → Record → Type 0
FitsLeaf pages leaf r = ((page_of r ≡ leaf) × IsItemRecord r) ⊎ IsElsewhere pages r

-- the pages that a log leaves, so many LSNs past one
abbrev pub left_at : List Group → ℕ → PagesAt
left_at log from t page = page_at log page (from + t)

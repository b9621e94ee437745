-- Stated: what a change of a leaf asks for, which pages and plans are fit for it, and what it tells.
use Rattle.std.specs.Prelude.{◌≡◌, ℕ, List, [], ◌∷◌, ◌++◌, Option, Some, None}
use Rattle.page_image.specs.declared.kind.Kind.TheVariants as kind
use Rattle.page_image.specs.Image.{Image, unmade}
use Rattle.page_image.specs.Meta.{IsMeta, IsSlots}
use Rattle.page_view.specs.declared.leaf.LeafItem.{LeafItem}
use Rattle.bplus_tree.specs.Walk.{IsToRead}
use Rattle.redo_record.specs.declared.plans.Plan.{Plan}
use Rattle.tree_change.specs.Way.{IsWayTo}
use Rattle.question_tree.specs.Questions.{Ask, tells, asks, stops}
use Rattle.row_edits.specs.declared.changes.BackGround.{BackGround}
use Rattle.row_edits.specs.declared.changes.RowGround.{RowGround}
use Rattle.row_edits.specs.declared.wishes.Act.{Act}
use Rattle.row_edits.specs.declared.wishes.Act.TheVariants as act
use Rattle.row_edits.specs.declared.wishes.Fetch.{Fetch}
use Rattle.row_edits.specs.declared.wishes.Fetch.TheVariants as fetch
use Rattle.row_edits.specs.Rooms.{IsSplitFor}
use Rattle.row_edits.specs.BackPlans.{IsBackPlan}
use Rattle.row_edits.specs.RowPlans.{IsRowPlan}

-- what a plan is to do, with what it stands on: the first page without room on the way of an item is
-- split; a row is changed; or a change is undone
pub data Aim : Type 0 where
  Splits : LeafItem → List Image → Image → Aim
  Changes : RowGround → Aim
  TakesBack : BackGround → Aim

-- what is asked for: the next page on the way to a key, behind those that were read; the undo page
-- with a number; the slots page; the meta page; or that a plan is run
pub data Wish : Type 0 where
  Steps : List ℕ → List Image → ℕ → Wish
  ReadsUndo : ℕ → Wish
  ReadsSlots : Wish
  ReadsMeta : Wish
  Runs : Aim → Wish

pub data Input : Type 0 where
  Handed : Image → Input
  Ran : Input

abbrev pub page_in : Input → Image
page_in (Handed im) = im
page_in Ran = unmade 0

-- A page on the way has its number and can be read; with a leaf, the pages that were read are the
-- way from the root to the leaf of the key, in a tree that stands.
abbrev pub IsOnWay : List ℕ → List Image → ℕ → Image → Type 0
IsOnWay key path page im =
    (im.page ≡ page) × IsToRead im × (im.kind ≡ kind.Leaf → IsWayTo key (path ++ im ∷ []))

abbrev pub Fits : Wish → Input → Type 0
Fits (Steps key path page) (Handed im) = IsOnWay key path page im
Fits (Steps key path page) Ran = ⊥
Fits (ReadsUndo page) (Handed im) = (im.page ≡ page) × (im.kind ≡ kind.Undo)
Fits (ReadsUndo page) Ran = ⊥
Fits ReadsSlots (Handed im) = IsSlots im
Fits ReadsSlots Ran = ⊥
Fits ReadsMeta (Handed im) = IsMeta im
Fits ReadsMeta Ran = ⊥
Fits (Runs aim) (Handed im) = ⊥
Fits (Runs aim) Ran = Unit {0}

-- the work asks for this
abbrev pub Asked : {A : Type 0} → Ask Wish Input A → Input → Type 0
Asked (tells a) x = ⊥
Asked (asks q k) x = Fits q x
Asked stops x = ⊥

abbrev pub IsPlanFor : Aim → Plan → Type 0
IsPlanFor (Splits item path meta) plan = IsSplitFor item path meta plan
IsPlanFor (Changes basis) plan = IsRowPlan basis plan
IsPlanFor (TakesBack basis) plan = IsBackPlan basis plan

-- a way begins with a root, and goes on with children
abbrev pub step_to : List Image → ℕ → Fetch
step_to [] page = fetch.Root page
step_to (im ∷ path) page = fetch.Child page

-- the act is the one that is asked for; where nothing is, there is none
abbrev pub Does : {A : Type 0} → Ask Wish Input A → Option Act → Type 0
Does (tells a) x = x ≡ None
Does (asks (Steps key path page) k) x = x ≡ Some (act.Fetch (step_to path page))
Does (asks (ReadsUndo page) k) x = x ≡ Some (act.Fetch (fetch.Undo page))
Does (asks ReadsSlots k) x = x ≡ Some (act.Fetch fetch.Slots)
Does (asks ReadsMeta k) x = x ≡ Some (act.Fetch fetch.Meta)
Does (asks (Runs aim) k) x = (plan : Plan) × (x ≡ Some (act.Run plan)) × IsPlanFor aim plan
Does stops x = x ≡ None

-- Stated: the way down to a leaf, page by page.
use Rattle.std.specs.Prelude.{◌-◌, ◌≡◌, ℕ, zero, suc, Bool, true, false, List, [], ◌∷◌, ◌++◌, Option, Some, None}
use Rattle.page_image.specs.Image.{Image}
use Rattle.bplus_tree.specs.Tree as tree
use Rattle.page_image.specs.declared.kind.Kind.{Kind}
use Rattle.range_reader.specs.Walked.{child_in}
use Rattle.question_tree.specs.Questions.{Ask, tells, asks, stops}
use Rattle.row_edits.specs.declared.stepping.Walk.{Walk}
use Rattle.row_edits.specs.declared.stepping.Step.{Step}
use Rattle.row_edits.specs.declared.stepping.Step.TheVariants as step
use Rattle.row_edits.specs.declared.stepping.TheConstants.{WAY_PAGES}
use Rattle.row_edits.specs.declared.wishes.Act.{Act}
use Rattle.row_edits.specs.declared.wishes.Act.TheVariants as act
use Rattle.row_edits.specs.declared.wishes.Fetch.{Fetch}
use Rattle.row_edits.specs.Rooms.{by}
use Rattle.row_edits.specs.Wishes as wishes
use Rattle.row_edits.specs.Wishes.{Wish, Input, Steps, page_in}

abbrev pub is_leaf : Kind → Bool
is_leaf = tree.is_leaf

abbrev pub step_to : List Image → ℕ → Fetch
step_to = wishes.step_to

-- from a page down to the leaf of a key, over at most so many pages; the work that follows has the
-- pages that were read
unfoldable pub way : {A : Type 0} → ℕ → List ℕ → List Image → ℕ
    → (List Image → Ask Wish Input A) → Ask Wish Input A
way zero key path page k = stops
way (suc n) key path page k =
    asks (Steps key path page)
    (λ x. by (is_leaf (page_in x).kind) (k (path ++ page_in x ∷ []))
    (way n key (path ++ page_in x ∷ []) (child_in (page_in x) key) k))

abbrev pub way_from : ℕ → Walk
way_from root = record { path = []; page = root; left = WAY_PAGES }

abbrev pub way_of : {A : Type 0} → Walk → List ℕ → (List Image → Ask Wish Input A) → Ask Wish Input A
way_of walk key k = way walk.left key walk.path walk.page k

-- a page ends the way, or leads on to its child that holds the key
abbrev pub step_of : Walk → List ℕ → Image → Step
step_of walk key im =
    by (is_leaf im.kind) (step.Leaf (walk.path ++ im ∷ []))
    (step.Down (record { path = walk.path ++ im ∷ []; page = child_in im key; left = walk.left - 1 }))

abbrev pub fetch_at : ℕ → List Image → ℕ → Option Act
fetch_at zero path page = None
fetch_at (suc n) path page = Some (act.Fetch (step_to path page))

abbrev pub fetch_of : Walk → Option Act
fetch_of walk = fetch_at walk.left walk.path walk.page

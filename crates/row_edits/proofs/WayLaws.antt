-- The way down.
use Rattle.std.proofs.Common.{◌≡◌, ◌≢◌, ◌<◌, ◌≤◌, ◌+◌, ◌-◌, ℕ, zero, suc, Bool, true, false, List, [], ◌∷◌, ◌++◌, length, slice_get, Option, Some, None, ◌⊎◌, inl, inr, refl, sym, ◌∙◌, ap, subst, arith}
use Rattle.page_image.specs.declared.kind.Kind.{Kind}
use Rattle.page_image.specs.declared.kind.Kind.TheVariants as kind
use Rattle.page_image.specs.Image.{Image}
use Rattle.page_view.specs.Inner.{InnerItem, IsInner, inner_bytes}
use Rattle.page_view.specs.Keys.{IsChildFor, keys_of}
use Rattle.page_view.specs.Views.{IsPartOrNone}
use Rattle.bplus_tree.specs.Walk.{IsInnerToRead, IsToRead}
use Rattle.range_reader.specs.Walked.{child_in}
use Rattle.range_reader.proofs.StepLaws.{leads_in}
use Rattle.tree_change.specs.Way.{IsWayTo}
use Rattle.question_tree.specs.Questions.{Ask, tells, asks, stops, after, told}
use Rattle.row_edits.specs.declared.stepping.Walk.{Walk}
use Rattle.row_edits.specs.declared.stepping.Step.{Step}
use Rattle.row_edits.specs.declared.stepping.Step.TheVariants as step
use Rattle.row_edits.specs.Rooms.{by}
use Rattle.row_edits.specs.Ways.{fetch_at, is_leaf, step_of, way, way_of}
use Rattle.row_edits.specs.Wishes.{Wish, Input, Handed, Ran, Asked, Does, IsOnWay}

apart : false ≡ true → ⊥
apart q = cc

pub child_is : (im : Image) (key : List ℕ) (place : ℕ) (entry : InnerItem) → IsChildFor (keys_of im.items) key place
    → IsPartOrNone IsInner inner_bytes im.items place (Some entry) → entry.child ≡ child_in im key
child_is im key place entry for part = leads_in im key entry.child (place, entry, for, part.1, part.0, refl)

inner_by : (im : Image) → IsToRead im → is_leaf im.kind ≡ false → IsInnerToRead im
inner_by im (inl leaf) e = absurd (apart (sym e ∙ ap is_leaf leaf.kind))
inner_by im (inr inner) e = inner

pub inner_read : (im : Image) → IsToRead im → is_leaf im.kind ≡ false → IsInnerToRead im
inner_read im read e = inner_by im read e

pub goes_down : (walk : Walk) (key : List ℕ) (im : Image) (path : List Image) (child left : ℕ) → is_leaf im.kind ≡ false
    → path ≡ walk.path ++ im ∷ [] → child ≡ child_in im key → left ≡ walk.left - 1
    → step.Down (record { path = path; page = child; left = left }) ≡ step_of walk key im
goes_down walk key im path child left e p c l = rw (e, p, c, l) refl

pub ends_at : (walk : Walk) (key : List ℕ) (im : Image) (path : List Image) → is_leaf im.kind ≡ true → path ≡ walk.path ++ im ∷ []
    → step.Leaf path ≡ step_of walk key im
ends_at walk key im path e p = rw (e, p) refl

-- ---- the work of a way

pub asked_left : {A : Type 0} (n : ℕ) (key : List ℕ) (path : List Image) (page : ℕ) (k : List Image → Ask Wish Input A) (im : Image)
    → Asked (way n key path page k) (Handed im) → 0 < n
unfolding way
asked_left zero key path page k im h = absurd h
asked_left (suc n) key path page k im h = omega arith

pub asked_on_way : {A : Type 0} (n : ℕ) (key : List ℕ) (path : List Image) (page : ℕ) (k : List Image → Ask Wish Input A) (im : Image)
    → Asked (way n key path page k) (Handed im) → IsOnWay key path page im
unfolding way
asked_on_way zero key path page k im h = absurd h
asked_on_way (suc n) key path page k im h = h

pub asked_readable : {A : Type 0} (n : ℕ) (key : List ℕ) (path : List Image) (page : ℕ) (k : List Image → Ask Wish Input A) (im : Image)
    → Asked (way n key path page k) (Handed im) → IsToRead im
asked_readable n key path page k im h = (asked_on_way n key path page k im h).1

-- the work after a page, by where the page leads
stepped : {A : Type 0} → List ℕ → (List Image → Ask Wish Input A) → Step → Ask Wish Input A
stepped key k (step.Leaf path) = k path
stepped key k (step.Down walk) = way_of walk key k

by_either : {A : Type 0} (b : Bool) (key : List ℕ) (k : List Image → Ask Wish Input A) (s t : Step)
    → stepped key k (by b s t) ≡ by b (stepped key k s) (stepped key k t)
by_either true key k s t = refl
by_either false key k s t = refl

after_way : {A : Type 0} (n : ℕ) (key : List ℕ) (path : List Image) (page : ℕ) (k : List Image → Ask Wish Input A) (im : Image)
    → Asked (way n key path page k) (Handed im)
    → stepped key k (step_of (record { path = path; page = page; left = n }) key im) ≡ after (way n key path page k) (Handed im)
unfolding way stepped
after_way zero key path page k im h = absurd h
after_way (suc n) key path page k im h =
    let s : suc n - 1 ≡ n = omega arith in
    by_either (is_leaf im.kind) key k (step.Leaf (path ++ im ∷ [])) (step.Down (record { path = path ++ im ∷ []; page = child_in im key; left = suc n - 1 }))
    ∙ ap (λ (m : ℕ). by (is_leaf im.kind) (k (path ++ im ∷ [])) (way m key (path ++ im ∷ []) (child_in im key) k)) s

pub lands : {A : Type 0} (walk : Walk) (key : List ℕ) (k : List Image → Ask Wish Input A) (im : Image) (path : List Image)
    → Asked (way_of walk key k) (Handed im) → step.Leaf path ≡ step_of walk key im → k path ≡ after (way_of walk key k) (Handed im)
unfolding stepped
lands walk key k im path h e = ap (stepped key k) e ∙ after_way walk.left key walk.path walk.page k im h

pub sinks : {A : Type 0} (walk : Walk) (key : List ℕ) (k : List Image → Ask Wish Input A) (im : Image) (below : Walk)
    → Asked (way_of walk key k) (Handed im) → step.Down below ≡ step_of walk key im → way_of below key k ≡ after (way_of walk key k) (Handed im)
unfolding stepped
sinks walk key k im below h e = ap (stepped key k) e ∙ after_way walk.left key walk.path walk.page k im h

leaf_step : (b : Bool) (path other : List Image) (down : Walk) → step.Leaf path ≡ by b (step.Leaf other) (step.Down down) → (b ≡ true) × (path ≡ other)
leaf_step true path other down e = (refl, (cc))
leaf_step false path other down e = absurd (none e)
  where
    none : step.Leaf path ≡ step.Down down → ⊥
    none q = cc

kind_of_leaf : (k : Kind) → is_leaf k ≡ true → k ≡ kind.Leaf
kind_of_leaf kind.Unmade e = absurd (apart e)
kind_of_leaf kind.Meta e = absurd (apart e)
kind_of_leaf kind.Slots e = absurd (apart e)
kind_of_leaf kind.Stamps e = absurd (apart e)
kind_of_leaf kind.Leaf e = refl
kind_of_leaf kind.Inner e = absurd (apart e)
kind_of_leaf kind.Undo e = absurd (apart e)

pub landed : {A : Type 0} (walk : Walk) (key : List ℕ) (k : List Image → Ask Wish Input A) (im : Image) (path : List Image)
    → Asked (way_of walk key k) (Handed im) → step.Leaf path ≡ step_of walk key im → IsWayTo key path
landed walk key k im path h e =
    let l = leaf_step (is_leaf im.kind) path (walk.path ++ im ∷ []) (record { path = walk.path ++ im ∷ []; page = child_in im key; left = walk.left - 1 }) e in
    subst (IsWayTo key) (sym l.1) ((asked_on_way walk.left key walk.path walk.page k im h).2 (kind_of_leaf im.kind l.0))

pub not_run : {A : Type 0} (n : ℕ) (key : List ℕ) (path : List Image) (page : ℕ) (k : List Image → Ask Wish Input A) → Asked (way n key path page k) Ran → ⊥
unfolding way
not_run zero key path page k h = h
not_run (suc n) key path page k h = h

pub way_does : {A : Type 0} (n : ℕ) (key : List ℕ) (path : List Image) (page : ℕ) (k : List Image → Ask Wish Input A) → Does (way n key path page k) (fetch_at n path page)
unfolding way
way_does zero key path page k = refl
way_does (suc n) key path page k = refl

pub untold : {A : Type 0} (n : ℕ) (key : List ℕ) (path : List Image) (page : ℕ) (k : List Image → Ask Wish Input A) → None ≡ told (way n key path page k)
unfolding way
untold zero key path page k = refl
untold (suc n) key path page k = refl

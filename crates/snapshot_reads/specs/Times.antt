-- Stated: pages that are used at times that rise, with the latches that a reader holds.
use Rattle.std.specs.Prelude.{◌≡◌, ◌≤◌, ◌+◌, ◌⊎◌, ℕ, List, [], ◌∷◌, ⊤}
use Rattle.page_image.specs.Image.{Image}
use Rattle.page_image.specs.declared.kind.Kind.TheVariants as kind
use Rattle.tree_timeline.specs.Types.{PagesAt}
use Rattle.tree_timeline.specs.Timeline.{Unchanged}
use Rattle.tree_timeline.specs.Walks.{Visit}

-- the image that was used
abbrev pub image_at : PagesAt → Visit → Image
image_at at v = at v.time v.page

-- a use that is its image
abbrev pub itself : Image → Image
itself image = image

-- what there is from a time on
abbrev pub from_on : {A : Type 0} → (ℕ → A) → ℕ → ℕ → A
from_on at from t = at (from + t)

-- each at the time of the one before it or later, the first no earlier than t, all up to the end
abbrev pub Rises : ℕ → ℕ → List Visit → Type 0
Rises end t [] = t ≤ end
Rises end t (v ∷ vs) = (t ≤ v.time) × Rises end v.time vs

-- A page stays as it was read until the next use: it is latched. Or the next page's structure
-- number is of no later time: a read that holds nothing.
abbrev pub Kept : PagesAt → Visit → Visit → Type 0
Kept at v w = Unchanged at v.page v.time w.time ⊎ ((at w.time w.page).structure ≤ v.time)

-- so is each inner page kept until the next use
abbrev pub Latched : PagesAt → List Visit → Type 0
Latched at [] = ⊤
Latched at (v ∷ []) = ⊤
Latched at (v ∷ (w ∷ vs)) = ((at v.time v.page).kind ≡ kind.Inner → Kept at v w)
    × Latched at (w ∷ vs)

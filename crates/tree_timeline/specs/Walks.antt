-- Stated: reads of a tree's pages one after the other, while the tree changes.
use Rattle.std.specs.Prelude.{◌≡◌, ◌≤◌, ◌<◌, ◌+◌, ◌⊎◌, ℕ, zero, suc, true, List, [], ◌∷◌, ⊤}
use Rattle.std.specs.List.{flat_map}
use Rattle.bplus_tree.specs.Walk.{LeadsTo, reaches, one_key, sought}
use Rattle.tree_timeline.specs.Types.{Key, Bound, Items, PagesAt}
use Rattle.tree_timeline.specs.Ranges.{height}
use Rattle.tree_timeline.specs.Timeline.{Unchanged}

-- a page's image that was read, and the time at which it was current
pub record Visit : Type 0 where
  pub time : ℕ
  pub page : ℕ

-- From a page's image at one time a descent goes down, so many levels, to a leaf's image at
-- another. Each page stays as it was read until the child on the way is read.
abbrev pub Descends : PagesAt → Key → ℕ → ℕ → ℕ → ℕ → ℕ → Type 0
Descends at key zero page t leaf u = (leaf ≡ page) × (u ≡ t)
Descends at key (suc tall) page t leaf u =
    (child : ℕ) × (v : ℕ)
    × (t ≤ v)
    × Unchanged at page t v
    × LeadsTo (at t page) key child
    × Descends at key tall child v leaf u

-- A descent that holds nothing: the structure number of each child's image is at most an LSN.
abbrev pub DescendsLightly : PagesAt → ℕ → Key → ℕ → ℕ → ℕ → ℕ → ℕ → Type 0
DescendsLightly at limit key zero page t leaf u = (leaf ≡ page) × (u ≡ t)
DescendsLightly at limit key (suc tall) page t leaf u =
    (child : ℕ) × (v : ℕ)
    × (t ≤ v)
    × LeadsTo (at t page) key child
    × ((at v child).structure ≤ limit)
    × DescendsLightly at limit key tall child v leaf u

-- each leaf is the one that the image before it names, read at that time or later; nothing holds it
-- in between
abbrev pub Follows : PagesAt → Visit → List Visit → Type 0
Follows at here [] = ⊤
Follows at here (next ∷ rest) =
    (here.time ≤ next.time)
    × ((at here.time here.page).next ≡ next.page)
    × (0 < next.page)
    × Follows at next rest

-- the items of these images, in order
abbrev pub items_read : PagesAt → List Visit → Items
items_read at visits = flat_map (λ visit. (at visit.time visit.page).items) visits

abbrev pub last_of : Visit → List Visit → Visit
last_of visit [] = visit
last_of visit (next ∷ rest) = last_of next rest

-- The last of the images ends the range: no leaf is to its right, its last key is at least the high
-- end, or it is the only one and the range is one key.
abbrev pub Ends : PagesAt → Bound → Bound → Visit → List Visit → Type 0
Ends at low high first rest =
    let last = last_of first rest in
    ((at last.time last.page).next ≡ 0)
    ⊎ ((reaches high (at last.time last.page).items ≡ true)
    ⊎ ((rest ≡ []) × (one_key low high ≡ true)))

-- A read of a range: from the root's image at a time down to the leaf of the low end, and along the
-- leaves to the high end.
pub record Walk (at : PagesAt) (root : ℕ) (low high : Bound) (start : ℕ) (first : Visit)
    (rest : List Visit) : Type 0 where
  pub down : Descends at (sought low) (height (at start root)) root start first.page first.time
  pub along : Follows at first rest
  pub ends : Ends at low high first rest

-- A read of a range without latches: from the root's image at a time past the start, through images
-- whose structure is not younger than the start.
pub record LightWalk (at : PagesAt) (root from : ℕ) (low high : Bound) (start top : ℕ)
    (first : Visit) (rest : List Visit) : Type 0 where
  pub after : start ≤ top
  pub down : DescendsLightly at (from + start) (sought low) (height (at top root)) root top
      first.page first.time
  pub along : Follows at first rest
  pub ends : Ends at low high first rest

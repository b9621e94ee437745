-- Stated: a search that is told of images of different times.
use Rattle.std.specs.Prelude.{◌≡◌, ◌≤◌, ◌+◌, ◌⊎◌, ℕ, List, [], ◌∷◌, ◌++◌, Option, Some, None, ⊤}
use Rattle.bplus_tree.specs.declared.want.Want.{Want}
use Rattle.bplus_tree.specs.declared.want.Want.TheVariants.{Need, Leaf, Finished}
use Rattle.bplus_tree.specs.Walk.{Walking, wanted, Told}
use Rattle.tree_timeline.specs.Types.{PagesAt}
use Rattle.tree_timeline.specs.Timeline.{Unchanged}
use Rattle.tree_timeline.specs.Walks.{Visit}

-- While a search goes down, the page that it was told of stays until the next one is told, or the
-- next one's structure number is of no later time.
abbrev pub HoldsTo : PagesAt → ℕ → Option Visit → Visit → Type 0
HoldsTo at from None next = ⊤
HoldsTo at from (Some above) next =
    Unchanged at above.page above.time next.time
    ⊎ ((at next.time next.page).structure ≤ from + above.time)

-- the page on the way down that was told, for this want
abbrev pub above_after : Want → Visit → Option Visit
above_after (Need page) told = Some told
above_after (Leaf page) told = None
above_after Finished told = None

-- the leaves of the range are those that are wanted as such
abbrev pub read_by : Want → Visit → List Visit
read_by (Need page) told = []
read_by (Leaf page) told = told ∷ []
read_by Finished told = []

abbrev pub HoldsToNext : PagesAt → ℕ → Option Visit → List Visit → Type 0
HoldsToNext at from above [] = ⊤
HoldsToNext at from above (next ∷ rest) = HoldsTo at from above next

-- The search is told of these images, up to its end: each is of the page that it wants, at a time
-- no earlier than the one before; and these are the leaves of the range.
abbrev pub Searches : PagesAt → ℕ → Walking → ℕ → List Visit → List Visit → Type 0
Searches at from search time [] reads = (search.want ≡ Finished) × (reads ≡ [])
Searches at from search time (told ∷ rest) reads =
    (new : Walking) × (more : List Visit)
    × (wanted search.want ≡ Some told.page)
    × (time ≤ told.time)
    × Told search (at told.time told.page) new
    × HoldsToNext at from (above_after search.want told) rest
    × (reads ≡ read_by search.want told ++ more)
    × Searches at from new told.time rest more

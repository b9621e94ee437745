-- Stated: a search that has come so far, for an invariant over its run.
use Rattle.std.specs.Prelude.{◌≡◌, ◌≤◌, ℕ, List, [], ◌∷◌, ◌++◌, Option, None, Some}
use Rattle.bplus_tree.specs.Walk.{Walking, wanted, start, Told}
use Rattle.tree_timeline.specs.Types.{Bound, PagesAt}
use Rattle.tree_timeline.specs.Walks.{Visit}
use Rattle.tree_timeline.specs.Searching.{HoldsTo, above_after, read_by}

-- a search, the page on its way down that it was told of last, and when it was told
pub record Progress : Type 0 where
  pub search : Walking
  pub above : Option Visit
  pub time : ℕ

abbrev pub begin : ℕ → Bound → Bound → ℕ → Progress
begin root low high time = record { search = start root low high; above = None; time = time }

-- the search is told of one more image
pub record Tells (at : PagesAt) (from : ℕ) (old : Progress) (told : Visit) (new : Progress)
    : Type 0 where
  pub wants : wanted old.search.want ≡ Some told.page
  pub later : old.time ≤ told.time
  pub holds : HoldsTo at from old.above told
  pub moves : Told old.search (at told.time told.page) new.search
  pub time_is : new.time ≡ told.time
  pub above_is : new.above ≡ above_after old.search.want told

-- it is told of these images, and these are the leaves of the range
abbrev pub ComesTo : PagesAt → ℕ → Progress → List Visit → List Visit → Progress → Type 0
ComesTo at from old [] reads new = (new ≡ old) × (reads ≡ [])
ComesTo at from old (told ∷ rest) reads new =
    (next : Progress) × (more : List Visit)
    × Tells at from old told next
    × ComesTo at from next rest more new
    × (reads ≡ read_by old.search.want told ++ more)

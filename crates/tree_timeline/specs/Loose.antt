-- Stated: laws with one condition less, which do not hold.
use Rattle.std.specs.Prelude.{◌≡◌, ◌≢◌, ◌≤◌, ◌+◌, ℕ, zero, suc, List, ◌∷◌}
use Rattle.bplus_tree.specs.Tree.{Tree}
use Rattle.bplus_tree.specs.Walk.{LeadsTo, sought}
use Rattle.tree_timeline.specs.Types.{Key, Bound, PagesAt, ItemsAt}
use Rattle.tree_timeline.specs.Ranges.{height, Covers, Remains}
use Rattle.tree_timeline.specs.Timeline.{Timeline}
use Rattle.tree_timeline.specs.Walks.{Visit, Follows, Ends, last_of}
use Rattle.tree_timeline.specs.Found.{FindsEach}

-- a descent that lets each page go before the child is held
abbrev pub DescendsLoosely : PagesAt → Key → ℕ → ℕ → ℕ → ℕ → ℕ → Type 0
DescendsLoosely at key zero page t leaf u = (leaf ≡ page) × (u ≡ t)
DescendsLoosely at key (suc tall) page t leaf u =
    (child : ℕ) × (v : ℕ)
    × (t ≤ v)
    × LeadsTo (at t page) key child
    × DescendsLoosely at key tall child v leaf u

-- it finds what the tree had
abbrev pub LooseReadLaw : Type 0
LooseReadLaw =
    (at : PagesAt) (root from : ℕ) (items : ItemsAt) → Timeline at root from items
    → (low high : Bound) (t : ℕ) (first : Visit) (rest : List Visit)
    → DescendsLoosely at (sought low) (height (at t root)) root t first.page first.time
    → Follows at first rest → Ends at low high first rest
    → FindsEach at (first ∷ rest) items low high t (last_of first rest).time

-- a tree that stands at each time keeps its pages, whatever the steps are
abbrev pub AnyStepLaw : Type 0
AnyStepLaw =
    (at : PagesAt) (root from : ℕ) (items : ItemsAt)
    → ((t : ℕ) → Tree (at t) root (items t)) → ((t page : ℕ) → (at t page).structure ≤ from + t)
    → (t u tall page : ℕ) (low high : Bound) → Covers (at t) root tall page low high
    → page ≢ root → t ≤ u
    → Remains (at u) root tall page low high

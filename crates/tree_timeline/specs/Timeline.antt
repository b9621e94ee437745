-- Stated: a tree over time.
use Rattle.std.specs.Prelude.{◌≡◌, ◌≤◌, ◌+◌, ℕ, suc}
use Rattle.bplus_tree.specs.Tree.{Tree}
use Rattle.tree_timeline.specs.Types.{PagesAt, ItemsAt}
use Rattle.tree_timeline.specs.Steps.{Step}

-- At each time from an LSN on the tree stands, and each LSN brings one step. No page's structure
-- number is of a later time. The time t is the LSN `from + t`.
pub record Timeline (at : PagesAt) (root from : ℕ) (items : ItemsAt) : Type 0 where
  pub tree : (t : ℕ) → Tree (at t) root (items t)
  pub step : (t : ℕ) → Step (at t) (at (suc t)) root (tree t).nodes (from + suc t)
  pub stamped : (t page : ℕ) → (at t page).structure ≤ from + t

-- the page has one image from the first time to the second
abbrev pub Unchanged : PagesAt → ℕ → ℕ → ℕ → Type 0
Unchanged at page t u = (v : ℕ) → t ≤ v → v ≤ u → at v page ≡ at t page

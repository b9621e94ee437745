-- Stated: what the pages of a log keep.
use Rattle.std.specs.Prelude.{◌≡◌, ◌≤◌, ◌+◌, ℕ, List, [], ◌∷◌}
use Rattle.tree_timeline.specs.Types.{Items, PagesAt}
use Rattle.tree_timeline.specs.Timeline.{Timeline}
use Rattle.version_store.specs.Stores.{Store, catalog}
use Rattle.version_store.specs.Versions.{Version}
use Rattle.held_versions.specs.Holds.{Holds}
use Rattle.held_versions.specs.Keeping.{KeepsUndo}
use Rattle.snapshot_reads.specs.Times.{from_on}

-- From an LSN to another one the pages hold a store each, by the items of each root's tree; undo
-- items stay at their places; and the trees of the catalog and of each table in it stand from then
-- on.
pub record Keeps (at : PagesAt) (items : ℕ → ℕ → Items) (S : ℕ → Store) (base end : ℕ)
    : Type 0 where
  pub holds : (j : ℕ) → base ≤ j → j ≤ end → Holds (items j) (at j) (S j)
  pub undo : (i j : ℕ) → base ≤ i → i ≤ j → j ≤ end → KeepsUndo (at i) (at j)
  pub names : (from : ℕ) → base ≤ from → from ≤ end
      → Timeline (from_on at from) catalog from (λ t. items (from + t) catalog)
  pub trees : (from : ℕ) (a : List ℕ) (v : Version) → base ≤ from → from ≤ end
      → (S from).rows catalog a ≡ v ∷ []
      → Timeline (from_on at from) v.root from (λ t. items (from + t) v.root)

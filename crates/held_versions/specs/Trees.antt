-- Stated: the trees of a store, side by side on the pages.
use Rattle.std.specs.Prelude.{◌≡◌, ◌⊎◌, ℕ, List, Contains, Some}
use Rattle.page_image.specs.Image.{Image}
use Rattle.bplus_tree.specs.Tree.{Tree}
use Rattle.version_store.specs.Contents.{root_of}
use Rattle.version_store.specs.Stores.{Store, catalog}

-- the root of the catalog, or of a table that a name has
abbrev pub IsRoot : Store → ℕ → Type 0
IsRoot S r = (r ≡ catalog) ⊎ ((a : List ℕ) × (root_of S a ≡ Some r))

-- at each root a tree stands for its items, and no page is of two trees
pub record HasTrees (items : ℕ → List (List ℕ)) (pages : ℕ → Image) (S : Store) : Type 0 where
  pub trees : (r : ℕ) → IsRoot S r → Tree pages r (items r)
  pub apart : (p q r : ℕ) (a : IsRoot S q) (b : IsRoot S r)
      → Contains (trees q a).nodes p → Contains (trees r b).nodes p → q ≡ r

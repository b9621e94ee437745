-- Stated: for which range of keys a page of a tree stands, and what becomes of the range.
use Rattle.std.specs.Prelude.{◌≡◌, ◌+◌, ℕ, List, ◌∷◌, ◌++◌, Some, if◌then◌else◌}
use Rattle.page_image.specs.Image.{Image}
use Rattle.bplus_tree.specs.Tree.{NotBelow, Below, is_leaf}
use Rattle.tree_timeline.specs.Types.{Key, Bound, Pages}
use Rattle.tree_timeline.specs.Fences.{Fence, layer, low_after}

-- how high a page stands over the leaves
abbrev pub height : Image → ℕ
height image = if is_leaf image.kind then 0 else image.level

-- the page stands so high in the tree, for the keys from the low bound on and below the high one
pub record Covers (pages : Pages) (root tall page : ℕ) (low high : Bound) : Type 0 where
  pub depth : ℕ
  pub left : List Fence
  pub right : List Fence
  pub deep : depth + tall ≡ height (pages root)
  pub are : layer pages root depth ≡ left ++ record { low = low; page = page } ∷ right
  pub high_is : high ≡ low_after right

-- the page stands so high in the tree, for a range that has the key
pub record StandsFor (pages : Pages) (root tall page : ℕ) (key : Key) : Type 0 where
  pub low : Bound
  pub high : Bound
  pub covers : Covers pages root tall page low high
  pub from : NotBelow low key
  pub below : Below high key

-- the page stands so high in the tree, from the low bound on, and for no key past the high one
pub record Remains (pages : Pages) (root tall page : ℕ) (low high : Bound) : Type 0 where
  pub now : Bound
  pub covers : Covers pages root tall page low now
  pub falls : (key : Key) → Below now key → Below high key

-- the bound is a key, and the leaf begins there
pub record BeginsAt (pages : Pages) (root leaf : ℕ) (bound : Bound) : Type 0 where
  pub key : Key
  pub bound_is : bound ≡ Some key
  pub now : Bound
  pub covers : Covers pages root 0 leaf (Some key) now

-- Stated: the way from a tree's root to the leaf of a key.
use Rattle.std.specs.Prelude.{◌≡◌, ℕ, List, map}
use Rattle.page_image.specs.Image.{Image}
use Rattle.bplus_tree.specs.Tree.{Tree, Way}

-- the pages of the path are, in a tree that stands, those from the root down to the leaf that has the key, where it is there
pub record IsWayTo (key : List ℕ) (path : List Image) : Type 0 where
  pub pages : ℕ → Image
  pub root : ℕ
  pub items : List (List ℕ)
  pub tree : Tree pages root items
  pub numbers : List ℕ
  pub way : Way pages tree.level root key numbers
  pub read : path ≡ map pages numbers

-- Stated: the way to a key's leaf, whichever tree is said to stand at the root.
use Rattle.std.specs.Prelude.{◌≡◌, ℕ, List, map}
use Rattle.page_image.specs.Image.{Image}
use Rattle.bplus_tree.specs.Tree.{Tree, Way}
use Rattle.tree_change.specs.Way.{IsWayTo}
use Rattle.tree_timeline.specs.Types.{Items, Key, Pages}

-- the pages of the path are those from the root down to the leaf of the key
pub record IsPath (pages : Pages) (root : ℕ) (items : Items) (key : Key) (path : List Image)
    : Type 0 where
  pub numbers : List ℕ
  pub way : (tree : Tree pages root items) → Way pages tree.level root key numbers
  pub read : path ≡ map pages numbers

-- so they are a way in each tree that stands there
abbrev pub way_in : (pages : Pages) (root : ℕ) (items : Items) (key : Key) (path : List Image)
    → IsPath pages root items key path → Tree pages root items → IsWayTo key path
way_in pages root items key path p tree = record {
  pages = pages;
  root = root;
  items = items;
  tree = tree;
  numbers = p.numbers;
  way = p.way tree;
  read = p.read;
}

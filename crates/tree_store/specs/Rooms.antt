-- For the proofs: the way to a key in a store's tree, and that its leaf has room.
use Rattle.std.specs.Prelude.{◌≡◌, ◌≤◌, ℕ, List, map}
use Rattle.page_image.specs.Image.{Image}
use Rattle.page_view.specs.declared.leaf.LeafItem.{LeafItem}
use Rattle.bplus_tree.specs.Tree.{Tree, Way}
use Rattle.tree_change.specs.Places.{leaf_on}
use Rattle.tree_change.specs.Room.{size_of, room_for}

-- the pages of the path are those from the root of a tree down to the leaf of the key
pub record IsWayIn (pages : ℕ → Image) (root : ℕ) (key : List ℕ) (path : List Image) : Type 0 where
  pub numbers : List ℕ
  pub way : (items : List (List ℕ)) (tree : Tree pages root items) → Way pages tree.level root key numbers
  pub read : path ≡ map pages numbers

-- they are, and the leaf has room for the item
pub record HasRoom (pages : ℕ → Image) (root : ℕ) (item : LeafItem) (path : List Image) : Type 0 where
  pub way : IsWayIn pages root item.key path
  pub room : size_of item ≤ room_for item.key (leaf_on path)

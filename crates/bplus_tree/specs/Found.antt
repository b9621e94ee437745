-- Stated: what a search finds in a tree that stands.
use Rattle.std.specs.Prelude.{◌≡◌, ◌≤◌, ℕ, List, [], ◌∷◌, ◌++◌, length, map, filter, Option, Some}
use Rattle.std.specs.List.{AllByRecursion, flat_map}
use Rattle.std.specs.declared.cmp.Ordering.TheVariants.{Less}
use Rattle.page_image.specs.Image.{Image}
use Rattle.page_view.specs.Keys.{key_in, key_cmp}
use Rattle.bplus_tree.specs.declared.want.Want.TheVariants.{Need, Leaf}
use Rattle.bplus_tree.specs.Tree.{Way, leaves_of}
use Rattle.bplus_tree.specs.Walk.{start, Runs, in_range}

-- the items of these leaves, in order
abbrev pub items_of : (ℕ → Image) → List ℕ → List (List ℕ)
items_of pages leaves = flat_map (λ page. (pages page).items) leaves

-- items whose keys are all less than a key, or all greater
abbrev pub AllLess : List ℕ → List (List ℕ) → Type 0
AllLess key items = AllByRecursion (λ item. key_cmp (key_in item) key ≡ Less) items

abbrev pub AllMore : List ℕ → List (List ℕ) → Type 0
AllMore key items = AllByRecursion (λ item. key_cmp key (key_in item) ≡ Less) items

-- A search for one key goes the way down to a leaf, through at most nine pages, and names it. The items of
-- the tree to the left of the leaf have lesser keys, and those to its right greater ones.
pub record FindsLeaf (pages : ℕ → Image) (root : ℕ) (items : List (List ℕ)) (level : ℕ) (key : List ℕ) : Type 0 where
  pub way : List ℕ
  pub leaf : ℕ
  pub leads : Way pages level root key (way ++ leaf ∷ [])
  pub short : length (way ++ leaf ∷ []) ≤ 9
  pub runs : Runs pages (start root (Some key) (Some key)) (map Need (way ++ leaf ∷ []) ++ Leaf leaf ∷ [])
  pub left : List (List ℕ)
  pub right : List (List ℕ)
  pub stands : items ≡ left ++ ((pages leaf).items ++ right)
  pub less : AllLess key left
  pub more : AllMore key right

-- A search for a range goes the way down, through at most nine pages, and then from leaf to leaf as they
-- stand in the tree, each once. The items of these leaves in the range are exactly the tree's.
pub record FindsRange (pages : ℕ → Image) (root : ℕ) (items : List (List ℕ)) (nodes : List ℕ) (low high : Option (List ℕ)) : Type 0 where
  pub way : List ℕ
  pub leaves : List ℕ
  pub short : length way ≤ 9
  pub runs : Runs pages (start root low high) (map Need way ++ map Leaf leaves)
  pub left : List ℕ
  pub right : List ℕ
  pub among : leaves_of pages nodes ≡ left ++ (leaves ++ right)
  pub finds : filter (in_range low high) (items_of pages leaves) ≡ filter (in_range low high) items

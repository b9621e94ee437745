-- Stated: what is found in a range of keys.
use Rattle.std.specs.Prelude.{◌≡◌, ℕ, List, [], ◌∷◌, ◌++◌, Option, filter}
use Rattle.std.specs.List.{AllByRecursion}
use Rattle.page_image.specs.Image.{Image}
use Rattle.bplus_tree.specs.declared.want.Want.{Want}
use Rattle.bplus_tree.specs.declared.want.Want.TheVariants.{Need, Leaf, Finished}
use Rattle.bplus_tree.specs.Found.{items_of}
use Rattle.bplus_tree.specs.Walk.{in_range}
use Rattle.tree_change.specs.Pages.{HasRows}

-- the leaves have exactly those of the items that are in the range, in order, beside others that are not; each is a page of leaf items by ascending keys
pub record HoldsRange (pages : ℕ → Image) (low high : Option (List ℕ)) (items : List (List ℕ)) (leaves : List ℕ) : Type 0 where
  pub finds : filter (in_range low high) (items_of pages leaves) ≡ filter (in_range low high) items
  pub rows : AllByRecursion (λ leaf. HasRows (pages leaf)) leaves

-- the leaves, with the one that a search names, where it names one
abbrev pub noted : List ℕ → Want → List ℕ
noted leaves (Need page) = leaves
noted leaves (Leaf page) = leaves ++ page ∷ []
noted leaves Finished = leaves

-- Stated: the layers of a tree, each a list of pages with the keys from which on they stand.
use Rattle.std.specs.Prelude.{ℕ, zero, suc, List, [], ◌∷◌, map, Some, None}
use Rattle.std.specs.List.{flat_map}
use Rattle.page_image.specs.Image.{Image}
use Rattle.page_view.specs.Inner.{InnerItem, inner_of}
use Rattle.tree_timeline.specs.Types.{Bound, Pages}

-- a page, and the key from which on it stands for keys; none: from the least key on
pub record Fence : Type 0 where
  pub low : Bound
  pub page : ℕ

-- the entries that an inner page's items spell
unfoldable pub entries_in : Image → List InnerItem
entries_in image = map inner_of image.items

abbrev pub fence_of : InnerItem → Fence
fence_of entry = record { low = Some entry.key; page = entry.child }

-- the entries cut the range that begins at the low bound
abbrev pub cut : Bound → List InnerItem → List Fence
cut low [] = []
cut low (entry ∷ entries) = record { low = low; page = entry.child } ∷ map fence_of entries

-- the children of a page, from left to right
abbrev pub children : Pages → Fence → List Fence
children pages fence = cut fence.low (entries_in (pages fence.page))

-- the pages that stand so deep below the root, from left to right
abbrev pub layer : Pages → ℕ → ℕ → List Fence
layer pages root zero = record { low = None; page = root } ∷ []
layer pages root (suc depth) = flat_map (children pages) (layer pages root depth)

-- the bound at which the first of these pages begins
abbrev pub low_after : List Fence → Bound
low_after [] = None
low_after (fence ∷ fences) = fence.low

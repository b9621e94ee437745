-- Stated: what a change finds on a single page of its way.
use Rattle.std.specs.Prelude.{◌≡◌, ◌≤◌, ◌<◌, ◌⊎◌, ℕ, List, [], length, Some, slice_get}
use Rattle.std.specs.List.{AllByRecursion}
use Rattle.page_image.specs.declared.kind.Kind.TheVariants.{Leaf, Inner}
use Rattle.page_image.specs.Image.{Image}
use Rattle.page_view.specs.Leaf.{HoldsLeaf}
use Rattle.page_view.specs.Inner.{HoldsInner}
use Rattle.page_view.specs.Keys.{Ascend, keys_of}

-- a page of leaf items, by ascending keys
pub record HasRows (page : Image) : Type 0 where
  pub kind : page.kind ≡ Leaf
  pub items : AllByRecursion HoldsLeaf page.items
  pub ascend : Ascend (keys_of page.items)

-- an inner item with a key of at most 255 bytes
pub record HoldsChild (item : List ℕ) : Type 0 where
  pub inner : HoldsInner item
  pub short : length item ≤ 260

-- a page of inner items, by ascending keys of which the first is empty
pub record HasChildren (page : Image) : Type 0 where
  pub kind : page.kind ≡ Inner
  pub items : AllByRecursion HoldsChild page.items
  pub some : 0 < length page.items
  pub ascend : Ascend (keys_of page.items)
  pub least : slice_get (keys_of page.items) 0 ≡ Some []

abbrev pub IsTreePage : Image → Type 0
IsTreePage page = HasRows page ⊎ HasChildren page

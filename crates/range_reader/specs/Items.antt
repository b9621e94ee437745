-- For the proofs: the items of a leaf in a range, as they are tested.
use Rattle.std.specs.Prelude.{◌&&◌, ℕ, Bool, true, List, map, filter, Option, Some, None}
use Rattle.rm_base.specs.declared.key_range.KeyRange.{KeyRange}
use Rattle.page_image.specs.Image.{Image}
use Rattle.page_view.specs.declared.leaf.LeafItem.{LeafItem}
use Rattle.page_view.specs.Leaf.{leaf_of}
use Rattle.bplus_tree.specs.Walk.{in_range, at_least}

abbrev pub items_of_leaf : KeyRange → Image → List LeafItem
items_of_leaf range im = map leaf_of (filter (in_range range.low range.high) im.items)

abbrev pub from_low_end : Option (List ℕ) → List ℕ → Bool
from_low_end None key = true
from_low_end (Some low) key = at_least key low

abbrev pub to_high_end : Option (List ℕ) → List ℕ → Bool
to_high_end None key = true
to_high_end (Some high) key = at_least high key

abbrev pub key_in_range : KeyRange → List ℕ → Bool
key_in_range range key = from_low_end range.low key && to_high_end range.high key

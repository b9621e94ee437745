-- Stated: a search that is told of pages, as a function, and the items that it takes of them.
use Rattle.std.specs.Prelude.{◌+◌, ℕ, List, [], ◌∷◌, filter, nat_le, if◌then◌else◌, Option}
use Rattle.rm_base.specs.declared.limits.TheConstants.{MAX_TREE_LEVEL}
use Rattle.std.specs.declared.cmp.Ordering.{Ordering}
use Rattle.std.specs.declared.cmp.Ordering.TheVariants.{Less, Equal, Greater}
use Rattle.page_image.specs.Image.{Image}
use Rattle.page_image.specs.declared.kind.Kind.{Kind}
use Rattle.page_image.specs.declared.kind.Kind.TheVariants as kind
use Rattle.page_view.specs.Inner.{inner_of}
use Rattle.page_view.specs.Keys.{key_in, key_cmp}
use Rattle.bplus_tree.specs.declared.want.Want.{Want}
use Rattle.bplus_tree.specs.declared.want.Want.TheVariants as want
use Rattle.bplus_tree.specs.Tree.{is_leaf}
use Rattle.bplus_tree.specs.Walk.{Walking, sought, after_leaf, in_range}

abbrev pub child_under : Ordering → ℕ → ℕ → ℕ
child_under Less best child = child
child_under Equal best child = child
child_under Greater best child = best

unfoldable pub child_from : ℕ → List (List ℕ) → List ℕ → ℕ
child_from best [] key = best
child_from best (item ∷ items) key =
    child_from (child_under (key_cmp (key_in item) key) best (inner_of item).child) items key

-- the child under the last key that is not greater
abbrev pub child_in : Image → List ℕ → ℕ
child_in im key = child_from 0 im.items key

-- told of an inner page, a search wants the child that holds its low end, within the height of a
-- tree
abbrev pub down_from : Walking → Image → Walking
down_from w im =
    if nat_le MAX_TREE_LEVEL w.depth then record w { want = want.Finished }
    else record w { want = want.Need (child_in im (sought w.low)); depth = w.depth + 1 }

-- a search that was told of a page; a leaf on its way down is the first of the range at once
abbrev pub walked_at : Want → Kind → Walking → Image → Walking
walked_at (want.Need p) kind.Leaf w im = after_leaf (record w { want = want.Leaf p }) im
walked_at (want.Need p) kind.Inner w im = down_from w im
walked_at (want.Leaf p) kind.Leaf w im = after_leaf w im
walked_at _ _ w im = record w { want = want.Finished }

abbrev pub walked : Walking → Image → Walking
walked w im = walked_at w.want im.kind w im

-- the items of the range that it takes of a page: those of a leaf
abbrev pub taken : Option (List ℕ) → Option (List ℕ) → Image → List (List ℕ)
taken low high im = if is_leaf im.kind then filter (in_range low high) im.items else []

-- Stated: the items of a tree after a change of one key.
use Rattle.std.specs.Prelude.{ℕ, List, ◌∷◌, ◌++◌, filter}
use Rattle.std.specs.Ordering.{is_lt, is_gt}
use Rattle.page_view.specs.Keys.{key_in, key_cmp}
use Rattle.tree_timeline.specs.Types.{Key, Items}

-- the items with a lesser key, and those with a greater one
abbrev pub before : Key → Items → Items
before key items = filter (λ item. is_lt (key_cmp (key_in item) key)) items

abbrev pub behind : Key → Items → Items
behind key items = filter (λ item. is_gt (key_cmp (key_in item) key)) items

-- the items with this one for the key, in the place of one or more than there were
abbrev pub put_item : Key → List ℕ → Items → Items
put_item key item items = before key items ++ item ∷ behind key items

-- the items without that of the key
abbrev pub taken_out : Key → Items → Items
taken_out key items = before key items ++ behind key items

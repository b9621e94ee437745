-- Stated: what a read finds in a tree that changes meanwhile.
use Rattle.std.specs.Prelude.{◌≡◌, ◌≢◌, ◌≤◌, ℕ, true, List, ◌∷◌, filter, Some, None, ⊤}
use Rattle.std.specs.List.{AllByRecursion}
use Rattle.std.specs.Ordering.{is_eq}
use Rattle.std.specs.declared.cmp.Ordering.TheVariants.{Greater}
use Rattle.page_view.specs.Keys.{key_in, key_cmp, keys_of, Ascend}
use Rattle.bplus_tree.specs.Tree.{NotBelow, is_leaf}
use Rattle.bplus_tree.specs.Walk.{in_range}
use Rattle.tree_timeline.specs.Types.{Key, Bound, Items, PagesAt, ItemsAt}
use Rattle.tree_timeline.specs.Walks.{Visit, items_read, last_of}

-- the items with the key: one or none, where they ascend
abbrev pub of_key : Key → Items → Items
of_key key items = filter (λ item. is_eq (key_cmp (key_in item) key)) items

-- a key of the range from low to high, with both ends
abbrev pub NotOver : Bound → Key → Type 0
NotOver None key = ⊤
NotOver (Some high) key = key_cmp key high ≢ Greater

abbrev pub InRange : Bound → Bound → Key → Type 0
InRange low high key = NotBelow low key × NotOver high key

-- these images are of leaves, and the time of each item's key is the one at which its image was
-- read
abbrev pub ReadAt : PagesAt → (Key → ℕ) → List Visit → Type 0
ReadAt at when visits =
    AllByRecursion (λ visit. (is_leaf (at visit.time visit.page).kind ≡ true)
    × AllByRecursion (λ item. when (key_in item) ≡ visit.time) (at visit.time visit.page).items)
    visits

-- Each key has a time between the first and the last one. The items that were read for a key of the
-- range are those that the tree had for it at the key's time; where the key was read, this is the
-- time of the leaf's image with it. The items found ascend.
pub record FindsEach (at : PagesAt) (reads : List Visit) (items : ItemsAt) (low high : Bound)
    (first last : ℕ) : Type 0 where
  pub when : Key → ℕ
  pub since : (key : Key) → first ≤ when key
  pub until : (key : Key) → when key ≤ last
  pub each : (key : Key) → InRange low high key
      → of_key key (filter (in_range low high) (items_read at reads))
      ≡ of_key key (items (when key))
  pub ascend : Ascend (keys_of (filter (in_range low high) (items_read at reads)))
  pub there : ReadAt at when reads

-- as `FindsEach`, for at least one leaf and up to the time of the last
pub record SearchFinds (at : PagesAt) (reads : List Visit) (items : ItemsAt) (low high : Bound)
    (start : ℕ) : Type 0 where
  pub first : Visit
  pub rest : List Visit
  pub reads_are : reads ≡ first ∷ rest
  pub finds : FindsEach at reads items low high start (last_of first rest).time

-- Stated: how a search goes over pages that are handed to it: down to the leaf of a key, and along the leaves.
use Rattle.std.specs.Prelude.{◌≡◌, ◌≤◌, ◌<◌, ◌+◌, ◌-◌, ◌==◌, ◌||◌, ◌&&◌, ◌⊎◌, ℕ, Bool, true, false, not, List, [], ◌∷◌, length, map, slice_get, Option, Some, None, nat_le, if◌then◌else◌, ⊤}
use Rattle.rm_base.specs.declared.limits.TheConstants.{MAX_PAGES, MAX_TREE_LEVEL}
use Rattle.std.specs.List.{AllByRecursion}
use Rattle.std.specs.Ordering.{is_lt, is_eq}
use Rattle.page_image.specs.declared.kind.Kind.{Kind}
use Rattle.page_image.specs.declared.kind.Kind.TheVariants as kind
use Rattle.page_image.specs.Image.{Image}
use Rattle.page_view.specs.Inner.{InnerItem, inner_bytes, IsInner}
use Rattle.page_view.specs.Keys.{key_in, keys_of, key_cmp, Ascend, IsChildFor}
use Rattle.page_view.specs.Leaf.{HoldsLeaf}
use Rattle.bplus_tree.specs.declared.want.Want.{Want}
use Rattle.bplus_tree.specs.declared.want.Want.TheVariants.{Need, Leaf, Finished}
use Rattle.bplus_tree.specs.declared.want.TheConstants.{MOST_STEPS}

-- a search for the keys from low to high: what it wants next, how many inner pages it went through, and
-- from how many leaves it went on
pub record Walking : Type 0 where
  pub low : Option (List ℕ)
  pub high : Option (List ℕ)
  pub want : Want
  pub depth : ℕ
  pub passed : ℕ

abbrev pub start : ℕ → Option (List ℕ) → Option (List ℕ) → Walking
start root low high = record { low = low; high = high; want = Need root; depth = 0; passed = 0 }

-- the page that is wanted
abbrev pub wanted : Want → Option ℕ
wanted (Need page) = Some page
wanted (Leaf page) = Some page
wanted Finished = None

-- the bytes of an inner item
abbrev pub SpellsInner : List ℕ → Type 0
SpellsInner item = (entry : InnerItem) × IsInner entry × (item ≡ inner_bytes entry)

-- a page that a search can be told of: a leaf, or an inner page with entries from the empty key on; in
-- both the keys ascend
pub record IsLeafToRead (im : Image) : Type 0 where
  pub kind : im.kind ≡ kind.Leaf
  pub each : AllByRecursion HoldsLeaf im.items
  pub ascend : Ascend (keys_of im.items)

pub record IsInnerToRead (im : Image) : Type 0 where
  pub kind : im.kind ≡ kind.Inner
  pub entries : List InnerItem
  pub has : im.items ≡ map inner_bytes entries
  pub each : AllByRecursion IsInner entries
  pub least : slice_get (keys_of im.items) 0 ≡ Some []
  pub ascend : Ascend (keys_of im.items)

abbrev pub IsToRead : Image → Type 0
IsToRead im = IsLeafToRead im ⊎ IsInnerToRead im

-- the key for which a search goes down: its low end, or the least key
abbrev pub sought : Option (List ℕ) → List ℕ
sought None = []
sought (Some low) = low

-- the child of an inner page that holds the key
abbrev pub LeadsTo : Image → List ℕ → ℕ → Type 0
LeadsTo im key child =
    (place : ℕ) × (entry : InnerItem) × IsChildFor (keys_of im.items) key place
    × (slice_get im.items place ≡ Some (inner_bytes entry)) × IsInner entry × (child ≡ entry.child)

-- whether the first key is at least the second
abbrev pub at_least : List ℕ → List ℕ → Bool
at_least a b = not (is_lt (key_cmp a b))

abbrev pub reaches_with : List ℕ → Option (List ℕ) → Bool
reaches_with high None = false
reaches_with high (Some item) = at_least (key_in item) high

-- whether the last key of a leaf is at least the high end
abbrev pub reaches : Option (List ℕ) → List (List ℕ) → Bool
reaches None items = false
reaches (Some high) items = reaches_with high (slice_get items (length items - 1))

-- whether both ends are one key
abbrev pub one_key : Option (List ℕ) → Option (List ℕ) → Bool
one_key None high = false
one_key (Some low) None = false
one_key (Some low) (Some high) = is_eq (key_cmp low high)

-- a leaf ends the range where none is to its right, its last key is at least the high end, or the range is
-- one key; and a search ends where it has gone on as often as there are pages
abbrev pub is_last : Walking → Image → Bool
is_last w im = (im.next == 0) || (reaches w.high im.items || (one_key w.low w.high || nat_le MOST_STEPS w.passed))

abbrev pub after_inner : Walking → Image → Walking → Type 0
after_inner w im new =
    (MAX_TREE_LEVEL ≤ w.depth → new ≡ record w { want = Finished })
    × (w.depth < MAX_TREE_LEVEL → (child : ℕ) × LeadsTo im (sought w.low) child
    × (new ≡ record w { want = Need child; depth = w.depth + 1 }))

abbrev pub after_leaf : Walking → Image → Walking
after_leaf w im =
    if is_last w im then record w { want = Finished } else record w { want = Leaf im.next; passed = w.passed + 1 }

-- Told of a page on its way, a search wants the child that holds its low end; a leaf there is the first of
-- the range. Told of a leaf of the range, it wants the next one, up to the last. A way that is longer than
-- a tree is high ends, and so does one from leaf to leaf that leads to an inner page.
abbrev pub Moves : Want → Kind → Walking → Image → Walking → Type 0
Moves (Need page) kind.Leaf w im new = new ≡ record w { want = Leaf page }
Moves (Need page) kind.Inner w im new = after_inner w im new
Moves (Leaf page) kind.Leaf w im new = new ≡ after_leaf w im
Moves (Leaf page) kind.Inner w im new = new ≡ record w { want = Finished }
Moves _ _ w im new = ⊤

abbrev pub Told : Walking → Image → Walking → Type 0
Told w im new = Moves w.want im.kind w im new

-- a page that is handed in under its number and can be read
abbrev pub Answers : (ℕ → Image) → ℕ → Type 0
Answers pages page = IsToRead (pages page) × ((pages page).page ≡ page)

-- over these pages a search asks for the pages of the trail, one after the other, can be told of each, and ends
abbrev pub Runs : (ℕ → Image) → Walking → List Want → Type 0
Runs pages w [] = w.want ≡ Finished
Runs pages w (want ∷ rest) =
    (w.want ≡ want) × ((page : ℕ) → wanted want ≡ Some page
    → Answers pages page × ((new : Walking) → Told w (pages page) new → Runs pages new rest))

-- whether an item's key is in the range
abbrev pub from_low : Option (List ℕ) → List ℕ → Bool
from_low None item = true
from_low (Some low) item = at_least (key_in item) low

abbrev pub to_high : Option (List ℕ) → List ℕ → Bool
to_high None item = true
to_high (Some high) item = at_least high (key_in item)

abbrev pub in_range : Option (List ℕ) → Option (List ℕ) → List ℕ → Bool
in_range low high item = from_low low item && to_high high item

-- how many pages a search can still be given: each one brings it nearer to its end
abbrev pub left_by : Want → ℕ → ℕ → ℕ
left_by (Need page) depth passed = (9 - depth) + MAX_PAGES
left_by (Leaf page) depth passed = MAX_PAGES - passed
left_by Finished depth passed = 0

abbrev pub pages_left : Walking → ℕ
pages_left w = left_by w.want w.depth w.passed

-- Stated: A tree of keys over pages. Pages are a function of their numbers, whoever keeps them.
use Rattle.std.specs.Prelude.{◌≡◌, ◌≢◌, ◌≤◌, ◌<◌, ℕ, zero, suc, Bool, true, false, List, [], ◌∷◌, ◌++◌, length, map, filter, slice_get, Option, Some, None, nat_eq, ⊤}
use Rattle.rm_base.specs.declared.limits.TheConstants.{MAX_KEY_BYTES}
use Rattle.std.specs.List.{AllByRecursion, IsDistinct}
use Rattle.std.specs.declared.cmp.Ordering.TheVariants.{Less, Greater}
use Rattle.page_image.specs.declared.kind.Kind.{Kind}
use Rattle.page_image.specs.declared.kind.Kind.TheVariants.{Unmade, Meta, Slots, Stamps, Leaf, Inner, Undo}
use Rattle.page_image.specs.Image.{Image}
use Rattle.page_view.specs.Inner.{InnerItem, inner_bytes, IsInner}
use Rattle.page_view.specs.Keys.{key_in, keys_of, key_cmp, Ascend, IsChildFor}
use Rattle.page_view.specs.Leaf.{HoldsLeaf}

-- the keys of a part of a tree stand from a low bound on, where there is one, and below a high one
abbrev pub NotBelow : Option (List ℕ) → List ℕ → Type 0
NotBelow None key = ⊤
NotBelow (Some low) key = key_cmp low key ≢ Greater

abbrev pub Beyond : Option (List ℕ) → List ℕ → Type 0
Beyond None key = ⊤
Beyond (Some low) key = key_cmp low key ≡ Less

abbrev pub Below : Option (List ℕ) → List ℕ → Type 0
Below None key = ⊤
Below (Some high) key = key_cmp key high ≡ Less

-- a leaf that has these items, which ascend within the bounds
pub record IsLeafPage (im : Image) (page : ℕ) (low high : Option (List ℕ)) (items : List (List ℕ)) : Type 0 where
  pub kind : im.kind ≡ Leaf
  pub number : im.page ≡ page
  pub has : im.items ≡ items
  pub each : AllByRecursion HoldsLeaf items
  pub ascend : Ascend (keys_of items)
  pub from : AllByRecursion (λ item. NotBelow low (key_in item)) items
  pub below : AllByRecursion (λ item. Below high (key_in item)) items

-- an inner page of that level that has these entries, which ascend from the empty key
pub record IsInnerPage (im : Image) (page : ℕ) (level : ℕ) (entries : List InnerItem) : Type 0 where
  pub kind : im.kind ≡ Inner
  pub number : im.page ≡ page
  pub height : im.level ≡ level
  pub has : im.items ≡ map inner_bytes entries
  pub each : AllByRecursion IsInner entries
  pub short : AllByRecursion (λ entry. length entry.key ≤ MAX_KEY_BYTES) entries
  pub least : slice_get (keys_of im.items) 0 ≡ Some []
  pub ascend : Ascend (keys_of im.items)

-- the keys of the entries cut the bounds, and each child stands for its part
abbrev pub Parts : (ℕ → Option (List ℕ) → Option (List ℕ) → List (List ℕ) → List ℕ → Type 0)
    → List InnerItem → Option (List ℕ) → Option (List ℕ) → List (List ℕ) → List ℕ → Type 0
Parts Child [] low high items nodes = ⊥
Parts Child (entry ∷ []) low high items nodes = Child entry.child low high items nodes
Parts Child (entry ∷ (next ∷ rest)) low high items nodes =
    (first : List (List ℕ)) × (others : List (List ℕ)) × (left : List ℕ) × (right : List ℕ)
    × Child entry.child low (Some next.key) first left
    × Beyond low next.key
    × Below high next.key
    × Parts Child (next ∷ rest) (Some next.key) high others right
    × (items ≡ first ++ others)
    × (nodes ≡ left ++ right)

-- The page stands for the items within the bounds, as a part of a tree of that level whose pages are the
-- nodes. It is a leaf with these items; or an inner page whose keys cut the bounds, and each child of which
-- stands for its part, one level lower.
abbrev pub Stands : (ℕ → Image) → ℕ → ℕ → Option (List ℕ) → Option (List ℕ) → List (List ℕ) → List ℕ → Type 0
Stands pages zero page low high items nodes = IsLeafPage (pages page) page low high items × (nodes ≡ page ∷ [])
Stands pages (suc level) page low high items nodes =
    (entries : List InnerItem) × (below : List ℕ)
    × IsInnerPage (pages page) page (suc level) entries
    × Parts (Stands pages level) entries low high items below
    × (nodes ≡ page ∷ below)

abbrev pub is_leaf : Kind → Bool
is_leaf Unmade = false
is_leaf Meta = false
is_leaf Slots = false
is_leaf Stamps = false
is_leaf Leaf = true
is_leaf Inner = false
is_leaf Undo = false

-- the leaves among the pages
abbrev pub leaves_of : (ℕ → Image) → List ℕ → List ℕ
leaves_of pages nodes = filter (λ page. is_leaf (pages page).kind) nodes

-- each leaf names the one to its right, the last one none
abbrev pub Linked : (ℕ → Image) → List ℕ → Type 0
Linked pages [] = ⊤
Linked pages (leaf ∷ []) = (pages leaf).next ≡ 0
Linked pages (leaf ∷ (right ∷ rest)) = ((pages leaf).next ≡ right) × (0 < right) × Linked pages (right ∷ rest)

-- a tree that stands for the items, in the order of their keys
pub record Tree (pages : ℕ → Image) (root : ℕ) (items : List (List ℕ)) : Type 0 where
  pub level : ℕ
  pub nodes : List ℕ
  pub low_enough : level ≤ 8
  pub stands : Stands pages level root None None items nodes
  pub linked : Linked pages (leaves_of pages nodes)
  pub apart : IsDistinct nat_eq nodes

-- the pages on the way from a page of that level down to the leaf whose range holds the key
abbrev pub Way : (ℕ → Image) → ℕ → ℕ → List ℕ → List ℕ → Type 0
Way pages zero page key path = path ≡ page ∷ []
Way pages (suc level) page key path =
    (place : ℕ) × (entry : InnerItem) × (rest : List ℕ)
    × IsChildFor (keys_of (pages page).items) key place
    × (slice_get (pages page).items place ≡ Some (inner_bytes entry))
    × IsInner entry
    × Way pages level entry.child key rest
    × (path ≡ page ∷ rest)

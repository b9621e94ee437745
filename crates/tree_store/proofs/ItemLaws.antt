-- The items of a tree: each is a leaf item, and they stand by their keys.
use Rattle.std.proofs.Common.{◌≡◌, ℕ, zero, suc, List, [], ◌∷◌, ◌++◌, Option, Some, None, sym, subst}
use Rattle.std.specs.Prelude.{Contains}
use Rattle.std.specs.List.{AllByRecursion}
use Rattle.std.specs.declared.cmp.Ordering.TheVariants.{Less}
use Rattle.page_image.specs.Image.{Image}
use Rattle.page_view.specs.Inner.{InnerItem}
use Rattle.page_view.specs.Leaf.{HoldsLeaf}
use Rattle.page_view.specs.Keys.{key_in, keys_of, key_cmp, Ascend}
use Rattle.bplus_tree.specs.Tree.{NotBelow, Below, Parts, Stands}
use Rattle.tree_change.proofs.ListLaws.{all_join, all_weaker}
use Rattle.tree_change.proofs.PlaceLaws.{less_then}
use Rattle.tree_change.proofs.SortLaws.{Sorted, sorted_from, ascend_from}
use Rattle.tree_change.proofs.PartLaws.{Child}
use Rattle.tree_change.proofs.SpotLaws.{Within, parts_within, stands_within}
use Rattle.bplus_tree.specs.Forest.{Forest}

-- sorted items below a key, and sorted items from it on
sorted_meet : (xs ys : List (List ℕ)) (key : List ℕ) → Sorted xs → Sorted ys → AllByRecursion (λ x. Below (Some key) (key_in x)) xs → AllByRecursion (λ y. NotBelow (Some key) (key_in y)) ys
    → Sorted (xs ++ ys)
sorted_meet [] ys key sx sy less from = sy
sorted_meet (x ∷ xs) ys key sx sy less from =
    let P : List ℕ → Type 0 = λ y. key_cmp (key_in x) (key_in y) ≡ Less in (
      all_join P xs ys sx.0 (all_weaker (λ y. NotBelow (Some key) (key_in y)) P (λ y h. less_then (key_in x) key (key_in y) less.0 h) ys from),
      sorted_meet xs ys key sx.1 sy less.1 from,
    )

-- what holds of the items of a part
record Good (items : List (List ℕ)) : Type 0 where
  each : AllByRecursion HoldsLeaf items
  sorted : Sorted items

parts_good : (C : Child)
    → ((page : ℕ) (low high : Option (List ℕ)) (items : List (List ℕ)) (nodes : List ℕ) → C page low high items nodes → Good items)
    → ((page : ℕ) (low high : Option (List ℕ)) (items : List (List ℕ)) (nodes : List ℕ) → C page low high items nodes → Within low high items)
    → (es : List InnerItem) (low high : Option (List ℕ)) (items : List (List ℕ)) (nodes : List ℕ) → Parts C es low high items nodes → Good items
parts_good C good within [] low high items nodes p = absurd p
parts_good C good within (e ∷ []) low high items nodes p = good e.child low high items nodes p
parts_good C good within (e ∷ (next ∷ rest)) low high items nodes p =
    let first = good e.child low (Some next.key) p.0 p.2 p.4 in
    let below = (within e.child low (Some next.key) p.0 p.2 p.4).1 in
    let others = parts_good C good within (next ∷ rest) (Some next.key) high p.1 p.3 p.7 in
    let from = (parts_within C within (next ∷ rest) (Some next.key) high p.1 p.3 p.7).0 in
    subst Good (sym p.8)
    (record { each = all_join HoldsLeaf p.0 p.1 first.each others.each; sorted = sorted_meet p.0 p.1 next.key first.sorted others.sorted below from })

stands_good : (pages : ℕ → Image) (level page : ℕ) (low high : Option (List ℕ)) (items : List (List ℕ)) (nodes : List ℕ) → Stands pages level page low high items nodes → Good items
stands_good pages zero page low high items nodes h = record { each = h.0.each; sorted = sorted_from items h.0.ascend }
stands_good pages (suc level) page low high items nodes h =
    parts_good (Stands pages level)
    (λ p l hi its ns c. stands_good pages level p l hi its ns c)
    (λ p l hi its ns c. stands_within pages level p l hi its ns c)
    h.0 low high items h.1 h.3

pub items_good : (pages : ℕ → Image) (roots : List ℕ) (items : ℕ → List (List ℕ)) → Forest pages roots items → (root : ℕ) → Contains roots root
    → AllByRecursion HoldsLeaf (items root) × Ascend (keys_of (items root))
items_good pages roots items f root c =
    let tree = (f.trees root c).tree in
    let g = stands_good pages tree.level root None None (items root) tree.nodes tree.stands in
    (g.each, ascend_from (items root) g.sorted)

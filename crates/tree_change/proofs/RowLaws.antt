-- A leaf whose items get one more, or lose one.
use Rattle.std.proofs.Common.{◌≡◌, ℕ, true, false, List, ◌∷◌, ◌++◌, length, Option, refl, sym, ap, subst, ◌∙◌}
use Rattle.std.specs.List.{AllByRecursion}
use Rattle.std.specs.Ordering.{is_lt, is_gt}
use Rattle.std.specs.declared.cmp.Ordering.TheVariants.{Less, Greater}
use Rattle.std.proofs.lemmas.List.{append_assoc, append-nil, take_at}
use Rattle.std.proofs.lemmas.List.Elements.{filter-append}
use Rattle.page_image.specs.Image.{Image}
use Rattle.page_view.specs.Leaf.{leaf_bytes, HoldsLeaf}
use Rattle.page_view.specs.declared.leaf.LeafItem.{LeafItem}
use Rattle.page_view.specs.Keys.{key_in, key_cmp}
use Rattle.bplus_tree.specs.Tree.{NotBelow, Below, IsLeafPage}
use Rattle.tree_change.specs.Places.{before, behind}
use Rattle.tree_change.specs.Effects.{with_item, without_item}
use Rattle.tree_change.proofs.ListLaws.{all_join, all_weaker, keep_all, keep_none}
use Rattle.tree_change.proofs.SortLaws.{Sorted, sorted_from, ascend_from, sorted_filter, sorted_at, sorted_join, all_filter, before_less, behind_greater}
use Rattle.tree_change.proofs.SpotLaws.{AllLess, AllGreater}

pub key_of_leaf : (item : LeafItem) → key_in (leaf_bytes item) ≡ item.key
key_of_leaf item = take_at item.key _ (length item.key) refl

all_with : (P : List ℕ → Type 0) (key item : List ℕ) (items : List (List ℕ)) → P item → AllByRecursion P items → AllByRecursion P (with_item key item items)
all_with P key item items h all =
    all_join P (before key items) (item ∷ behind key items) (all_filter P (λ x. is_lt (key_cmp (key_in x) key)) items all)
    (h, all_filter P (λ x. is_gt (key_cmp (key_in x) key)) items all)

all_without : (P : List ℕ → Type 0) (key : List ℕ) (items : List (List ℕ)) → AllByRecursion P items → AllByRecursion P (without_item key items)
all_without P key items all =
    all_join P (before key items) (behind key items) (all_filter P (λ x. is_lt (key_cmp (key_in x) key)) items all)
    (all_filter P (λ x. is_gt (key_cmp (key_in x) key)) items all)

sorted_with : (key item : List ℕ) (items : List (List ℕ)) → key_in item ≡ key → Sorted items → Sorted (with_item key item items)
sorted_with key item items e s =
    sorted_at (before key items) item (behind key items)
    (sorted_filter (λ x. is_lt (key_cmp (key_in x) key)) items s) (
      subst (λ (k : List ℕ). AllByRecursion (λ y. key_cmp k (key_in y) ≡ Less) (behind key items)) (sym e) (behind_greater key items),
      sorted_filter (λ x. is_gt (key_cmp (key_in x) key)) items s,
    )
    (subst (λ (k : List ℕ). AllByRecursion (λ x. key_cmp (key_in x) k ≡ Less) (before key items)) (sym e) (before_less key items))

sorted_without : (key : List ℕ) (items : List (List ℕ)) → Sorted items → Sorted (without_item key items)
sorted_without key items s =
    sorted_join (before key items) (behind key items) key
    (sorted_filter (λ x. is_lt (key_cmp (key_in x) key)) items s)
    (sorted_filter (λ x. is_gt (key_cmp (key_in x) key)) items s)
    (before_less key items) (behind_greater key items)

pub leaf_with : (im om : Image) (page : ℕ) (low high : Option (List ℕ)) (items : List (List ℕ)) (key item : List ℕ)
    → IsLeafPage im page low high items → om.kind ≡ im.kind → om.page ≡ im.page → om.items ≡ with_item key item im.items
    → HoldsLeaf item → key_in item ≡ key → NotBelow low key → Below high key → IsLeafPage om page low high (with_item key item items)
leaf_with im om page low high items key item h k p is holds e f b = record {
  kind = k ∙ h.kind;
  number = p ∙ h.number;
  has = is ∙ ap (with_item key item) h.has;
  each = all_with HoldsLeaf key item items holds h.each;
  ascend = ascend_from (with_item key item items) (sorted_with key item items e (sorted_from items h.ascend));
  from = all_with (λ x. NotBelow low (key_in x)) key item items (subst (NotBelow low) (sym e) f) h.from;
  below = all_with (λ x. Below high (key_in x)) key item items (subst (Below high) (sym e) b) h.below;
}

pub leaf_without : (im om : Image) (page : ℕ) (low high : Option (List ℕ)) (items : List (List ℕ)) (key : List ℕ)
    → IsLeafPage im page low high items → om.kind ≡ im.kind → om.page ≡ im.page → om.items ≡ without_item key im.items
    → IsLeafPage om page low high (without_item key items)
leaf_without im om page low high items key h k p is = record {
  kind = k ∙ h.kind;
  number = p ∙ h.number;
  has = is ∙ ap (without_item key) h.has;
  each = all_without HoldsLeaf key items h.each;
  ascend = ascend_from (without_item key items) (sorted_without key items (sorted_from items h.ascend));
  from = all_without (λ x. NotBelow low (key_in x)) key items h.from;
  below = all_without (λ x. Below high (key_in x)) key items h.below;
}

-- ---- within all items of a tree

before_of : (key : List ℕ) (a m z : List (List ℕ)) → AllLess key a → AllGreater key z → before key (a ++ (m ++ z)) ≡ a ++ before key m
before_of key a m z less greater =
    let p = λ (x : List ℕ). is_lt (key_cmp (key_in x) key) in
    filter-append p a (m ++ z)
    ∙ ap (λ (l : List (List ℕ)). l ++ before key (m ++ z)) (keep_all p a (all_weaker (λ x. key_cmp (key_in x) key ≡ Less) (λ x. p x ≡ true) (λ x h. ap is_lt h) a less))
    ∙ ap (λ (l : List (List ℕ)). a ++ l)
    (filter-append p m z
    ∙ ap (λ (l : List (List ℕ)). before key m ++ l) (keep_none p z (all_weaker (λ x. key_cmp (key_in x) key ≡ Greater) (λ x. p x ≡ false) (λ x h. ap is_lt h) z greater))
    ∙ append-nil (before key m))

behind_of : (key : List ℕ) (a m z : List (List ℕ)) → AllLess key a → AllGreater key z → behind key (a ++ (m ++ z)) ≡ behind key m ++ z
behind_of key a m z less greater =
    let p = λ (x : List ℕ). is_gt (key_cmp (key_in x) key) in
    filter-append p a (m ++ z)
    ∙ ap (λ (l : List (List ℕ)). l ++ behind key (m ++ z)) (keep_none p a (all_weaker (λ x. key_cmp (key_in x) key ≡ Less) (λ x. p x ≡ false) (λ x h. ap is_gt h) a less))
    ∙ filter-append p m z
    ∙ ap (λ (l : List (List ℕ)). behind key m ++ l) (keep_all p z (all_weaker (λ x. key_cmp (key_in x) key ≡ Greater) (λ x. p x ≡ true) (λ x h. ap is_gt h) z greater))

regroup_with : {X : Type 0} (a b : List X) (x : X) (c z : List X) → (a ++ b) ++ (x ∷ (c ++ z)) ≡ a ++ ((b ++ (x ∷ c)) ++ z)
regroup_with a b x c z = simp append_assoc

regroup_without : {X : Type 0} (a b c z : List X) → (a ++ b) ++ (c ++ z) ≡ a ++ ((b ++ c) ++ z)
regroup_without a b c z = simp append_assoc

-- the change of the items is that of the part that may have the key
pub with_within : (key item : List ℕ) (a m z : List (List ℕ)) → AllLess key a → AllGreater key z → with_item key item (a ++ (m ++ z)) ≡ a ++ (with_item key item m ++ z)
with_within key item a m z less greater =
    ap (λ (l : List (List ℕ)). l ++ (item ∷ behind key (a ++ (m ++ z)))) (before_of key a m z less greater)
    ∙ ap (λ (l : List (List ℕ)). (a ++ before key m) ++ (item ∷ l)) (behind_of key a m z less greater)
    ∙ regroup_with a (before key m) item (behind key m) z

pub without_within : (key : List ℕ) (a m z : List (List ℕ)) → AllLess key a → AllGreater key z → without_item key (a ++ (m ++ z)) ≡ a ++ (without_item key m ++ z)
without_within key a m z less greater =
    ap (λ (l : List (List ℕ)). l ++ behind key (a ++ (m ++ z))) (before_of key a m z less greater)
    ∙ ap (λ (l : List (List ℕ)). (a ++ before key m) ++ l) (behind_of key a m z less greater)
    ∙ regroup_without a (before key m) (behind key m) z

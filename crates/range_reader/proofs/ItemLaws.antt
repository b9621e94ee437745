-- Leaf items as they are read.
use Rattle.std.proofs.Common.{◌≡◌, ◌+◌, ◌++◌, ◌∷◌, [], ℕ, zero, suc, take, map, slice_get, arith, append_assoc, append-nil, List, Some, Bool, false, ◌≢◌, if◌then◌else◌, refl, sym, ◌∙◌, ap, subst}
use Rattle.rm_base.specs.declared.key_range.KeyRange.{KeyRange}
use Rattle.page_image.specs.Image.{Image}
use Rattle.page_image.specs.declared.kind.Kind.{Kind}
use Rattle.page_image.specs.declared.kind.Kind.TheVariants as kind
use Rattle.page_view.specs.declared.leaf.LeafItem.{LeafItem}
use Rattle.bplus_tree.specs.Tree.{is_leaf}
use Rattle.bplus_tree.specs.Walk.{in_range}
use Rattle.range_reader.specs.Finding.{items_in}
use Rattle.range_reader.specs.Items.{items_of_leaf}
use Rattle.page_view.specs.Leaf.{leaf_of, HoldsLeaf, IsLeafOrNone}
use Rattle.std.specs.Prelude.{filter}
use Rattle.std.specs.List.{AllByRecursion}
use Rattle.std.proofs.lemmas.List.Elements.{filter-append}
use Rattle.page_view.proofs.LeafLaws.{leaf_back}

pub read_is : (item : List ℕ) (leaf : LeafItem) → IsLeafOrNone item (Some leaf) → leaf ≡ leaf_of item
read_is item leaf h = sym (ap leaf_of h.1 ∙ leaf_back leaf h.0)

pub take_item : {A : Type 0} (xs : List A) (i : ℕ) (x : A) → slice_get xs i ≡ Some x → take (i + 1) xs ≡ take i xs ++ x ∷ []
take_item [] i x is = absurd cc
take_item {A} (y ∷ ys) zero x is = let same : y ≡ x = cc in ap (λ (z : A). z ∷ []) same
take_item {A} (y ∷ ys) (suc i) x is =
    let one : suc i + 1 ≡ suc (i + 1) = omega arith in
    ap (λ (n : ℕ). take n (y ∷ ys)) one ∙ ap (λ (zs : List A). y ∷ zs) (take_item ys i x is)

map_append : {A B : Type 0} (f : A → B) (xs ys : List A) → map f (xs ++ ys) ≡ map f xs ++ map f ys
map_append f [] ys = refl
map_append {A} {B} f (x ∷ xs) ys = ap (λ (zs : List B). f x ∷ zs) (map_append f xs ys)

-- one more item of a leaf
pub one_taken : {B : Type 0} (f : List ℕ → B) (p : List ℕ → Bool) (items : List (List ℕ)) (i : ℕ) (item : List ℕ) (old found new : List B)
    → slice_get items i ≡ Some item → found ≡ old ++ map f (filter p (take i items)) → new ≡ found ++ map f (filter p (item ∷ []))
    → new ≡ old ++ map f (filter p (take (i + 1) items))
one_taken {B} f p items i item old found new is h e =
    e ∙ (ap (λ (xs : List B). xs ++ map f (filter p (item ∷ []))) h
    ∙ (append_assoc old (map f (filter p (take i items))) (map f (filter p (item ∷ [])))
    ∙ ap (λ (xs : List B). old ++ xs) (sym (map_append f (filter p (take i items)) (filter p (item ∷ [])))
    ∙ (ap (map f) (sym (filter-append p (take i items) (item ∷ []))) ∙ ap (λ (xs : List (List ℕ)). map f (filter p xs)) (sym (take_item items i item is))))))

pub holds_at : (items : List (List ℕ)) (i : ℕ) (item : List ℕ) → AllByRecursion HoldsLeaf items → slice_get items i ≡ Some item → HoldsLeaf item
holds_at [] i item all is = absurd cc
holds_at (x ∷ items) zero item all is = let same : x ≡ item = cc in subst HoldsLeaf same all.0
holds_at (x ∷ items) (suc i) item all is = holds_at items i item all.1 is

-- the items of a page by its kind
pub leaf_items : (range : KeyRange) (im : Image) → im.kind ≡ kind.Leaf → items_in range im ≡ items_of_leaf range im
leaf_items range im e = ap (λ (k : Kind). map leaf_of (if is_leaf k then filter (in_range range.low range.high) im.items else [])) e

other : (k : Kind) → k ≢ kind.Leaf → is_leaf k ≡ false
other kind.Leaf h = absurd (h refl)
other kind.Unmade h = refl
other kind.Meta h = refl
other kind.Slots h = refl
other kind.Stamps h = refl
other kind.Inner h = refl
other kind.Undo h = refl

pub no_items : (range : KeyRange) (im : Image) (old : List LeafItem) → im.kind ≢ kind.Leaf → old ≡ old ++ items_in range im
no_items range im old h =
    sym (ap (λ (b : Bool). old ++ map leaf_of (if b then filter (in_range range.low range.high) im.items else [])) (other im.kind h)
    ∙ append-nil old)

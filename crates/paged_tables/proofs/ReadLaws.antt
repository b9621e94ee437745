-- Reading the items of leaves.
use Rattle.std.proofs.Common.{◌≡◌, ◌+◌, ℕ, zero, suc, Bool, cond, List, [], ◌∷◌, ◌++◌, length, take, Option, Some, None, Result, Ok, Err, IfOk, refl, sym, ap, subst, ◌∙◌, append_assoc, arith}
use Rattle.std.specs.Prelude.{filter, slice_get, IsSome}
use Rattle.std.specs.List.{AllByRecursion}
use Rattle.std.proofs.lemmas.List.{take_at}
use Rattle.std.proofs.lemmas.List.Elements.{filter-append}
use Rattle.rm_base.specs.Fields.{AreBytes}
use Rattle.rm_base.specs.declared.key_range.KeyRange.{KeyRange}
use Rattle.page_view.specs.declared.leaf.LeafItem.{LeafItem}
use Rattle.page_view.specs.Leaf.{leaf_bytes, leaf_of, HoldsLeaf, IsLeafOrNone}
use Rattle.page_view.specs.Keys.{key_in}
use Rattle.page_view.proofs.LeafLaws.{leaf_reads}
use Rattle.bplus_tree.specs.Walk as walk
use Rattle.sql_meaning.specs.Ranges.{in_range}
use Rattle.paged_tables.proofs.ItemLaws.{range_is}

-- bytes that spell a leaf item are read
pub leaf_read : (item : List ℕ) (read : Option LeafItem) → AreBytes item → HoldsLeaf item → IsLeafOrNone item read → IsSome read
leaf_read item None bytes holds found =
    let is = leaf_reads item bytes holds in
    absurd (found (leaf_of item) is.0 is.1)
leaf_read item (Some leaf) bytes holds found = refl

-- what holds of each item holds of the one at a place
pub all_at : {A : Type 0} (P : A → Type 0) (xs : List A) (i : ℕ) (x : A) → AllByRecursion P xs → slice_get xs i ≡ Some x → P x
all_at P [] i x all is = absurd cc
all_at P (y ∷ ys) zero x all is = let same : y ≡ x = cc in subst P same all.0
all_at P (y ∷ ys) (suc i) x all is = all_at P ys i x all.1 is

-- the items of a list up to a place, and the one there
pub take_item : {A : Type 0} (xs : List A) (i : ℕ) (x : A) → slice_get xs i ≡ Some x → take (i + 1) xs ≡ take i xs ++ x ∷ []
take_item [] i x is = absurd cc
take_item {A} (y ∷ ys) zero x is = let same : y ≡ x = cc in ap (λ (z : A). z ∷ []) same
take_item {A} (y ∷ ys) (suc i) x is =
    let one : suc i + 1 ≡ suc (i + 1) = omega arith in
    ap (λ (n : ℕ). take n (y ∷ ys)) one ∙ ap (λ (zs : List A). y ∷ zs) (take_item ys i x is)

pub key_of_leaf : (leaf : LeafItem) → key_in (leaf_bytes leaf) ≡ leaf.key
key_of_leaf leaf = take_at leaf.key _ (length leaf.key) refl

-- one item more of a leaf
pub one_read : (r : KeyRange) (items found old new : List (List ℕ)) (i : ℕ) (leaf : LeafItem) → slice_get items i ≡ Some (leaf_bytes leaf)
    → found ≡ old ++ filter (walk.in_range r.low r.high) (take i items)
    → new ≡ found ++ filter (λ item. in_range leaf.key r) (leaf_bytes leaf ∷ [])
    → new ≡ old ++ filter (walk.in_range r.low r.high) (take (i + 1) items)
one_read r items found old new i leaf is before after =
    let item : List ℕ = leaf_bytes leaf in
    let test : walk.in_range r.low r.high item ≡ in_range leaf.key r = range_is r item ∙ ap (λ (key : List ℕ). in_range key r) (key_of_leaf leaf) in
    let one : filter (λ item. in_range leaf.key r) (item ∷ []) ≡ filter (walk.in_range r.low r.high) (item ∷ []) =
    ap (λ (b : Bool). cond b (item ∷ []) []) (sym test) in
    after
    ∙ ap (λ (xs : List (List ℕ)). xs ++ filter (λ item. in_range leaf.key r) (item ∷ [])) before
    ∙ ap (λ (xs : List (List ℕ)). (old ++ filter (walk.in_range r.low r.high) (take i items)) ++ xs) one
    ∙ append_assoc old (filter (walk.in_range r.low r.high) (take i items)) (filter (walk.in_range r.low r.high) (item ∷ []))
    ∙ ap (λ (xs : List (List ℕ)). old ++ xs) (sym (filter-append (walk.in_range r.low r.high) (take i items) (item ∷ [])))
    ∙ ap (λ (xs : List (List ℕ)). old ++ filter (walk.in_range r.low r.high) xs) (sym (take_item items i item is))

-- what holds of what is Ok gives what holds of it
pub ok_gives : {T E : Type 0} (r : Result T E) (P Q : T → Type 0) → ((x : T) → P x → Q x) → IfOk r P → IfOk r Q
ok_gives (Ok x) P Q f h = f x h
ok_gives (Err e) P Q f h = tt

-- The version that a leaf has of a key.
use Rattle.std.proofs.Common.{◌≡◌, ◌<◌, ℕ, zero, suc, Bool, true, false, List, [], ◌∷◌, length, slice_get, slice_index_or, if◌then◌else◌, Some, None, refl, sym, ◌∙◌, ap, arith}
use Rattle.std.specs.declared.cmp.Ordering.TheVariants.{Less}
use Rattle.std.specs.Ordering.{is_eq}
use Rattle.std.proofs.lemmas.Option.{slice_get_within, get_or_from_slice_get}
use Rattle.std.proofs.lemmas.Cmp.{nat_list_cmp_total, tied_itself}
use Rattle.page_view.specs.Leaf.{leaf_of}
use Rattle.page_view.specs.Keys.{key_in, keys_of, key_cmp, Ascend, LessBelow, GreaterFrom}
use Rattle.key_conflicts.specs.Testing.{Key, item_of}

same_some : {A : Type 0} {a b : A} → Some a ≡ Some b → a ≡ b
same_some e = cc

passes : (key : Key) (x : List ℕ) (xs : List (List ℕ)) (b : Bool) → is_eq (key_cmp (key_in x) key) ≡ b
    → item_of key (x ∷ xs) ≡ (if b then Some (leaf_of x) else item_of key xs)
unfolding item_of
passes key x xs b e = ap (λ (c : Bool). if c then Some (leaf_of x) else item_of key xs) e

pub place_within : (items : List (List ℕ)) (i : ℕ) (key : Key) → slice_get (keys_of items) i ≡ Some key → i < length items
place_within [] i key e = slice_get_within [] i key e
place_within (x ∷ xs) zero key e = omega arith
place_within (x ∷ xs) (suc i) key e = let h = place_within xs i key e in omega (arith, h)

pub found_is : (items : List (List ℕ)) (key : Key) (i : ℕ) (item : List ℕ) → Ascend (keys_of items)
    → slice_get (keys_of items) i ≡ Some key → slice_get items i ≡ Some item → Some (leaf_of item) ≡ item_of key items
found_is [] key i item up k e = absurd cc
found_is (x ∷ xs) key zero item up k e =
    let same : key_in x ≡ key = same_some k in
    let equal : is_eq (key_cmp (key_in x) key) ≡ true =
    ap (λ (y : Key). is_eq (key_cmp y key)) same ∙ ap is_eq (tied_itself nat_list_cmp_total key) in
    sym (passes key x xs true equal ∙ ap (λ (y : List ℕ). Some (leaf_of y)) (same_some e))
found_is (x ∷ xs) key (suc i) item up k e =
    let within : i < length (keys_of xs) = slice_get_within (keys_of xs) i key k in
    let first : key_cmp (key_in x) (slice_index_or (keys_of xs) i []) ≡ Less = up 0 (suc i) (omega arith) (omega (arith, within)) in
    let less : key_cmp (key_in x) key ≡ Less = ap (λ (y : Key). key_cmp (key_in x) y) (sym (get_or_from_slice_get (keys_of xs) i key [] k)) ∙ first in
    found_is xs key i item (λ a b l m. up (suc a) (suc b) (omega (arith, l)) (omega (arith, m))) k e
    ∙ sym (passes key x xs false (ap is_eq less))

pub none_is : (items : List (List ℕ)) (key : Key) (n : ℕ) → LessBelow (keys_of items) n key → GreaterFrom (keys_of items) n key
    → None ≡ item_of key items
unfolding item_of
none_is [] key n less greater = refl
none_is (x ∷ xs) key zero less greater =
    none_is xs key zero (λ i l. absurd (omega (arith, l))) (λ i l m. greater (suc i) (omega arith) (omega (arith, m)))
    ∙ sym (passes key x xs false (ap is_eq (greater 0 (omega arith) (omega arith))))
none_is (x ∷ xs) key (suc n) less greater =
    none_is xs key n (λ i l. less (suc i) (omega (arith, l))) (λ i l m. greater (suc i) (omega (arith, l)) (omega (arith, m)))
    ∙ sym (passes key x xs false (ap is_eq (less 0 (omega arith))))

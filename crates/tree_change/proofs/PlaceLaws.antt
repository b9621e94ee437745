-- The number of lesser keys among keys that ascend, and the bytes of the item with a key.
use Rattle.std.proofs.Common.{◌≡◌, ◌<◌, ◌≤◌, ◌≢◌, ◌+◌, ℕ, zero, suc, Bool, true, false, List, [], ◌∷◌, length, slice_get, get_or, Some, sym, ◌∙◌, refl, ap, subst, arith, inl, inr}
use Rattle.std.specs.Prelude.{filter, take, drop}
use Rattle.std.specs.Ordering.{is_lt, is_eq, is_le, is_gt, ordering_reverse}
use Rattle.std.specs.declared.cmp.Ordering.{Ordering}
use Rattle.std.specs.declared.cmp.Ordering.TheVariants.{Less, Equal, Greater}
use Rattle.std.proofs.lemmas.Bool.{cases_lt}
use Rattle.std.proofs.lemmas.Cmp.{nat_list_cmp_total, tied_itself}
use Rattle.std.proofs.lemmas.List as lists
use Rattle.std.proofs.lemmas.List.{length-map}
use Rattle.std.proofs.lemmas.Map.Lookups.{exact_bytes}
use Rattle.std.proofs.lemmas.Option.{slice_get_within, get_or_from_slice_get}
use Rattle.page_view.specs.Keys.{key_in, keys_of, key_cmp, Ascend, LessBelow, GreaterFrom, IsChildFor}
use Rattle.tree_change.specs.Places.{before, behind, lesser, not_greater, with_key}

pub filter_none : {X : Type 0} (p : X → Bool) (xs : List X) (d : X) → ((k : ℕ) → k < length xs → p (get_or xs k d) ≡ false) → filter p xs ≡ []
filter_none p [] d fails = refl
filter_none p (x ∷ xs) d fails =
    let first : p x ≡ false = fails 0 (omega arith) in
    rw first (filter_none p xs d (λ k h. fails (suc k) (omega arith)))

pub filter_all : {X : Type 0} (p : X → Bool) (xs : List X) (d : X) → ((k : ℕ) → k < length xs → p (get_or xs k d) ≡ true) → filter p xs ≡ xs
filter_all p [] d passes = refl
filter_all p (x ∷ xs) d passes =
    let first : p x ≡ true = passes 0 (omega arith) in
    rw first (ap (λ ys. x ∷ ys) (filter_all p xs d (λ k h. passes (suc k) (omega arith))))

-- what passes stands in front
pub filter_front : {X : Type 0} (p : X → Bool) (xs : List X) (n : ℕ) (d : X) → n ≤ length xs
    → ((k : ℕ) → k < n → p (get_or xs k d) ≡ true) → ((k : ℕ) → n ≤ k → k < length xs → p (get_or xs k d) ≡ false)
    → filter p xs ≡ take n xs
filter_front p [] n d le passes fails = sym (lists.take_all n [] (omega arith))
filter_front p (x ∷ xs) zero d le passes fails = filter_none p (x ∷ xs) d (λ k h. fails k (omega arith) h)
filter_front p (x ∷ xs) (suc n) d le passes fails =
    let first : p x ≡ true = passes 0 (omega arith) in
    rw first (ap (λ ys. x ∷ ys) (filter_front p xs n d (omega arith) (λ k h. passes (suc k) (omega arith)) (λ k h i. fails (suc k) (omega arith) (omega arith))))

-- what passes stands behind
pub filter_back : {X : Type 0} (p : X → Bool) (xs : List X) (n : ℕ) (d : X)
    → ((k : ℕ) → k < n → k < length xs → p (get_or xs k d) ≡ false) → ((k : ℕ) → n ≤ k → k < length xs → p (get_or xs k d) ≡ true)
    → filter p xs ≡ drop n xs
filter_back p [] n d fails passes = sym (lists.drop_all n [] (omega arith))
filter_back p (x ∷ xs) zero d fails passes = filter_all p (x ∷ xs) d (λ k h. passes k (omega arith) h)
filter_back p (x ∷ xs) (suc n) d fails passes =
    let first : p x ≡ false = fails 0 (omega arith) (omega arith) in
    rw first (filter_back p xs n d (λ k h i. fails (suc k) (omega arith) (omega arith)) (λ k h i. passes (suc k) (omega arith) (omega arith)))

-- one item passes alone
pub filter_one : {X : Type 0} (p : X → Bool) (xs : List X) (i : ℕ) (d : X) → i < length xs → p (get_or xs i d) ≡ true
    → ((k : ℕ) → k < length xs → k ≢ i → p (get_or xs k d) ≡ false) → filter p xs ≡ get_or xs i d ∷ []
filter_one p [] i d h e fails = absurd (omega arith)
filter_one p (x ∷ xs) zero d h e fails =
    let rest : filter p xs ≡ [] = filter_none p xs d (λ k i. fails (suc k) (omega arith) (omega arith)) in
    rw e (ap (λ ys. x ∷ ys) rest)
filter_one p (x ∷ xs) (suc i) d h e fails =
    let first : p x ≡ false = fails 0 (omega arith) (omega arith) in
    rw first (filter_one p xs i d (omega arith) e (λ k h ne. fails (suc k) (omega arith) (omega arith)))

-- orders of keys
pub turned : (a b : List ℕ) → key_cmp a b ≡ Greater → key_cmp b a ≡ Less
turned a b e = nat_list_cmp_total.antisymm b a ∙ ap ordering_reverse e

pub turned_back : (a b : List ℕ) → key_cmp a b ≡ Less → key_cmp b a ≡ Greater
turned_back a b e = nat_list_cmp_total.antisymm b a ∙ ap ordering_reverse e

pub less_trans : (a b c : List ℕ) → key_cmp a b ≡ Less → key_cmp b c ≡ Less → key_cmp a c ≡ Less
less_trans a b c e f = nat_list_cmp_total.trans a b c e f

pub same_key : (a : List ℕ) → key_cmp a a ≡ Equal
same_key a = tied_itself nat_list_cmp_total a

pub equal_from : (a b : List ℕ) → key_cmp a b ≡ Equal → a ≡ b
equal_from a b e = exact_bytes a b e

less_then_at : (a b c : List ℕ) (o : Ordering) → key_cmp b c ≡ o → key_cmp a b ≡ Less → key_cmp b c ≢ Greater → key_cmp a c ≡ Less
less_then_at a b c Less e f ne = less_trans a b c f e
less_then_at a b c Equal e f ne = subst (λ (k : List ℕ). key_cmp a k ≡ Less) (equal_from b c e) f
less_then_at a b c Greater e f ne = absurd (ne e)

-- a lesser key, and then one that is not greater
pub less_then : (a b c : List ℕ) → key_cmp a b ≡ Less → key_cmp b c ≢ Greater → key_cmp a c ≡ Less
less_then a b c f ne = less_then_at a b c (key_cmp b c) refl f ne

then_less_at : (a b c : List ℕ) (o : Ordering) → key_cmp a b ≡ o → key_cmp a b ≢ Greater → key_cmp b c ≡ Less → key_cmp a c ≡ Less
then_less_at a b c Less e ne f = less_trans a b c e f
then_less_at a b c Equal e ne f = subst (λ (k : List ℕ). key_cmp k c ≡ Less) (sym (equal_from a b e)) f
then_less_at a b c Greater e ne f = absurd (ne e)

pub then_less : (a b c : List ℕ) → key_cmp a b ≢ Greater → key_cmp b c ≡ Less → key_cmp a c ≡ Less
then_less a b c ne f = then_less_at a b c (key_cmp a b) refl ne f

le_from_at : (o : Ordering) → o ≢ Greater → is_le o ≡ true
le_from_at Less ne = refl
le_from_at Equal ne = refl
le_from_at Greater ne = absurd (ne refl)

apart : (o : Ordering) → o ≡ Less → o ≢ Greater
apart o e f = let h : Less ≡ Greater = sym e ∙ f in cc

equal_apart : (o : Ordering) → o ≡ Equal → o ≢ Greater
equal_apart o e f = let h : Equal ≡ Greater = sym e ∙ f in cc

pub not_greater_from : (o : Ordering) → o ≡ Less → o ≢ Greater
not_greater_from o e = apart o e

-- ---- places among the items

pub key_of_item : (items : List (List ℕ)) (k : ℕ) → k < length items → get_or (keys_of items) k [] ≡ key_in (get_or items k [])
key_of_item items k h = lists.get_or-map key_in items k [] [] h

pub as_many : (items : List (List ℕ)) → length (keys_of items) ≡ length items
as_many items = length-map items key_in

-- a fact of an item's key is one of the key at its place
at_item : {B : Type 0} (f : List ℕ → B) (items : List (List ℕ)) (k : ℕ) (b : B) → k < length items → f (get_or (keys_of items) k []) ≡ b → f (key_in (get_or items k [])) ≡ b
at_item f items k b h e = ap f (sym (key_of_item items k h)) ∙ e

-- the lesser items stand in front of a place where the keys are lesser before it and not from it on
pub before_is : (key : List ℕ) (items : List (List ℕ)) (n : ℕ) → n ≤ length items
    → LessBelow (keys_of items) n key → ((k : ℕ) → n ≤ k → k < length (keys_of items) → is_lt (key_cmp (get_or (keys_of items) k []) key) ≡ false)
    → before key items ≡ take n items
before_is key items n le less rest =
    let long : length (keys_of items) ≡ length items = as_many items in
    filter_front (λ item. is_lt (key_cmp (key_in item) key)) items n [] le
    (λ k h. at_item (λ k'. is_lt (key_cmp k' key)) items k true (omega arith) (ap is_lt (less k h)))
    (λ k h i. at_item (λ k'. is_lt (key_cmp k' key)) items k false i (rest k h (omega arith)))

-- the greater items stand behind
pub behind_is : (key : List ℕ) (items : List (List ℕ)) (n : ℕ)
    → ((k : ℕ) → k < n → k < length (keys_of items) → is_gt (key_cmp (get_or (keys_of items) k []) key) ≡ false) → GreaterFrom (keys_of items) n key
    → behind key items ≡ drop n items
behind_is key items n front greater =
    let long : length (keys_of items) ≡ length items = as_many items in
    filter_back (λ item. is_gt (key_cmp (key_in item) key)) items n []
    (λ k h i. at_item (λ k'. is_gt (key_cmp k' key)) items k false i (front k h (omega arith)))
    (λ k h i. at_item (λ k'. is_gt (key_cmp k' key)) items k true i (ap is_gt (greater k h (omega arith))))

-- where the key is not there
pub absent_before : (key : List ℕ) (items : List (List ℕ)) (n : ℕ) → n ≤ length items
    → LessBelow (keys_of items) n key → GreaterFrom (keys_of items) n key → before key items ≡ take n items
absent_before key items n le less greater = before_is key items n le less (λ k h i. ap is_lt (greater k h i))

pub absent_behind : (key : List ℕ) (items : List (List ℕ)) (n : ℕ)
    → LessBelow (keys_of items) n key → GreaterFrom (keys_of items) n key → behind key items ≡ drop n items
absent_behind key items n less greater = behind_is key items n (λ k h i. ap is_gt (less k h)) greater

pub lesser_absent : (key : List ℕ) (items : List (List ℕ)) (n : ℕ) → n ≤ length (keys_of items)
    → LessBelow (keys_of items) n key → GreaterFrom (keys_of items) n key → lesser key items ≡ n
lesser_absent key items n le less greater =
    let long : length (keys_of items) ≡ length items = as_many items in
    ap length (absent_before key items n (omega arith) less greater) ∙ lists.length-take-le n items (omega arith)

-- where the key is there
less_of_found : (keys : List (List ℕ)) (key : List ℕ) (i : ℕ) → Ascend keys → get_or keys i [] ≡ key → i < length keys → LessBelow keys i key
less_of_found keys key i asc e inside k h = subst (λ (a : List ℕ). key_cmp (get_or keys k []) a ≡ Less) e (asc k i h inside)

greater_of_found : (keys : List (List ℕ)) (key : List ℕ) (i : ℕ) → Ascend keys → get_or keys i [] ≡ key → GreaterFrom keys (i + 1) key
greater_of_found keys key i asc e k h within =
    turned_back key (get_or keys k []) (subst (λ (a : List ℕ). key_cmp a (get_or keys k []) ≡ Less) e (asc i k (omega arith) within))

equal_of_found : (keys : List (List ℕ)) (key : List ℕ) (i k : ℕ) → get_or keys i [] ≡ key → i ≡ k → key_cmp (get_or keys k []) key ≡ Equal
equal_of_found keys key i k e same = ap (λ (a : List ℕ). key_cmp a key) (ap (λ (n : ℕ). get_or keys n []) (sym same) ∙ e) ∙ same_key key

from_found : (keys : List (List ℕ)) (key : List ℕ) (i k : ℕ) → Ascend keys → get_or keys i [] ≡ key → i ≤ k → k < length keys
    → is_lt (key_cmp (get_or keys k []) key) ≡ false
from_found keys key i k asc e h within =
    elim (cases_lt i k) [
      | inl above ↦ ap is_lt (greater_of_found keys key i asc e k (omega arith) within)
      | inr below ↦ ap is_lt (equal_of_found keys key i k e (omega arith))
    ]

up_to_found : (keys : List (List ℕ)) (key : List ℕ) (i k : ℕ) → Ascend keys → get_or keys i [] ≡ key → i < length keys → k < i + 1
    → is_gt (key_cmp (get_or keys k []) key) ≡ false
up_to_found keys key i k asc e inside h =
    elim (cases_lt k i) [
      | inl below ↦ ap is_gt (less_of_found keys key i asc e inside k below)
      | inr above ↦ ap is_gt (equal_of_found keys key i k e (omega arith))
    ]

pub found_before : (key : List ℕ) (items : List (List ℕ)) (i : ℕ) → Ascend (keys_of items) → slice_get (keys_of items) i ≡ Some key → before key items ≡ take i items
found_before key items i asc e =
    let long : length (keys_of items) ≡ length items = as_many items in
    let inside : i < length (keys_of items) = slice_get_within (keys_of items) i key e in
    let here : get_or (keys_of items) i [] ≡ key = get_or_from_slice_get (keys_of items) i key [] e in
    before_is key items i (omega arith) (less_of_found (keys_of items) key i asc here inside) (λ k h w. from_found (keys_of items) key i k asc here h w)

pub found_behind : (key : List ℕ) (items : List (List ℕ)) (i : ℕ) → Ascend (keys_of items) → slice_get (keys_of items) i ≡ Some key → behind key items ≡ drop (i + 1) items
found_behind key items i asc e =
    let inside : i < length (keys_of items) = slice_get_within (keys_of items) i key e in
    let here : get_or (keys_of items) i [] ≡ key = get_or_from_slice_get (keys_of items) i key [] e in
    behind_is key items (i + 1) (λ k h w. up_to_found (keys_of items) key i k asc here inside h) (greater_of_found (keys_of items) key i asc here)

pub lesser_found : (key : List ℕ) (items : List (List ℕ)) (i : ℕ) → Ascend (keys_of items) → slice_get (keys_of items) i ≡ Some key → lesser key items ≡ i
lesser_found key items i asc e =
    let long : length (keys_of items) ≡ length items = as_many items in
    let inside : i < length (keys_of items) = slice_get_within (keys_of items) i key e in
    ap length (found_before key items i asc e) ∙ lists.length-take-le i items (omega arith)

up_to_child : (keys : List (List ℕ)) (key : List ℕ) (i k : ℕ) → Ascend keys → i < length keys → key_cmp (get_or keys i []) key ≢ Greater → k < i + 1
    → is_le (key_cmp (get_or keys k []) key) ≡ true
up_to_child keys key i k asc within ne h =
    elim (cases_lt k i) [
      | inl front ↦ ap is_le (less_then (get_or keys k []) (get_or keys i []) key (asc k i front within) ne)
      | inr here ↦ let same : i ≡ k = omega arith in
          le_from_at (key_cmp (get_or keys k []) key) (subst (λ (n : ℕ). key_cmp (get_or keys n []) key ≢ Greater) same ne)
    ]

-- the place behind the child that holds a key
pub not_greater_is : (key : List ℕ) (items : List (List ℕ)) (i : ℕ) → Ascend (keys_of items) → IsChildFor (keys_of items) key i → not_greater key items ≡ i + 1
not_greater_is key items i asc child =
    let long : length (keys_of items) ≡ length items = as_many items in
    let within : i < length (keys_of items) = child.0 in
    ap length (filter_front (λ item. is_le (key_cmp (key_in item) key)) items (i + 1) [] (omega arith)
    (λ k h. at_item (λ k'. is_le (key_cmp k' key)) items k true (omega arith) (up_to_child (keys_of items) key i k asc within child.1 h))
    (λ k h w. at_item (λ k'. is_le (key_cmp k' key)) items k false w (ap is_le (child.2 k h (omega arith)))))
    ∙ lists.length-take-le (i + 1) items (omega arith)

-- ---- the item with a key

other_key : (items : List (List ℕ)) (key : List ℕ) (i k : ℕ) → Ascend (keys_of items) → get_or (keys_of items) i [] ≡ key → i < length items → k < length items → k ≢ i
    → is_eq (key_cmp (get_or (keys_of items) k []) key) ≡ false
other_key items key i k asc e inside within ne =
    let long : length (keys_of items) ≡ length items = length-map items key_in in
    elim (cases_lt i k) [
      | inl above ↦ ap is_eq (turned_back key (get_or (keys_of items) k [])
          (subst (λ (a : List ℕ). key_cmp a (get_or (keys_of items) k []) ≡ Less) e (asc i k above (omega arith))))
      | inr below ↦ ap is_eq (subst (λ (a : List ℕ). key_cmp (get_or (keys_of items) k []) a ≡ Less) e (asc k i (omega arith) (omega arith)))
    ]

pub with_key_found : (key : List ℕ) (items : List (List ℕ)) (i : ℕ) → Ascend (keys_of items) → slice_get (keys_of items) i ≡ Some key
    → (i < length items) × (with_key key items ≡ get_or items i [] ∷ [])
with_key_found key items i asc e =
    let long : length (keys_of items) ≡ length items = length-map items key_in in
    let within : i < length (keys_of items) = slice_get_within (keys_of items) i key e in
    let inside : i < length items = omega arith in
    let here : get_or (keys_of items) i [] ≡ key = get_or_from_slice_get (keys_of items) i key [] e in
    let passes : is_eq (key_cmp (key_in (get_or items i [])) key) ≡ true =
    ap is_eq (ap (λ (a : List ℕ). key_cmp a key) (sym (key_of_item items i inside) ∙ here) ∙ same_key key) in (
      inside,
      filter_one (λ item. is_eq (key_cmp (key_in item) key)) items i [] inside passes
          (λ k h ne. ap (λ (a : List ℕ). is_eq (key_cmp a key)) (sym (key_of_item items k h)) ∙ other_key items key i k asc here inside h ne),
    )

no_key_at : (keys : List (List ℕ)) (key : List ℕ) (n k : ℕ) → LessBelow keys n key → GreaterFrom keys n key → k < length keys → is_eq (key_cmp (get_or keys k []) key) ≡ false
no_key_at keys key n k less greater h =
    elim (cases_lt k n) [ inl below ↦ ap is_eq (less k below) | inr above ↦ ap is_eq (greater k (omega arith) h) ]

pub with_key_absent : (key : List ℕ) (items : List (List ℕ)) (n : ℕ) → LessBelow (keys_of items) n key → GreaterFrom (keys_of items) n key → with_key key items ≡ []
with_key_absent key items n less greater =
    let long : length (keys_of items) ≡ length items = length-map items key_in in
    filter_none (λ item. is_eq (key_cmp (key_in item) key)) items []
    (λ k h. ap (λ (a : List ℕ). is_eq (key_cmp a key)) (sym (key_of_item items k h)) ∙ no_key_at (keys_of items) key n k less greater (omega arith))

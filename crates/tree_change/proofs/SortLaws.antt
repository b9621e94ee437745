-- Items by ascending keys, cut and joined.
use Rattle.std.proofs.Common.{◌≡◌, ◌<◌, ◌≤◌, ℕ, zero, suc, Bool, true, false, cond, List, [], ◌∷◌, ◌++◌, length, get_or, slice_get, Some, refl, sym, ap, subst, ◌∙◌, arith, inl, inr}
use Rattle.std.specs.Prelude.{filter, ◌⊎◌}
use Rattle.std.specs.List.{AllByRecursion}
use Rattle.std.specs.Ordering.{is_lt, is_gt}
use Rattle.std.specs.declared.cmp.Ordering.{Ordering}
use Rattle.std.specs.declared.cmp.Ordering.TheVariants.{Less, Equal, Greater}
use Rattle.std.proofs.lemmas.Bool.{cases_lt}
use Rattle.std.proofs.lemmas.Option.{slice_get_within, get_or_from_slice_get}
use Rattle.std.proofs.lemmas.List.Elements.{All-from_get_or, recursion_from_All, All-get_or, All-from_recursion}
use Rattle.page_view.specs.Keys.{key_in, keys_of, key_cmp, Ascend, LessBelow, GreaterFrom}
use Rattle.tree_change.specs.Places.{before, behind}
use Rattle.tree_change.proofs.PlaceLaws.{key_of_item, as_many, less_trans, turned_back, turned, equal_from, same_key}
use Rattle.tree_change.proofs.ListLaws.{all_front, all_back, all_join, all_weaker}

-- each item's key is less than those of the items behind it
abbrev pub Sorted : List (List ℕ) → Type 0
Sorted [] = Unit {0}
Sorted (x ∷ xs) = AllByRecursion (λ y. key_cmp (key_in x) (key_in y) ≡ Less) xs × Sorted xs

pub ascend_tail : (k : List ℕ) (ks : List (List ℕ)) → Ascend (k ∷ ks) → Ascend ks
ascend_tail k ks asc i j h w = asc (suc i) (suc j) (omega arith) (omega arith)

head_less : (x : List ℕ) (xs : List (List ℕ)) → Ascend (keys_of (x ∷ xs)) → AllByRecursion (λ y. key_cmp (key_in x) (key_in y) ≡ Less) xs
head_less x xs asc =
    let P : List ℕ → Type 0 = λ y. key_cmp (key_in x) (key_in y) ≡ Less in
    recursion_from_All P xs (All-from_get_or P xs []
    (λ i h. let long = as_many xs in
    subst (λ (k : List ℕ). key_cmp (key_in x) k ≡ Less) (key_of_item xs i h) (asc 0 (suc i) (omega arith) (omega arith))))

pub sorted_from : (items : List (List ℕ)) → Ascend (keys_of items) → Sorted items
sorted_from [] asc = tt
sorted_from (x ∷ xs) asc = (head_less x xs asc, sorted_from xs (ascend_tail (key_in x) (keys_of xs) asc))

pub ascend_from : (items : List (List ℕ)) → Sorted items → Ascend (keys_of items)
ascend_from [] s i j h w = absurd (omega arith)
ascend_from (x ∷ xs) s zero zero h w = absurd (omega arith)
ascend_from (x ∷ xs) s zero (suc j) h w =
    let P : List ℕ → Type 0 = λ y. key_cmp (key_in x) (key_in y) ≡ Less in
    let long = as_many xs in
    let inside : j < length xs = omega arith in
    subst (λ (k : List ℕ). key_cmp (key_in x) k ≡ Less) (sym (key_of_item xs j inside)) (All-get_or P xs j [] inside (All-from_recursion P xs s.0))
ascend_from (x ∷ xs) s (suc i) zero h w = absurd (omega arith)
ascend_from (x ∷ xs) s (suc i) (suc j) h w = ascend_from xs s.1 i j (omega arith) (omega arith)

pub sorted_front : (xs ys : List (List ℕ)) → Sorted (xs ++ ys) → Sorted xs
sorted_front [] ys s = tt
sorted_front (x ∷ xs) ys s = (all_front (λ y. key_cmp (key_in x) (key_in y) ≡ Less) xs ys s.0, sorted_front xs ys s.1)

pub sorted_back : (xs ys : List (List ℕ)) → Sorted (xs ++ ys) → Sorted ys
sorted_back [] ys s = s
sorted_back (x ∷ xs) ys s = sorted_back xs ys s.1

-- the items before an item are less
pub front_less_than : (xs : List (List ℕ)) (y : List ℕ) (ys : List (List ℕ)) → Sorted (xs ++ (y ∷ ys)) → AllByRecursion (λ x. key_cmp (key_in x) (key_in y) ≡ Less) xs
front_less_than [] y ys s = tt
front_less_than (x ∷ xs) y ys s =
    ((all_back (λ z. key_cmp (key_in x) (key_in z) ≡ Less) xs (y ∷ ys) s.0).0, front_less_than xs y ys s.1)

-- sorted items below a key, and sorted items above it
pub sorted_join : (xs ys : List (List ℕ)) (key : List ℕ) → Sorted xs → Sorted ys
    → AllByRecursion (λ x. key_cmp (key_in x) key ≡ Less) xs → AllByRecursion (λ y. key_cmp key (key_in y) ≡ Less) ys → Sorted (xs ++ ys)
sorted_join [] ys key s t l g = t
sorted_join (x ∷ xs) ys key s t l g = (
  all_join (λ z. key_cmp (key_in x) (key_in z) ≡ Less) xs ys s.0
      (all_weaker (λ y. key_cmp key (key_in y) ≡ Less) (λ y. key_cmp (key_in x) (key_in y) ≡ Less) (λ y h. less_trans (key_in x) key (key_in y) l.0 h) ys g),
  sorted_join xs ys key s.1 t l.1 g,
)

-- sorted items below the first of some sorted items
pub sorted_at : (xs : List (List ℕ)) (y : List ℕ) (ys : List (List ℕ)) → Sorted xs → Sorted (y ∷ ys)
    → AllByRecursion (λ x. key_cmp (key_in x) (key_in y) ≡ Less) xs → Sorted (xs ++ (y ∷ ys))
sorted_at [] y ys s t l = t
sorted_at (x ∷ xs) y ys s t l = (
  all_join (λ z. key_cmp (key_in x) (key_in z) ≡ Less) xs (y ∷ ys) s.0
      (l.0, all_weaker (λ z. key_cmp (key_in y) (key_in z) ≡ Less) (λ z. key_cmp (key_in x) (key_in z) ≡ Less) (λ z h. less_trans (key_in x) (key_in y) (key_in z) l.0 h) ys t.0),
  sorted_at xs y ys s.1 t l.1,
)

-- ---- filters

all_kept : {X : Type 0} (P : X → Type 0) (b : Bool) (x : X) (xs : List X) → P x → AllByRecursion P xs → AllByRecursion P (cond b (x ∷ xs) xs)
all_kept P true x xs h i = (h, i)
all_kept P false x xs h i = i

pub all_filter : {X : Type 0} (P : X → Type 0) (p : X → Bool) (xs : List X) → AllByRecursion P xs → AllByRecursion P (filter p xs)
all_filter P p [] h = tt
all_filter P p (x ∷ xs) h = all_kept P (p x) x (filter p xs) h.0 (all_filter P p xs h.1)

sorted_kept : (b : Bool) (x : List ℕ) (xs : List (List ℕ)) → AllByRecursion (λ y. key_cmp (key_in x) (key_in y) ≡ Less) xs → Sorted xs → Sorted (cond b (x ∷ xs) xs)
sorted_kept true x xs h s = (h, s)
sorted_kept false x xs h s = s

pub sorted_filter : (p : List ℕ → Bool) (xs : List (List ℕ)) → Sorted xs → Sorted (filter p xs)
sorted_filter p [] s = tt
sorted_filter p (x ∷ xs) s =
    sorted_kept (p x) x (filter p xs) (all_filter (λ y. key_cmp (key_in x) (key_in y) ≡ Less) p xs s.0) (sorted_filter p xs s.1)

passed_kept : {X : Type 0} (p : X → Bool) (b : Bool) (x : X) (xs : List X) → p x ≡ b → AllByRecursion (λ y. p y ≡ true) xs → AllByRecursion (λ y. p y ≡ true) (cond b (x ∷ xs) xs)
passed_kept p true x xs e h = (e, h)
passed_kept p false x xs e h = h

pub all_passed : {X : Type 0} (p : X → Bool) (xs : List X) → AllByRecursion (λ y. p y ≡ true) (filter p xs)
all_passed p [] = tt
all_passed p (x ∷ xs) = passed_kept p (p x) x (filter p xs) refl (all_passed p xs)

less_of : (o : Ordering) → is_lt o ≡ true → o ≡ Less
less_of Less e = refl
less_of Equal e = cc
less_of Greater e = cc

greater_of : (o : Ordering) → is_gt o ≡ true → o ≡ Greater
greater_of Less e = cc
greater_of Equal e = cc
greater_of Greater e = refl

pub before_less : (key : List ℕ) (items : List (List ℕ)) → AllByRecursion (λ x. key_cmp (key_in x) key ≡ Less) (before key items)
before_less key items =
    all_weaker (λ x. is_lt (key_cmp (key_in x) key) ≡ true) (λ x. key_cmp (key_in x) key ≡ Less) (λ x h. less_of (key_cmp (key_in x) key) h)
    (before key items) (all_passed (λ x. is_lt (key_cmp (key_in x) key)) items)

pub behind_greater : (key : List ℕ) (items : List (List ℕ)) → AllByRecursion (λ y. key_cmp key (key_in y) ≡ Less) (behind key items)
behind_greater key items =
    all_weaker (λ x. is_gt (key_cmp (key_in x) key) ≡ true) (λ y. key_cmp key (key_in y) ≡ Less)
    (λ x h. turned (key_in x) key (greater_of (key_cmp (key_in x) key) h))
    (behind key items) (all_passed (λ x. is_gt (key_cmp (key_in x) key)) items)

-- ---- a key among keys that ascend is there, or has a place

abbrev pub IsPlaced : List (List ℕ) → List ℕ → Type 0
IsPlaced keys key =
    ((i : ℕ) × (slice_get keys i ≡ Some key)) ⊎ ((n : ℕ) × (n ≤ length keys) × LessBelow keys n key × GreaterFrom keys n key)

all_greater_from : (k : List ℕ) (ks : List (List ℕ)) (key : List ℕ) → Ascend (k ∷ ks) → key_cmp k key ≡ Greater → GreaterFrom (k ∷ ks) 0 key
all_greater_from k ks key asc e zero h w = e
all_greater_from k ks key asc e (suc i) h w =
    turned_back key (get_or ks i []) (less_trans key k (get_or ks i []) (turned k key e) (asc 0 (suc i) (omega arith) w))

placed_first : (k : List ℕ) (ks : List (List ℕ)) (key : List ℕ) → key_cmp k key ≡ Less → IsPlaced ks key → IsPlaced (k ∷ ks) key
placed_first k ks key e (inl found) = inl (suc found.0, found.1)
placed_first k ks key e (inr absent) = inr (
  suc absent.0,
  (let h = absent.1 in omega arith),
  less_more k ks key absent.0 e absent.2,
  greater_more k ks key absent.0 absent.3,
)
  where
    less_more : (k : List ℕ) (ks : List (List ℕ)) (key : List ℕ) (n : ℕ) → key_cmp k key ≡ Less → LessBelow ks n key → LessBelow (k ∷ ks) (suc n) key
    less_more k ks key n e h zero w = e
    less_more k ks key n e h (suc i) w = h i (omega arith)

    greater_more : (k : List ℕ) (ks : List (List ℕ)) (key : List ℕ) (n : ℕ) → GreaterFrom ks n key → GreaterFrom (k ∷ ks) (suc n) key
    greater_more k ks key n h zero w i = absurd (omega arith)
    greater_more k ks key n h (suc j) w i = h j (omega arith) (omega arith)

placed_by : (o : Ordering) (k : List ℕ) (ks : List (List ℕ)) (key : List ℕ) → key_cmp k key ≡ o → Ascend (k ∷ ks) → IsPlaced ks key → IsPlaced (k ∷ ks) key
placed_by Less k ks key e asc p = placed_first k ks key e p
placed_by Equal k ks key e asc p = inl (0, ap Some (equal_from k key e))
placed_by Greater k ks key e asc p = inr (0, (omega arith), (λ i h. absurd (omega arith)), all_greater_from k ks key asc e)

pub placed : (keys : List (List ℕ)) (key : List ℕ) → Ascend keys → IsPlaced keys key
placed [] key asc = inr (0, (omega arith), (λ i h. absurd (omega arith)), (λ i h w. absurd (omega arith)))
placed (k ∷ ks) key asc = placed_by (key_cmp k key) k ks key refl asc (placed ks key (ascend_tail k ks asc))

-- a key that has a place between others is none of them
pub not_there : (keys : List (List ℕ)) (key : List ℕ) (n i : ℕ) → LessBelow keys n key → GreaterFrom keys n key → slice_get keys i ≡ Some key → ⊥
not_there keys key n i less greater e =
    let inside : i < length keys = slice_get_within keys i key e in
    let here : get_or keys i [] ≡ key = get_or_from_slice_get keys i key [] e in
    let same : key_cmp (get_or keys i []) key ≡ Equal = ap (λ (k : List ℕ). key_cmp k key) here ∙ same_key key in
    elim (cases_lt i n) [
      | inl below ↦ (let h : Equal ≡ Less = sym same ∙ less i below in cc)
      | inr above ↦ (let h : Equal ≡ Greater = sym same ∙ greater i above inside in cc)
    ]

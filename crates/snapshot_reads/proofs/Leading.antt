-- An inner page has a child for each key.
use Rattle.std.proofs.Common.{◌≡◌, ◌≢◌, ◌≤◌, ◌<◌, ◌+◌, ℕ, zero, suc, List, [], ◌∷◌, length, map, slice_get, slice_index_or, Some, None, refl, sym, ap, subst, ◌∙◌, arith}
use Rattle.std.specs.List.{AllByRecursion}
use Rattle.std.specs.declared.cmp.Ordering.{Ordering}
use Rattle.std.specs.declared.cmp.Ordering.TheVariants.{Less, Equal, Greater}
use Rattle.page_image.specs.Image.{Image}
use Rattle.page_view.specs.Inner.{InnerItem, inner_bytes, IsInner}
use Rattle.page_view.specs.Keys.{key_in, keys_of, key_cmp, Ascend, IsChildFor}
use Rattle.bplus_tree.specs.Found.{AllMore}
use Rattle.bplus_tree.specs.Walk.{LeadsTo, IsInnerToRead}
use Rattle.bplus_tree.proofs.Order.{Sorted, sorted_from, turned, turned_back, less_less, least_key}
use Rattle.range_reader.specs.Walked.{child_in}
use Rattle.range_reader.proofs.StepLaws.{leads_in}

-- ---- the place of a child

greater_at : (key : List ℕ) (zs : List (List ℕ))
    → AllByRecursion (λ z. key_cmp (key_in z) key ≡ Greater) zs → (i : ℕ) → i < length (keys_of zs)
    → key_cmp (slice_index_or (keys_of zs) i []) key ≡ Greater
greater_at key [] a i l = absurd (omega (arith, l))
greater_at key (z ∷ zs) a zero l = a.0
greater_at key (z ∷ zs) a (suc i) l = greater_at key zs a.1 i (omega (arith, l))

all_greater : (key y : List ℕ) (zs : List (List ℕ)) → key_cmp y key ≡ Greater → AllMore y zs
    → AllByRecursion (λ z. key_cmp (key_in z) key ≡ Greater) zs
all_greater key y [] g a = tt
all_greater key y (z ∷ zs) g a = (
  turned key (key_in z) (less_less key y (key_in z) (turned_back y key g) a.0),
  all_greater key y zs g a.1,
)

child_place : (key x : List ℕ) (items : List (List ℕ)) → Sorted (x ∷ items)
    → key_cmp (key_in x) key ≢ Greater → (place : ℕ) × IsChildFor (keys_of (x ∷ items)) key place
child_place key x [] s h = (0, (omega arith, h, λ i a b. absurd (omega (arith, a, b))))
child_place key x (y ∷ rest) s h = go (child_place key y rest s.1) (key_cmp (key_in y) key) refl
  where
    deeper : (place : ℕ) → IsChildFor (keys_of (y ∷ rest)) key place
        → IsChildFor (keys_of (x ∷ (y ∷ rest))) key (suc place)
    deeper p (short, upto, more) = (omega (arith, short), upto, beyond)
      where
        beyond : (i : ℕ) → suc p + 1 ≤ i → i < length (keys_of (x ∷ (y ∷ rest)))
            → key_cmp (slice_index_or (keys_of (x ∷ (y ∷ rest))) i []) key ≡ Greater
        beyond zero a b = absurd (omega (arith, a))
        beyond (suc i) a b = more i (omega (arith, a)) (omega (arith, b))

    go : (key_cmp (key_in y) key ≢ Greater → (place : ℕ)
        × IsChildFor (keys_of (y ∷ rest)) key place) → (o : Ordering) → key_cmp (key_in y) key ≡ o
        → (place : ℕ) × IsChildFor (keys_of (x ∷ (y ∷ rest))) key place
    go ih Less e = let d = ih (λ g. let q : Less ≡ Greater = sym e ∙ g in cc) in
        (suc d.0, deeper d.0 d.1)
    go ih Equal e = let d = ih (λ g. let q : Equal ≡ Greater = sym e ∙ g in cc) in
        (suc d.0, deeper d.0 d.1)
    go ih Greater e = (0, (omega arith, h, beyond))
      where
        beyond : (i : ℕ) → 0 + 1 ≤ i → i < length (keys_of (x ∷ (y ∷ rest)))
            → key_cmp (slice_index_or (keys_of (x ∷ (y ∷ rest))) i []) key ≡ Greater
        beyond zero a b = absurd (omega (arith, a))
        beyond (suc i) a b = greater_at key (y ∷ rest) (
          e,
          all_greater key (key_in y) rest e s.1.0,
        ) i (omega (arith, b))

entry_there : (entries : List InnerItem) (place : ℕ) → AllByRecursion IsInner entries
    → place < length (keys_of (map inner_bytes entries))
    → (entry : InnerItem) × (slice_get (map inner_bytes entries) place ≡ Some (inner_bytes entry))
    × IsInner entry
entry_there [] place a l = absurd (omega (arith, l))
entry_there (e ∷ es) zero a l = (e, refl, a.0)
entry_there (e ∷ es) (suc place) a l = entry_there es place a.1 (omega (arith, l))

place_in : (key : List ℕ) (items : List (List ℕ)) → Ascend (keys_of items)
    → slice_get (keys_of items) 0 ≡ Some [] → (place : ℕ) × IsChildFor (keys_of items) key place
place_in key [] asc least = absurd (let x : None ≡ Some [] = least in cc)
place_in key (x ∷ items) asc least = child_place key x items (sorted_from (x ∷ items) asc)
    (subst (λ k. key_cmp k key ≢ Greater) (empty (key_in x) least) (least_key key))
  where
    empty : (k : List ℕ) → Some k ≡ Some [] → [] ≡ k
    empty k e = cc

-- the child that a search goes to is one that the page leads to
pub leads : (im : Image) (key : List ℕ) → IsInnerToRead im → LeadsTo im key (child_in im key)
leads im key i =
    let p = place_in key im.items i.ascend i.least in
    let short : p.0 < length (keys_of (map inner_bytes i.entries)) =
    subst (λ xs. p.0 < length (keys_of xs)) i.has p.1.0 in
    let e = entry_there i.entries p.0 i.each short in
    let l : LeadsTo im key (InnerItem.child e.0) =
    (p.0, e.0, p.1, ap (λ xs. slice_get xs p.0) i.has ∙ e.1, e.2, refl) in
    subst (λ c. LeadsTo im key c) (leads_in im key (InnerItem.child e.0) l) l

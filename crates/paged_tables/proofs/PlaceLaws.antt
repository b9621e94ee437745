-- Where the keys of a range begin and end on a leaf.
use Rattle.std.proofs.Common.{◌≡◌, ◌≤◌, ◌+◌, ℕ, zero, suc, Bool, true, false, cond, List, [], ◌∷◌, ◌++◌, length, take, drop, Option, Some, None, slice_get, slice_index_or, refl, sym, ap, ◌∙◌, arith}
use Rattle.std.specs.Prelude.{filter, ◌&&◌}
use Rattle.std.specs.declared.cmp.Ordering.TheVariants.{Less, Greater}
use Rattle.std.proofs.lemmas.List.{append-nil, take-append-drop}
use Rattle.std.proofs.lemmas.List.Elements.{filter-append}
use Rattle.std.proofs.lemmas.Option.{slice_get_within, get_or_from_slice_get}
use Rattle.page_view.specs.Keys.{key_in, keys_of, key_cmp, Ascend, LessBelow, GreaterFrom}
use Rattle.page_view.proofs.SearchLaws.{child_found}
use Rattle.bplus_tree.proofs.Order.{turned_back}
use Rattle.bplus_tree.specs.Walk.{at_least, from_low, in_range}
use Rattle.paged_tables.specs.Places.{IsFirst, IsEnd}

-- the keys before the place of a key are less
pub first_found : (keys : List (List ℕ)) (key : List ℕ) (i : ℕ) → Ascend keys → slice_get keys i ≡ Some key → LessBelow keys i key
first_found keys key i asc e j h =
    ap (λ (k : List ℕ). key_cmp (slice_index_or keys j []) k) (sym (get_or_from_slice_get keys i key [] e)) ∙ asc j i h (slice_get_within keys i key e)

-- and there are more keys than come before it
pub first_within : (items : List (List ℕ)) (key : List ℕ) (i : ℕ) → slice_get (keys_of items) i ≡ Some key → i + 1 ≤ length items
first_within [] key i e = absurd cc
first_within (item ∷ items) key zero e = omega arith
first_within (item ∷ items) key (suc i) e = let ih = first_within items key i e in omega (arith, ih)

-- those behind it are greater
pub end_found : (keys : List (List ℕ)) (key : List ℕ) (i : ℕ) → Ascend keys → slice_get keys i ≡ Some key → GreaterFrom keys (i + 1) key
end_found keys key i asc e = (child_found keys key i asc e).2

-- a key that is less than the low end is not in the range
below_low : (low : List ℕ) (high : Option (List ℕ)) (item : List ℕ) → key_cmp (key_in item) low ≡ Less → in_range (Some low) high item ≡ false
below_low low high item e = rw e refl

-- no item before the first place is in the range
pub none_before : (low high : Option (List ℕ)) (items : List (List ℕ)) (n : ℕ) → IsFirst low (keys_of items) n → filter (in_range low high) (take n items) ≡ []
none_before None high items n e = rw e refl
none_before (Some low) high [] zero less = refl
none_before (Some low) high [] (suc n) less = refl
none_before (Some low) high (item ∷ items) zero less = refl
none_before (Some low) high (item ∷ items) (suc n) less =
    ap (λ (b : Bool). cond b (item ∷ filter (in_range (Some low) high) (take n items)) (filter (in_range (Some low) high) (take n items))) (below_low low high item (less 0 (omega arith)))
    ∙ none_before (Some low) high items n (λ i h. less (suc i) (omega (arith, h)))

-- a key that is greater than the high end is not in the range
above_high : (low : Option (List ℕ)) (high : List ℕ) (item : List ℕ) → key_cmp (key_in item) high ≡ Greater → in_range low (Some high) item ≡ false
above_high low high item e = ap (λ (b : Bool). from_low low item && b) past ∙ and_false (from_low low item)
  where
    past : at_least high (key_in item) ≡ false
    past = rw (turned_back (key_in item) high e) refl

    and_false : (b : Bool) → (b && false) ≡ false
    and_false true = refl
    and_false false = refl

-- no item from the end on is in the range
pub none_after : (low high : Option (List ℕ)) (items : List (List ℕ)) (n : ℕ) → IsEnd high (keys_of items) n → filter (in_range low high) (drop n items) ≡ []
none_after low None [] zero e = refl
none_after low None [] (suc n) e = refl
none_after low None (item ∷ items) zero e = absurd (omega (arith, e))
none_after low None (item ∷ items) (suc n) e = none_after low None items n (omega (arith, e))
none_after low (Some high) [] zero greater = refl
none_after low (Some high) [] (suc n) greater = refl
none_after low (Some high) (item ∷ items) zero greater =
    ap (λ (b : Bool). cond b (item ∷ filter (in_range low (Some high)) items) (filter (in_range low (Some high)) items)) (above_high low high item (greater 0 (omega arith) (omega arith)))
    ∙ none_after low (Some high) items zero (λ i h inside. greater (suc i) (omega arith) (omega (arith, inside)))
none_after low (Some high) (item ∷ items) (suc n) greater =
    none_after low (Some high) items n (λ i h inside. greater (suc i) (omega (arith, h)) (omega (arith, inside)))

-- an end may come later
pub later_end : (high : Option (List ℕ)) (keys : List (List ℕ)) (n m : ℕ) → IsEnd high keys n → n ≤ m → IsEnd high keys m
later_end None keys n m e h = omega (arith, e, h)
later_end (Some high) keys n m greater h = λ i later inside. greater i (omega (arith, h, later)) inside

-- what comes from the end on adds nothing
pub all_before : (low high : Option (List ℕ)) (items : List (List ℕ)) (n : ℕ) → IsEnd high (keys_of items) n
    → filter (in_range low high) (take n items) ≡ filter (in_range low high) items
all_before low high items n e =
    let test : List ℕ → Bool = in_range low high in
    sym (append-nil (filter test (take n items)))
    ∙ ap (λ (xs : List (List ℕ)). filter test (take n items) ++ xs) (sym (none_after low high items n e))
    ∙ sym (filter-append test (take n items) (drop n items))
    ∙ ap (filter test) (take-append-drop n items)

-- The items of a list that are in a range.
use Rattle.std.proofs.Common.{◌≡◌, ◌<◌, ℕ, zero, suc, Bool, true, false, List, [], ◌∷◌, Some, None, refl, sym, ap, ◌∙◌, arith, length, slice_index_or}
use Rattle.std.specs.Prelude.{filter, ◌&&◌}
use Rattle.std.specs.declared.cmp.Ordering.{Ordering}
use Rattle.std.specs.declared.cmp.Ordering.TheVariants.{Less, Greater, Equal}
use Rattle.std.proofs.lemmas.Cmp.{nat_list_cmp_total}
use Rattle.page_view.specs.Keys.{key_in, key_cmp, keys_of, Ascend}
use Rattle.bplus_tree.proofs.Order.{turned, turned_back, Sorted}
use Rattle.bplus_tree.specs.Found.{AllMore}
use Rattle.bplus_tree.specs.Tree.{NotBelow}
use Rattle.bplus_tree.specs.Walk.{in_range, from_low, to_high}
use Rattle.tree_timeline.specs.Found.{of_key, NotOver, InRange}
use Rattle.tree_timeline.specs.Types.{Key, Bound, Items}
use Rattle.tree_timeline.proofs.Order.{upto_not_less}

filter_more : (p : List ℕ → Bool) (k : Key) (xs : Items) → AllMore k xs → AllMore k (filter p xs)
filter_more p k [] a = tt
filter_more p k (x ∷ xs) a = go (filter_more p k xs a.1) (p x) refl
  where
    go : AllMore k (filter p xs) → (b : Bool) → p x ≡ b → AllMore k (filter p (x ∷ xs))
    go ih true e = rw e (a.0, ih)
    go ih false e = rw e ih

pub filter_sorted : (p : List ℕ → Bool) (xs : Items) → Sorted xs → Sorted (filter p xs)
filter_sorted p [] s = tt
filter_sorted p (x ∷ xs) s = go (filter_sorted p xs s.1) (p x) refl
  where
    go : Sorted (filter p xs) → (b : Bool) → p x ≡ b → Sorted (filter p (x ∷ xs))
    go ih true e = rw e (filter_more p (key_in x) xs s.0, ih)
    go ih false e = rw e ih

more_at : (k : Key) (xs : Items) (j : ℕ) → AllMore k xs → j < length (keys_of xs)
    → key_cmp k (slice_index_or (keys_of xs) j []) ≡ Less
more_at k [] j a h = absurd (omega (arith, h))
more_at k (x ∷ xs) zero a h = a.0
more_at k (x ∷ xs) (suc j) a h = more_at k xs j a.1 (omega (arith, h))

pub ascend_of : (xs : Items) → Sorted xs → Ascend (keys_of xs)
ascend_of [] s i j l h = absurd (omega (arith, h))
ascend_of (x ∷ xs) s zero zero l h = absurd (omega (arith, l))
ascend_of (x ∷ xs) s zero (suc j) l h = more_at (key_in x) xs j s.0 (omega (arith, h))
ascend_of (x ∷ xs) s (suc i) zero l h = absurd (omega (arith, l))
ascend_of (x ∷ xs) s (suc i) (suc j) l h =
    ascend_of xs s.1 i j (omega (arith, l)) (omega (arith, h))

-- items with one key are in a range together
pub same_key_in : (low high : Bound) (k x : Key) → InRange low high k → key_cmp (key_in x) k ≡ Equal
    → in_range low high x ≡ true
same_key_in low high k x r e =
    both (from_low low x) (to_high high x) (lows low r.0) (highs high r.1)
  where
    both : (a b : Bool) → a ≡ true → b ≡ true → (a && b) ≡ true
    both a b p q = rw (p, q) refl

    lows : (o : Bound) → NotBelow o k → from_low o x ≡ true
    lows None n = refl
    lows (Some l) n =
        upto_not_less (key_in x) l
        (λ g.
        n
        (turned k l (sym (nat_list_cmp_total.congr (key_in x) k l e) ∙ turned_back l (key_in x) g)))

    highs : (o : Bound) → NotOver o k → to_high o x ≡ true
    highs None n = refl
    highs (Some h) n =
        upto_not_less h (key_in x) (λ g. n (sym (nat_list_cmp_total.congr (key_in x) k h e) ∙ g))

pub of_range : (low high : Bound) (k : Key) (xs : Items) → InRange low high k
    → of_key k (filter (in_range low high) xs) ≡ of_key k xs
of_range low high k [] r = refl
of_range low high k (x ∷ xs) r =
    go (of_range low high k xs r) (key_cmp (key_in x) k) refl (in_range low high x) refl
  where
    go : of_key k (filter (in_range low high) xs) ≡ of_key k xs → (o : Ordering)
        → key_cmp (key_in x) k ≡ o → (b : Bool) → in_range low high x ≡ b
        → of_key k (filter (in_range low high) (x ∷ xs)) ≡ of_key k (x ∷ xs)
    go ih Less e true f = rw (f, e) ih
    go ih Less e false f = rw (f, e) ih
    go ih Greater e true f = rw (f, e) ih
    go ih Greater e false f = rw (f, e) ih
    go ih Equal e true f = rw (f, e) (ap (λ (y : Items). x ∷ y) ih)
    go ih Equal e false f =
        absurd (let h : true ≡ false = sym (same_key_in low high k x r e) ∙ f in cc)

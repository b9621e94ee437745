-- A row that takes its place among others.
use Rattle.std.proofs.Common.{◌≡◌, ℕ, Bool, true, false, Option, Some, None, List, [], ◌∷◌, ◌++◌, if◌then◌else◌, ◌⊎◌, inl, inr, refl, sym, subst, ap, ◌∙◌, filter, option_to_list}
use Rattle.std.specs.Str.{bytes_eq}
use Rattle.std.specs.Ordering.{is_lt, is_gt, is_eq, ordering_reverse}
use Rattle.std.specs.Cmp.{IsTotalOrder}
use Rattle.std.specs.declared.cmp.Ordering.{Ordering}
use Rattle.std.proofs.lemmas.Cmp.{nat_list_cmp_total}
use Rattle.std.proofs.lemmas.Map.Text.{is_eq-slice_cmp}
use Rattle.std.proofs.lemmas.Map.Lookups.{exact_bytes}
use Rattle.sql_values.specs.Order.{text_cmp}
use Rattle.history.specs.Databases.{under, AllAbove, Ascends}
use Rattle.sql_database.specs.Applied.{placed}
use Rattle.version_store.proofs.Places.{bytes_differ, bytes_same}
use Rattle.version_store.specs.Versions.{Row}

-- ---- the order of keys

pub three_ways : (o : Ordering) → (o ≡ Ordering.Less) ⊎ ((o ≡ Ordering.Equal) ⊎ (o ≡ Ordering.Greater))
three_ways Ordering.Less = inl refl
three_ways Ordering.Equal = inr (inl refl)
three_ways Ordering.Greater = inr (inr refl)

turned : (a b : List ℕ) → text_cmp a b ≡ ordering_reverse (text_cmp b a)
turned a b = IsTotalOrder.antisymm nat_list_cmp_total a b

less_trans : (a b c : List ℕ) → text_cmp a b ≡ Ordering.Less → text_cmp b c ≡ Ordering.Less
    → text_cmp a c ≡ Ordering.Less
less_trans a b c = IsTotalOrder.trans nat_list_cmp_total a b c

greater_of : (a b : List ℕ) → text_cmp b a ≡ Ordering.Less → text_cmp a b ≡ Ordering.Greater
greater_of a b e = turned a b ∙ ap ordering_reverse e

pub less_of : (a b : List ℕ) → text_cmp b a ≡ Ordering.Greater → text_cmp a b ≡ Ordering.Less
less_of a b e = turned a b ∙ ap ordering_reverse e

less_apart : (a b : List ℕ) → text_cmp a b ≡ Ordering.Less → bytes_eq a b ≡ false
less_apart a b e = sym (is_eq-slice_cmp a b) ∙ ap is_eq e

less_apart_back : (a b : List ℕ) → text_cmp a b ≡ Ordering.Less → bytes_eq b a ≡ false
less_apart_back a b e = sym (is_eq-slice_cmp b a) ∙ ap is_eq (greater_of b a e)

-- ---- a row that takes its place among others

module _ (key_of : Row → List ℕ) (key : List ℕ) (row : Option Row) where
  no_less : (xs : List Row) → AllAbove key_of key xs → filter (λ r. is_lt (text_cmp (key_of r) key)) xs ≡ []
  no_less [] a = refl
  no_less (x ∷ xs) a =
      ap (λ o. if is_lt o then x ∷ filter (λ r. is_lt (text_cmp (key_of r) key)) xs else filter
      (λ r. is_lt (text_cmp (key_of r) key)) xs) (greater_of (key_of x) key a.0) ∙ no_less xs a.1

  all_greater : (xs : List Row) → AllAbove key_of key xs → filter (λ r. is_gt (text_cmp (key_of r) key)) xs ≡ xs
  all_greater [] a = refl
  all_greater (x ∷ xs) a =
      ap (λ o. if is_gt o then x ∷ filter (λ r. is_gt (text_cmp (key_of r) key)) xs else filter
      (λ r. is_gt (text_cmp (key_of r) key)) xs) (greater_of (key_of x) key a.0)
      ∙ ap (λ ys. x ∷ ys) (all_greater xs a.1)

  placed_above : (xs : List Row) → AllAbove key_of key xs → placed key_of key row xs ≡ option_to_list row ++ xs
  placed_above xs a =
      ap (λ ys. ys ++ (option_to_list row ++ filter (λ r. is_gt (text_cmp (key_of r) key)) xs)) (no_less xs a)
      ∙ ap (λ ys. option_to_list row ++ ys) (all_greater xs a)

  placed_less : (x : Row) (xs : List Row) → text_cmp (key_of x) key ≡ Ordering.Less
      → placed key_of key row (x ∷ xs) ≡ x ∷ placed key_of key row xs
  placed_less x xs e =
      ap (λ o. (if is_lt o then x ∷ filter (λ r. is_lt (text_cmp (key_of r) key)) xs else filter
      (λ r. is_lt (text_cmp (key_of r) key)) xs)
      ++ (option_to_list row ++
      (if is_gt o then x ∷ filter (λ r. is_gt (text_cmp (key_of r) key)) xs else filter
      (λ r. is_gt (text_cmp (key_of r) key)) xs))) e

  placed_equal : (x : Row) (xs : List Row) → text_cmp (key_of x) key ≡ Ordering.Equal → AllAbove key_of key xs
      → placed key_of key row (x ∷ xs) ≡ option_to_list row ++ xs
  placed_equal x xs e a =
      ap (λ o. (if is_lt o then x ∷ filter (λ r. is_lt (text_cmp (key_of r) key)) xs else filter
      (λ r. is_lt (text_cmp (key_of r) key)) xs)
      ++ (option_to_list row ++
      (if is_gt o then x ∷ filter (λ r. is_gt (text_cmp (key_of r) key)) xs else filter
      (λ r. is_gt (text_cmp (key_of r) key)) xs))) e
      ∙ placed_above xs a

  above_filter : (p : Row → Bool) (b : List ℕ) (xs : List Row) → AllAbove key_of b xs
      → AllAbove key_of b (filter p xs)
  above_filter p b [] a = tt
  above_filter p b (x ∷ xs) a = by_test (above_filter p b xs a.1) (p x)
    where
      by_test : AllAbove key_of b (filter p xs) → (c : Bool)
          → AllAbove key_of b (if c then x ∷ filter p xs else filter p xs)
      by_test more true = (a.0, more)
      by_test more false = more

  above_append : (b : List ℕ) (xs ys : List Row) → AllAbove key_of b xs → AllAbove key_of b ys
      → AllAbove key_of b (xs ++ ys)
  above_append b [] ys p q = q
  above_append b (x ∷ xs) ys p q = (p.0, above_append b xs ys p.1 q)

  pub above_trans : (a b : List ℕ) (xs : List Row) → text_cmp a b ≡ Ordering.Less → AllAbove key_of b xs
      → AllAbove key_of a xs
  above_trans a b [] l p = tt
  above_trans a b (x ∷ xs) l p = (less_trans a b (key_of x) l p.0, above_trans a b xs l p.1)

  pub none_above : (xs : List Row) → AllAbove key_of key xs → under key_of key xs ≡ None
  none_above [] a = refl
  none_above (x ∷ xs) a = ap (λ b. if b then Some x else under key_of key xs) (less_apart_back key (key_of x) a.0)
      ∙ none_above xs a.1

  module _ (is_key : (r : Row) → row ≡ Some r → key_of r ≡ key) where
    above_row : (b : List ℕ) → text_cmp b key ≡ Ordering.Less → AllAbove key_of b (option_to_list row)
    above_row b l = by_row row is_key
      where
        by_row : (o : Option Row) → ((r : Row) → o ≡ Some r → key_of r ≡ key) → AllAbove key_of b (option_to_list o)
        by_row None f = tt
        by_row (Some r) f = (ap (text_cmp b) (f r refl) ∙ l, tt)

    above_placed : (b : List ℕ) (xs : List Row) → text_cmp b key ≡ Ordering.Less → AllAbove key_of b xs
        → AllAbove key_of b (placed key_of key row xs)
    above_placed b xs l a =
        above_append b (filter (λ r. is_lt (text_cmp (key_of r) key)) xs)
        (option_to_list row ++ filter (λ r. is_gt (text_cmp (key_of r) key)) xs)
        (above_filter (λ r. is_lt (text_cmp (key_of r) key)) b xs a)
        (above_append b (option_to_list row) (filter (λ r. is_gt (text_cmp (key_of r) key)) xs) (above_row b l)
        (above_filter (λ r. is_gt (text_cmp (key_of r) key)) b xs a))

    front_ascends : (xs : List Row) → AllAbove key_of key xs → Ascends key_of xs
        → Ascends key_of (option_to_list row ++ xs)
    front_ascends xs a s = by_row row is_key
      where
        by_row : (o : Option Row) → ((r : Row) → o ≡ Some r → key_of r ≡ key)
            → Ascends key_of (option_to_list o ++ xs)
        by_row None f = s
        by_row (Some r) f = (subst (λ k. AllAbove key_of k xs) (sym (f r refl)) a, s)

    front_under : (xs : List Row) (k : List ℕ) → AllAbove key_of key xs
        → under key_of k (option_to_list row ++ xs) ≡ (if bytes_eq key k then row else under key_of k xs)
    front_under xs k a = by_row row is_key
      where
        by_test : (b : Bool) → bytes_eq key k ≡ b → under key_of k xs ≡ (if b then None else under key_of k xs)
        by_test true e = subst (λ z. under key_of z xs ≡ None) (bytes_same key k e) (none_above xs a)
        by_test false e = refl

        by_row : (o : Option Row) → ((r : Row) → o ≡ Some r → key_of r ≡ key)
            → under key_of k (option_to_list o ++ xs) ≡ (if bytes_eq key k then o else under key_of k xs)
        by_row None f = by_test (bytes_eq key k) refl
        by_row (Some r) f = ap (λ z. if bytes_eq z k then Some r else under key_of k xs) (f r refl)

    pub placed_ascends : (xs : List Row) → Ascends key_of xs → Ascends key_of (placed key_of key row xs)
    placed_ascends [] s = subst (λ ys. Ascends key_of ys) (sym (placed_above [] tt)) (front_ascends [] tt tt)
    placed_ascends (x ∷ xs) s = by_order (placed_ascends xs s.1) (three_ways (text_cmp (key_of x) key))
      where
        by_order : Ascends key_of (placed key_of key row xs)
            → (text_cmp (key_of x) key ≡ Ordering.Less)
            ⊎ ((text_cmp (key_of x) key ≡ Ordering.Equal) ⊎ (text_cmp (key_of x) key ≡ Ordering.Greater))
            → Ascends key_of (placed key_of key row (x ∷ xs))
        by_order more (inl l) =
            subst (λ ys. Ascends key_of ys) (sym (placed_less x xs l)) (above_placed (key_of x) xs l s.0, more)
        by_order more (inr (inl e)) =
            let a : AllAbove key_of key xs = subst (λ k. AllAbove key_of k xs) (exact_bytes (key_of x) key e) s.0 in
            subst (λ ys. Ascends key_of ys) (sym (placed_equal x xs e a)) (front_ascends xs a s.1)
        by_order more (inr (inr g)) =
            let l : text_cmp key (key_of x) ≡ Ordering.Less = less_of key (key_of x) g in
            let a : AllAbove key_of key (x ∷ xs) = (l, above_trans key (key_of x) xs l s.0) in
            subst (λ ys. Ascends key_of ys) (sym (placed_above (x ∷ xs) a)) (front_ascends (x ∷ xs) a s)

    pub placed_under : (xs : List Row) (k : List ℕ) → Ascends key_of xs
        → under key_of k (placed key_of key row xs) ≡ (if bytes_eq key k then row else under key_of k xs)
    placed_under [] k s = ap (under key_of k) (placed_above [] tt) ∙ front_under [] k tt
    placed_under (x ∷ xs) k s = by_order (placed_under xs k s.1) (three_ways (text_cmp (key_of x) key))
      where
        swap : (b c : Bool) (o p q : Option Row) → (b ≡ true → c ≡ true → ⊥)
            → (if c then o else (if b then p else q)) ≡ (if b then p else (if c then o else q))
        swap true true o p q f = absurd (f refl refl)
        swap true false o p q f = refl
        swap false c o p q f = refl

        skip : (b c : Bool) (o p q : Option Row) → b ≡ c
            → (if c then o else q) ≡ (if c then o else (if b then p else q))
        skip b true o p q e = refl
        skip b false o p q e = ap (λ z. if z then p else q) (sym e)

        by_order : under key_of k (placed key_of key row xs) ≡ (if bytes_eq key k then row else under key_of k xs)
            → (text_cmp (key_of x) key ≡ Ordering.Less)
            ⊎ ((text_cmp (key_of x) key ≡ Ordering.Equal) ⊎ (text_cmp (key_of x) key ≡ Ordering.Greater))
            → under key_of k (placed key_of key row (x ∷ xs)) ≡
            (if bytes_eq key k then row else (if bytes_eq (key_of x) k then Some x else under key_of k xs))
        by_order more (inl l) = ap (under key_of k) (placed_less x xs l)
            ∙ ap (λ o. if bytes_eq (key_of x) k then Some x else o) more
            ∙ sym (swap (bytes_eq (key_of x) k) (bytes_eq key k) row (Some x) (under key_of k xs)
            (λ p q. bytes_differ (key_of x) key (less_apart (key_of x) key l)
            (bytes_same (key_of x) k p ∙ sym (bytes_same key k q))))
        by_order more (inr (inl e)) = let same : key_of x ≡ key = exact_bytes (key_of x) key e in
            let a : AllAbove key_of key xs = subst (λ k. AllAbove key_of k xs) same s.0 in
            ap (under key_of k) (placed_equal x xs e a) ∙ front_under xs k a
            ∙ skip (bytes_eq (key_of x) k) (bytes_eq key k) row (Some x) (under key_of k xs)
            (ap (λ z. bytes_eq z k) same)
        by_order more (inr (inr g)) =
            let l : text_cmp key (key_of x) ≡ Ordering.Less = less_of key (key_of x) g in
            let a : AllAbove key_of key (x ∷ xs) = (l, above_trans key (key_of x) xs l s.0) in
            ap (under key_of k) (placed_above (x ∷ xs) a) ∙ front_under (x ∷ xs) k a

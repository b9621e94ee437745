-- The order of keys, and items whose keys ascend.
use Rattle.std.proofs.Common.{◌≡◌, ◌≢◌, ◌<◌, ℕ, suc, List, [], ◌∷◌, ◌++◌, length, slice_index_or, ◌⊎◌, inl, inr, refl, sym, ◌∙◌, ap, arith}
use Rattle.std.specs.List.{AllByRecursion}
use Rattle.std.specs.declared.cmp.Ordering.{Ordering}
use Rattle.std.specs.declared.cmp.Ordering.TheVariants.{Less, Equal, Greater}
use Rattle.std.specs.Ordering.{ordering_reverse}
use Rattle.std.specs.Prelude.{⊤}
use Rattle.std.proofs.lemmas.Cmp.{nat_list_cmp_total}
use Rattle.page_view.specs.Keys.{key_in, keys_of, key_cmp, Ascend}
use Rattle.bplus_tree.specs.Found.{AllMore}

pub turned : (a b : List ℕ) → key_cmp a b ≡ Less → key_cmp b a ≡ Greater
turned a b e = nat_list_cmp_total.antisymm b a ∙ ap ordering_reverse e

pub turned_back : (a b : List ℕ) → key_cmp a b ≡ Greater → key_cmp b a ≡ Less
turned_back a b e = nat_list_cmp_total.antisymm b a ∙ ap ordering_reverse e

less_not_greater : Less ≡ Greater → ⊥
less_not_greater q = cc

equal_not_greater : Equal ≡ Greater → ⊥
equal_not_greater q = cc

pub less_less : (a b c : List ℕ) → key_cmp a b ≡ Less → key_cmp b c ≡ Less → key_cmp a c ≡ Less
less_less a b c p q = nat_list_cmp_total.trans a b c p q

pub less_upto : (a b c : List ℕ) → key_cmp a b ≡ Less → key_cmp b c ≢ Greater → key_cmp a c ≡ Less
less_upto a b c p q = go (key_cmp b c) refl
  where
    go : (o : Ordering) → key_cmp b c ≡ o → key_cmp a c ≡ Less
    go Less e = nat_list_cmp_total.trans a b c p e
    go Equal e =
        let same : key_cmp b a ≡ key_cmp c a = nat_list_cmp_total.congr b c a e in
        nat_list_cmp_total.antisymm a c ∙ (ap ordering_reverse (sym same) ∙ (sym (nat_list_cmp_total.antisymm a b) ∙ p))
    go Greater e = absurd (q e)

pub upto_less : (a b c : List ℕ) → key_cmp a b ≢ Greater → key_cmp b c ≡ Less → key_cmp a c ≡ Less
upto_less a b c p q = go (key_cmp a b) refl
  where
    go : (o : Ordering) → key_cmp a b ≡ o → key_cmp a c ≡ Less
    go Less e = nat_list_cmp_total.trans a b c e q
    go Equal e = nat_list_cmp_total.congr a b c e ∙ q
    go Greater e = absurd (p e)

pub not_greater : (a b : List ℕ) → key_cmp a b ≡ Less → key_cmp a b ≢ Greater
not_greater a b e g = less_not_greater (sym e ∙ g)

-- of two keys one is less, or the other at most it
pub less_or_not : (a b : List ℕ) → (key_cmp a b ≡ Less) ⊎ (key_cmp b a ≢ Greater)
less_or_not a b = go (key_cmp a b) refl
  where
    go : (o : Ordering) → key_cmp a b ≡ o → (key_cmp a b ≡ Less) ⊎ (key_cmp b a ≢ Greater)
    go Less e = inl e
    go Equal e = inr (λ g. equal_not_greater (sym (nat_list_cmp_total.antisymm b a ∙ ap ordering_reverse e) ∙ g))
    go Greater e = inr (λ g. less_not_greater (sym (turned_back a b e) ∙ g))

-- the empty key is the least
pub least_key : (key : List ℕ) → key_cmp [] key ≢ Greater
least_key [] g = equal_not_greater g
least_key (x ∷ xs) g = less_not_greater g

-- each item's key is less than all behind it
abbrev pub Sorted : List (List ℕ) → Type 0
Sorted [] = ⊤
Sorted (item ∷ items) = AllMore (key_in item) items × Sorted items

pub all_map : {X : Type 0} (P Q : X → Type 0) (xs : List X) → ((x : X) → P x → Q x) → AllByRecursion P xs → AllByRecursion Q xs
all_map P Q [] f a = tt
all_map P Q (x ∷ xs) f a = (f x a.0, all_map P Q xs f a.1)

pub all_join : {X : Type 0} (P : X → Type 0) (xs ys : List X) → AllByRecursion P xs → AllByRecursion P ys → AllByRecursion P (xs ++ ys)
all_join P [] ys a b = b
all_join P (x ∷ xs) ys a b = (a.0, all_join P xs ys a.1 b)

pub all_left : {X : Type 0} (P : X → Type 0) (xs ys : List X) → AllByRecursion P (xs ++ ys) → AllByRecursion P xs
all_left P [] ys a = tt
all_left P (x ∷ xs) ys a = (a.0, all_left P xs ys a.1)

pub all_right : {X : Type 0} (P : X → Type 0) (xs ys : List X) → AllByRecursion P (xs ++ ys) → AllByRecursion P ys
all_right P [] ys a = a
all_right P (x ∷ xs) ys a = all_right P xs ys a.1

-- items that ascend, and greater ones that ascend
pub sorted_join : (xs ys : List (List ℕ)) → Sorted xs → Sorted ys → AllByRecursion (λ x. AllMore (key_in x) ys) xs → Sorted (xs ++ ys)
sorted_join [] ys a b h = b
sorted_join (x ∷ xs) ys a b h = (all_join (λ item. key_cmp (key_in x) (key_in item) ≡ Less) xs ys a.0 h.0, sorted_join xs ys a.1 b h.1)

pub sorted_right : (xs ys : List (List ℕ)) → Sorted (xs ++ ys) → Sorted ys
sorted_right [] ys a = a
sorted_right (x ∷ xs) ys a = sorted_right xs ys a.1

-- keys that ascend by their places
pub sorted_from : (items : List (List ℕ)) → Ascend (keys_of items) → Sorted items
sorted_from [] asc = tt
sorted_from (x ∷ xs) asc = (more xs (λ i h. asc 0 (suc i) (omega arith) (omega (arith, h))), sorted_from xs (λ i j l h. asc (suc i) (suc j) (omega (arith, l)) (omega (arith, h))))
  where
    more : (ys : List (List ℕ)) → ((i : ℕ) → i < length (keys_of ys) → key_cmp (key_in x) (slice_index_or (keys_of ys) i []) ≡ Less) → AllMore (key_in x) ys
    more [] f = tt
    more (y ∷ ys) f = (f 0 (omega arith), more ys (λ i h. f (suc i) (omega (arith, h))))

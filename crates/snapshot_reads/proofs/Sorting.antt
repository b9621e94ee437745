-- Items that ascend, and those of them that pass a test.
use Rattle.std.proofs.Common.{◌≡◌, ℕ, Bool, true, false, List, [], ◌∷◌, filter, if◌then◌else◌, refl, ap, ◌∙◌}
use Rattle.std.specs.List.{AllByRecursion}
use Rattle.std.specs.Ordering.{is_eq}
use Rattle.std.proofs.lemmas.Map.Text.{is_eq-slice_cmp}
use Rattle.page_view.specs.Keys.{key_in, key_cmp}
use Rattle.bplus_tree.specs.Found.{AllMore}
use Rattle.bplus_tree.proofs.Order.{Sorted, turned}
use Rattle.tree_timeline.specs.Found.{of_key}
use Rattle.tree_timeline.specs.Types.{Items}
use Rattle.version_store.proofs.Places.{bytes_self}

pub filter_all : (p : List ℕ → Bool) (xs : Items) → AllByRecursion (λ x. p x ≡ true) (filter p xs)
filter_all p [] = tt
filter_all p (x ∷ xs) = go (p x) refl (filter_all p xs)
  where
    go : (b : Bool) → p x ≡ b → AllByRecursion (λ x. p x ≡ true) (filter p xs)
        → AllByRecursion (λ x. p x ≡ true) (filter p (x ∷ xs))
    go true e ih = rw e (e, ih)
    go false e ih = rw e ih

pub all_filter : (P : List ℕ → Type 0) (p : List ℕ → Bool) (xs : Items) → AllByRecursion P xs
    → AllByRecursion P (filter p xs)
all_filter P p [] a = tt
all_filter P p (x ∷ xs) a = go (p x) refl (all_filter P p xs a.1)
  where
    go : (b : Bool) → p x ≡ b → AllByRecursion P (filter p xs)
        → AllByRecursion P (filter p (x ∷ xs))
    go true e ih = rw e (a.0, ih)
    go false e ih = rw e ih

pub all_both : (P Q R : List ℕ → Type 0) (xs : Items) → ((x : List ℕ) → P x → Q x → R x)
    → AllByRecursion P xs → AllByRecursion Q xs → AllByRecursion R xs
all_both P Q R [] f a b = tt
all_both P Q R (x ∷ xs) f a b = (f x a.0 b.0, all_both P Q R xs f a.1 b.1)

-- in a list that ascends each item is the only one with its key
pub only_one : (xs : Items) → Sorted xs → AllByRecursion (λ x. of_key (key_in x) xs ≡ x ∷ []) xs
only_one [] s = tt
only_one (x ∷ xs) s = (first, rest xs s.0 (only_one xs s.1))
  where
    self : is_eq (key_cmp (key_in x) (key_in x)) ≡ true
    self = is_eq-slice_cmp (key_in x) (key_in x) ∙ bytes_self (key_in x)

    more : (ys : Items) → AllMore (key_in x) ys → of_key (key_in x) ys ≡ []
    more [] a = refl
    more (y ∷ ys) a = go (more ys a.1)
      where
        go : of_key (key_in x) ys ≡ [] → of_key (key_in x) (y ∷ ys) ≡ []
        go ih =
            ap (λ o. if is_eq o then y ∷ of_key (key_in x) ys else of_key (key_in x) ys)
            (turned (key_in x) (key_in y) a.0) ∙ ih

    first : of_key (key_in x) (x ∷ xs) ≡ x ∷ []
    first =
        ap (λ o. if o then x ∷ of_key (key_in x) xs else of_key (key_in x) xs) self
        ∙ ap (λ zs. x ∷ zs) (more xs s.0)

    rest : (ys : Items) → AllMore (key_in x) ys
        → AllByRecursion (λ y. of_key (key_in y) xs ≡ y ∷ []) ys
        → AllByRecursion (λ y. of_key (key_in y) (x ∷ xs) ≡ y ∷ []) ys
    rest [] a b = tt
    rest (y ∷ ys) a b = (
      ap (λ o. if is_eq o then x ∷ of_key (key_in y) xs else of_key (key_in y) xs) a.0 ∙ b.0,
      rest ys a.1 b.1,
    )

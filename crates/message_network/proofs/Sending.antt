-- For the proofs: the messages of a server after one more message was sent, and each that was sent among them.
use Rattle.std.proofs.Common.{◌≡◌, ℕ, zero, suc, Option, Some, None, List, [], ◌∷◌, ◌++◌, reverse, refl, sym, ◌∙◌, ap, subst, arith, Contains}
use Rattle.std.specs.List.{filter_map, cons_option, slice_get}
use Rattle.std.proofs.lemmas.List.{reverse-append}
use Rattle.std.proofs.lemmas.List.Elements.{filter_map-append, Contains-append_left, Contains-append_right}

module _ {X Y : Type 0} (f : X → Option Y) where
  pub newest : (xs : List X) (x : X) (y : Y) → f x ≡ Some y → reverse (filter_map f (xs ++ x ∷ [])) ≡ y ∷ reverse (filter_map f xs)
  newest xs x y is =
      ap reverse (filter_map-append f xs (x ∷ []))
      ∙ (reverse-append (filter_map f xs) (cons_option (f x) []) ∙ ap (λ (o : Option Y). reverse (cons_option o []) ++ reverse (filter_map f xs)) is)

  pub none_new : (xs : List X) (x : X) → f x ≡ None → reverse (filter_map f (xs ++ x ∷ [])) ≡ reverse (filter_map f xs)
  none_new xs x is =
      ap reverse (filter_map-append f xs (x ∷ []))
      ∙ (reverse-append (filter_map f xs) (cons_option (f x) []) ∙ ap (λ (o : Option Y). reverse (cons_option o []) ++ reverse (filter_map f xs)) is)

  last_in : (y : Y) (ys : List Y) → Contains (reverse (y ∷ ys)) y
  last_in y ys =
      subst (λ (l : List Y). Contains l y) (sym (reverse-append (y ∷ []) ys)) (Contains-append_right (reverse ys) (y ∷ []) y (0, omega arith, refl))

  still_in : (o : Option Y) (ys : List Y) (y : Y) → Contains (reverse ys) y → Contains (reverse (cons_option o ys)) y
  still_in None ys y h = h
  still_in (Some z) ys y h =
      subst (λ (l : List Y). Contains l y) (sym (reverse-append (z ∷ []) ys)) (Contains-append_left (reverse ys) (z ∷ []) y h)

  pub sent_in : (xs : List X) (i : ℕ) (x : X) (y : Y) → slice_get xs i ≡ Some x → f x ≡ Some y → Contains (reverse (filter_map f xs)) y
  sent_in [] zero x y at is = absurd cc
  sent_in [] (suc i) x y at is = absurd cc
  sent_in (w ∷ xs) zero x y at is =
      let same : w ≡ x = cc in
      let is_w : f w ≡ Some y = ap f same ∙ is in
      subst (λ (o : Option Y). Contains (reverse (cons_option o (filter_map f xs))) y) (sym is_w) (last_in y (filter_map f xs))
  sent_in (w ∷ xs) (suc i) x y at is = still_in (f w) (filter_map f xs) y (sent_in xs i x y at is)

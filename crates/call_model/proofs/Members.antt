-- For the proofs: what stands in a list with a new front.
use Rattle.std.proofs.Common.{◌≡◌, List, [], ◌∷◌, Contains, ◌⊎◌, inl, inr, refl, subst, arith}
use Rattle.std.proofs.lemmas.List.Elements.{Contains-append_right, Contains-append_cases, Contains-push_cases}

module _ {X : Type 0} where
  pub none_in-nil : (x : X) → Contains [] x → ⊥
  none_in-nil x c = omega (arith, c.1)

  pub at_front : (x : X) (xs : List X) → Contains (x ∷ xs) x
  at_front x xs = (0, omega arith, refl)

  pub behind_front : (x : X) (xs : List X) (y : X) → Contains xs y → Contains (x ∷ xs) y
  behind_front x xs y c = Contains-append_right (x ∷ []) xs y c

  only : (x y : X) → Contains (x ∷ []) y → x ≡ y
  only x y c = elim (Contains-push_cases [] x y c) [ inl d ↦ absurd (none_in-nil y d) | inr e ↦ e ]

  pub front_or_behind : (x : X) (xs : List X) (y : X) → Contains (x ∷ xs) y → (x ≡ y) ⊎ Contains xs y
  front_or_behind x xs y c = elim (Contains-append_cases (x ∷ []) xs y c) [ inl d ↦ inl (only x y d) | inr d ↦ inr d ]

  -- what holds of the front and of each element behind it holds of each
  pub each_of : (S : X → Type 0) (x : X) (xs : List X) → S x → ((y : X) → Contains xs y → S y) → (y : X) → Contains (x ∷ xs) y → S y
  each_of S x xs here there y c = elim (front_or_behind x xs y c) [ inl e ↦ subst S e here | inr d ↦ there y d ]

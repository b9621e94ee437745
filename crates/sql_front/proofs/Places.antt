-- The first place that passes a test.
use Rattle.std.proofs.Common.{◌≡◌, ℕ, suc, ◌+◌, ◌≤◌, Bool, true, false, cond, not, List, [], ◌∷◌, length, Option, Some, None, refl, sym, ◌∙◌, ltb, arith}
use Rattle.std.specs.List.{position_or_len}
use Rattle.std.proofs.lemmas.Bool.{ltb-false}

place_bound : {X : Type 0} (p : X → Bool) (xs : List X) → position_or_len p xs ≤ length xs
place_bound p [] = omega arith
place_bound p (x ∷ xs) = by_test (p x) (place_bound p xs) where
  by_test : (b : Bool) → position_or_len p xs ≤ length xs → cond (not b) (1 + position_or_len p xs) 0 ≤ suc (length xs)
  by_test true h = omega arith
  by_test false h = omega arith

pub place_some : {X : Type 0} (p : X → Bool) (xs : List X) (r : Option ℕ) (place : ℕ) → r ≡ cond (ltb (position_or_len p xs) (length xs)) (Some (position_or_len p xs)) None → r ≡ Some place → place ≡ position_or_len p xs
place_some p xs r place h e = by_test (ltb (position_or_len p xs) (length xs)) (sym h ∙ e) where
  by_test : (b : Bool) → cond b (Some (position_or_len p xs)) None ≡ Some place → place ≡ position_or_len p xs
  by_test true e = cc
  by_test false e = absurd cc

pub place_none : {X : Type 0} (p : X → Bool) (xs : List X) (r : Option ℕ) → r ≡ cond (ltb (position_or_len p xs) (length xs)) (Some (position_or_len p xs)) None → r ≡ None → length xs ≡ position_or_len p xs
place_none p xs r h e = by_test (ltb (position_or_len p xs) (length xs)) (ltb-false (position_or_len p xs) (length xs)) (sym h ∙ e) where
  by_test : (b : Bool) → (b ≡ false → length xs ≤ position_or_len p xs) → ◌≡◌ {A = Option ℕ} (cond b (Some (position_or_len p xs)) None) None → length xs ≡ position_or_len p xs
  by_test true f e = absurd cc
  by_test false f e = let g = f refl in omega (arith, place_bound p xs)

-- The test of a try of X, and its rule.
use Rattle.std.proofs.Common.{◌≡◌, ◌≢◌, ◌↔◌, ℕ, Bool, true, false, ◌&&◌, List, [], ◌∷◌, refl, ap, arith, nat_eq, not}
use Rattle.std.specs.List.{list_all}
use Rattle.home_model.specs.Latch.{MayExclude, Excludes}
use Rattle.page_latches.specs.Set.{has}
use Rattle.page_latches.specs.Holding.{latch_of, lets_exclude}
use Rattle.page_latches.specs.declared.latch.Holders.{Holders}
use Rattle.page_latches.specs.declared.latch.Holders.TheVariants.{Free, Shared, Exclusive}

alone : (ns : List ℕ) (n m : ℕ) → list_all (λ k. nat_eq k n) ns ≡ true → nat_eq m n ≡ false → has ns m ≡ false
alone [] n m all apart = refl
alone (k ∷ ns) n m all apart = let more = alone ns n m in grind (arith, more)

one_other : (ns : List ℕ) (n : ℕ) → ((m : ℕ) → m ≢ n → has ns m ≡ false) → list_all (λ k. nat_eq k n) ns ≡ true
one_other [] n none = refl
one_other (k ∷ ns) n none = by (nat_eq k n) refl (one_other ns n)
  where
    rest : (m : ℕ) → m ≢ n → has ns m ≡ false
    rest m apart = let h = none m apart in grind (arith, h)

    by : (b : Bool) → nat_eq k n ≡ b → (((m : ℕ) → m ≢ n → has ns m ≡ false) → list_all (λ j. nat_eq j n) ns ≡ true) → (nat_eq k n && list_all (λ j. nat_eq j n) ns) ≡ true
    by true t later = let more = later rest in grind (arith, more, t)
    by false t later = let apart : k ≢ n = grind (arith, t) in let h = none k apart in absurd (grind (arith, h))

pub exclude_rule : (h : Holders) (n : ℕ) → (lets_exclude h n ≡ true) ↔ MayExclude (latch_of h) n
exclude_rule Free n = (λ t. (λ m apart. refl, refl), λ h. refl)
exclude_rule (Shared ns) n = (λ t. (λ m apart. alone ns n m t (grind (arith, apart)), refl), λ h. one_other ns n h.0)
exclude_rule (Exclusive k) n = (λ t. (λ m apart. refl, ap not t), λ h. grind (arith, h.1))

pub always_apart : (h : Holders) → Excludes (latch_of h)
always_apart Free n m x s = absurd cc
always_apart (Shared ns) n m x s = absurd cc
always_apart (Exclusive k) n m x s = absurd cc

-- A count of turns that are left, beside a loop that counts up.
use Rattle.std.proofs.Common.{◌≡◌, ℕ, suc, ◌+◌, ◌-◌, ◌<◌, ◌≤◌, ap, arith}

-- one turn is left at least
pub turn_left : {X : Type 0} (f : ℕ → X) (n at : ℕ) → at < n → f (n - at) ≡ f (suc (n - (at + 1)))
turn_left f n at h = let e : n - at ≡ suc (n - (at + 1)) = omega arith in ap f e

-- none is left
pub no_turn : {X : Type 0} (f : ℕ → X) (n at : ℕ) → n ≤ at → f (n - at) ≡ f 0
no_turn f n at h = let e : n - at ≡ 0 = omega arith in ap f e

-- a bound that is not 0 has one less below it
pub one_less : {X : Type 0} (f : ℕ → X) (n : ℕ) → 0 < n → f n ≡ f (suc (n - 1))
one_less f n h = let e : n ≡ suc (n - 1) = omega arith in ap f e

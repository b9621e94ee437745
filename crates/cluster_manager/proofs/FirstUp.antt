-- The least node that is up.
use Rattle.std.proofs.Common.{◌≡◌, ◌≤◌, ◌<◌, ◌+◌, ℕ, Bool, true, false, Some, nat_eq, eqb-true, refl, sym, subst, arith}
use Rattle.cluster_manager.specs.Steps.{IsFirstUp}

-- no node from one number up to another is up
abbrev pub NoneUp : (ℕ → Bool) → ℕ → ℕ → Type 0
NoneUp up from i = (m : ℕ) → from ≤ m → m < i → up m ≡ false

pub one_past : (up : ℕ → Bool) (from i : ℕ) → NoneUp up from i → up i ≡ false → NoneUp up from (i + 1)
one_past up from i none here m above below = by (nat_eq m i) refl
  where
    by : (b : Bool) → nat_eq m i ≡ b → up m ≡ false
    by true t = subst (λ (k : ℕ). up k ≡ false) (sym (eqb-true m i t)) here
    by false t = none m above (let less : m < i = grind (arith, t, below) in less)

pub found_first : (up : ℕ → Bool) (from i : ℕ) → NoneUp up from i → from ≤ i → up i ≡ true → IsFirstUp up from (Some i)
found_first up from i none above here = (above, here, none)
